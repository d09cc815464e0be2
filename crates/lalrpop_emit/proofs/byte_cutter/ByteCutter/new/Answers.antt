use Rattle.std.proofs.Common.{[], arith}
use Rattle.lalrpop_emit.proofs.CutBegins.{cut_begins}
use Rattle.lalrpop_emit.proofs.byte_cutter.ByteCutter.new.Goals as goal

pub restart-requires : goal.restart-requires
restart-requires c =
    let below = c.in_ok-vec.field-0 in
    let cut = cut_begins _ c.args.numbers.now [] below.items c.new-2.result.items 0 c.new.result c.numbers.view_is c.numbers.invariant.1 (omega (arith, below.ok, c.in_ok-vec.ensures.len)) c.new.ensures.room c.new.ensures.none
    c.new.ensures.begins c.new-2.ensures.items in
    record { cut = (c.args.numbers.now, ([], cut)) }
