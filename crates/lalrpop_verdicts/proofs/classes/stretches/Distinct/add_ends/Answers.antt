use Rattle.std.proofs.Common.{◌≤◌, subst, arith}
use Rattle.std.specs.List.{Contains}
use Rattle.lalrpop_verdicts.proofs.StretchLaws.{bounded_next}
use Rattle.lalrpop_verdicts.proofs.classes.stretches.Distinct.add_ends.Goals as goal

pub returns-clause-bounded : goal.returns-clause-bounded
returns-clause-bounded c =
    let fits : c.end-end.result ≤ 4294967295 = omega arith in
    let start = subst (λ v. Contains c.add.new.self.values.items v) c.start.ensures.value c.in_ok-add.ensures.added in
    bounded_next c.add.new.self.values.items c.add-2.new.self.values.items c.args.range.now c.end-end.result start c.in_ok-add-2.ensures.more c.end-end.ensures.value c.in_ok-add-2.ensures.added fits
