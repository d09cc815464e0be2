use Rattle.lalrpop_rules.proofs.Results.{handed_on}
use Rattle.pieces_lib.proofs.GivingLaws.{GivesSome, all_flushed, part_flushed}
use Rattle.pieces_lib.proofs.pieces.give.Goals as goal

pub returns-in_err-flush-clause-part : goal.returns-in_err-flush-clause-part
returns-in_err-flush-clause-part g c =
    handed_on (GivesSome c.args.sheet.now.form c.args.sheet.now.lexer.now c.args.cutter.now c.args.sheet.now.waiting.items c.args.console.now c.flush.new.console)
    c.from_residual-in_err-flush.result c.in_err-flush.field-0.0 c.from_residual-in_err-flush.ensures.1
    (λ begun text xs is.
    part_flushed c.args.sheet.now.form c.args.sheet.now.lexer.now text c.args.cutter.now c.give_pieces.new.cutter c.give_pieces.new.sheet.waiting.items begun _ _ c.in_ok-ended.ended _
    (c.in_ok-ended.ensures.given begun text xs is) c.in_err-flush.ensures.part)

pub returns-clause-given : goal.returns-clause-given
returns-clause-given g c begun text xs is =
    all_flushed c.args.sheet.now.form c.args.sheet.now.lexer.now text c.args.cutter.now c.give_pieces.new.cutter c.give_pieces.new.sheet.waiting.items begun _ _ c.in_ok-ended.ended
    (c.in_ok-ended.ensures.given begun text xs is) c.in_ok-flush.ensures.all
