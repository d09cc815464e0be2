use Rattle.std.proofs.Common.{◌≡◌, subst}
use Rattle.std.specs.Prelude.{Option}
use Rattle.lalrpop_rules.specs.declared.piece.Piece.{Piece}
use Rattle.lalrpop_rules.specs.Internal.Cutting.{CutsNext, after_next}
use Rattle.lalrpop_rules.proofs.ModeRuns.{piece-given}
use Rattle.lalrpop_rules.proofs.pieces.Pieces.next_piece.Goals as goal

pub returns-in-Ok-Some-clause-gives : goal.returns-in-Ok-Some-clause-gives
returns-in-Ok-Some-clause-gives c =
    let i = c.self.inside in
    let e = c.in-Ok-Some.ensures in
    let some = c.in-Ok-Some.field-0-is in
    let old = i.cutter in
    let cuts = subst (λ (o : Option Piece). CutsNext i.cutter o c.cut_piece.new.cutter) some e.cuts in
    let acted = subst (λ (o : Option Piece). c.cut_piece.new.self ≡ after_next old.rules.actions o i.stack) some e.acted in
    rw (← c.self.view_is)
    (piece-given i.cutter c.cut_piece.new.cutter c.follow.new.self i.stack c.cut_piece.new.self c.in-Ok-Some.piece _ i.is_over c.self.invariant.on_top cuts c.follow.ensures.follows acted)
