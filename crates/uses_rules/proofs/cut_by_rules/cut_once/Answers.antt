use Rattle.std.proofs.Common.{◌≡◌, [], ◌∷◌, ◌++◌, refl, append-nil}
use Rattle.lalrpop_rules.specs.Pieces.{slice_of}
use Rattle.lalrpop_rules.specs.ModeCut.{left_text}
use Rattle.uses_rules.proofs.cut_by_rules.cut_once.Goals as goal

pub returns-in-Ok-Some : goal.returns-in-Ok-Some
returns-in-Ok-Some c =
    let piece = c.in-Ok-Some.piece in
    let step = rw c.in-Ok-Some.field-0-is at c.in-Ok-Some.ensures.gives in
    let whole : c.args.text.now ≡ (slice_of piece ++ []) ++ left_text c.next_piece.new.self = c.in_ok-pieces.ensures.parts (piece ∷ []) _ (_, step, refl) in
    record { parts = cc (append-nil (slice_of piece)) }
