-- What the calls of `next_piece` cost.
use Rattle.std.proofs.Common.{◌≡◌, ℕ, ◌+◌, ◌*◌, ◌≤◌, List, [], ◌∷◌, ap, arith}
use Rattle.std.specs.Iterator.{Yields}
use Rattle.lalrpop_rules.specs.declared.piece.Piece.{Piece}
use Rattle.lalrpop_rules.specs.Internal.CutToEnd.{Memo, steps_for}
use Rattle.lalrpop_rules.specs.Modes.{ModeRules}
use Rattle.lalrpop_rules.specs.ModeCut.{ModeCut, uncut, GivesModePiece}

all_counted : (s t : ModeCut) (xs : List Piece) → Yields GivesModePiece s xs t → t.steps + t.steps_left ≤ s.steps + s.steps_left
all_counted s t [] y = omega (arith, ap (λ (w : ModeCut). w.steps + w.steps_left) y)
all_counted s t (x ∷ xs) (j, g, y) = omega (arith, all_counted j t xs y, g.2.1)

-- what is left at first pays for all
pub mode_cost : (s : ModeCut) (r : ModeRules) (text : List ℕ) (m : Memo) (count most : ℕ) → s ≡ uncut r text (steps_for m)
    → m.unsought ≡ count → m.spare ≤ most → (xs : List Piece) (t : ModeCut) → Yields GivesModePiece s xs t → t.steps ≤ 65 * count + most
mode_cost s r text m count most e unsought spare xs t y =
    omega (arith, all_counted s t xs y, ap (λ (w : ModeCut). w.steps + w.steps_left) e, unsought, spare)
