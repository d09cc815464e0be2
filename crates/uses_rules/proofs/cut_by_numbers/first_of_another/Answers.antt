use Rattle.std.proofs.Common.{◌≡◌, ℕ, List, subst}
use Rattle.std.specs.Prelude.{IfSome, Option, Some, None}
use Rattle.std.proofs.lemmas.Result.{IfOk-weaker}
use Rattle.lalrpop_emit.specs.ByteCut.{ByteCut, GivesBytePiece, place_of, stack_in}
use Rattle.lalrpop_emit.specs.BytePieces.{IsModePiece}
use Rattle.lalrpop_emit.specs.NumberedRules.{AreNumbersOf, NumberedRules}
use Rattle.lalrpop_emit.specs.declared.numbered_piece.NumberedPiece.{NumberedPiece}
use Rattle.lalrpop_rules.specs.Modes.{ModeRules}
use Rattle.bajofeki_rules.specs.Stack.{Stack, start}
use Rattle.uses_rules.proofs.cut_by_numbers.first_of_another.Goals as goal

-- what is given at the beginning of a text
given_first : (n : NumberedRules) (text : List ℕ) (c d : ByteCut) → place_of c ≡ 0 → stack_in c ≡ start → (first : Option NumberedPiece)
    → ((r : ModeRules) → AreNumbersOf r n → GivesBytePiece r n.kinds text c first d)
    → IfSome first (λ piece. (r : ModeRules) → AreNumbersOf r n → IsModePiece r n.kinds text 0 start piece)
given_first n text c d place stack None gives = tt
given_first n text c d place stack (Some piece) gives = λ r are.
    subst (λ (at : ℕ). IsModePiece r n.kinds text at start piece) place
    (subst (λ (s : Stack). IsModePiece r n.kinds text (place_of c) s piece) stack (gives r are).0)

pub returns : goal.returns
returns c = record {
  first = IfOk-weaker c.next_piece.result _ _
      (λ first gives. given_first c.args.numbers.now c.args.text.now c.restart.new.self c.next_piece.new.self c.restart.ensures.place c.restart.ensures.stack first gives) c.next_piece.ensures.gives;
}
