-- The old pieces, which are met after an edit.
use Rattle.std.specs.Prelude.{◌≡◌, ℕ, ◌+◌, ◌≤◌, ◌<◌, List, length, take, drop}
use Rattle.bajofeki_rules.specs.Stack.{Stack, start}
use Rattle.lalrpop_rules.specs.Modes.{ModeRules}
use Rattle.bajofeki.specs.Internal.Kept.{KeptUpTo}
use Rattle.bajofeki.specs.declared.kept.Kept.{Kept}
use Rattle.bajofeki.specs.declared.block.Block.{Block}
use Rattle.bajofeki.specs.declared.place.Place.{Place}
use Rattle.bajofeki.specs.declared.meet.Old.{Old}
use Rattle.bajofeki.specs.declared.meet.Edit.{Edit}
use Rattle.bajofeki.specs.declared.meet.Turn.{Turn}
use Rattle.bajofeki.specs.declared.meet.Turn.TheVariants.{Meet, CutOn, PassOn}
use Rattle.bajofeki.specs.Internal.Cutting.{moved_place}
use Rattle.bajofeki.specs.Internal.Blocks.{pieces_in, sizes, after_pieces, IsSpot}

-- the old place is the one among the pieces of the blocks
pub record IsOldPlace (r : ModeRules) (bs : List Block) (o : Old) : Type 0 where
  pub spot : IsSpot bs o.spot.block o.spot.piece o.spot.count
  pub at : o.place.at ≡ sizes (take o.spot.count (pieces_in bs))
  pub stack : o.place.stack ≡ after_pieces r (take o.spot.count (pieces_in bs)) start

-- where a place after what was replaced lies in the new text
abbrev pub new_place : Edit → ℕ → ℕ
new_place e at = moved_place e.from e.to e.size at

-- from each place after what was replaced on, the old pieces ks are those of this text too
pub record AreOld (r : ModeRules) (text : List ℕ) (e : Edit) (ks : List Kept) : Type 0 where
  pub within : e.to ≤ sizes ks
  pub ends : new_place e (sizes ks) ≡ length text
  pub behind : (n : ℕ) → e.to ≤ sizes (take n ks)
      → KeptUpTo r text (new_place e (sizes (take n ks))) (after_pieces r (take n ks) start) (drop n ks) (length text) (after_pieces r ks start)

-- both places lie after what was replaced and are the same one in the new text, with the same stack
pub record AreMet (e : Edit) (old cut : Place) : Type 0 where
  pub behind : e.to ≤ old.at
  pub at : new_place e old.at ≡ cut.at
  pub stack : old.stack ≡ cut.stack

-- what is to be done is right: they are met; or they aren't, and the old place lies after the one where the text is cut, which isn't at the end; or
-- the old place lies before what was replaced, or before that one, or the text is cut to its end
abbrev pub IsTurn : Edit → ℕ → Place → Place → Turn → Type 0
IsTurn e end old cut Meet = AreMet e old cut
IsTurn e end old cut CutOn = (cut.at < end) × (e.to ≤ old.at) × (cut.at ≤ new_place e old.at) × ¬ AreMet e old cut
IsTurn e end old cut PassOn = (e.to ≤ old.at → cut.at ≤ new_place e old.at → end ≤ cut.at) × ¬ AreMet e old cut

-- the first i of the old pieces ks and the first j of the pieces cs, which begin at this place and stack, end at one place after what was replaced, with the
-- same stack
pub record AreMetAfter (r : ModeRules) (e : Edit) (ks : List Kept) (at : ℕ) (s : Stack) (cs : List Kept) (i j : ℕ) : Type 0 where
  pub behind : e.to ≤ sizes (take i ks)
  pub same : new_place e (sizes (take i ks)) ≡ at + sizes (take j cs)
  pub stack : after_pieces r (take i ks) start ≡ after_pieces r (take j cs) s

-- of the old pieces from the first to this one, and the pieces that were cut, none are met but, it may be, the last. What lies between is where it
-- has to lie for that
pub record NoneMet (r : ModeRules) (e : Edit) (ks : List Kept) (first last : ℕ) (at : ℕ) (s : Stack) (cs : List Kept) : Type 0 where
  pub none : (i j : ℕ) → first ≤ i → i ≤ last → j ≤ length cs → AreMetAfter r e ks at s cs i j → (i ≡ last) × (j ≡ length cs)
  pub passed : (i : ℕ) → first ≤ i → i < last → e.to ≤ sizes (take i ks) → new_place e (sizes (take i ks)) < at + sizes cs
  pub cut : (j : ℕ) → j < length cs → (e.to ≤ sizes (take last ks)) × (at + sizes (take j cs) ≤ new_place e (sizes (take last ks)))
