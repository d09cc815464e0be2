-- No less is cut anew than has to be.
use Rattle.std.specs.Prelude.{◌≡◌, ℕ, ◌+◌, ◌<◌, ◌≤◌, List, take, slice_get, Some}
use Rattle.bajofeki_rules.specs.Stack.{start}
use Rattle.lalrpop_rules.specs.Modes.{ModeRules}
use Rattle.bajofeki.specs.Internal.Kept.{AreWithin, reach_of}
use Rattle.bajofeki.specs.declared.kept.Kept.{Kept}
use Rattle.bajofeki.specs.declared.change.Change.{Change}
use Rattle.bajofeki.specs.declared.meet.Edit.{Edit}
use Rattle.bajofeki.specs.Internal.Blocks.{sizes, after_pieces}
use Rattle.bajofeki.specs.Internal.Meeting.{new_place}

-- the first i of the old pieces ks and the first j of the new ones ls end at one place after what was replaced, with the same stack
pub record AreMetAt (r : ModeRules) (e : Edit) (ks ls : List Kept) (i j : ℕ) : Type 0 where
  pub behind : e.to ≤ sizes (take i ks)
  pub same : new_place e (sizes (take i ks)) ≡ sizes (take j ls)
  pub stack : after_pieces r (take i ks) start ≡ after_pieces r (take j ls) start

-- the pieces in front depend on nothing from `from` on, but the next one does; and the last place of the change is the first where old pieces are met
pub record IsLeastChange (r : ModeRules) (e : Edit) (ks ls : List Kept) (c : Change) : Type 0 where
  pub within : AreWithin e.from 0 (take c.first ks)
  pub first : (k : Kept) → slice_get ks c.first ≡ Some k → e.from < c.start + reach_of k
  pub none : (i j : ℕ) → c.first ≤ i → i ≤ c.first + c.removed → c.first ≤ j → j ≤ c.first + c.inserted → AreMetAt r e ks ls i j
      → (i ≡ c.first + c.removed) × (j ≡ c.first + c.inserted)
