-- Where pieces are cut anew from.
use Rattle.std.specs.Prelude.{◌≡◌, ℕ, ◌+◌, ◌<◌, List, length, take, slice_get, Some}
use Rattle.bajofeki_rules.specs.Stack.{start}
use Rattle.lalrpop_rules.specs.Modes.{ModeRules}
use Rattle.bajofeki.specs.Internal.Kept.{AreWithin, reach_of}
use Rattle.bajofeki.specs.declared.kept.Kept.{Kept}
use Rattle.bajofeki.specs.declared.block.Block.{Block}
use Rattle.bajofeki.specs.declared.meet.Spot.{Spot}
use Rattle.bajofeki.specs.declared.edit.Start.{Start}
use Rattle.bajofeki.specs.Internal.Blocks.{pieces_in, sizes, after_pieces, IsSpot}

-- the blocks in front of this one, which begins at the place, depend on nothing from `from` on; and it is there, if there is any
pub record IsFirst (bs : List Block) (from : ℕ) (p : Spot) (place : ℕ) : Type 0 where
  pub spot : IsSpot bs p.block p.piece p.count
  pub begins : p.piece ≡ 0
  pub there : 0 < length bs → p.block < length bs
  pub at : place ≡ sizes (pieces_in (take p.block bs))
  pub within : AreWithin from 0 (pieces_in (take p.block bs))

-- the start is the place in front of the first piece that depends on something from `from` on
pub record IsStart (r : ModeRules) (bs : List Block) (from : ℕ) (s : Start) : Type 0 where
  pub spot : IsSpot bs s.spot.block s.spot.piece s.spot.count
  pub begin_at : s.begin.at ≡ sizes (pieces_in (take s.spot.block bs))
  pub begin_stack : s.begin.stack ≡ after_pieces r (pieces_in (take s.spot.block bs)) start
  pub place_at : s.place.at ≡ sizes (take s.spot.count (pieces_in bs))
  pub place_stack : s.place.stack ≡ after_pieces r (take s.spot.count (pieces_in bs)) start
  pub within : AreWithin from 0 (take s.spot.count (pieces_in bs))
  pub first : (k : Kept) → slice_get (pieces_in bs) s.spot.count ≡ Some k → from < s.place.at + reach_of k
