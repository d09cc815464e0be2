-- What an edit changes of what is kept of the pieces.
use Rattle.std.specs.Prelude.{◌≡◌, ℕ, ◌+◌, ◌^◌, ◌<◌, ◌≤◌, List, length, take, drop}
use Rattle.bajofeki_rules.specs.Stack.{Stack, start}
use Rattle.lalrpop_rules.specs.Modes.{ModeRules}
use Rattle.bajofeki.specs.Internal.Kept.{KeptUpTo}
use Rattle.bajofeki.specs.declared.kept.Kept.{Kept}
use Rattle.bajofeki.specs.declared.block.Block.{Block}
use Rattle.bajofeki.specs.declared.change.Change.{Change}
use Rattle.bajofeki.specs.Internal.Cutting.{IsEdited}
use Rattle.bajofeki.specs.Internal.Blocks.{AreBlocks}
use Rattle.bajofeki.specs.Internal.BlockPlaces.{AreCounted}

-- the blocks are those of the text before, of which the bytes from `from` to `to` gave way to `size` others, and it is this text now; and say where they
-- end. No text takes 2^63 bytes
pub record IsOld (r : ModeRules) (bs : List Block) (text : List ℕ) (from to size : ℕ) (before : List ℕ) (t : Stack) : Type 0 where
  pub edited : IsEdited before text from to size
  pub fits : length before < 2 ^ 63
  pub fits_now : length text < 2 ^ 63
  pub blocks : AreBlocks r before 0 start bs (length before) t
  pub counted : AreCounted before bs

-- the pieces ks of the text before became the pieces ls of the text: the first ones stay, then some went and others came in their place, and
-- the rest stay; each place of the change is where the pieces in front of it end; and up to the first place, and after the others, the texts have the same bytes
pub record IsKeptChange (r : ModeRules) (before text : List ℕ) (ks ls : List Kept) (c : Change) : Type 0 where
  pub removed : c.first + c.removed ≤ length ks
  pub inserted : c.first + c.inserted ≤ length ls
  pub front : take c.first ls ≡ take c.first ks
  pub behind : drop (c.first + c.inserted) ls ≡ drop (c.first + c.removed) ks
  pub starts : (u : Stack) × KeptUpTo r before 0 start (take c.first ks) c.start u
  pub old_ends : (u : Stack) × KeptUpTo r before 0 start (take (c.first + c.removed) ks) c.old_end u
  pub new_ends : (u : Stack) × KeptUpTo r text 0 start (take (c.first + c.inserted) ls) c.new_end u
  pub same_front : take c.start before ≡ take c.start text
  pub same_behind : drop c.old_end before ≡ drop c.new_end text
