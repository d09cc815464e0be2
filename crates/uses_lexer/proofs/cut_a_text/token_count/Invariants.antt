use Rattle.std.proofs.Common.{◌≡◌, ℕ, List, length, map, Bor}
use Rattle.std.specs.Prelude.{Ok}
use Rattle.std.specs.Iterator.{Yields}
use Rattle.lalrpop_lexer.specs.Cutting.{left_of, GivesItem}
use Rattle.uses_lexer.proofs.cut_a_text.token_count.Given as goal

-- all items so far are tokens
abbrev pub invariant-loop-item : goal.invariant-loop-item
invariant-loop-item l = (tokens : List (ℕ × Bor (List ℕ))) × (Yields GivesItem l.initial.items (map Ok tokens) l.items × (l.count ≡ length tokens))

abbrev pub decreases-loop-item : goal.decreases-loop-item
decreases-loop-item l = left_of l.items
