-- cases: proofs/Cases/Matching.antt
-- Finding the longest matches of a text, one after another, and what that costs.
use Rattle.std.specs.Prelude.{ℕ, Bool, true, false, List, Option, Some, None, length, drop, count_by}
use Rattle.std.specs.Str.{chars}
use Rattle.lalrpop_dfa.specs.Dfa.{Row}
use Rattle.lalrpop_dfa.specs.declared.Kind.{Kind}
use Rattle.lalrpop_dfa.specs.declared.Kind.TheVariants.{Accepts, Reject, Neither}

-- a text in which an automaton finds matches: where its rest begins, in bytes, and how many characters may still be read besides those
-- that a call may read at any rate, which are those of the match and 64 more; without a memo, how many steps are prepaid
pub record Matching : Type 0 where
  pub automaton : List Row
  pub text : List ℕ
  pub at : ℕ
  pub spare : ℕ

-- the rest of the text
abbrev pub rest_of : Matching → List ℕ
rest_of s = drop s.at s.text

abbrev pub is_open_kind : Kind → Bool
is_open_kind (Accepts i) = false
is_open_kind Reject = false
is_open_kind Neither = true

-- how many states neither accept a pattern nor reject
abbrev pub open_states : List Row → ℕ
open_states d = count_by (λ r. is_open_kind r.kind) d

-- how many characters the match has, if there is one
abbrev pub characters_of : Option (List ℕ) → ℕ
characters_of None = 0
characters_of (Some m) = length (chars m)
