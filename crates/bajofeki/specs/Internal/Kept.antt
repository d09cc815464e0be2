-- cases: proofs/Cases/Kept.antt
-- What is kept of the pieces of a text: neither slices nor places.
use Rattle.std.specs.Prelude.{◌≡◌, ℕ, ◌+◌, ◌<◌, ◌≤◌, ◌==◌, if◌then◌else◌, List, [], ◌∷◌, ◌++◌, length, take, drop, Option, Some, None}
use Rattle.std.specs.Str.{chars, IsCharBoundary, IsUtf8}
use Rattle.lalrpop_hir.specs.Tree.{Tree}
use Rattle.lalrpop_hir.specs.Winners.{IsOnlyStrongest, Matched}
use Rattle.lalrpop_hir.specs.Longest.{IsLongest}
use Rattle.lalrpop_rules.specs.Pieces.{IsFault}
use Rattle.bajofeki_rules.specs.declared.action.Action.{Action}
use Rattle.bajofeki_rules.specs.Stack.{Stack, act_all, actions_of}
use Rattle.lalrpop_rules.specs.Modes.{ModeRules, trees_in}
use Rattle.bajofeki.specs.Internal.Reach.{AreAlike}
use Rattle.bajofeki.specs.declared.kept.Kept.{Kept}

-- the index of its rule; none in a fault
abbrev pub rule_of : Kept → Option ℕ
rule_of k = if k.rule == 4294967295 then None else Some k.rule

-- how many bytes from its beginning on it depends on at most; more than there are if it depends on where the text ends
abbrev pub reach_of : Kept → ℕ
reach_of k = k.size + k.past

-- the slice is the piece at the front of the text: the longest match, by its one strongest tree; or a fault
abbrev pub IsFront : List Tree → List ℕ → List ℕ → Option ℕ → List ℕ → Type 0
IsFront ts ps text (Some i) slice = IsLongest ts ps text (Some (i, slice)) × IsOnlyStrongest ts ps (chars slice) i
IsFront ts ps text None slice = IsFault ts text slice

-- all that was seen begins a word that some tree matches: from where the token begins on; or from a place in the fault, of this size, or right after it
abbrev pub ReadsOn : List Tree → List ℕ → Option ℕ → ℕ → Type 0
ReadsOn ts seen (Some i) size = (v : List ℕ) × Matched ts (chars seen ++ v)
ReadsOn ts seen None size = (k : ℕ) × ((k ≤ size) × IsCharBoundary seen k × ((v : List ℕ) × Matched ts (chars (drop k seen) ++ v)))

-- a piece of this rule and size depends on no more bytes of the text than it has to: so does all that was seen after it, before the last character
abbrev pub IsReadFor : List Tree → List ℕ → Option ℕ → ℕ → ℕ → Type 0
IsReadFor ts text rule size reach = (n : ℕ) → size < n → n < reach → n ≤ length text → IsUtf8 (take n text) → ReadsOn ts (take n text) rule size

-- each text that is alike as far as the piece depends on it has a piece of this rule and size at its front, in this mode; and it depends on no more than it has to
pub record IsKept (r : ModeRules) (mode : ℕ) (text : List ℕ) (k : Kept) : Type 0 where
  pub front : (other : List ℕ) → AreAlike (reach_of k) text other
      → (slice : List ℕ) × ((length slice ≡ k.size) × IsFront (trees_in r mode) r.precedences other (rule_of k) slice)
  pub reads : IsReadFor (trees_in r mode) text (rule_of k) k.size (reach_of k)

-- the stack after a token of the rule; a fault leaves it as it is
abbrev pub after_rule : List (List Action) → Option ℕ → Stack → Stack
after_rule actions None s = s
after_rule actions (Some i) s = act_all (actions_of actions i) s

-- the stack after the piece
abbrev pub after_kept : ModeRules → Kept → Stack → Stack
after_kept r k s = after_rule r.actions (rule_of k) s

-- one piece of the text after another, from one place and stack up to another
abbrev pub KeptUpTo : ModeRules → List ℕ → ℕ → Stack → List Kept → ℕ → Stack → Type 0
KeptUpTo r text at s [] to t = (at ≡ to) × (s ≡ t)
KeptUpTo r text at s (k ∷ ks) to t = IsKept r s.mode (drop at text) k × KeptUpTo r text (at + k.size) (after_kept r k s) ks to t

-- none of them, from this place on, depends on more than the first `reach` bytes of the text
abbrev pub AreWithin : ℕ → ℕ → List Kept → Type 0
AreWithin reach at [] = Unit {0}
AreWithin reach at (k ∷ ks) = (at + reach_of k ≤ reach) × AreWithin reach (at + k.size) ks
