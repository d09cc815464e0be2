-- cases: proofs/Cases/Lookahead.antt
-- How far past a match a text is read until it is settled that no longer match comes.
use Rattle.std.specs.Prelude.{◌≡◌, ◌≢◌, ℕ, ◌≤◌, ◌⊎◌, List, [], ◌++◌, length, slice_get, Option, Some, None, IsSomeAnd}
use Rattle.lalrpop_hir.specs.Language.{Words}
use Rattle.lalrpop_dfa.specs.Dfa.{Row, run, after}
use Rattle.lalrpop_dfa.specs.declared.Kind.TheVariants.{Accepts, Reject, Neither}

-- ---- over a set of words

-- v is a nonempty word of L, and the n values x after it leave it open whether a longer one comes: none has come yet, and one still can
pub record LeavesOpen (L : Words) (n : ℕ) (v x : List ℕ) : Type 0 where
  pub some : v ≢ []
  pub word : L v
  pub long : length x ≡ n
  pub none : (u z : List ℕ) → x ≡ u ++ z → u ≢ [] → ¬ L (v ++ u)
  pub later : (z : List ℕ) × L ((v ++ x) ++ z)

-- some n values after a word of L leave it open
abbrev pub CanStayOpen : Words → ℕ → Type 0
CanStayOpen L n = (v x : List ℕ) × LeavesOpen L n v x

-- at most n values after a word of L leave it open
abbrev pub LooksAtMost : Words → ℕ → Type 0
LooksAtMost L n = (m : ℕ) → CanStayOpen L m → m ≤ n

-- n is the greatest number of values after a word of L that leave it open, or 0 if there are none; None if they are unbounded
abbrev pub IsLookahead : Words → Option ℕ → Type 0
IsLookahead L (Some n) = LooksAtMost L n × ((n ≡ 0) ⊎ CanStayOpen L n)
IsLookahead L None = (m : ℕ) → CanStayOpen L m

-- for every n, some n values after a word of L that is one of M leave it open
abbrev pub StaysOpenEver : Words → Words → Type 0
StaysOpenEver L M = (n : ℕ) → (v x : List ℕ) × (M v × LeavesOpen L n v x)

-- ---- the words of an automaton

-- the state accepts a tree
abbrev pub IsAccepting : List Row → ℕ → Type 0
IsAccepting d p = IsSomeAnd (slice_get d p) (λ r. (i : ℕ) × (r.kind ≡ Accepts i))

-- the automaton accepts the word
abbrev pub Accepted : List Row → Words
Accepted d w = IsAccepting d (after d w)

-- it accepts the word as one of the tree i
abbrev pub AcceptedAs : List Row → ℕ → Words
AcceptedAs d i w = IsSomeAnd (slice_get d (after d w)) (λ r. r.kind ≡ Accepts i)

-- ---- dead states

-- some word leads from the state to one that accepts
abbrev pub IsLive : List Row → ℕ → Type 0
IsLive d p = (z : List ℕ) × IsAccepting d (run d p z)

-- the state neither accepts a tree nor rejects
abbrev pub IsOpen : List Row → ℕ → Type 0
IsOpen d p = IsSomeAnd (slice_get d p) (λ r. r.kind ≡ Neither)

-- only reject states are dead
abbrev pub IsTrim : List Row → Type 0
IsTrim d = (p : ℕ) → IsOpen d p → IsLive d p

-- so a run reads at most n + 1 values past a match
abbrev pub ReadsAtMost : List Row → ℕ → Type 0
ReadsAtMost d n = IsTrim d × LooksAtMost (Accepted d) n

-- e is d, but each dead state rejects
pub record IsTrimmed (d e : List Row) : Type 0 where
  pub same_length : length e ≡ length d
  pub each : (p : ℕ) (r s : Row) → slice_get d p ≡ Some r → slice_get e p ≡ Some s
      → (IsLive d p × (s ≡ r)) ⊎ ((¬ IsLive d p) × (s ≡ record r { kind = Reject }))
