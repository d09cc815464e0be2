-- States that are marked, and those that wait for a match.
use Rattle.std.specs.Prelude.{◌≡◌, ◌≢◌, ℕ, ◌+◌, ◌<◌, ◌≤◌, ◌↔◌, List, [], ◌∷◌, length, slice_get, count_by, Some, IsSomeAnd, Bool, true}
use Rattle.lalrpop_dfa.specs.Dfa.{Row, step, run, after}
use Rattle.lalrpop_dfa.specs.Lookahead.{IsAccepting, IsLive, IsOpen}
use Rattle.lalrpop_dfa.specs.declared.Kind.TheVariants.{Accepts}

-- the state is marked
abbrev pub Marked : List Bool → ℕ → Type 0
Marked marks p = slice_get marks p ≡ Some true

-- some value leads from the state p to a marked state
abbrev pub LeadsInto : List Row → List Bool → ℕ → Type 0
LeadsInto d marks p = (c : ℕ) × Marked marks (step d p c)

-- some value leads from the state p to the state q
abbrev pub LeadsTo : List Row → ℕ → ℕ → Type 0
LeadsTo d p q = (c : ℕ) × (step d p c ≡ q)

-- from the state p on, each nonempty prefix of the word leads to an open state
abbrev pub StaysOpen : List Row → ℕ → List ℕ → Type 0
StaysOpen d p [] = Unit {0}
StaysOpen d p (c ∷ w) = IsOpen d (step d p c) × StaysOpen d (step d p c) w

-- ---- states with a property, and those from which some word leads to one
-- exactly the states with the property W are marked
pub record AreMarked (d : List Row) (W : ℕ → Type 0) (marks : List Bool) : Type 0 where
  pub same_length : length marks ≡ length d
  pub each : (p : ℕ) → p < length d → Marked marks p ↔ W p

-- some word leads from the state p to one with the property W
abbrev pub LeadsOnTo : List Row → (ℕ → Type 0) → ℕ → Type 0
LeadsOnTo d W p = (z : List ℕ) × W (run d p z)

-- the state accepts the tree i
abbrev pub IsAcceptingAs : List Row → ℕ → ℕ → Type 0
IsAcceptingAs d i p = IsSomeAnd (slice_get d p) (λ r. r.kind ≡ Accepts i)

-- ---- accepting states, live states, and states that a nonempty word reaches
pub record AreAccepting (d : List Row) (marks : List Bool) : Type 0 where
  pub same_length : length marks ≡ length d
  pub each : (p : ℕ) → p < length d → Marked marks p ↔ IsAccepting d p

pub record AreLive (d : List Row) (marks : List Bool) : Type 0 where
  pub same_length : length marks ≡ length d
  pub each : (p : ℕ) → p < length d → Marked marks p ↔ IsLive d p

-- a nonempty word leads from START to the state
abbrev pub IsReached : List Row → ℕ → Type 0
IsReached d p = (v : List ℕ) × ((v ≢ []) × (after d v ≡ p))

pub record AreReached (d : List Row) (marks : List Bool) : Type 0 where
  pub same_length : length marks ≡ length d
  pub each : (p : ℕ) → Marked marks p ↔ IsReached d p

-- ---- one pass over all states
-- each state is marked that was, or that led into a marked one; from each that is marked some word leads to one that was
pub record AreMarkedBack (d : List Row) (old new : List Bool) : Type 0 where
  pub same_length : length new ≡ length old
  pub kept : (p : ℕ) → Marked old p → Marked new p
  pub grown : (p : ℕ) → p < length d → LeadsInto d old p → Marked new p
  pub sound : (p : ℕ) → Marked new p → (w : List ℕ) × Marked old (run d p w)

-- each state is marked that was, or that a value led to from a marked one; to each that is marked some word leads from one that was
pub record AreMarkedOn (d : List Row) (old new : List Bool) : Type 0 where
  pub same_length : length new ≡ length old
  pub kept : (p : ℕ) → Marked old p → Marked new p
  pub grown : (p c : ℕ) → Marked old p → Marked new (step d p c)
  pub sound : (q : ℕ) → Marked new q → (p : ℕ) × (w : List ℕ) × (Marked old p × (run d p w ≡ q))

-- ---- states that wait
-- a state that accepts no tree, but from which some word leads to one that does
abbrev pub IsWaiting : List Row → ℕ → Type 0
IsWaiting d p = (p < length d) × (¬ IsAccepting d p) × IsLive d p

-- from the state p on, each nonempty prefix of the word leads to a waiting state
abbrev pub WaitsAlong : List Row → ℕ → List ℕ → Type 0
WaitsAlong d p [] = Unit {0}
WaitsAlong d p (c ∷ w) = IsWaiting d (step d p c) × WaitsAlong d (step d p c) w

-- the state waits, and some n more values leave it so
abbrev pub WaitsFor : List Row → ℕ → ℕ → Type 0
WaitsFor d n p = IsWaiting d p × ((w : List ℕ) × (WaitsAlong d p w × (length w ≡ n)))

-- exactly the states that can wait for n values are marked
pub record AreWaitingFor (d : List Row) (n : ℕ) (marks : List Bool) : Type 0 where
  pub same_length : length marks ≡ length d
  pub each : (p : ℕ) → p < length d → Marked marks p ↔ WaitsFor d n p

-- the marked states are those that can wait for n values, and also those that can for n + 1: so they can forever; n is no more than there are states
abbrev pub AreWaitingEver : List Row → List Bool → Type 0
AreWaitingEver d marks = (n : ℕ) × ((n ≤ length d) × (AreWaitingFor d n marks × AreWaitingFor d (n + 1) marks))

-- the marked states wait, and all that can wait for n values are marked; n is no more than there are states that aren't
pub record AreLeft (d : List Row) (n : ℕ) (marks : List Bool) : Type 0 where
  pub same_length : length marks ≡ length d
  pub waiting : (p : ℕ) → Marked marks p → IsWaiting d p
  pub left : (p : ℕ) → WaitsFor d n p → Marked marks p
  pub few : n + count_by (λ b. b) marks ≤ length d

-- each state that is still marked led into a marked one
pub record AreLeftOut (d : List Row) (old new : List Bool) : Type 0 where
  pub same_length : length new ≡ length old
  pub kept : (p : ℕ) → Marked new p → Marked old p
  pub leads : (p : ℕ) → Marked new p → LeadsInto d old p
  pub left : (n : ℕ) → AreLeft d n old → (m : ℕ) × AreLeft d m new

-- the state is among those reached, it accepts the tree i, and some value leads from it to a marked one
abbrev pub EntersBy : List Row → List Bool → List Bool → ℕ → ℕ → Type 0
EntersBy d reached marks i p = Marked reached p × (IsAcceptingAs d i p × LeadsInto d marks p)

-- some state does
abbrev pub IsEntered : List Row → List Bool → List Bool → Type 0
IsEntered d reached marks = (i p : ℕ) × EntersBy d reached marks i p
