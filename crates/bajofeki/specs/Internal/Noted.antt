-- cases: proofs/Cases/Noted.antt
-- What runs note: from which places of a walk no match comes, and how much of the text settles that.
use Rattle.std.specs.Prelude.{◌≡◌, ℕ, ◌+◌, ◌<◌, ◌≤◌, ◌⊎◌, List, [], ◌∷◌, length, take, drop, Option, Some, None, slice_get}
use Rattle.std.specs.Ordering.{nat_cmp, ordering_then}
use Rattle.std.specs.declared.cmp.Ordering.{Ordering}
use Rattle.std.specs.BTreeMap as tree
use Rattle.std.specs.Char.{encode_utf8}
use Rattle.std.specs.Str.{chars, IsUtf8}
use Rattle.lalrpop_dfa.specs.Dfa.{Row}
use Rattle.lalrpop_dfa.specs.declared.Kind.TheVariants.{Accepts, Reject, Neither}
use Rattle.lalrpop_rules.specs.Modes.{ModeRules}
use Rattle.bajofeki.specs.declared.cutter.Cutter.{Cutter}
use Rattle.bajofeki.specs.declared.memo.Memo.{Memo}
use Rattle.bajofeki.specs.declared.walker.Walker.{Walker}
use Rattle.bajofeki.specs.Internal.Walking.{IsRight, IsWalkerOf, next_of, says, behind, HasOnePlace}

-- the order of a mode, a place of its walk and a place in the text
abbrev pub order_of : ℕ × (ℕ × ℕ) → ℕ × (ℕ × ℕ) → Ordering
order_of x y = ordering_then (nat_cmp x.0 y.0) (ordering_then (nat_cmp x.1.0 y.1.0) (nat_cmp x.1.1 y.1.1))

-- n bytes are noted for the mode and its place where the text goes on at the byte `at`
abbrev pub IsNoted : Memo → ℕ → ℕ → ℕ → ℕ → Type 0
IsNoted m mode place at n = tree.get order_of m.noted (mode, (place, at)) ≡ Some n

-- something is noted there
abbrev pub IsKnown : Memo → ℕ → ℕ → ℕ → Type 0
IsKnown m mode place at = (n : ℕ) × IsNoted m mode place at n

-- each character leads from the place to one that rejects
abbrev pub IsLast : Walker → ℕ → Type 0
IsLast w p = (c : ℕ) → c < 1114112 → says w (next_of w p c) ≡ Reject

-- some character does not
abbrev pub GoesOn : Walker → ℕ → Type 0
GoesOn w p = (c : ℕ) × ((c < 1114112) × ¬ (says w (next_of w p c) ≡ Reject))

-- from the place on no nonempty front of the characters leads to a match, and n bytes settle that: the walk rejects what they hold,
-- or whatever comes after them; or they are one more than there are, and more may match
abbrev pub IsOver : Walker → ℕ → List ℕ → ℕ → Type 0
IsOver w p [] n = ((n ≡ 0) × IsLast w p) ⊎ ((n ≡ 1) × GoesOn w p)
IsOver w p (c ∷ v) n =
    ((n ≡ 0) × IsLast w p)
    ⊎ (((n ≡ length (encode_utf8 c)) × (says w (next_of w p c) ≡ Reject))
    ⊎ ((says w (next_of w p c) ≡ Neither) × ((m : ℕ) × ((n ≡ length (encode_utf8 c) + m) × IsOver w (next_of w p c) v m))))

-- what is noted in this mode from the byte `at` on, where the text is what is left, is so
abbrev pub IsSound : Walker → Memo → ℕ → ℕ → List ℕ → Type 0
IsSound w m mode at text = (p i n : ℕ) → IsNoted m mode p (at + i) n → (i ≤ length text) × IsOver w p (chars (drop i text)) n

-- what matched last: nothing, where nothing was read; or else all that was read, by the pattern that the place accepts
abbrev pub MatchedLast : Walker → List ℕ → ℕ → Option (ℕ × List ℕ) → Type 0
MatchedLast w seen p None = length seen ≡ 0
MatchedLast w seen p (Some m) = (0 < length seen) × (m.1 ≡ seen) × (says w p ≡ Accepts m.0)

-- a run of the text stood there, after its first `end` bytes, when it last matched, or else where it began
pub record IsStand (w : Walker) (text : List ℕ) (end place : ℕ) (best : Option (ℕ × List ℕ)) : Type 0 where
  pub within : end ≤ length text
  pub seen : IsUtf8 (take end text)
  pub rest : IsUtf8 (drop end text)
  pub reached : place ≡ behind w (chars (take end text))
  pub last : MatchedLast w (take end text) place best

-- each mode has its walk, and what its runs noted is so, where the text is what is left from the byte `at` on
pub record IsCutter (r : ModeRules) (c : Cutter) (at : ℕ) (text : List ℕ) : Type 0 where
  pub count : length c.walkers.items ≡ r.modes
  pub right : (m : ℕ) (w : Walker) → slice_get c.walkers.items m ≡ Some w → IsRight w
  pub same : (m : ℕ) (w : Walker) (d : List Row) → slice_get c.walkers.items m ≡ Some w → slice_get r.automata m ≡ Some d → IsWalkerOf w d
  pub one : (m : ℕ) (w : Walker) (d : List Row) → slice_get c.walkers.items m ≡ Some w → slice_get r.automata m ≡ Some d → HasOnePlace w d
  pub sound : (m : ℕ) (w : Walker) → slice_get c.walkers.items m ≡ Some w → IsSound w c.memo m at text
