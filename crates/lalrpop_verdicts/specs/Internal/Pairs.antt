-- The pairs of states that words of texts lead to in two automata, in the order of their least words.
use Rattle.std.specs.Prelude.{◌≡◌, ◌≢◌, ℕ, ◌<◌, ◌↔◌, ◌⊎◌, ◌++◌, List, [], ◌∷◌, length, map, slice_get, Option, Some, None, Bool, true, false, cond, ◌&&◌, ◌||◌, nat_lt, nat_le, nat_eq}
use Rattle.std.specs.List.{list_any}
use Rattle.std.proofs.Common.{suc}
use Rattle.lalrpop_hir.specs.Range.{Range}
use Rattle.lalrpop_hir.specs.Word.{Shortlex}
use Rattle.lalrpop_dfa.specs.Dfa.{Row, step, after, IsReject, IsWellFormed}
use Rattle.lalrpop_dfa.specs.declared.Kind.{Kind}
use Rattle.lalrpop_dfa.specs.declared.Kind.TheVariants.{Accepts, Reject, Neither}
use Rattle.lalrpop_dfa.specs.Witness.{IsLeast}
use Rattle.lalrpop_build.specs.Internal.BreadthFirst.{Automaton, IsBreadthFirst, nth}
use Rattle.lalrpop_verdicts.specs.Answers.{IsTextWord}
use Rattle.lalrpop_verdicts.specs.declared.pairs.Pair.{Pair}
use Rattle.lalrpop_verdicts.specs.declared.pairs.Follow.{Follow}
use Rattle.lalrpop_verdicts.specs.declared.pairs.Follow.TheVariants.{All, LeftAlive}

-- a state of the left automaton at which a walk ends
abbrev pub IsLeft : Follow → List Row → ℕ → Type 0
IsLeft All l p = ⊥
IsLeft LeftAlive l p = IsReject l p

-- no nonempty prefix of the word leads to such a state
abbrev pub IsFollowed : Follow → List Row → List ℕ → Type 0
IsFollowed follow l w = (u v : List ℕ) → w ≡ u ++ v → u ≢ [] → ¬ IsLeft follow l (after l u)

-- the word is a nonempty piece of text, is followed to its end, and leads to the pair of states
pub record LeadTo (follow : Follow) (l r : List Row) (p q : ℕ) (w : List ℕ) : Type 0 where
  pub text : IsTextWord w
  pub some : w ≢ []
  pub followed : IsFollowed follow l w
  pub left : after l w ≡ p
  pub right : after r w ≡ q

-- some pair has the states p and q
abbrev pub HasStates : List Pair → ℕ → ℕ → Type 0
HasStates pairs p q = (k : ℕ) × (x : Pair) × ((slice_get pairs k ≡ Some x) × (x.left ≡ p) × (x.right ≡ q))

-- the word is the word of the pair before, or the empty one, and one value more
abbrev pub IsOneMore : List (List ℕ) → ℕ → Option ℕ → ℕ → List ℕ → Type 0
IsOneMore words k None value w = w ≡ value ∷ []
IsOneMore words k (Some j) value w = (j < k) × ((v : List ℕ) → slice_get words j ≡ Some v → w ≡ v ++ value ∷ [])

-- the pairs are all those that some word leads to, each with the least such word, in the order of these words
pub record ArePairs (follow : Follow) (l r : List Row) (pairs : List Pair) : Type 0 where
  pub words : List (List ℕ)
  pub same_length : length words ≡ length pairs
  pub each : (k : ℕ) (p : Pair) (w : List ℕ) → slice_get pairs k ≡ Some p → slice_get words k ≡ Some w → IsLeast (LeadTo follow l r p.left p.right) w
  pub all : (p q : ℕ) (w : List ℕ) → LeadTo follow l r p q w → HasStates pairs p q
  pub ordered : (j k : ℕ) (v w : List ℕ) → j < k → slice_get words j ≡ Some v → slice_get words k ≡ Some w → Shortlex v w
  pub origins : (k : ℕ) (p : Pair) (w : List ℕ) → slice_get pairs k ≡ Some p → slice_get words k ≡ Some w → IsOneMore words k p.from p.value w

-- of the pairs before the place n none has the property
abbrev pub NoneBefore : (Pair → Type 0) → List Pair → ℕ → Type 0
NoneBefore Q pairs n = (k : ℕ) (x : Pair) → k < n → slice_get pairs k ≡ Some x → ¬ Q x

-- ---- how a walk finds them

-- where a walk stands: nothing is read yet; or at a pair of states; or nowhere, after a word that isn't followed
pub data Place : Type 0 where
  outset : Place
  at : ℕ → ℕ → Place
  lost : Place

abbrev pub is_lost : Place → Bool
is_lost outset = false
is_lost (at p q) = false
is_lost lost = true

abbrev pub left_at : Place → ℕ
left_at outset = 0
left_at (at p q) = p
left_at lost = 0

abbrev pub right_at : Place → ℕ
right_at outset = 0
right_at (at p q) = q
right_at lost = 0

abbrev pub rejects : Kind → Bool
rejects (Accepts i) = false
rejects Reject = true
rejects Neither = false

abbrev pub row_rejects : Option Row → Bool
row_rejects None = false
row_rejects (Some r) = rejects r.kind

-- whether a walk ends at the state of the left automaton
abbrev pub ends_at : Follow → List Row → ℕ → Bool
ends_at All l p = false
ends_at LeftAlive l p = row_rejects (slice_get l p)

-- whether the value is a character's
abbrev pub is_character : ℕ → Bool
is_character c = nat_lt c 0xD800 || (nat_le 0xE000 c && nat_lt c 0x110000)

-- where the value leads from the states p and q
abbrev pub lead : Follow → List Row → List Row → ℕ → ℕ → ℕ → Place
lead follow l r p q c = cond (is_character c) (cond (ends_at follow l (step l p c)) lost (at (step l p c) (step r q c))) lost

abbrev pub walk : Follow → List Row → List Row → Automaton Place
walk follow l r = record {
  start = outset;
  move = λ s c. cond (is_lost s) lost (lead follow l r (left_at s) (right_at s) c);
  dead = is_lost;
}

-- a walk's numbers: 0 for the outset, and one more than its number for each pair
abbrev pub number_of : Option ℕ → ℕ
number_of None = 0
number_of (Some k) = suc k

abbrev pub place_of : Pair → Place
place_of x = at x.left x.right

abbrev pub origin_of : Pair → ℕ × ℕ
origin_of x = (number_of x.from, x.value)

abbrev pub places : List Pair → List Place
places pairs = outset ∷ map place_of pairs

abbrev pub origins : List Pair → List (ℕ × ℕ)
origins pairs = (0, 0) ∷ map origin_of pairs

-- all values were taken from the numbers below n, and those below v from number n
abbrev pub IsTaken : Follow → List Row → List Row → List Pair → ℕ → ℕ → Type 0
IsTaken follow l r pairs n v = IsBreadthFirst (walk follow l r) (places pairs) (origins pairs) n v

-- the same, where number n is at the states p and q
pub record IsTurn (follow : Follow) (l r : List Row) (pairs : List Pair) (n p q v : ℕ) : Type 0 where
  pub taken : IsTaken follow l r pairs n v
  pub within : n < length (places pairs)
  pub alive : is_lost (nth (walk follow l r) (places pairs) n) ≡ false
  pub left : left_at (nth (walk follow l r) (places pairs) n) ≡ p
  pub right : right_at (nth (walk follow l r) (places pairs) n) ≡ q

-- these are the edges of the state p
pub record AreEdges (d : List Row) (p : ℕ) (tests : List (Range × ℕ)) (other : ℕ) : Type 0 where
  pub row : Row
  pub row_at : slice_get d p ≡ Some row
  pub same_tests : tests ≡ row.tests
  pub same_other : other ≡ row.other
  pub well_formed : IsWellFormed d
  pub within : p < length d

-- the keys are the states of the pairs
abbrev pub AreKnown : List (ℕ × ℕ) → List Pair → Type 0
AreKnown keys pairs = (p q : ℕ) → (list_any (λ k. nat_eq p k.0 && nat_eq q k.1) keys ≡ true) ↔ HasStates pairs p q

-- so are these states, if there are any
abbrev pub IsLatest : Option (ℕ × ℕ) → List Pair → Type 0
IsLatest None pairs = Unit {0}
IsLatest (Some s) pairs = HasStates pairs s.0 s.1

-- what is kept of the pairs that have been met: the states of all, and those that were looked for last
pub record AreMet (keys : List (ℕ × ℕ)) (latest : Option (ℕ × ℕ)) (pairs : List Pair) : Type 0 where
  pub known : AreKnown keys pairs
  pub one_of_them : IsLatest latest pairs

-- the pair is added last, unless there is one with its states
abbrev pub IsAdded : List Pair → Pair → List Pair → Type 0
IsAdded pairs x pairs2 = (HasStates pairs x.left x.right × (pairs2 ≡ pairs)) ⊎ ((¬ HasStates pairs x.left x.right) × (pairs2 ≡ pairs ++ x ∷ []))

-- n is the next character beyond the value
pub record IsNextCharacter (value n : ℕ) : Type 0 where
  pub beyond : value < n
  pub character : is_character n ≡ true
  pub none_between : (c : ℕ) → value < c → c < n → is_character c ≡ false

-- no character is beyond the value
abbrev pub IsLastCharacter : ℕ → Type 0
IsLastCharacter value = (c : ℕ) → value < c → is_character c ≡ false
