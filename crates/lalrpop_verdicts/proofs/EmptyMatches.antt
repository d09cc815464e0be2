-- Which trees match the empty word, by their shape.
use Rattle.std.proofs.Common.{◌≡◌, ℕ, zero, suc, ◌+◌, ◌<◌, ◌≤◌, ◌⊎◌, ◌↔◌, inl, inr, List, [], ◌∷◌, ◌++◌, length, get_or, drop, ◌≢◌, nat_eq, Bool, true, Option, Some, None, refl, sym, ap, ◌∙◌, subst, arith, add-one, drop-cons}
use Rattle.std.specs.Str.{chars, IsUtf8, encode_utf8_all}
use Rattle.std.proofs.lemmas.Bool.{eqb-true}
use Rattle.std.proofs.lemmas.Str.{encodes-chars, chars-nil}
use Rattle.lalrpop_hir.specs.Tree.{Tree, literal, repetition}
use Rattle.lalrpop_hir.specs.Language.{Words, Then, Power, IsCount, Matches, MatchInTurn}
use Rattle.lalrpop_hir.specs.Counts.{AreOrdered}
use Rattle.lalrpop_hir.specs.Parts.{trees}

-- two words that make the empty one are empty
first_empty : (u v : List ℕ) → [] ≡ u ++ v → u ≡ []
first_empty [] v e = refl
first_empty (c ∷ u) v e = cc

second_empty : (u v : List ℕ) → [] ≡ u ++ v → v ≡ []
second_empty [] v e = sym e
second_empty (c ∷ u) v e = cc

then_empty : (L M : Words) → Then L M [] → L [] × M []
then_empty L M (u, v, (e, a, b)) = (subst L (first_empty u v e) a, subst M (second_empty u v e) b)

powers_empty : (k : ℕ) (L : Words) → L [] → Power k L []
powers_empty zero L h = refl
powers_empty (suc k) L h = ([], [], (refl, h, powers_empty k L h))

power_empty : (k : ℕ) (L : Words) → Power k L [] → (k ≡ 0) ⊎ L []
power_empty zero L p = inl refl
power_empty (suc k) L p = inr (then_empty L (Power k L) p).0

-- a repetition: no turn, or turns of a part that matches the empty word
pub no_turn : (min : ℕ) (max : Option ℕ) (greedy : Bool) (t : Tree) → min ≡ 0 → Matches (repetition min max greedy t) []
no_turn min None greedy t e = (0, (omega (arith, e), refl))
no_turn min (Some max) greedy t e = (0, ((omega (arith, e), omega arith), refl))

pub empty_turns : (min : ℕ) (max : Option ℕ) (greedy : Bool) (t : Tree) → AreOrdered min max → Matches t [] → Matches (repetition min max greedy t) []
empty_turns min None greedy t ordered m = (min, (omega arith, powers_empty min (Matches t) m))
empty_turns min (Some max) greedy t ordered m = (min, ((omega arith, ordered), powers_empty min (Matches t) m))

at_least : (min : ℕ) (max : Option ℕ) (k : ℕ) → IsCount min max k → min ≤ k
at_least min None k c = c
at_least min (Some max) k c = c.0

pub turn_or_none : (min : ℕ) (max : Option ℕ) (greedy : Bool) (t : Tree) → Matches (repetition min max greedy t) [] → (min ≡ 0) ⊎ Matches t []
turn_or_none min max greedy t (k, (count, p)) =
    elim (power_empty k (Matches t) p) [ inl e ↦ inl (omega (arith, e, at_least min max k count)) | inr m ↦ inr m ]

-- a part that is tried only where some turn is needed
pub turns_decide : (tree part : Tree) (min : ℕ) (max : Option ℕ) (greedy b : Bool) → repetition min max greedy part ≡ tree → AreOrdered min max
    → min ≢ 0 → (b ≡ true) ↔ Matches part [] → (b ≡ true) ↔ Matches tree []
turns_decide tree part min max greedy b is ordered some decides =
    subst (λ t. (b ≡ true) ↔ Matches t []) is (
      λ e. empty_turns min max greedy part ordered (decides.0 e),
      λ m. elim (turn_or_none min max greedy part m) [ inl zero_turns ↦ absurd (some zero_turns) | inr n ↦ decides.1 n ],
    )

-- ---- lists of trees

-- the list from the tree t at the place i on
from_place : (ts : List Tree) (i : ℕ) (t : Tree) → i < length ts → t ≡ get_or ts i t → drop i ts ≡ t ∷ drop (i + 1) ts
from_place ts i t l is = drop-cons ts i t l ∙ ap (λ u. u ∷ drop (suc i) ts) (sym is) ∙ ap (λ k. t ∷ drop k ts) (sym (add-one i))

all_next : (ts : List Tree) (i : ℕ) (t : Tree) → i < length ts → t ≡ get_or ts i t
    → MatchInTurn (trees (drop i ts)) [] ↔ (Matches t [] × MatchInTurn (trees (drop (i + 1) ts)) [])
all_next ts i t l is =
    subst (λ us. MatchInTurn (trees us) [] ↔ (Matches t [] × MatchInTurn (trees (drop (i + 1) ts)) [])) (sym (from_place ts i t l is))
    (λ m. then_empty (Matches t) (MatchInTurn (trees (drop (i + 1) ts))) m, λ m. ([], [], (refl, m.0, m.1)))

-- where the tree at the place matches the empty word, all do just if those after it do; and where it doesn't, not all do
pub all_go_on : (ts : List Tree) (i : ℕ) (t : Tree) → i < length ts → t ≡ get_or ts i t → Matches t []
    → MatchInTurn (trees (drop i ts)) [] ↔ MatchInTurn (trees ts) [] → MatchInTurn (trees (drop (i + 1) ts)) [] ↔ MatchInTurn (trees ts) []
all_go_on ts i t l is m same = let next = all_next ts i t l is in (λ h. same.0 (next.1 (m, h)), λ h. (next.0 (same.1 h)).1)

pub all_stop : (ts : List Tree) (i : ℕ) (t : Tree) → i < length ts → t ≡ get_or ts i t → (¬ Matches t [])
    → MatchInTurn (trees (drop i ts)) [] ↔ MatchInTurn (trees ts) [] → ¬ MatchInTurn (trees ts) []
all_stop ts i t l is not same = λ h. not ((all_next ts i t l is).0 (same.1 h)).0

-- ---- literals

no_items : (xs : List ℕ) → length xs ≡ 0 → xs ≡ []
no_items [] e = refl
no_items (x ∷ xs) e = absurd (omega (arith, e))

-- a literal: just if its text is empty
pub literal_decides : (tree : Tree) (bs : List ℕ) (b : Bool) → literal (chars bs) ≡ tree → IsUtf8 bs → b ≡ nat_eq (length bs) 0
    → (b ≡ true) ↔ Matches tree []
literal_decides tree bs b is utf8 test = subst (λ t. (b ≡ true) ↔ Matches t []) is (there, back)
  where
    there : b ≡ true → [] ≡ chars bs
    there e = let bare : bs ≡ [] = no_items bs (eqb-true (length bs) 0 (sym test ∙ e)) in sym (ap chars bare ∙ chars-nil)

    back : [] ≡ chars bs → b ≡ true
    back e = let same = encodes-chars bs utf8 in let bare : bs ≡ [] = sym same ∙ ap encode_utf8_all (sym e) in test ∙ ap (λ xs. nat_eq (length xs) 0) bare
