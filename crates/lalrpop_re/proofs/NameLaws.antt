-- The names of lists of trees, and names that differ.
use Rattle.std.proofs.Common.{◌≡◌, ℕ, zero, suc, Bor, map, drop, cond, arith, nat_cmp, Some, option_map, slice_get, ◌+◌, ◌<◌, Bool, true, false, not, ◌&&◌, ◌||◌, List, [], ◌∷◌, ◌++◌, length, take, get_or, refl, sym, ap, ◌∙◌, inl, inr, append_assoc, bytes_eq}
use Rattle.std.specs.List.{list_any}
use Rattle.std.proofs.lemmas.List.{append-nil, take_more, map_more, map-append, take-map}
use Rattle.std.proofs.lemmas.Option.{slice_get-map, slice_get-get_or}
use Rattle.std.proofs.lemmas.Map.Views.{Contains-from_any}
use Rattle.std.specs.Ordering.{is_eq}
use Rattle.std.specs.Cmp.Lexicographic.{slice_cmp}
use Rattle.std.proofs.lemmas.Map.Text.{is_eq-slice_cmp}
use Rattle.std.proofs.lemmas.Bool.{and_parts}
use Rattle.std.proofs.lemmas.Bool.Decides.{same_from_decides}
use Rattle.std.proofs.lemmas.List.Folds.{list_any-append}
use Rattle.std.proofs.lemmas.Slice.Eq.{bytes_eq-Decides}
use Rattle.lalrpop_hir.specs.Tree.{Tree}
use Rattle.lalrpop_hir.specs.Parts.{trees}
use Rattle.lalrpop_re.specs.GroupName.{names, all_names, are_distinct, IsFirstRepeated}
use Rattle.lalrpop_re.proofs.Steps.{or_cases, or_parts}

all_names-append : (ts us : List Tree) → all_names (trees (ts ++ us)) ≡ all_names (trees ts) ++ all_names (trees us)
unfolding all_names
all_names-append [] us = refl
all_names-append (t ∷ ts) us = ap (λ ns. names t ++ ns) (all_names-append ts us) ∙ sym (append_assoc (names t) (all_names (trees ts)) (all_names (trees us)))

all_names-one : (t : Tree) → all_names (trees (t ∷ [])) ≡ names t
unfolding all_names
all_names-one t = append-nil (names t)

pub all_names-take : (ts : List Tree) (i : ℕ) (t : Tree) → i < length ts → all_names (trees (take (i + 1) ts)) ≡ all_names (trees (take i ts)) ++ names (get_or ts i t)
all_names-take ts i t h = ap (λ us. all_names (trees us)) (take_more ts i t h) ∙ all_names-append (take i ts) (get_or ts i t ∷ []) ∙ ap (λ ns. all_names (trees (take i ts)) ++ ns) (all_names-one (get_or ts i t))

-- ---- names that differ

bytes_eq-sym : (a b : List ℕ) → bytes_eq a b ≡ bytes_eq b a
bytes_eq-sym a b = same_from_decides (bytes_eq a b) (bytes_eq b a) (let d = bytes_eq-Decides a b in let e = bytes_eq-Decides b a in (λ h. sym (d.0 h), λ h. d.1 (sym h))) (bytes_eq-Decides b a)

same_later : (ns : List (List ℕ)) (n m : List ℕ) (later : List (List ℕ)) → list_any (bytes_eq n) (ns ++ m ∷ later) ≡ (list_any (bytes_eq n) ns || (bytes_eq n m || list_any (bytes_eq n) later))
same_later ns n m later = list_any-append (bytes_eq n) ns (m ∷ later)

-- a name that is met again
pub met_again : (ns : List (List ℕ)) (m : List ℕ) (later : List (List ℕ)) → list_any (bytes_eq m) ns ≡ true → are_distinct (ns ++ m ∷ later) ≡ false
met_again [] m later h = absurd cc
met_again (n ∷ ns) m later h = elim (or_cases (bytes_eq m n) (list_any (bytes_eq m) ns) h) [
  | inl e ↦
      let again : bytes_eq n m ≡ true = bytes_eq-sym n m ∙ e in
      rw (same_later ns n m later, again) (not_any (list_any (bytes_eq n) ns) (list_any (bytes_eq n) later) (are_distinct (ns ++ m ∷ later)))
  | inr e ↦ ap (λ b. not (list_any (bytes_eq n) (ns ++ m ∷ later)) && b) (met_again ns m later e) ∙ and_none (not (list_any (bytes_eq n) (ns ++ m ∷ later)))
]
  where
    not_any : (a b d : Bool) → (not (a || (true || b)) && d) ≡ false
    not_any true b d = refl
    not_any false b d = refl

    and_none : (a : Bool) → (a && false) ≡ false
    and_none true = refl
    and_none false = refl

-- one name more
pub still_distinct : (ns : List (List ℕ)) (m : List ℕ) → are_distinct ns ≡ true → list_any (bytes_eq m) ns ≡ false → are_distinct (ns ++ m ∷ []) ≡ true
still_distinct [] m h k = refl
still_distinct (n ∷ ns) m h k =
    let both = and_parts (not (list_any (bytes_eq n) ns)) _ h in
    let parts = or_parts (bytes_eq m n) _ k in
    let other : bytes_eq n m ≡ false = bytes_eq-sym n m ∙ parts.0 in
    let first : list_any (bytes_eq n) ns ≡ false = not_true_is (list_any (bytes_eq n) ns) both.0 in
    rw (same_later ns n m [], first, other) (still_distinct ns m both.1 parts.1)
  where
    not_true_is : (b : Bool) → not b ≡ true → b ≡ false
    not_true_is true e = absurd cc
    not_true_is false e = refl

split_at : {A : Type 0} (xs : List A) (i : ℕ) (d : A) → i < length xs → take i xs ++ get_or xs i d ∷ drop (suc i) xs ≡ xs
split_at [] i d h = absurd (omega arith)
split_at (x ∷ xs) zero d h = refl
split_at (x ∷ xs) (suc i) d h = ap (λ ys. x ∷ ys) (split_at xs i d (omega arith))

-- the name at i is one of those before it
pub repeated_at : (xs : List (Bor (List ℕ))) (i : ℕ) (d : Bor (List ℕ)) → i < length xs → list_any (bytes_eq (get_or xs i d).now) (map (λ n. n.now) (take i xs)) ≡ true → are_distinct (map (λ n. n.now) xs) ≡ false
repeated_at xs i d h k =
    ap (λ (ys : List (Bor (List ℕ))). are_distinct (map (λ n. n.now) ys)) (sym (split_at xs i d h))
    ∙ ap are_distinct (map-append (λ (n : Bor (List ℕ)). n.now) (take i xs) (get_or xs i d ∷ drop (suc i) xs))
    ∙ met_again (map (λ n. n.now) (take i xs)) (get_or xs i d).now (map (λ n. n.now) (drop (suc i) xs)) k

-- at the first name that repeats one
pub first_at : (xs : List (Bor (List ℕ))) (i : ℕ) (d : Bor (List ℕ)) → i < length xs → are_distinct (map (λ n. n.now) (take i xs)) ≡ true → list_any (bytes_eq (get_or xs i d).now) (map (λ n. n.now) (take i xs)) ≡ true
    → IsFirstRepeated (map (λ n. n.now) xs) i
first_at xs i d h k e =
    let same = take-map (λ (n : Bor (List ℕ)). n.now) i xs in
    let here : slice_get (map (λ n. n.now) xs) i ≡ Some (get_or xs i d).now = slice_get-map (λ (n : Bor (List ℕ)). n.now) xs i ∙ ap (option_map (λ (n : Bor (List ℕ)). n.now)) (slice_get-get_or xs i d h) in
    record {
      distinct = ap are_distinct same ∙ k;
      repeats = rw (here, same) (Contains-from_any (λ a b. (bytes_eq-Decides a b).0) (get_or xs i d).now (map (λ n. n.now) (take i xs)) e);
    }

pub distinct_more : (xs : List (Bor (List ℕ))) (i : ℕ) (d : Bor (List ℕ)) → i < length xs → are_distinct (map (λ n. n.now) (take i xs)) ≡ true → list_any (bytes_eq (get_or xs i d).now) (map (λ n. n.now) (take i xs)) ≡ false
    → are_distinct (map (λ n. n.now) (take (i + 1) xs)) ≡ true
distinct_more xs i d h k e = ap are_distinct (map_more (λ (n : Bor (List ℕ)). n.now) xs i d h) ∙ still_distinct (map (λ n. n.now) (take i xs)) (get_or xs i d).now k e

-- a set of the names so far, with one more
pub seen_more : (xs : List (Bor (List ℕ))) (i : ℕ) (d : Bor (List ℕ)) (q : List ℕ) (before after : Bool) → i < length xs → after ≡ cond (is_eq (slice_cmp nat_cmp (get_or xs i d).now q)) true before
    → before ≡ list_any (bytes_eq q) (map (λ n. n.now) (take i xs)) → after ≡ list_any (bytes_eq q) (map (λ n. n.now) (take (i + 1) xs))
seen_more xs i d q before after h a b =
    let x = (get_or xs i d).now in
    let ns = map (λ (n : Bor (List ℕ)). n.now) (take i xs) in
    a ∙ ap (λ e. cond e true before) (is_eq-slice_cmp x q ∙ bytes_eq-sym x q) ∙ ap (cond (bytes_eq q x) true) b ∙ either (bytes_eq q x) (list_any (bytes_eq q) ns)
    ∙ sym (list_any-append (bytes_eq q) ns (x ∷ [])) ∙ ap (list_any (bytes_eq q)) (sym (map_more (λ (n : Bor (List ℕ)). n.now) xs i d h))
  where
    either : (e a : Bool) → cond e true a ≡ (a || (e || false))
    either true true = refl
    either true false = refl
    either false true = refl
    either false false = refl
