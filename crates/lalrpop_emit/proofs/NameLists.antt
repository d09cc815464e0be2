-- The names of rules, and the distinct ones.
use Rattle.std.proofs.Common.{◌≡◌, ◌==◌, if◌then◌else◌, ℕ, ◌+◌, ◌<◌, ◌≤◌, ⊎_elim, Bool, true, false, List, [], ◌∷◌, ◌++◌, get_or, length, map, take, drop, string_bytes, sym, ap, subst, ◌∙◌, arith, eq-eqb, Global, length-append, suc, add-one}
use Rattle.std.specs.Prelude.{String, Some, option_map, slice_get}
use Rattle.std.specs.List.{All}
use Rattle.std.specs.Str.{bytes_eq}
use Rattle.std.proofs.Math.Seq.{drop-cons}
use Rattle.std.proofs.lemmas.Bool.{cases_lt, ne_eqb}
use Rattle.std.proofs.lemmas.List.{length-map, map-append, take_more}
use Rattle.std.proofs.lemmas.List.Elements.{All-head, All-tail, All-push}
use Rattle.std.proofs.lemmas.List.Sums.{position_or_len_is}
use Rattle.std.proofs.lemmas.Option.{get_or_from_slice_get, slice_get-get_or, slice_get-map}
use Rattle.lalrpop_emit.specs.Names.{IsName, distinct_behind, distinct_names, place_of_name}

-- the name in the list of bytes is that of the string in the list of strings
pub name_there : (names : List (String Global)) (k : ℕ) (x : String Global) → k < length names → x ≡ get_or names k x → slice_get (map string_bytes names) k ≡ Some (string_bytes x)
name_there names k x below is =
    slice_get-map string_bytes names k ∙ ap (option_map string_bytes) (slice_get-get_or names k x below) ∙ ap (λ (s : String Global). Some (string_bytes s)) (sym is)

pub name_read : (names : List (String Global)) (k : ℕ) (x : String Global) → k < length names → x ≡ get_or names k x → get_or (map string_bytes names) k [] ≡ string_bytes x
name_read names k x below is = get_or_from_slice_get (map string_bytes names) k (string_bytes x) [] (name_there names k x below is)

pub more_names : (names : List (String Global)) (i : ℕ) (x : String Global) → i < length names → x ≡ get_or names i x → IsName (string_bytes x)
    → ((j : ℕ) (n : List ℕ) → j < i → slice_get (map string_bytes names) j ≡ Some n → IsName n) → (j : ℕ) (n : List ℕ) → j < i + 1 → slice_get (map string_bytes names) j ≡ Some n → IsName n
more_names names i x below is good before j n l e =
    ⊎_elim (λ (h : j < i). before j n h e)
    (λ (h : i ≤ j).
    let here : j ≡ i = omega arith in
    let read : get_or (map string_bytes names) j [] ≡ n = get_or_from_slice_get (map string_bytes names) j n [] e in
    let same : string_bytes x ≡ n = sym (name_read names i x below is) ∙ ap (λ (k : ℕ). get_or (map string_bytes names) k []) (sym here) ∙ read in
    subst IsName same good)
    (cases_lt j i)

pub all_names : (names : List (List ℕ)) (m : ℕ) → length names ≤ m → ((j : ℕ) (n : List ℕ) → j < m → slice_get names j ≡ Some n → IsName n) → All IsName names
all_names names m enough each k d l = each k (get_or names k d) (omega arith) (slice_get-get_or names k d l)

-- ---- places

pub place_here : (names : List (String Global)) (k : ℕ) (x : String Global) (name : List ℕ) → k < length names → x ≡ get_or names k x
    → ((j : ℕ) → j < k → bytes_eq name (get_or (map string_bytes names) j []) ≡ false) → bytes_eq name (string_bytes x) ≡ true → k ≡ place_of_name (map string_bytes names) name
place_here names k x name below is others this =
    sym (position_or_len_is (bytes_eq name) (map string_bytes names) k [] (omega (arith, length-map names string_bytes)) others
    (λ _. ap (bytes_eq name) (name_read names k x below is) ∙ this))

pub place_nowhere : (names : List (String Global)) (k : ℕ) (name : List ℕ) → length names ≤ k → k ≤ length names
    → ((j : ℕ) → j < k → bytes_eq name (get_or (map string_bytes names) j []) ≡ false) → length names ≡ place_of_name (map string_bytes names) name
place_nowhere names k name done within others =
    sym (position_or_len_is (bytes_eq name) (map string_bytes names) (length names) [] (omega (arith, length-map names string_bytes)) (λ j l. others j (omega arith))
    (λ l. absurd (omega (arith, l, length-map names string_bytes))))

pub others_more : (names : List (String Global)) (k : ℕ) (x : String Global) (name : List ℕ) → k < length names → x ≡ get_or names k x
    → ((j : ℕ) → j < k → bytes_eq name (get_or (map string_bytes names) j []) ≡ false) → bytes_eq name (string_bytes x) ≡ false
    → (j : ℕ) → j < k + 1 → bytes_eq name (get_or (map string_bytes names) j []) ≡ false
others_more names k x name below is others this j l =
    ⊎_elim (λ (h : j < k). others j h)
    (λ (h : k ≤ j).
    let here : j ≡ k = omega arith in
    ap (λ (i : ℕ). bytes_eq name (get_or (map string_bytes names) i [])) here ∙ ap (bytes_eq name) (name_read names k x below is) ∙ this)
    (cases_lt j k)

-- ---- one name after another

pub drop_name : (names : List (String Global)) (i : ℕ) (x : String Global) → i < length names → x ≡ get_or names i x → map string_bytes (drop i names) ≡ string_bytes x ∷ map string_bytes (drop (i + 1) names)
drop_name names i x below is =
    ap (map string_bytes)
    (drop-cons names i x below ∙ ap (λ (s : String Global). s ∷ drop (suc i) names) (sym is) ∙ ap (λ (k : ℕ). x ∷ drop k names) (sym (add-one i)))

pub known_more : (known : List (List ℕ)) (rest : List (List ℕ)) (name : List ℕ) → place_of_name known name ≡ length known → distinct_behind known (name ∷ rest) ≡ distinct_behind (known ++ name ∷ []) rest
known_more known rest name new =
    ap (λ (b : Bool). if b then distinct_behind (known ++ name ∷ []) rest else distinct_behind known rest) (eq-eqb (place_of_name known name) (length known) new)

pub known_again : (known : List (List ℕ)) (rest : List (List ℕ)) (name : List ℕ) → (place_of_name known name ≡ length known → ⊥) → distinct_behind known (name ∷ rest) ≡ distinct_behind known rest
known_again known rest name again =
    ap (λ (b : Bool). if b then distinct_behind (known ++ name ∷ []) rest else distinct_behind known rest) (ne_eqb (place_of_name known name) (length known) again)

-- a name that is new is added
pub name_added : (distinct added : List (String Global)) (new : String Global) (names : List (String Global)) (i : ℕ) (x : String Global) (all : List (List ℕ))
    → i < length names → x ≡ get_or names i x → added ≡ distinct ++ new ∷ [] → string_bytes new ≡ string_bytes x
    → place_of_name (map string_bytes distinct) (string_bytes x) ≡ length distinct
    → distinct_behind (map string_bytes distinct) (map string_bytes (drop i names)) ≡ all → distinct_behind (map string_bytes added) (map string_bytes (drop (i + 1) names)) ≡ all
name_added distinct added new names i x all below is grown same place before =
    let known = map string_bytes distinct in
    let rest = map string_bytes (drop (i + 1) names) in
    let step = ap (distinct_behind known) (drop_name names i x below is) ∙ known_more known rest (string_bytes x) (place ∙ sym (length-map distinct string_bytes)) in
    let maps : map string_bytes added ≡ known ++ string_bytes x ∷ [] =
    ap (map string_bytes) grown ∙ map-append string_bytes distinct (new ∷ []) ∙ ap (λ (n : List ℕ). known ++ n ∷ []) same in
    ap (λ (k : List (List ℕ)). distinct_behind k rest) maps ∙ sym step ∙ before

-- one that is known is passed
pub name_passed : (distinct same : List (String Global)) (names : List (String Global)) (i : ℕ) (x : String Global) (all : List (List ℕ))
    → i < length names → x ≡ get_or names i x → same ≡ distinct → (place_of_name (map string_bytes distinct) (string_bytes x) ≡ length distinct → ⊥)
    → distinct_behind (map string_bytes distinct) (map string_bytes (drop i names)) ≡ all → distinct_behind (map string_bytes same) (map string_bytes (drop (i + 1) names)) ≡ all
name_passed distinct same names i x all below is e place before =
    let known = map string_bytes distinct in
    let rest = map string_bytes (drop (i + 1) names) in
    let step = ap (distinct_behind known) (drop_name names i x below is) ∙ known_again known rest (string_bytes x) (λ h. place (h ∙ length-map distinct string_bytes)) in
    ap (λ (k : List (String Global)). distinct_behind (map string_bytes k) rest) e ∙ sym step ∙ before

-- ---- how many, and which

count_distinct : (known ns : List (List ℕ)) → length (distinct_behind known ns) ≤ length known + length ns
count_distinct known [] = omega arith
count_distinct known (n ∷ ns) = of (place_of_name known n == length known) (count_distinct (known ++ n ∷ []) ns) (count_distinct known ns)
  where
    of : (b : Bool) → length (distinct_behind (known ++ n ∷ []) ns) ≤ length (known ++ n ∷ []) + length ns → length (distinct_behind known ns) ≤ length known + length ns
        → length (if b then distinct_behind (known ++ n ∷ []) ns else distinct_behind known ns) ≤ length known + length (n ∷ ns)
    of true more less = omega (arith, more, length-append known (n ∷ []))
    of false more less = omega (arith, less)

pub few_distinct : (ns : List (List ℕ)) → length (distinct_names ns) ≤ length ns
few_distinct ns = omega (arith, count_distinct [] ns)

pub distinct_are_names : (known ns : List (List ℕ)) → All IsName known → All IsName ns → All IsName (distinct_behind known ns)
distinct_are_names known [] k all = k
distinct_are_names known (n ∷ ns) k all =
    of (place_of_name known n == length known)
    (distinct_are_names (known ++ n ∷ []) ns (All-push IsName known n k (All-head IsName n ns all)) (All-tail IsName n ns all))
    (distinct_are_names known ns k (All-tail IsName n ns all))
  where
    of : (b : Bool) → All IsName (distinct_behind (known ++ n ∷ []) ns) → All IsName (distinct_behind known ns)
        → All IsName (if b then distinct_behind (known ++ n ∷ []) ns else distinct_behind known ns)
    of true more less = more
    of false more less = less

-- the first i kinds, and this one
pub kinds_on : (f : List ℕ → ℕ) (names : List (String Global)) (i : ℕ) (x : String Global) (before more : List ℕ) (kind : ℕ) → i < length names → x ≡ get_or names i x
    → before ≡ map f (map string_bytes (take i names)) → kind ≡ f (string_bytes x) → more ≡ before ++ kind ∷ [] → more ≡ map f (map string_bytes (take (i + 1) names))
kinds_on f names i x before more kind below is known this grown =
    let step : map f (map string_bytes (take (i + 1) names)) ≡ map f (map string_bytes (take i names)) ++ f (string_bytes x) ∷ [] =
    ap (λ (ns : List (String Global)). map f (map string_bytes ns)) (take_more names i x below)
    ∙ ap (map f) (map-append string_bytes (take i names) (get_or names i x ∷ []))
    ∙ map-append f (map string_bytes (take i names)) (string_bytes (get_or names i x) ∷ [])
    ∙ ap (λ (s : String Global). map f (map string_bytes (take i names)) ++ f (string_bytes s) ∷ []) (sym is) in
    grown ∙ ap (λ (ns : List ℕ). ns ++ kind ∷ []) known ∙ ap (λ (n : ℕ). map f (map string_bytes (take i names)) ++ n ∷ []) this ∙ sym step

pub no_more_kinds : (distinct names : List (String Global)) → map string_bytes distinct ≡ distinct_names (map string_bytes names) → length distinct ≤ length names
no_more_kinds distinct names e =
    omega (arith, ap length e, few_distinct (map string_bytes names), length-map distinct string_bytes, length-map names string_bytes)
