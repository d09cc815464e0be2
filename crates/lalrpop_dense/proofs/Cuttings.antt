-- What the calls of `next` return for a text that is being cut.
use Rattle.std.proofs.Common.{◌≡◌, ◌≢◌, ℕ, ◌+◌, ◌<◌, ◌≤◌, true, false, inl, inr, List, [], ◌∷◌, ◌++◌, length, take, drop, arith, refl, sym, ap, subst, ◌∙◌, length-append, append_assoc}
use Rattle.std.specs.Prelude.{Option, Some, None, Ok, Err}
use Rattle.std.specs.Iterator.{Yields, Drains}
use Rattle.std.specs.Str.{chars, IsUtf8, IsCharBoundary, encode_utf8_all}
use Rattle.std.proofs.lemmas.Str.{IsCharBoundary-from_take, IsUtf8-drop, encodes-chars, chars-append}
use Rattle.std.proofs.lemmas.List.{take_at, drop_at, drop-drop}
use Rattle.lalrpop_hir.specs.Tree.{Tree}
use Rattle.lalrpop_hir.specs.Prefix.{IsPrefix}
use Rattle.lalrpop_dfa.specs.Dfa.{Row, Recognizes}
use Rattle.lalrpop_dense.specs.Cutting.{Cutting, start_of, rest_of, left_of, GivesItem}
use Rattle.lalrpop_hir.specs.Tokens.{Item, AreItems, slices}
use Rattle.lalrpop_hir.proofs.LastFaults.{items_to_fault}

-- a prefix of a text ends where the text may be split
pub cut_behind : (p text : List ℕ) → IsUtf8 text → IsPrefix p text → IsCharBoundary text (length p)
cut_behind p text u b =
    IsCharBoundary-from_take text (length p) u (omega (arith, ap length b.1.0, length-append p b.0))
    (subst IsUtf8 (sym (ap (take (length p)) b.1.0 ∙ take_at p b.0 (length p) refl)) b.1.1)

-- what follows a prefix
after_prefix : (p text : List ℕ) (b : IsPrefix p text) → b.0 ≡ drop (length p) text
after_prefix p text b = sym (ap (drop (length p)) b.1.0 ∙ drop_at p b.0 (length p) refl)

-- a nonempty text has a character
pub some_char : (text : List ℕ) → IsUtf8 text → text ≢ [] → 0 < length (chars text)
some_char text u some = has (chars text) (encodes-chars text u)
  where
    has : (cs : List ℕ) → encode_utf8_all cs ≡ text → 0 < length cs
    has [] e = absurd (some (sym e))
    has (c ∷ cs) e = omega arith

-- what is left after a token
pub rest_behind : (s j : Cutting) (p : List ℕ) → IsPrefix p (rest_of s) → j ≡ record s { at = s.at + length p; spare = j.spare; steps = j.steps } → rest_of s ≡ p ++ rest_of j
rest_behind s j p b e =
    b.1.0 ∙ ap (λ (r : List ℕ). p ++ r) (after_prefix p (rest_of s) b ∙ drop-drop (length p) s.at s.text ∙ sym (ap (λ (x : Cutting). rest_of x) e))

rest_utf8 : (s j : Cutting) (p : List ℕ) → IsUtf8 (rest_of s) → IsPrefix p (rest_of s) → j ≡ record s { at = s.at + length p; spare = j.spare; steps = j.steps } → IsUtf8 (rest_of j)
rest_utf8 s j p u b e =
    subst IsUtf8 (drop-drop (length p) s.at s.text ∙ sym (ap (λ (x : Cutting). rest_of x) e))
    (IsUtf8-drop (rest_of s) (length p) u (cut_behind p (rest_of s) u b))

pub left_on : (s : Cutting) → s.is_over ≡ false → left_of s ≡ length (chars (rest_of s))
left_on s on = rw on

pub left_over : (s : Cutting) → s.is_over ≡ true → left_of s ≡ 0
left_over s over = rw over

-- each item leaves one fewer
pub fewer : (s j : Cutting) (x : Item) → IsUtf8 (rest_of s) → GivesItem s (Some x) j → left_of j < left_of s
fewer s j (Ok m) u (on, b, some, next, e, paid) =
    let split : rest_of s ≡ m.1.now ++ rest_of j = rest_behind s j m.1.now b e in
    let count : length (chars (rest_of s)) ≡ length (chars m.1.now) + length (chars (rest_of j)) =
    ap (λ (t : List ℕ). length (chars t)) split ∙ ap length (chars-append m.1.now (rest_of j) b.1.1) ∙ length-append (chars m.1.now) (chars (rest_of j)) in
    let still : j.is_over ≡ false = ap (λ (x : Cutting). x.is_over) e ∙ on in
    omega (arith, count, some_char m.1.now b.1.1 some, left_on s on, left_on j still)
fewer s j (Err fault) u (on, some, at, next, e, paid) =
    let over : j.is_over ≡ true = ap (λ (x : Cutting). x.is_over) e in
    omega (arith, left_on s on, left_over j over, some_char (rest_of s) u some)

-- nothing comes after a fault
none_over : (s t : Cutting) (xs : List Item) → s.is_over ≡ true → Yields GivesItem s xs t → xs ≡ []
none_over s t [] over y = refl
none_over s t (Ok m ∷ xs) over (j, g, y) = cc (g.0, over)
none_over s t (Err f ∷ xs) over (j, g, y) = cc (g.0, over)

-- there are no more items than characters
pub count_of : (s t : Cutting) (xs : List Item) → IsUtf8 (rest_of s) → Yields GivesItem s xs t → length xs ≤ left_of s
count_of s t [] u y = omega arith
count_of s t (Ok m ∷ xs) u (j, g, y) = omega (arith, fewer s j (Ok m) u g, count_of j t xs (rest_utf8 s j m.1.now u g.1 g.4) y)
count_of s t (Err f ∷ xs) u (j, g, y) =
    let over : j.is_over ≡ true = ap (λ (x : Cutting). x.is_over) g.4 in
    omega (arith, fewer s j (Err f) u g, ap length (none_over j t xs over y))

-- the slices followed by the rest are what was left
pub parts_of : (s t : Cutting) (xs : List Item) → Yields GivesItem s xs t → rest_of s ≡ slices xs ++ rest_of t
parts_of s t [] y = ap (λ (x : Cutting). rest_of x) y
parts_of s t (Ok m ∷ xs) (j, g, y) =
    rest_behind s j m.1.now g.1 g.4 ∙ ap (λ (r : List ℕ). m.1.now ++ r) (parts_of j t xs y) ∙ sym (append_assoc m.1.now (slices xs) (rest_of t))
parts_of s t (Err f ∷ xs) (j, g, y) = sym (ap (λ (x : Cutting). rest_of x) g.4) ∙ parts_of j t xs y

-- all items, up to the first `None`
pub items_of : (ts : List Tree) (ps : List ℕ) (s t u : Cutting) (xs : List Item) → Recognizes s.automaton ts ps → s.is_over ≡ false → Yields GivesItem s xs t
    → GivesItem t None u → AreItems ts ps s.text s.at xs
items_of ts ps s t u [] r on y (same, end) = elim end [
  | inl over ↦ (let still : s.is_over ≡ true = ap (λ (x : Cutting). x.is_over) y ∙ over in cc)
  | inr none ↦ ap (λ (x : Cutting). rest_of x) y ∙ none
]
items_of ts ps s t u (Ok m ∷ xs) r on (j, g, y) last =
    let still : j.is_over ≡ false = ap (λ (x : Cutting). x.is_over) g.4 ∙ on in
    let known : Recognizes j.automaton ts ps = subst (λ (x : Cutting). Recognizes x.automaton ts ps) (sym g.4) r in
    let others : AreItems ts ps j.text j.at xs = items_of ts ps j t u xs known still y last in
    (g.3 ts ps r, subst (λ (x : Cutting). AreItems ts ps x.text x.at xs) g.4 others)
items_of ts ps s t u (Err f ∷ xs) r on (j, g, y) last =
    let over : j.is_over ≡ true = ap (λ (x : Cutting). x.is_over) g.4 in
    subst (λ (ys : List Item). AreItems ts ps s.text s.at (Err f ∷ ys)) (sym (none_over j t xs over y))
    (items_to_fault ts ps s.text s.at f (g.1, g.3 ts ps r, g.2))

-- after the first `None` every call returns `None`
pub none_for_good : (s t u : Cutting) (x : Option Item) → GivesItem s None t → GivesItem t x u → x ≡ None
none_for_good s t u None (same, end) g = refl
none_for_good s t u (Some (Ok m)) (same, end) g = elim end [
  | inl over ↦ (let on : s.is_over ≡ false = sym (ap (λ (x : Cutting). x.is_over) same) ∙ g.0 in absurd (cc (over, on)))
  | inr none ↦ absurd (g.2 (nothing_before m.1.now g.1.0 (sym none ∙ sym (ap (λ (x : Cutting). rest_of x) same) ∙ g.1.1.0)))
]
  where
    nothing_before : (p q : List ℕ) → [] ≡ p ++ q → p ≡ []
    nothing_before [] q e = refl
    nothing_before (b ∷ p) q e = absurd (cc)
none_for_good s t u (Some (Err f)) (same, end) g = elim end [
  | inl over ↦ (let on : s.is_over ≡ false = sym (ap (λ (x : Cutting). x.is_over) same) ∙ g.0 in absurd (cc (over, on)))
  | inr none ↦ absurd (g.1 (ap (λ (x : Cutting). rest_of x) same ∙ none))
]

-- ---- from the start, whatever is to spare

pub items_from_start : (s : Cutting) (d : List Row) (text : List ℕ) (spare : Option ℕ) → s ≡ start_of d text spare → (xs : List Item) → Drains GivesItem s xs
    → (ts : List Tree) (ps : List ℕ) → Recognizes d ts ps → AreItems ts ps text 0 xs
items_from_start s d text spare e =
    subst (λ (s : Cutting). (xs : List Item) → Drains GivesItem s xs → (ts : List Tree) (ps : List ℕ) → Recognizes d ts ps → AreItems ts ps text 0 xs) (sym e)
    (λ xs (u, (t, y, last)) ts ps r. items_of ts ps (start_of d text spare) t u xs r refl y last)

pub parts_from_start : (s : Cutting) (d : List Row) (text : List ℕ) (spare : Option ℕ) → s ≡ start_of d text spare → (xs : List Item) (t : Cutting) → Yields GivesItem s xs t
    → text ≡ slices xs ++ rest_of t
parts_from_start s d text spare e xs t y = sym (ap (λ (x : Cutting). rest_of x) e) ∙ parts_of s t xs y

pub count_from_start : (s : Cutting) (d : List Row) (text : List ℕ) (spare : Option ℕ) → s ≡ start_of d text spare → IsUtf8 text → (xs : List Item) (t : Cutting) → Yields GivesItem s xs t
    → length xs ≤ length (chars text)
count_from_start s d text spare e u xs t y =
    let left : left_of s ≡ length (chars text) = ap (λ (x : Cutting). left_of x) e in
    omega (arith, left, count_of s t xs (subst (λ (x : Cutting). IsUtf8 (rest_of x)) (sym e) u) y)
