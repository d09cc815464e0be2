-- What a text of numbers and names says: two equal texts have equal parts.
use Rattle.std.proofs.Common.{◌≡◌, ◌≢◌, ℕ, ◌+◌, ◌<◌, ◌^◌, ◌%◌, ◌==◌, if◌then◌else◌, List, [], ◌∷◌, ◌++◌, length, refl, sym, ap, ◌∙◌, arith, append_assoc, true, false}
use Rattle.std.specs.Prelude.{decimal, codes}
use Rattle.std.specs.List.{All}
use Rattle.std.specs.Char.{digit_value}
use Rattle.std.specs.Str.Parse.{AllDigits}
use Rattle.std.proofs.lemmas.List.{append_cancel_left}
use Rattle.std.proofs.lemmas.List.Elements.{All-head, All-tail}
use Rattle.std.proofs.lemmas.List.Sums.{AllPass-from_list_all}
use Rattle.std.proofs.lemmas.Fmt.{decimal_is_IsNumeral, decimal_injective}
use Rattle.lalrpop_emit.specs.Names.{IsName, is_name_byte}
use Rattle.lalrpop_emit.specs.CSource.{listed, listing, filled, array, mode_array, quoted_names, name_array}

-- the list doesn't contain the number
abbrev pub Lacks : ℕ → List ℕ → Type 0
Lacks d [] = Unit {0}
Lacks d (c ∷ cs) = (c ≢ d) × Lacks d cs

abbrev head_of : List ℕ → ℕ
head_of [] = 0
head_of (x ∷ xs) = x

abbrev tail_of : List ℕ → List ℕ
tail_of [] = []
tail_of (x ∷ xs) = xs

-- ---- delimiters

-- what stands before the first d, and what after it
pub cut_at : (d : ℕ) (a b r s : List ℕ) → Lacks d a → Lacks d b → a ++ (d ∷ r) ≡ b ++ (d ∷ s) → (a ≡ b) × (r ≡ s)
cut_at d [] [] r s la lb e = (refl, ap tail_of e)
cut_at d [] (y ∷ b) r s la lb e = absurd (lb.0 (sym (ap head_of e)))
cut_at d (x ∷ a) [] r s la lb e = absurd (la.0 (ap head_of e))
cut_at d (x ∷ a) (y ∷ b) r s la lb e =
    let rest = cut_at d a b r s la.1 lb.1 (ap tail_of e) in
    (ap (λ (z : ℕ). z ∷ a) (ap head_of e) ∙ ap (λ (zs : List ℕ). y ∷ zs) rest.0, rest.1)

-- the same where the delimiter begins a longer text
pub cut_before : (d : ℕ) (a b t r s : List ℕ) → Lacks d a → Lacks d b → a ++ ((d ∷ t) ++ r) ≡ b ++ ((d ∷ t) ++ s) → (a ≡ b) × (r ≡ s)
cut_before d a b t r s la lb e =
    let parts = cut_at d a b (t ++ r) (t ++ s) la lb e in
    (parts.0, append_cancel_left t r s parts.1)

digits_lack : (d : ℕ) (ds : List ℕ) → digit_value d ≡ 36 → AllDigits 10 ds → Lacks d ds
digits_lack d [] h all = tt
digits_lack d (c ∷ cs) h all = ((λ e. omega (arith, all.0, h, ap digit_value e)), digits_lack d cs h all.1)

pub decimal_lacks : (d n : ℕ) → digit_value d ≡ 36 → n < 2 ^ 64 → Lacks d (decimal n)
decimal_lacks d n h small = digits_lack d (decimal n) h (decimal_is_IsNumeral n small).0.1

name_lacks : (d : ℕ) (name : List ℕ) → is_name_byte d ≡ false → All (λ b. is_name_byte b ≡ true) name → Lacks d name
name_lacks d [] h all = tt
name_lacks d (b ∷ bs) h all =
    ((λ e. let same : true ≡ false = sym (All-head (λ x. is_name_byte x ≡ true) b bs all) ∙ ap is_name_byte e ∙ h in cc), name_lacks d bs h (All-tail (λ x. is_name_byte x ≡ true) b bs all))

pub name_without : (d : ℕ) (name : List ℕ) → is_name_byte d ≡ false → IsName name → Lacks d name
name_without d name h n = name_lacks d name h (AllPass-from_list_all is_name_byte name n.bytes)

-- ---- numbers

-- a number, and the text from its delimiter on
pub read_decimal : (d m n : ℕ) (t r s : List ℕ) → digit_value d ≡ 36 → m < 2 ^ 64 → n < 2 ^ 64 → decimal m ++ ((d ∷ t) ++ r) ≡ decimal n ++ ((d ∷ t) ++ s) → (m ≡ n) × (r ≡ s)
read_decimal d m n t r s h small few e =
    let parts = cut_before d (decimal m) (decimal n) t r s (decimal_lacks d m h small) (decimal_lacks d n h few) e in
    (decimal_injective m n small few parts.0, parts.1)

-- a list of numbers, of which there are as many
pub read_listed : (k : ℕ) (xs ys r s : List ℕ) → length xs ≡ length ys → All (λ n. n < 2 ^ 64) xs → All (λ n. n < 2 ^ 64) ys → listed k xs ++ r ≡ listed k ys ++ s → (xs ≡ ys) × (r ≡ s)
read_listed k [] [] r s l ax ay e = (refl, e)
read_listed k [] (y ∷ ys) r s l ax ay e = absurd (omega (arith, l))
read_listed k (x ∷ xs) [] r s l ax ay e = absurd (omega (arith, l))
read_listed k (x ∷ xs) (y ∷ ys) r s l ax ay e =
    let blank = if k % 16 == 15 then 10 else 32 in
    let here : decimal x ++ ((44 ∷ blank ∷ []) ++ (listed (k + 1) xs ++ r)) ≡ decimal y ++ ((44 ∷ blank ∷ []) ++ (listed (k + 1) ys ++ s)) =
    sym (append_assoc (decimal x) (44 ∷ blank ∷ listed (k + 1) xs) r) ∙ e ∙ append_assoc (decimal y) (44 ∷ blank ∷ listed (k + 1) ys) s in
    let parts = read_decimal 44 x y (blank ∷ []) (listed (k + 1) xs ++ r) (listed (k + 1) ys ++ s) refl
    (All-head (λ n. n < 2 ^ 64) x xs ax) (All-head (λ n. n < 2 ^ 64) y ys ay) here in
    let rest = read_listed (k + 1) xs ys r s (omega (arith, l)) (All-tail (λ n. n < 2 ^ 64) x xs ax) (All-tail (λ n. n < 2 ^ 64) y ys ay) parts.1 in
    (ap (λ (z : ℕ). z ∷ xs) parts.0 ∙ ap (λ (zs : List ℕ). y ∷ zs) rest.0, rest.1)

-- ---- parts

-- texts of two parts, and what follows them
pub peel : (a b c d r s : List ℕ) → (a ++ b) ++ r ≡ (c ++ d) ++ s → a ++ (b ++ r) ≡ c ++ (d ++ s)
peel a b c d r s e = sym (append_assoc a b r) ∙ e ∙ append_assoc c d s

-- the same where the first parts are one
pub skip : (a b d r s : List ℕ) → (a ++ b) ++ r ≡ (a ++ d) ++ s → b ++ r ≡ d ++ s
skip a b d r s e = append_cancel_left a (b ++ r) (d ++ s) (peel a b a d r s e)

-- ---- arrays and names

-- what `listing` has from the number of its numbers on
abbrev from_count : List ℕ → List ℕ
from_count ns = decimal (length ns) ++ (codes "] = {\n" ++ (listed 0 ns ++ codes "};\n"))

pub read_listing : (xs ys r s : List ℕ) → length xs < 2 ^ 64 → length ys < 2 ^ 64 → All (λ n. n < 2 ^ 64) xs → All (λ n. n < 2 ^ 64) ys → listing xs ++ r ≡ listing ys ++ s → (xs ≡ ys) × (r ≡ s)
unfolding listing
read_listing xs ys r s lx ly ax ay e =
    let count = skip (codes "[") (from_count xs) (from_count ys) r s e in
    let size = read_decimal 93 (length xs) (length ys) (codes " = {\n") ((listed 0 xs ++ codes "};\n") ++ r) ((listed 0 ys ++ codes "};\n") ++ s) refl lx ly
    (peel (decimal (length xs)) (codes "] = {\n" ++ (listed 0 xs ++ codes "};\n")) (decimal (length ys)) (codes "] = {\n" ++ (listed 0 ys ++ codes "};\n")) r s count) in
    let parts = read_listed 0 xs ys (codes "};\n" ++ r) (codes "};\n" ++ s) size.0 ax ay (peel (listed 0 xs) (codes "};\n") (listed 0 ys) (codes "};\n") r s size.1) in
    (parts.0, append_cancel_left (codes "};\n") r s parts.1)

pub read_array : (p head xs ys r s : List ℕ) → length xs < 2 ^ 64 → length ys < 2 ^ 64 → All (λ n. n < 2 ^ 64) xs → All (λ n. n < 2 ^ 64) ys
    → array p head xs ++ r ≡ array p head ys ++ s → (xs ≡ ys) × (r ≡ s)
unfolding array
read_array p head xs ys r s lx ly ax ay e =
    let named = skip (codes "static const ") (filled p head ++ listing xs) (filled p head ++ listing ys) r s e in
    read_listing xs ys r s lx ly ax ay (skip (filled p head) (listing xs) (listing ys) r s named)

pub read_mode_array : (p head : List ℕ) (k : ℕ) (xs ys r s : List ℕ) → length xs < 2 ^ 64 → length ys < 2 ^ 64 → All (λ n. n < 2 ^ 64) xs → All (λ n. n < 2 ^ 64) ys
    → mode_array p head k xs ++ r ≡ mode_array p head k ys ++ s → (xs ≡ ys) × (r ≡ s)
unfolding mode_array
read_mode_array p head k xs ys r s lx ly ax ay e =
    let named = skip (codes "static const ") (filled p head ++ (decimal k ++ listing xs)) (filled p head ++ (decimal k ++ listing ys)) r s e in
    read_listing xs ys r s lx ly ax ay (skip (decimal k) (listing xs) (listing ys) r s (skip (filled p head) (decimal k ++ listing xs) (decimal k ++ listing ys) r s named))

read_quoted : (xs ys : List (List ℕ)) (r s : List ℕ) → length xs ≡ length ys → All IsName xs → All IsName ys → quoted_names xs ++ r ≡ quoted_names ys ++ s → (xs ≡ ys) × (r ≡ s)
read_quoted [] [] r s l ax ay e = (refl, e)
read_quoted [] (y ∷ ys) r s l ax ay e = absurd (omega (arith, l))
read_quoted (x ∷ xs) [] r s l ax ay e = absurd (omega (arith, l))
read_quoted (x ∷ xs) (y ∷ ys) r s l ax ay e =
    let behind = skip (codes "    \"") (x ++ (codes "\",\n" ++ quoted_names xs)) (y ++ (codes "\",\n" ++ quoted_names ys)) r s e in
    let parts = cut_before 34 x y (codes ",\n") (quoted_names xs ++ r) (quoted_names ys ++ s) (name_without 34 x refl (All-head IsName x xs ax)) (name_without 34 y refl (All-head IsName y ys ay))
    (peel x (codes "\",\n" ++ quoted_names xs) y (codes "\",\n" ++ quoted_names ys) r s behind) in
    let rest = read_quoted xs ys r s (omega (arith, l)) (All-tail IsName x xs ax) (All-tail IsName y ys ay) parts.1 in
    (ap (λ (z : List ℕ). z ∷ xs) parts.0 ∙ ap (λ (zs : List (List ℕ)). y ∷ zs) rest.0, rest.1)

-- what `name_array` has from the number of names on
abbrev from_names : List (List ℕ) → List ℕ
from_names ns = decimal (length ns) ++ (codes "] = {\n" ++ (quoted_names ns ++ codes "};\n"))

pub read_name_array : (p : List ℕ) (xs ys : List (List ℕ)) (r s : List ℕ) → length xs < 2 ^ 64 → length ys < 2 ^ 64 → All IsName xs → All IsName ys → name_array p xs ++ r ≡ name_array p ys ++ s → (xs ≡ ys) × (r ≡ s)
unfolding name_array
read_name_array p xs ys r s lx ly ax ay e =
    let count = skip (filled p (codes "#ifndef $_header\nstatic const char *const $_names[")) (from_names xs) (from_names ys) r s e in
    let size = read_decimal 93 (length xs) (length ys) (codes " = {\n") ((quoted_names xs ++ codes "};\n") ++ r) ((quoted_names ys ++ codes "};\n") ++ s) refl lx ly
    (peel (decimal (length xs)) (codes "] = {\n" ++ (quoted_names xs ++ codes "};\n")) (decimal (length ys)) (codes "] = {\n" ++ (quoted_names ys ++ codes "};\n")) r s count) in
    let parts = read_quoted xs ys (codes "};\n" ++ r) (codes "};\n" ++ s) size.0 ax ay (peel (quoted_names xs) (codes "};\n") (quoted_names ys) (codes "};\n") r s size.1) in
    (parts.0, append_cancel_left (codes "};\n") r s parts.1)
