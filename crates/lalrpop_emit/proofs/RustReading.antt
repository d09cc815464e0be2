-- What a text of fields says: two equal texts have equal fields.
use Rattle.std.proofs.Common.{◌≡◌, ℕ, ◌+◌, ◌<◌, ◌^◌, ◌%◌, ◌==◌, if◌then◌else◌, List, [], ◌∷◌, ◌++◌, refl, sym, ap, ◌∙◌, arith, append_assoc}
use Rattle.std.specs.Prelude.{decimal, codes}
use Rattle.std.specs.List.{All}
use Rattle.std.proofs.lemmas.List.{append_cancel_left}
use Rattle.std.proofs.lemmas.List.Elements.{All-head, All-tail}
use Rattle.lalrpop_emit.specs.Names.{IsName}
use Rattle.lalrpop_emit.specs.CSource.{listed}
use Rattle.lalrpop_emit.specs.RustSource.{kind_enum, list_field, name_lines, number_field}
use Rattle.lalrpop_emit.proofs.Reading.{Lacks, cut_before, decimal_lacks, name_without, peel, read_decimal}

abbrev first_of_text : List ℕ → ℕ
first_of_text [] = 0
first_of_text (x ∷ xs) = x

-- ---- numbers

-- no list of numbers begins with the bracket that ends one
no_bracket : (ds t r : List ℕ) → Lacks 93 ds → ds ++ (44 ∷ t) ≡ 93 ∷ r → ⊥
no_bracket [] t r lack e = omega (arith, ap first_of_text e)
no_bracket (d ∷ ds) t r lack e = lack.0 (ap first_of_text e)

abbrev blank : ℕ → ℕ
blank k = if k % 16 == 15 then 10 else 32

-- one of the numbers, and the text after it
number_first : (k x : ℕ) (xs r : List ℕ) → listed k (x ∷ xs) ++ r ≡ decimal x ++ ((44 ∷ blank k ∷ []) ++ (listed (k + 1) xs ++ r))
number_first k x xs r = append_assoc (decimal x) (44 ∷ blank k ∷ listed (k + 1) xs) r

-- a list of numbers, up to the bracket
pub read_numbers : (k : ℕ) (xs ys r s : List ℕ) → All (λ n. n < 2 ^ 64) xs → All (λ n. n < 2 ^ 64) ys → listed k xs ++ (93 ∷ r) ≡ listed k ys ++ (93 ∷ s) → (xs ≡ ys) × (r ≡ s)
read_numbers k [] [] r s ax ay e = (refl, append_cancel_left (93 ∷ []) r s e)
read_numbers k [] (y ∷ ys) r s ax ay e =
    absurd (no_bracket (decimal y) _ r (decimal_lacks 93 y refl (All-head (λ n. n < 2 ^ 64) y ys ay)) (sym (e ∙ number_first k y ys (93 ∷ s))))
read_numbers k (x ∷ xs) [] r s ax ay e =
    absurd (no_bracket (decimal x) _ s (decimal_lacks 93 x refl (All-head (λ n. n < 2 ^ 64) x xs ax)) (sym (number_first k x xs (93 ∷ r)) ∙ e))
read_numbers k (x ∷ xs) (y ∷ ys) r s ax ay e =
    let here = sym (number_first k x xs (93 ∷ r)) ∙ e ∙ number_first k y ys (93 ∷ s) in
    let parts = read_decimal 44 x y (blank k ∷ []) (listed (k + 1) xs ++ (93 ∷ r)) (listed (k + 1) ys ++ (93 ∷ s)) refl
    (All-head (λ n. n < 2 ^ 64) x xs ax) (All-head (λ n. n < 2 ^ 64) y ys ay) here in
    let rest = read_numbers (k + 1) xs ys r s (All-tail (λ n. n < 2 ^ 64) x xs ax) (All-tail (λ n. n < 2 ^ 64) y ys ay) parts.1 in
    (ap (λ (z : ℕ). z ∷ xs) parts.0 ∙ ap (λ (zs : List ℕ). y ∷ zs) rest.0, rest.1)

-- a text of four parts, and what stands after it
four_parts : (a b c d r : List ℕ) → (a ++ (b ++ (c ++ d))) ++ r ≡ a ++ (b ++ (c ++ (d ++ r)))
four_parts a b c d r = append_assoc a (b ++ (c ++ d)) r ∙ ap (λ (x : List ℕ). a ++ x) (append_assoc b (c ++ d) r ∙ ap (λ (x : List ℕ). b ++ x) (append_assoc c d r))

pub read_list_field : (name xs ys r s : List ℕ) → All (λ n. n < 2 ^ 64) xs → All (λ n. n < 2 ^ 64) ys → list_field name xs ++ r ≡ list_field name ys ++ s → (xs ≡ ys) × (r ≡ s)
unfolding list_field
read_list_field name xs ys r s ax ay e =
    let parts = sym (four_parts name (codes ": &[\n") (listed 0 xs) (codes "],\n") r) ∙ e ∙ four_parts name (codes ": &[\n") (listed 0 ys) (codes "],\n") s in
    let numbers = append_cancel_left (codes ": &[\n") _ _ (append_cancel_left name _ _ parts) in
    let read = read_numbers 0 xs ys (codes ",\n" ++ r) (codes ",\n" ++ s) ax ay numbers in
    (read.0, append_cancel_left (codes ",\n") r s read.1)

pub read_number_field : (name : List ℕ) (m n : ℕ) (r s : List ℕ) → m < 2 ^ 64 → n < 2 ^ 64 → number_field name m ++ r ≡ number_field name n ++ s → (m ≡ n) × (r ≡ s)
unfolding number_field
read_number_field name m n r s small few e =
    let parts = sym (four_parts name (codes ": ") (decimal m) (codes ",\n") r) ∙ e ∙ four_parts name (codes ": ") (decimal n) (codes ",\n") s in
    read_decimal 44 m n (codes "\n") r s refl small few (append_cancel_left (codes ": ") _ _ (append_cancel_left name _ _ parts))

-- ---- names

-- one of the names, and the text after it
name_first : (before behind name : List ℕ) (names : List (List ℕ)) (r : List ℕ) → name_lines before behind (name ∷ names) ++ r ≡ before ++ (name ++ (behind ++ (name_lines before behind names ++ r)))
name_first before behind name names r = four_parts before name behind (name_lines before behind names) r

-- the variants, up to the brace
read_variants : (xs ys : List (List ℕ)) (r s : List ℕ) → All IsName xs → All IsName ys
    → name_lines (codes "    r#") (codes ",\n") xs ++ (125 ∷ r) ≡ name_lines (codes "    r#") (codes ",\n") ys ++ (125 ∷ s) → (xs ≡ ys) × (r ≡ s)
read_variants [] [] r s ax ay e = (refl, append_cancel_left (125 ∷ []) r s e)
read_variants [] (y ∷ ys) r s ax ay e = absurd (omega (arith, ap first_of_text e))
read_variants (x ∷ xs) [] r s ax ay e = absurd (omega (arith, ap first_of_text e))
read_variants (x ∷ xs) (y ∷ ys) r s ax ay e =
    let line = codes "    r#" in
    let here = append_cancel_left line _ _ (sym (name_first line (codes ",\n") x xs (125 ∷ r)) ∙ e ∙ name_first line (codes ",\n") y ys (125 ∷ s)) in
    let parts = cut_before 44 x y (codes "\n") (name_lines line (codes ",\n") xs ++ (125 ∷ r)) (name_lines line (codes ",\n") ys ++ (125 ∷ s))
    (name_without 44 x refl (All-head IsName x xs ax)) (name_without 44 y refl (All-head IsName y ys ay)) here in
    let rest = read_variants xs ys r s (All-tail IsName x xs ax) (All-tail IsName y ys ay) parts.1 in
    (ap (λ (z : List ℕ). z ∷ xs) parts.0 ∙ ap (λ (zs : List (List ℕ)). y ∷ zs) rest.0, rest.1)

pub read_kind_enum : (xs ys : List (List ℕ)) (r s : List ℕ) → All IsName xs → All IsName ys → kind_enum xs ++ r ≡ kind_enum ys ++ s → (xs ≡ ys) × (r ≡ s)
unfolding kind_enum
read_kind_enum xs ys r s ax ay e =
    let lines_x = name_lines (codes "    r#") (codes ",\n") xs in
    let lines_y = name_lines (codes "    r#") (codes ",\n") ys in
    let variants = append_cancel_left (codes "pub enum Kind {\n") _ _ (peel (codes "pub enum Kind {\n") (lines_x ++ codes "}\n") (codes "pub enum Kind {\n") (lines_y ++ codes "}\n") r s e) in
    let read = read_variants xs ys (codes "\n" ++ r) (codes "\n" ++ s) ax ay (peel lines_x (codes "}\n") lines_y (codes "}\n") r s variants) in
    (read.0, append_cancel_left (codes "\n") r s read.1)
