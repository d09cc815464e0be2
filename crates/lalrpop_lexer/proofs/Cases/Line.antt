-- Cases of specs/Line.antt.
use Rattle.std.proofs.Common.{◌≡◌, ℕ, ◌<◌, List, [], ◌∷◌, ◌++◌, get_or, drop, codes, refl, sym, ap, subst, lit≤, arith}
use Rattle.std.specs.Char.{digit_value}
use Rattle.std.specs.Str.{chars}
use Rattle.std.specs.Str.Parse.{AllDigits, digits_value}
use Rattle.std.proofs.lemmas.Str.Parse.{digit_from_value}
use Rattle.lalrpop_hir.specs.Tree.{Tree, empty}
use Rattle.lalrpop_hir.specs.Parts.{of_text}
use Rattle.lalrpop_re.specs.GroupName.{names}
use Rattle.lalrpop_re.specs.Pattern.{Pattern, no_piece, last_branch, of_branches}
use Rattle.lalrpop_re.specs.Internal.Reading as reading
use Rattle.lalrpop_re.proofs.PatternLaws.{missing}
use Rattle.lalrpop_lexer.specs.Line.{letter, IsLine, LineSays}
use Rattle.bajofeki_rules.specs.Precedence.{IsPrecedence}
use Rattle.lalrpop_lexer.specs.Spelled.{Spells}
use Rattle.lalrpop_lexer.specs.declared.form.Form.{Form}
use Rattle.lalrpop_lexer.specs.declared.form.Form.TheVariants as forms
use Rattle.lalrpop_lexer.specs.declared.terminal_line.TerminalLine.TheVariants.{Bad, NoTree, Terminal}

-- ---- precedences

-- 20 zeros write 0
twenty_zeros : IsPrecedence (codes "00000000000000000000") 0
twenty_zeros = record { numeral = search arith; short = omega arith; value = refl; fits = omega arith }

-- 21 are too many
not_twenty_one_zeros : (n : ℕ) → ¬ IsPrecedence (codes "000000000000000000000") n
not_twenty_one_zeros n h = omega (arith, h.short)

-- the greatest number of 64 bits
greatest_precedence : IsPrecedence (codes "18446744073709551615") 18446744073709551615
greatest_precedence = record { numeral = search arith; short = omega arith; value = refl; fits = omega arith }

-- a greater one doesn't fit
not_one_more : (n : ℕ) → ¬ IsPrecedence (codes "18446744073709551616") n
not_one_more n h = let v : n ≡ 18446744073709551616 = h.value in omega (arith, v, h.fits)

-- no sign
not_a_sign : (n : ℕ) → ¬ IsPrecedence (codes "+1") n
not_a_sign n h = omega (arith, h.numeral.1.0)

-- at least one digit
not_no_digit : (n : ℕ) → ¬ IsPrecedence [] n
not_no_digit n h = omega (arith, h.numeral.0)

-- digits write one number
not_another_number : ¬ IsPrecedence (codes "12") 21
not_another_number h = let v : 21 ≡ 12 = h.value in omega (arith, v)

-- ---- lines

letters_of_forms : (letter forms.Literal ≡ codes "l") × (letter forms.Pattern ≡ codes "r")
letters_of_forms = (refl, refl)

zero_is_a_precedence : IsPrecedence (codes "0") 0
zero_is_a_precedence = record { numeral = (omega arith, (omega arith, tt)); short = omega arith; value = refl; fits = omega arith }

-- `0 l a` is a line of a literal, and `0 r ` one of the empty pattern
pub line_of_a_literal : IsLine (codes "0 l a") 0 forms.Literal (codes "a")
unfolding lib.Utf8.encode
line_of_a_literal = record { digits = codes "0"; parts = refl; precedence = zero_is_a_precedence; utf8 = (codes "0 l a", (refl, refl)) }

line_of_the_empty_pattern : IsLine (codes "0 r ") 0 forms.Pattern []
unfolding lib.Utf8.encode
line_of_the_empty_pattern = record { digits = codes "0"; parts = refl; precedence = zero_is_a_precedence; utf8 = (codes "0 r ", (refl, refl)) }

-- what the precedence of a line can be, by the bytes before the first space
no_digit : (c : ℕ) → digit_value c < 10 → c ≡ 32 → ⊥
no_digit c h e = omega (arith, (digit_from_value c h).0, e)

-- `0 l a` has no other precedence
pub line_has_one_precedence : (n : ℕ) (form : Form) (text : List ℕ) → IsLine (codes "0 l a") n form text → n ≡ 0
line_has_one_precedence n form text h = by_digits h.digits h.parts h.precedence.numeral.1 h.precedence.value
  where
    by_digits : (ds : List ℕ) → codes "0 l a" ≡ ds ++ (codes " " ++ (letter form ++ (codes " " ++ text))) → AllDigits 10 ds → n ≡ digits_value 10 ds → n ≡ 0
    by_digits [] e all v = let k : 48 ≡ 32 = ap (λ u. get_or u 0 0) e in absurd (omega (arith, k))
    by_digits (d ∷ []) e all v = let k : 48 ≡ d = ap (λ u. get_or u 0 0) e in subst (λ x. n ≡ digits_value 10 (x ∷ [])) (sym k) v
    by_digits (d ∷ c ∷ ds) e all v = let k : 32 ≡ c = ap (λ u. get_or u 1 0) e in absurd (no_digit c all.1.0 (sym k))

-- `x` is not a line
pub x_is_no_line : (n : ℕ) (form : Form) (text : List ℕ) → ¬ IsLine (codes "x") n form text
x_is_no_line n form text h = by_digits h.digits h.parts
  where
    by_digits : (ds : List ℕ) → codes "x" ≡ ds ++ (codes " " ++ (letter form ++ (codes " " ++ text))) → ⊥
    by_digits [] e = let k : 120 ≡ 32 = ap (λ u. get_or u 0 0) e in omega (arith, k)
    by_digits (d ∷ []) e = absurd (cc)
    by_digits (d ∷ c ∷ ds) e = absurd (cc)

-- `0 x a` is not one: the letter must be `l` or `r`
other_letter_is_in_no_line : (n : ℕ) (form : Form) (text : List ℕ) → ¬ IsLine (codes "0 x a") n form text
other_letter_is_in_no_line n form text h = by_digits h.digits form h.parts h.precedence.numeral.1
  where
    by_digits : (ds : List ℕ) (k : Form) → codes "0 x a" ≡ ds ++ (codes " " ++ (letter k ++ (codes " " ++ text))) → AllDigits 10 ds → ⊥
    by_digits [] k e all = let m : 48 ≡ 32 = ap (λ u. get_or u 0 0) e in omega (arith, m)
    by_digits (d ∷ []) forms.Literal e all = let m : 120 ≡ 108 = ap (λ u. get_or u 2 0) e in omega (arith, m)
    by_digits (d ∷ []) forms.Pattern e all = let m : 120 ≡ 114 = ap (λ u. get_or u 2 0) e in omega (arith, m)
    by_digits (d ∷ c ∷ ds) k e all = let m : 32 ≡ c = ap (λ u. get_or u 1 0) e in absurd (no_digit c all.1.0 (sym m))

-- ---- what a line says

-- the empty pattern spells the empty tree
empty_pattern_spells_the_empty_tree : Spells forms.Pattern [] empty
unfolding chars names
empty_pattern_spells_the_empty_tree = record { flags = _; levels = _; reads = of_branches (last_branch (no_piece refl) refl); flat = lit≤ tt; distinct = refl }

-- `0 l a` says that the literal `a` is a terminal of the precedence 0
pub line_says_a_literal : LineSays (codes "0 l a") (Terminal 0 (of_text (codes "a")))
line_says_a_literal = (forms.Literal, (codes "a", (line_of_a_literal, refl)))

-- not of another precedence
pub line_does_not_say_another_precedence : (t : Tree) → ¬ LineSays (codes "0 l a") (Terminal 1 t)
line_does_not_say_another_precedence t h = let e = line_has_one_precedence 1 h.0 h.1.0 h.1.1.0 in omega (arith, e)

-- and isn't bad
pub line_of_a_literal_is_not_bad : ¬ LineSays (codes "0 l a") Bad
line_of_a_literal_is_not_bad h = h 0 forms.Literal (codes "a") line_of_a_literal

-- `x` is
pub x_is_bad : LineSays (codes "x") Bad
x_is_bad = x_is_no_line

pub x_says_no_terminal : (n : ℕ) (t : Tree) → ¬ LineSays (codes "x") (Terminal n t)
x_says_no_terminal n t h = x_is_no_line n h.0 h.1.0 h.1.1.0

-- `0 r *a` is a line whose pattern doesn't parse, since an operator must have something before it
line_of_no_pattern : IsLine (codes "0 r *a") 0 forms.Pattern (codes "*a")
unfolding lib.Utf8.encode
line_of_no_pattern = record { digits = codes "0"; parts = refl; precedence = zero_is_a_precedence; utf8 = (codes "0 r *a", (refl, refl)) }

chars_of_no_pattern : chars (codes "*a") ≡ codes "*a"
unfolding chars
chars_of_no_pattern = refl

operator_alone : (t : Tree) → Pattern (codes "*a") t → ⊥
unfolding reading.read reading.inside reading.expression_with reading.branches reading.row reading.row_step reading.directive_at reading.piece reading.atom
operator_alone = missing (codes "*a") refl

pub line_says_no_tree : LineSays (codes "0 r *a") NoTree
line_says_no_tree = (0, (codes "*a", (line_of_no_pattern, λ t h. operator_alone t (subst (λ w. Pattern w t) chars_of_no_pattern h))))

-- it is neither bad nor a terminal
pub line_of_no_pattern_is_not_bad : ¬ LineSays (codes "0 r *a") Bad
line_of_no_pattern_is_not_bad h = h 0 forms.Pattern (codes "*a") line_of_no_pattern

-- a line with a literal has a tree
pub line_of_a_literal_has_a_tree : ¬ LineSays (codes "0 l a") NoTree
line_of_a_literal_has_a_tree h = by_digits h.1.1.0.digits h.1.1.0.parts h.1.1.0.precedence.numeral.1
  where
    by_digits : (ds : List ℕ) → codes "0 l a" ≡ ds ++ (codes " " ++ (letter forms.Pattern ++ (codes " " ++ h.1.0))) → AllDigits 10 ds → ⊥
    by_digits [] e all = let m : 48 ≡ 32 = ap (λ u. get_or u 0 0) e in omega (arith, m)
    by_digits (d ∷ []) e all = let m : 108 ≡ 114 = ap (λ u. get_or u 2 0) e in omega (arith, m)
    by_digits (d ∷ c ∷ ds) e all = let m : 32 ≡ c = ap (λ u. get_or u 1 0) e in absurd (no_digit c all.1.0 (sym m))

-- so has one with the empty pattern
line_of_the_empty_pattern_has_a_tree : ¬ LineSays (codes "0 r ") NoTree
line_of_the_empty_pattern_has_a_tree h = h.1.1.1 empty (subst (λ w. Spells forms.Pattern w empty) (by_digits h.1.1.0.digits h.1.1.0.parts h.1.1.0.precedence.numeral.1) empty_pattern_spells_the_empty_tree)
  where
    by_digits : (ds : List ℕ) → codes "0 r " ≡ ds ++ (codes " " ++ (letter forms.Pattern ++ (codes " " ++ h.1.0))) → AllDigits 10 ds → [] ≡ h.1.0
    by_digits [] e all = let m : 48 ≡ 32 = ap (λ u. get_or u 0 0) e in absurd (omega (arith, m))
    by_digits (d ∷ []) e all = ap (drop 4) e
    by_digits (d ∷ c ∷ ds) e all = let m : 32 ≡ c = ap (λ u. get_or u 1 0) e in absurd (no_digit c all.1.0 (sym m))

-- `x` is bad, which differs from a pattern that doesn't parse
pub x_is_not_without_a_tree : ¬ LineSays (codes "x") NoTree
x_is_not_without_a_tree h = x_is_no_line h.0 forms.Pattern h.1.0 h.1.1.0
