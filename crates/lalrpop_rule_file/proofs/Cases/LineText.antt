-- Cases of specs/LineText.antt.
use Rattle.std.proofs.Common.{◌≡◌, ℕ, zero, suc, ◌<◌, true, false, List, [], ◌∷◌, ◌++◌, length, get_or, drop, codes, refl, sym, ap, subst, ◌∙◌, arith, Some, None}
use Rattle.std.proofs.lemmas.Bool.{false≢true}
use Rattle.lalrpop_rule_file.specs.Words.{AreBlanks, is_blank}
use Rattle.lalrpop_rule_file.specs.LineText.{Literal, Escaped, Pattern, Text, Quoted, AnyCase, FromTo, BeginsText, IsTo, IsUpToTo, NoToBefore, delimiter, precedence_or}
use Rattle.lalrpop_rule_file.proofs.FromTos.{IsUpToTo-unique}

delimiters : (delimiter Literal ≡ 39) × (delimiter Escaped ≡ 34) × (delimiter Pattern ≡ 47)
delimiters = (refl, refl, refl)

literals_have_precedence_1 : (text : List ℕ) → (precedence_or (Quoted Literal text) None ≡ 1) × (precedence_or (Quoted Escaped text) None ≡ 1) × (precedence_or (AnyCase text) None ≡ 1)
literals_have_precedence_1 text = (refl, refl, refl)

others_have_precedence_0 : (text : List ℕ) → (precedence_or (Quoted Pattern text) None ≡ 0) × (precedence_or (FromTo text text) None ≡ 0)
others_have_precedence_0 text = (refl, refl)

precedence_of_its_own : (text : Text) → precedence_or text (Some 12) ≡ 12
precedence_of_its_own text = refl

-- ---- `' to '`

two_blanks_and_none : IsTo (codes "'  to'b'") (codes "b'")
two_blanks_and_none = record {
  gap = codes "  ";
  gap2 = [];
  first = codes "  to'b'";
  second = codes "'b'";
  quote = refl;
  blanks = record { parts = refl; passes = (refl, (refl, tt)); stops = refl };
  some = omega arith;
  blanks2 = record { parts = refl; passes = tt; stops = refl };
}

first_is : (text rest : List ℕ) → IsTo text rest → get_or text 0 0 ≡ 39
first_is text rest to = ap (λ (x : List ℕ). get_or x 0 0) to.quote

nothing_is_none : (rest : List ℕ) → ¬ IsTo [] rest
nothing_is_none rest to = let k : 0 ≡ 39 = first_is [] rest to in omega (arith, k)

letter_is_none : (rest : List ℕ) → ¬ IsTo (codes "a' to 'b'") rest
letter_is_none rest to = let k : 97 ≡ 39 = first_is (codes "a' to 'b'") rest to in omega (arith, k)

-- without a blank before it `to` is a part of A
no_blank_there : (gap more : List ℕ) → 0 < length gap → AreBlanks gap → codes "to'b'" ≡ gap ++ more → ⊥
no_blank_there [] more some blanks e = omega (arith, some)
no_blank_there (b ∷ gap) more some blanks e = let t : 116 ≡ b = ap (λ (x : List ℕ). get_or x 0 0) e in false≢true (ap is_blank t ∙ blanks.0)

blank_is_missing : (rest : List ℕ) → ¬ IsTo (codes "'to'b'") rest
blank_is_missing rest to = no_blank_there to.gap (codes "to" ++ to.second) to.some to.blanks.passes (ap (drop 1) to.quote ∙ to.blanks.parts)

none_before_the_front : (text : List ℕ) → NoToBefore text 0
none_before_the_front text k less rest to = omega (arith, less)

one_at_the_front : ¬ NoToBefore (codes "'  to'b'") 1
one_at_the_front none = none 0 (omega arith) (codes "b'") two_blanks_and_none

-- A may be empty
empty_start : IsUpToTo (codes "'  to'b'") [] (codes "b'")
empty_start = record { mark = codes "'  to'b'"; parts = refl; is_to = two_blanks_and_none; first = none_before_the_front (codes "'  to'b'") }

only_a_letter : NoToBefore (codes "a'  to'b'") 1
only_a_letter zero less rest to = let k : 97 ≡ 39 = first_is (codes "a'  to'b'") rest to in omega (arith, k)
only_a_letter (suc k) less rest to = omega (arith, less)

pub start_of_one_letter : IsUpToTo (codes "a'  to'b'") (codes "a") (codes "b'")
start_of_one_letter = record { mark = codes "'  to'b'"; parts = refl; is_to = two_blanks_and_none; first = only_a_letter }

-- A ends at the first one
at_the_first : IsUpToTo (codes "'  to'  to'b'") [] (codes "  to'b'")
at_the_first = record {
  mark = codes "'  to'  to'b'";
  parts = refl;
  is_to = record {
    gap = codes "  ";
    gap2 = [];
    first = codes "  to'  to'b'";
    second = codes "'  to'b'";
    quote = refl;
    blanks = record { parts = refl; passes = (refl, (refl, tt)); stops = refl };
    some = omega arith;
    blanks2 = record { parts = refl; passes = tt; stops = refl };
  };
  first = none_before_the_front (codes "'  to'  to'b'");
}

not_at_the_second : ¬ IsUpToTo (codes "'  to'  to'b'") (codes "'  to") (codes "b'")
not_at_the_second is =
    let k : 5 ≡ 0 = ap length (IsUpToTo-unique (codes "'  to'  to'b'") (codes "'  to") (codes "b'") [] (codes "  to'b'") is at_the_first).0 in omega (arith, k)

-- ---- where a text begins

literal_with_an_apostrophe : BeginsText (Quoted Literal (codes "a'b")) (codes "a'b' \t")
literal_with_an_apostrophe = (codes " \t", (refl, (refl, (refl, tt))))

-- no escape is looked at here: the last quote ends the text
quote_behind_a_backslash : BeginsText (Quoted Escaped (codes "a\\")) (codes "a\\\"")
quote_behind_a_backslash = ([], (refl, tt))

in_any_case : BeginsText (AnyCase (codes "a'b")) (codes "a'b' ")
in_any_case = (codes " ", (refl, (refl, tt)))

any_case_without_an_apostrophe : ¬ BeginsText (AnyCase (codes "a")) (codes "a\"")
any_case_without_an_apostrophe (trail, (parts, blanks)) = let k : 34 ≡ 39 = ap (λ (x : List ℕ). get_or x 1 0) parts in omega (arith, k)

start_and_end : BeginsText (FromTo [] (codes "b")) (codes "'  to'b'")
start_and_end = ([], (empty_start, tt))

letter_is_blank : (bs : List ℕ) → codes "b" ≡ bs → AreBlanks bs → false ≡ true
letter_is_blank bs e h = (subst AreBlanks (sym e) h).0

letter_behind : ¬ BeginsText (Quoted Pattern (codes "a")) (codes "a/b")
letter_behind (trail, (parts, blanks)) = let t : codes "b" ≡ trail = ap (drop 2) parts in false≢true (letter_is_blank trail t blanks)

-- none stands in `a'b`
no_letter_there : (gap more : List ℕ) → 0 < length gap → AreBlanks gap → codes "b" ≡ gap ++ more → ⊥
no_letter_there [] more some blanks e = omega (arith, some)
no_letter_there (b ∷ gap) more some blanks e = let t : 98 ≡ b = ap (λ (x : List ℕ). get_or x 0 0) e in false≢true (ap is_blank t ∙ blanks.0)

pub letter_is_no_to : NoToBefore (codes "a'b") 3
letter_is_no_to zero less rest to = let k : 97 ≡ 39 = first_is (codes "a'b") rest to in omega (arith, k)
letter_is_no_to (suc zero) less rest to = no_letter_there to.gap (codes "to" ++ to.second) to.some to.blanks.passes (ap (drop 1) to.quote ∙ to.blanks.parts)
letter_is_no_to (suc (suc zero)) less rest to = let k : 98 ≡ 39 = first_is (codes "b") rest to in omega (arith, k)
letter_is_no_to (suc (suc (suc k))) less rest to = omega (arith, less)
