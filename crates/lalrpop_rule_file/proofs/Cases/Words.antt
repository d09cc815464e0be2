-- Cases of specs/Words.antt.
use Rattle.std.proofs.Common.{◌≡◌, ℕ, Bool, true, false, [], codes, refl, sym}
use Rattle.std.proofs.lemmas.Bool.{false≢true}
use Rattle.lalrpop_rule_file.specs.Words.{AreBlanks, EachByte, IsSpan, Lacks, begins, begins_name, is_blank, is_no_apostrophe, is_of_name}

tabs_are_blanks : AreBlanks (codes " \t")
tabs_are_blanks = (refl, (refl, tt))

letters_are_no_blanks : ¬ AreBlanks (codes " a")
letters_are_no_blanks h = false≢true h.1.0

line_feed_is_no_blank : is_blank 10 ≡ false
line_feed_is_no_blank = refl

letter_begins : begins begins_name (codes "a1") ≡ true
letter_begins = refl

digit_begins_no_name : begins begins_name (codes "1a") ≡ false
digit_begins_no_name = refl

nothing_begins : begins begins_name [] ≡ false
nothing_begins = refl

whole_word : IsSpan is_of_name (codes "_a1-b") (codes "_a1") (codes "-b")
whole_word = record { parts = refl; passes = (refl, (refl, (refl, tt))); stops = refl }

half_a_word : ¬ IsSpan is_of_name (codes "ab") (codes "a") (codes "b")
half_a_word span = false≢true (sym span.stops)

no_byte_fails : (p : ℕ → Bool) → EachByte p []
no_byte_fails p = tt

slash_is_no_apostrophe : Lacks 39 (codes "/")
slash_is_no_apostrophe = (refl, tt)

apostrophe_is_one : ¬ Lacks 39 (codes "/'")
apostrophe_is_one lacks = false≢true lacks.1.0

up_to_the_apostrophe : IsSpan is_no_apostrophe (codes "a'b") (codes "a") (codes "'b")
up_to_the_apostrophe = record { parts = refl; passes = (refl, tt); stops = refl }
