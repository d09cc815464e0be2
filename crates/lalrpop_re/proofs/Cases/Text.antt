-- Cases of specs/Text.antt.
use Rattle.std.proofs.Common.{◌≡◌, [], true, false, codes, refl}
use Rattle.lalrpop_re.specs.Text.{◌▸◌, begins}

-- a word, and the text after it
word_stands_before_a_text : codes "ab" ▸ codes "c" ≡ codes "abc"
word_stands_before_a_text = refl

-- a text begins with a word if all of the word is there
text_begins_with_a_word : (begins "ab" (codes "abc") ≡ true) × (begins "" [] ≡ true)
text_begins_with_a_word = (refl, refl)

text_does_not_begin_with_a_longer_word : (begins "ab" (codes "a") ≡ false) × (begins "b" (codes "ab") ≡ false)
text_does_not_begin_with_a_longer_word = (refl, refl)
