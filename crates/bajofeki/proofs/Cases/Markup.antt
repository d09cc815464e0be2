-- Cases of specs/Markup.antt.
use Rattle.std.proofs.Common.{◌≡◌, ◌≢◌, ℕ, inl, inr, List, [], ◌∷◌, ◌++◌, length, get_or, codes, refl, ap, arith}
use Rattle.std.specs.Prelude.{Some, None}
use Rattle.bajofeki.specs.Markup.{entity, span, mark, outside, IsTag, IsEntity}

less_has_an_entity : entity 60 ≡ Some (codes "&lt;")
less_has_an_entity = refl

letter_has_none : entity 97 ≡ None
letter_has_none = refl

apostrophe_has_none : entity 39 ≡ None
apostrophe_has_none = refl

-- tags are taken out, and entities undone
text_of_a_span : outside (codes "<b>a&lt;b</b>!") ≡ codes "a<b!"
text_of_a_span = refl

each_entity_is_undone : outside (codes "&lt;&gt;&amp;&quot;&#13;") ≡ codes "<>&\"" ++ 13 ∷ []
each_entity_is_undone = refl

-- another entity stands for nothing
unknown_entity : outside (codes "a&nbsp;b") ≡ codes "ab"
unknown_entity = refl

-- a carriage return is kept as an entity alone
carriage_return_left_alone : outside (13 ∷ 10 ∷ []) ≡ 10 ∷ []
carriage_return_left_alone = refl

-- no fault is confused with a token, whatever its rule is called
mark_is_no_span : (class text other : List ℕ) → mark text ≢ span class other
mark_is_no_span class text other e = let n : 109 ≡ 115 = ap (λ (bytes : List ℕ). get_or bytes 1 0) e in omega (arith, n)

-- an ampersand that begins no entity is lost, so it is never written as itself
ampersand_left_alone : outside (codes "a&b") ≢ codes "a&b"
ampersand_left_alone e = let n : 1 ≡ 3 = ap length e in omega (arith, n)

less_left_alone : outside (codes "a<b") ≢ codes "a<b"
less_left_alone e = let n : 1 ≡ 3 = ap length e in omega (arith, n)

-- what stands in a tag is no text
class_is_no_text : outside (codes "<i class=\"x\">y") ≡ codes "y"
class_is_no_text = refl

-- ---- tags and entities

a_tag : IsTag (codes "</span>")
a_tag = inr (inl refl)

another_tag : ¬ IsTag (codes "<b>")
another_tag (inl (class, (is, rest))) = let n : 98 ≡ 115 = ap (λ (bytes : List ℕ). get_or bytes 1 0) is in omega (arith, n)
another_tag (inr (inl is)) = let n : 98 ≡ 47 = ap (λ (bytes : List ℕ). get_or bytes 1 0) is in omega (arith, n)
another_tag (inr (inr (inl is))) = let n : 98 ≡ 109 = ap (λ (bytes : List ℕ). get_or bytes 1 0) is in omega (arith, n)
another_tag (inr (inr (inr is))) = let n : 98 ≡ 47 = ap (λ (bytes : List ℕ). get_or bytes 1 0) is in omega (arith, n)

an_entity : IsEntity (codes "&#13;")
an_entity = (13, refl)
