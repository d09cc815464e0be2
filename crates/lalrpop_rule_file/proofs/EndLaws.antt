-- Patterns that pass their end.
use Rattle.std.proofs.Common.{◌≡◌, ℕ, ◌↔◌, inl, inr, Bool, false, List, ◌++◌, codes, drop, sym, ap, subst, ◌∙◌}
use Rattle.std.specs.Prelude.{IsTrue}
use Rattle.std.proofs.lemmas.Bool.{false≢true}
use Rattle.std.proofs.lemmas.List.{append_cancel_left}
use Rattle.lalrpop_rule_file.specs.PassedEnd.{ArePlain, IsBetweenPlain, IsWordThenPlain, PassesEnd}

-- after a word
pub then_plain : (text word rest : List ℕ) (found : Bool) → text ≡ word ++ rest → IsTrue found ↔ ArePlain rest → IsTrue found ↔ IsWordThenPlain text word
then_plain text word rest found is plain = (λ holds. (rest, (is, plain.0 holds)), λ stands. by stands)
  where
    by : IsWordThenPlain text word → IsTrue found
    by (other, (own, plain-there)) = plain.1 (subst ArePlain (append_cancel_left word other rest (sym own ∙ is)) plain-there)

-- after the flag
pub flagged : (pattern rest : List ℕ) (whole found : Bool) → pattern ≡ codes "(?s)" ++ rest → whole ≡ false → IsTrue whole ↔ IsBetweenPlain pattern → IsTrue found ↔ IsBetweenPlain rest → IsTrue found ↔ PassesEnd pattern
flagged pattern rest whole found begun lacks stands is = (λ holds. inr (rest, (begun, is.0 holds)), λ passes. by passes)
  where
    by : PassesEnd pattern → IsTrue found
    by (inl here) = absurd (false≢true (sym lacks ∙ stands.1 here))
    by (inr (other, (own, here))) = let same : other ≡ rest = ap (drop 4) (sym own ∙ begun) in is.1 (subst IsBetweenPlain same here)
