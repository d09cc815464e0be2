-- The members of the objects of a review.
use Rattle.std.proofs.Common.{◌≡◌, ℕ, ◌+◌, List, [], ◌∷◌, ◌++◌, codes, decimal, sym, ap, ◌∙◌, append_assoc, refl}
use Rattle.std.specs.Prelude.{Result, OnOk}
use Rattle.std.specs.Fmt.{digits}
use Rattle.json.specs.Print.{IsNumber}
use Rattle.json.specs.Token.{Token, key, number}
use Rattle.json.specs.Word.{after_number}
use Rattle.reports_lib.specs.PieceLines.{number_member}
use Rattle.reports_lib.proofs.Steps.{where_ok, four_steps}

-- ---- steps, of which the last may fail

pub three_steps : {T E : Type 0} (r : Result (Unit {0}) E) (a0 a1 a2 a3 k l m : List T)
    → a1 ≡ a0 ++ k → a2 ≡ a1 ++ l → OnOk r (a3 ≡ a2 ++ m) → OnOk r (a3 ≡ a0 ++ (k ++ (l ++ m)))
three_steps r a0 a1 a2 a3 k l m first second last =
    where_ok _ _ r (λ (third : a3 ≡ a2 ++ m). third ∙ ap (λ x. x ++ m) (second ∙ ap (λ x. x ++ l) first) ∙ append_assoc (a0 ++ k) l m ∙ append_assoc a0 k (l ++ m)) last

pub five_steps : {T E : Type 0} (r : Result (Unit {0}) E) (a0 a1 a2 a3 a4 a5 k l m n o : List T)
    → a1 ≡ a0 ++ k → a2 ≡ a1 ++ l → a3 ≡ a2 ++ m → a4 ≡ a3 ++ n → OnOk r (a5 ≡ a4 ++ o) → OnOk r (a5 ≡ a0 ++ (k ++ (l ++ (m ++ (n ++ o)))))
five_steps r a0 a1 a2 a3 a4 a5 k l m n o first second third fourth last =
    three_steps r a0 a1 a2 a5 k l (m ++ (n ++ o)) first second (three_steps r a2 a3 a4 a5 m n o third fourth last)

pub six_steps : {T E : Type 0} (r : Result (Unit {0}) E) (a0 a1 a2 a3 a4 a5 a6 k l m n o p : List T)
    → a1 ≡ a0 ++ k → a2 ≡ a1 ++ l → a3 ≡ a2 ++ m → a4 ≡ a3 ++ n → a5 ≡ a4 ++ o → OnOk r (a6 ≡ a5 ++ p)
    → OnOk r (a6 ≡ a0 ++ (k ++ (l ++ (m ++ (n ++ (o ++ p))))))
six_steps r a0 a1 a2 a3 a4 a5 a6 k l m n o p first second third fourth fifth last =
    three_steps r a0 a1 a2 a6 k l (m ++ (n ++ (o ++ p))) first second (four_steps r a2 a3 a4 a5 a6 m n o p third fourth fifth last)

-- ---- one more than the greatest count

-- it is a number
pub past_all_is_number : IsNumber (codes "18446744073709551616")
unfolding after_number
past_all_is_number = refl

past_all_told : decimal 18446744073709551616 ≡ codes "18446744073709551616"
unfolding digits
past_all_told = refl

pub past_all : {E : Type 0} (r : Result (Unit {0}) E) (count : ℕ) (old begun new : List Token) → count + 1 ≡ 18446744073709551616 → begun ≡ old ++ key (codes "past") ∷ []
    → OnOk r (new ≡ begun ++ number (codes "18446744073709551616") ∷ []) → OnOk r (new ≡ old ++ number_member (codes "past") (count + 1))
past_all r count old begun new e begin last =
    where_ok _ _ r
    (λ (end : new ≡ begun ++ number (codes "18446744073709551616") ∷ []).
    end ∙ ap (λ (x : List Token). x ++ number (codes "18446744073709551616") ∷ []) begin
    ∙ append_assoc old (key (codes "past") ∷ []) (number (codes "18446744073709551616") ∷ [])
    ∙ ap (λ (x : List ℕ). old ++ (key (codes "past") ∷ number x ∷ [])) (sym (ap decimal e ∙ past_all_told)))
    last
