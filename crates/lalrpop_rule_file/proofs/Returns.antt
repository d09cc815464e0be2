-- A line without the carriage return at its end.
use Rattle.std.proofs.Common.{◌≡◌, ◌≢◌, ℕ, List, [], ◌∷◌, ◌++◌, length, take, drop, refl, sym, ap, ◌∙◌, ◌⊎◌, inl, inr, Bool, true, false, arith, eqb-true, ne_eqb, ◌-◌}
use Rattle.std.specs.Prelude.{◌==◌}
use Rattle.std.specs.Str.Pattern.{StripsSuffix, FindsCharSuffix}
use Rattle.std.proofs.lemmas.List.{take-append-drop}
use Rattle.std.proofs.lemmas.Str.Pattern.{drop_at_char}
use Rattle.lalrpop_rule_file.specs.RuleFile.{without_return}

-- it is taken off
pub return_off : (front : List ℕ) → without_return (front ++ (13 ∷ [])) ≡ front
return_off [] = refl
return_off (b ∷ []) = refl
return_off (b ∷ c ∷ bs) = ap (λ (x : List ℕ). b ∷ x) (return_off (c ∷ bs))

-- and nothing else is
pub no_return : (line : List ℕ) → ((front : List ℕ) → line ≢ front ++ (13 ∷ [])) → without_return line ≡ line
no_return [] none = refl
no_return (b ∷ []) none = rw (ne_eqb b 13 (λ e. none [] (ap (λ (x : ℕ). x ∷ []) e))) refl
no_return (b ∷ c ∷ bs) none = ap (λ (x : List ℕ). b ∷ x) (no_return (c ∷ bs) (λ front e. none (b ∷ front) (ap (λ (x : List ℕ). b ∷ x) e)))

nothing_behind : (s : List ℕ) → drop (length s) s ≡ []
nothing_behind [] = refl
nothing_behind (b ∷ bs) = nothing_behind bs

-- what a text is that ends in one
pub return_stripped : (s x : List ℕ) → StripsSuffix (FindsCharSuffix 13) s x → s ≡ x ++ (13 ∷ [])
return_stripped s x (n, found, front, len) =
    let at = length s - n in
    let here : drop at s ≡ 13 ∷ drop (length s) s = drop_at_char 13 s at (length s) found.1 (omega arith) in
    let end : drop at s ≡ 13 ∷ [] = here ∙ ap (λ (y : List ℕ). 13 ∷ y) (nothing_behind s) in
    sym (take-append-drop at s) ∙ ap (λ (y : List ℕ). take at s ++ y) end ∙ ap (λ (y : List ℕ). y ++ (13 ∷ [])) (sym front)

pub return_parts : (line : List ℕ) → (without_return line ≡ line) ⊎ (line ≡ without_return line ++ (13 ∷ []))
return_parts [] = inl refl
return_parts (b ∷ []) = by (b == 13) refl
  where
    by : (t : Bool) → (b == 13) ≡ t → (without_return (b ∷ []) ≡ b ∷ []) ⊎ (b ∷ [] ≡ without_return (b ∷ []) ++ (13 ∷ []))
    by true e = inr (rw e (ap (λ (x : ℕ). x ∷ []) (eqb-true b 13 e)))
    by false e = inl (rw e refl)
return_parts (b ∷ c ∷ bs) = by (return_parts (c ∷ bs))
  where
    by : (without_return (c ∷ bs) ≡ c ∷ bs) ⊎ (c ∷ bs ≡ without_return (c ∷ bs) ++ (13 ∷ []))
        → (b ∷ without_return (c ∷ bs) ≡ b ∷ c ∷ bs) ⊎ (b ∷ c ∷ bs ≡ b ∷ (without_return (c ∷ bs) ++ (13 ∷ [])))
    by (inl same) = inl (ap (λ (x : List ℕ). b ∷ x) same)
    by (inr parts) = inr (ap (λ (x : List ℕ). b ∷ x) parts)
