use Rattle.std.proofs.Common.{◌≡◌, ◌↔◌, ◌==◌, ℕ, Bool, List, [], ◌∷◌, length, refl, arith, IsTrue}
use Rattle.std.proofs.lemmas.Bool.Decides.{nat_tests}
use Rattle.uses_lexer.proofs.find_clashes.clash_count.Goals as goal

none_told : {A : Type 0} (xs : List A) (n : ℕ) (none : Bool) (P : Type 0) → n ≡ length xs → none ≡ (n == 0) → (xs ≡ []) ↔ P → IsTrue none ↔ P
none_told [] n none P size test h = (λ yes. h.0 refl, λ p. grind (arith, nat_tests))
none_told (x ∷ xs) n none P size test h = (λ told. absurd (grind (arith, nat_tests)), λ p. let e : x ∷ xs ≡ [] = h.1 p in absurd (cc))

pub returns-clause-clear : goal.returns-clause-clear
returns-clause-clear c =
    let found = c.in_ok-found.found in
    none_told found.items _ c.is_empty.result _ found.ok.0 c.is_empty.ensures c.in_ok-found.ensures.empty
