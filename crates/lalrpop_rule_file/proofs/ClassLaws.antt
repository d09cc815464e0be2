-- Classes outside of brackets.
use Rattle.std.proofs.Common.{◌≡◌, ℕ, ◌↔◌, List, ◌∷◌, length, refl, sym, subst, arith}
use Rattle.lalrpop_rule_file.specs.OutsideClass.{BeginsOne, HasClass, after_one, classes, here, further}

pub class_here : (depth b : ℕ) (rest text : List ℕ) → depth ≡ 0 → rest ≡ b ∷ text → BeginsOne classes rest → HasClass depth rest
class_here depth b rest text none is begins = rw (none, is) (here (rw is at begins))

pub none_at_end : (depth : ℕ) (rest : List ℕ) → length rest ≡ 0 → ¬ HasClass depth rest
none_at_end depth rest end (here begins) = absurd (omega (arith, end))
none_at_end depth rest end (further has) = absurd (omega (arith, end))

-- if no class is here, one is further on
is_further : (depth b : ℕ) (text : List ℕ) → (depth ≡ 0 → ¬ BeginsOne classes (b ∷ text)) → HasClass depth (b ∷ text) → HasClass (after_one depth b text).0 (after_one depth b text).1
is_further depth b text none (here begins) = absurd (none refl begins)
is_further depth b text none (further has) = has

-- so the question is the one about what follows
pub asked_further : (pattern rest text left : List ℕ) (depth b next : ℕ) → rest ≡ b ∷ text → ◌≡◌ {A = ℕ × List ℕ} (next, left) (after_one depth b text) → (depth ≡ 0 → ¬ BeginsOne classes rest) → HasClass 0 pattern ↔ HasClass depth rest
    → HasClass 0 pattern ↔ HasClass next left
asked_further pattern rest text left depth b next is after none same = (
  λ has. subst (λ (x : ℕ × List ℕ). HasClass x.0 x.1) (sym after) (is_further depth b text (subst (λ (x : List ℕ). depth ≡ 0 → ¬ BeginsOne classes x) is none) (subst (HasClass depth) is (same.0 has))),
  λ has. same.1 (subst (HasClass depth) (sym is) (further (subst (λ (x : ℕ × List ℕ). HasClass x.0 x.1) after has))),
)
