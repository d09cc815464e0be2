-- Stacks are the same if the modes on top are, and so are those below, in whichever order they are read.
use Rattle.std.proofs.Common.{◌≡◌, ◌∙◌, ℕ, Bool, ◌&&◌, List, nat_eq, reverse, Decides, refl, ap, sym}
use Rattle.std.proofs.lemmas.Bool.{and_parts, and_from}
use Rattle.std.proofs.lemmas.Bool.Decides.{Decides-eqb}
use Rattle.std.proofs.lemmas.List.{reverse-reverse}
use Rattle.std.proofs.lemmas.Slice.Eq.{slice_eq-Decides}
use Rattle.std.specs.Cmp.Lexicographic.{pointwise}
use Rattle.bajofeki_rules.specs.Stack.{Stack}

below_decides : (xs ys : List ℕ) → Decides (pointwise nat_eq xs ys) (xs ≡ ys)
below_decides xs ys = slice_eq-Decides Decides-eqb xs ys (pointwise nat_eq xs ys) refl

pub stack_decides : (s t : Stack) → Decides (nat_eq s.mode t.mode && pointwise nat_eq s.below t.below) (s ≡ t)
stack_decides s t = (
  (λ h. let both = and_parts (nat_eq s.mode t.mode) (pointwise nat_eq s.below t.below) h in
      let mode : s.mode ≡ t.mode = (Decides-eqb s.mode t.mode).0 both.0 in
      let below : s.below ≡ t.below = (below_decides s.below t.below).0 both.1 in
      λ i. record { mode = mode i; below = below i }),
  (λ e. and_from (nat_eq s.mode t.mode) (pointwise nat_eq s.below t.below)
      ((Decides-eqb s.mode t.mode).1 (ap (λ (u : Stack). u.mode) e)) ((below_decides s.below t.below).1 (ap (λ (u : Stack). u.below) e))),
)

-- reverse is injective
turned_back : (xs ys : List ℕ) → reverse xs ≡ reverse ys → xs ≡ ys
turned_back xs ys e = sym (reverse-reverse xs) ∙ ap reverse e ∙ reverse-reverse ys

-- a stack from the mode on top and the modes below it, the next one last
abbrev turned : ℕ → List ℕ → Stack
turned mode items = record { mode = mode; below = reverse items }

-- where the modes on top are the same, comparing those below in that order is enough
pub turned_decides : {s t : Stack} (m n : ℕ) (xs ys : List ℕ) → turned m xs ≡ s → turned n ys ≡ t → m ≡ n
    → (r : Bool) → r ≡ pointwise nat_eq xs ys → Decides r (s ≡ t)
turned_decides m n xs ys s_is t_is top r is_r =
    let items = slice_eq-Decides Decides-eqb xs ys r is_r in (
      (λ h. sym s_is ∙ (λ i. turned (top i) (items.0 h i)) ∙ t_is),
      (λ e. items.1 (turned_back xs ys (ap (λ (u : Stack). u.below) (s_is ∙ e ∙ sym t_is)))),
    )
