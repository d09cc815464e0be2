-- The fragment of a tree that can be compiled has exactly as many states as the size of the tree.
use Rattle.std.proofs.Common.{◌≡◌, ℕ, zero, suc, ◌≤◌, ◌+◌, ◌-◌, ◌*◌, List, [], ◌∷◌, length, refl, ap, ◌∙◌, arith}
use Rattle.std.proofs.Math.Nat.{suc-mul}
use Rattle.std.specs.Prelude.{Some, None}
use Rattle.lalrpop_hir.specs.Range.{Range}
use Rattle.lalrpop_hir.specs.Tree.{Class, unicode, bytes, Tree, empty, literal, class, look, repetition, capture, concat, alternation, Trees, none, also}
use Rattle.lalrpop_hir.specs.Size.{size, sum_of_sizes, repeated_size}
use Rattle.lalrpop_nfa.specs.Internal.Fragment.{Construction, before, one_of, literal_expr, copies, optional_expr, optional_copies, star_expr, repeat_expr, class_construction, fragment_of, concat_expr, branches}
use Rattle.lalrpop_hir.specs.Fault.{fault}
use Rattle.lalrpop_nfa.specs.Internal.Valid.{IsValid}
use Rattle.lalrpop_nfa.proofs.Compilable.{IsCompilableWithin, AreCompilableWithin, only, plain}

-- the construction adds z states
abbrev pub HasSize : ℕ → Construction → Type 0
HasSize z x = (target n : ℕ) → (x target n).size ≡ z

Size-before : (y z : ℕ) (a b : Construction) → HasSize y a → HasSize z b → HasSize (y + z) (before a b)
Size-before y z a b f g target n = omega (arith, g target n, f (b target n).entry (n + (b target n).size))

Size-literal_expr : (cs : List ℕ) → HasSize (length cs) (literal_expr cs)
Size-literal_expr [] target n = refl
Size-literal_expr (c ∷ cs) target n = Size-before 1 (length cs) (one_of (only c ∷ [])) (literal_expr cs) (λ t k. refl) (Size-literal_expr cs) target n ∙ omega arith

Size-class_construction : (a : Class) → HasSize 1 (class_construction a)
Size-class_construction (unicode rs) target n = refl
Size-class_construction (bytes rs) target n = refl

add_times : (j k z : ℕ) → (j + k) * z ≡ j * z + k * z
add_times zero k z = omega arith
add_times (suc j) k z = let e : suc j + k ≡ suc (j + k) = omega arith in rw e (omega (arith, add_times j k z, suc-mul (j + k) z, suc-mul j z))

module _ (z : ℕ) (x : Construction) (f : HasSize z x) where
  Size-copies : (k : ℕ) → HasSize (k * z) (copies x k)
  Size-copies zero target n = omega arith
  Size-copies (suc k) target n = Size-before z (k * z) x (copies x k) f (Size-copies k) target n ∙ omega (arith, suc-mul k z)

  Size-optional_expr : HasSize (z + 1) (optional_expr x)
  Size-optional_expr target n = omega (arith, f target n)

  Size-optional_copies : (k : ℕ) → HasSize (k * z + k) (optional_copies x k)
  Size-optional_copies zero target n = omega arith
  Size-optional_copies (suc k) target n = Size-before (z + 1) (k * z + k) (optional_expr x) (optional_copies x k) Size-optional_expr (Size-optional_copies k) target n ∙ omega (arith, suc-mul k z)

  Size-star_expr : HasSize (z + 1) (star_expr x)
  Size-star_expr target n = omega (arith, f n (n + 1))

  Size-counted : (min max : ℕ) → min ≤ max → HasSize (max * z + (max - min)) (repeat_expr x min (Some max))
  Size-counted min max o target n =
      let e : min + (max - min) ≡ max = omega arith in
      Size-before (min * z) ((max - min) * z + (max - min)) (copies x min) (optional_copies x (max - min)) (Size-copies min) (Size-optional_copies (max - min)) target n
      ∙ omega (arith, add_times min (max - min) z, ap (λ i. i * z) e)

  Size-open : (min : ℕ) → HasSize (repeated_size min None z) (repeat_expr x min None)
  Size-open zero target n = Size-star_expr target n
  Size-open (suc zero) target n = Size-star_expr target n
  Size-open (suc (suc k)) target n =
      Size-before (suc (suc k) * z) (z + 1) (copies x (suc (suc k))) (star_expr x) (Size-copies (suc (suc k))) Size-star_expr target n ∙ omega arith

-- a sub that is never repeated adds nothing
Size-never : (z : ℕ) (x : Construction) → HasSize (repeated_size 0 (Some 0) z) (repeat_expr x 0 (Some 0))
Size-never z x target n = omega arith

module _ (K : Range → Type 0) where
  mutual
    pub compilable_size : (t : Tree) → IsCompilableWithin K t → HasSize (size t) (fragment_of t)
    compilable_size empty p = λ target n. refl
    compilable_size (literal cs) p = Size-literal_expr cs
    compilable_size (class a) p = Size-class_construction a
    compilable_size (look l) p = absurd p
    compilable_size (repetition min None greedy t) p = Size-open (size t) (fragment_of t) (compilable_size t p) min
    compilable_size (repetition min (Some zero) greedy t) p = rw p (Size-never (size t) (fragment_of t))
    compilable_size (repetition min (Some (suc max)) greedy t) p = Size-counted (size t) (fragment_of t) (compilable_size t p.1) min (suc max) p.0
    compilable_size (capture name t) p = compilable_size t p
    compilable_size (concat ts) p = concat_size ts p
    compilable_size (alternation ts) p = λ target n. omega (arith, branches_size ts p target (n + 1))

    pub concat_size : (ts : Trees) → AreCompilableWithin K ts → HasSize (sum_of_sizes ts) (concat_expr ts)
    concat_size none p = λ target n. refl
    concat_size (also t ts) p = Size-before (size t) (sum_of_sizes ts) (fragment_of t) (concat_expr ts) (compilable_size t p.0) (concat_size ts p.1)

    pub branches_size : (ts : Trees) → AreCompilableWithin K ts → (target n : ℕ) → (branches ts target n).size ≡ sum_of_sizes ts
    branches_size none p = λ target n. refl
    branches_size (also t ts) p = λ target n. omega (arith, compilable_size t p.0 target n, branches_size ts p.1 target (n + (fragment_of t target n).size))

pub fragment_size : (t : Tree) → IsValid t → fault t ≡ None → (target n : ℕ) → (fragment_of t target n).size ≡ size t
fragment_size t s f = compilable_size (λ _. Unit {0}) t (plain (λ _. Unit {0}) t s f (λ r m u v. tt))
