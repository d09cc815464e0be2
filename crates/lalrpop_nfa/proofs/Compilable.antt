-- Trees that can be compiled, as one recursion: validity and the lack of a fault together.
use Rattle.std.proofs.Common.{◌≡◌, ℕ, zero, suc, ◌+◌, ◌<◌, ◌≤◌, List, [], ◌∷◌, refl, subst, arith, inl, inr, true, false}
use Rattle.std.specs.Prelude.{Option, Some, None}
use Rattle.std.specs.List.{Contains}
use Rattle.std.specs.Option.{option_or}
use Rattle.lalrpop_hir.specs.Range.{Range}
use Rattle.lalrpop_hir.specs.Runs.{IsScalar, IsByte, next_scalar, AreApart, HaveEndsIn}
use Rattle.lalrpop_hir.specs.Tree.{Class, unicode, bytes, Tree, empty, literal, class, look, repetition, capture, concat, alternation, Trees, none, also}
use Rattle.lalrpop_hir.proofs.Canons.{head-holds, tail-apart}
use Rattle.lalrpop_hir.specs.Meet.{Meet}
use Rattle.lalrpop_hir.specs.Fault.{fault, last_fault, first_fault}
use Rattle.lalrpop_nfa.specs.Compiled.{IsLabel, IsLabelOfSome}
use Rattle.lalrpop_nfa.specs.Internal.Valid.{IsValid, AreValid, AreCodeValues}
use Rattle.lalrpop_hir.proofs.Contained.{contains_none, contains_cases}

-- no range meets a later one
abbrev pub AreDisjoint : List Range → Type 0
AreDisjoint [] = Unit {0}
AreDisjoint (r ∷ rs) = ((s : Range) → Contains rs s → ¬ Meet r s) × AreDisjoint rs

-- the ranges have K, and no two of them meet
pub record AreDisjointWithin (K : Range → Type 0) (rs : List Range) : Type 0 where
  pub each : (r : Range) → Contains rs r → K r
  pub disjoint : AreDisjoint rs

abbrev pub IsClassWithin : (Range → Type 0) → Class → Type 0
IsClassWithin K (unicode rs) = AreDisjointWithin K rs
IsClassWithin K (bytes rs) = AreDisjointWithin K rs

abbrev pub IsRepeatedWithin : ℕ → Option ℕ → Type 0 → Type 0
IsRepeatedWithin min None S = S
IsRepeatedWithin min (Some zero) S = min ≡ 0
IsRepeatedWithin min (Some (suc max)) S = (min ≤ suc max) × S

-- the range of one character
abbrev pub only : ℕ → Range
only c = record { start = c; end = c }

abbrev mutual
  -- the tree can be compiled, and the ranges that it reads have K
  pub IsCompilableWithin : (Range → Type 0) → Tree → Type 0
  IsCompilableWithin K empty = Unit {0}
  IsCompilableWithin K (literal cs) = (c : ℕ) → Contains cs c → K (only c)
  IsCompilableWithin K (class a) = IsClassWithin K a
  IsCompilableWithin K (look l) = ⊥
  IsCompilableWithin K (repetition min max greedy t) = IsRepeatedWithin min max (IsCompilableWithin K t)
  IsCompilableWithin K (capture name t) = IsCompilableWithin K t
  IsCompilableWithin K (concat ts) = AreCompilableWithin K ts
  IsCompilableWithin K (alternation ts) = AreCompilableWithin K ts

  pub AreCompilableWithin : (Range → Type 0) → Trees → Type 0
  AreCompilableWithin K none = Unit {0}
  AreCompilableWithin K (also t ts) = IsCompilableWithin K t × AreCompilableWithin K ts

or_none : {T : Type 0} (f g : Option T) → option_or f g ≡ None → (f ≡ None) × (g ≡ None)
or_none None g h = (refl, h)
or_none (Some x) g h = cc

module _ (next : ℕ → ℕ) (up : (c : ℕ) → c < next c) where
  nonempty : (rs : List Range) → AreApart next rs → (r : Range) → Contains rs r → r.start ≤ r.end
  nonempty [] h r m = absurd (contains_none r m)
  nonempty (s ∷ rs) h r m = elim (contains_cases s rs r m) [
    | inl e ↦ subst (λ (x : Range). x.start ≤ x.end) e (head-holds next s rs h)
    | inr k ↦ nonempty rs (tail-apart next s rs h) r k
  ]

  after : (r : Range) (rs : List Range) → AreApart next (r ∷ rs) → (s : Range) → Contains rs s → r.end < s.start
  after r [] h s m = absurd (contains_none s m)
  after r (x ∷ rs) h s m = let u = up r.end in elim (contains_cases x rs s m) [
    | inl e ↦ subst (λ (y : Range). r.end < y.start) e (omega (arith, h.1))
    | inr k ↦ omega (arith, h.1, head-holds next x rs h.2, after x rs h.2 s k)
  ]

  disjoint : (rs : List Range) → AreApart next rs → AreDisjoint rs
  disjoint [] h = tt
  disjoint (r ∷ rs) h = (λ s m (c, (x, y)). let past = after r rs h s m in absurd (omega (arith, x, y)), disjoint rs (tail-apart next r rs h))

end_in : (S : ℕ → Type 0) (rs : List Range) → HaveEndsIn S rs → (r : Range) → Contains rs r → S r.end
end_in S [] h r m = absurd (contains_none r m)
end_in S (s ∷ rs) h r m = elim (contains_cases s rs r m) [
  | inl e ↦ subst (λ (x : Range). S x.end) e h.1
  | inr k ↦ end_in S rs h.2 r k
]

next_scalar_up : (c : ℕ) → c < next_scalar c
next_scalar_up c = grind arith

scalar_few : (c : ℕ) → IsScalar c → c ≤ 1114111
scalar_few c (inl h) = omega (arith, h)
scalar_few c (inr h) = omega (arith, h)

code_value : (cs : List ℕ) → AreCodeValues cs → (c : ℕ) → Contains cs c → c ≤ 1114111
code_value [] h c m = absurd (contains_none c m)
code_value (d ∷ ds) h c m = elim (contains_cases d ds c m) [
  | inl e ↦ omega (arith, h.0, e)
  | inr k ↦ code_value ds h.1 c k
]

module _ (K : Range → Type 0) where
  -- each label of the tree that is a range of code values has K
  abbrev pub LabelsHave : Tree → Type 0
  LabelsHave t = (r : Range) → IsLabel t r → r.start ≤ r.end → r.end ≤ 1114111 → K r

  abbrev pub LabelsOfEachHave : Trees → Type 0
  LabelsOfEachHave ts = (r : Range) → IsLabelOfSome ts r → r.start ≤ r.end → r.end ≤ 1114111 → K r

  mutual
    pub plain : (t : Tree) → IsValid t → fault t ≡ None → LabelsHave t → IsCompilableWithin K t
    plain empty s f k = tt
    plain (literal cs) s f k = λ c m. k (only c) (c, (m, refl)) (omega arith) (code_value cs s c m)
    plain (class (unicode rs)) s f k = record {
      each = λ r m. k r m (nonempty next_scalar next_scalar_up rs s.0 r m) (scalar_few r.end (end_in IsScalar rs s.1 r m));
      disjoint = disjoint next_scalar next_scalar_up rs s.0;
    }
    plain (class (bytes rs)) s f k = record {
      each = λ r m. k r m (nonempty (λ c. c + 1) (λ c. omega arith) rs s.0 r m) (let b = end_in IsByte rs s.1 r m in omega arith);
      disjoint = disjoint (λ c. c + 1) (λ c. omega arith) rs s.0;
    }
    plain (look l) s f k = cc
    plain (repetition min None true t) s f k = plain t s.1 f k
    plain (repetition min (Some zero) true t) s f k = omega (arith, s.0)
    plain (repetition min (Some (suc max)) true t) s f k = (s.0, plain t s.1 f k)
    plain (repetition min None false t) s f k = cc
    plain (repetition min (Some zero) false t) s f k = cc
    plain (repetition min (Some (suc max)) false t) s f k = cc
    plain (capture None t) s f k = plain t s f k
    plain (capture (Some name) t) s f k = cc
    plain (concat ts) s f k = all_compilable_last ts s f k
    plain (alternation ts) s f k = all_compilable_first ts s f k

    pub all_compilable_last : (ts : Trees) → AreValid ts → last_fault ts ≡ None → LabelsOfEachHave ts → AreCompilableWithin K ts
    all_compilable_last none s f k = tt
    all_compilable_last (also t ts) s f k = let n = or_none (last_fault ts) (fault t) f in (plain t s.0 n.1 (λ r m. k r (inl m)), all_compilable_last ts s.1 n.0 (λ r m. k r (inr m)))

    pub all_compilable_first : (ts : Trees) → AreValid ts → first_fault ts ≡ None → LabelsOfEachHave ts → AreCompilableWithin K ts
    all_compilable_first none s f k = tt
    all_compilable_first (also t ts) s f k = let n = or_none (fault t) (first_fault ts) f in (plain t s.0 n.0 (λ r m. k r (inl m)), all_compilable_first ts s.1 n.1 (λ r m. k r (inr m)))
