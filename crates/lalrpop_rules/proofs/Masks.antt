-- The kinds of the rules of a mode, one after another.
use Rattle.std.proofs.Common.{◌≡◌, ℕ, zero, suc, ◌+◌, ◌<◌, Bool, List, [], ◌∷◌, ◌++◌, length, take, get_or, if◌then◌else◌, map, refl, ap, sym, ◌∙◌, arith}
use Rattle.std.specs.Prelude.{Option, Some, None}
use Rattle.lalrpop_rules.specs.Modes.{kinds_of}

abbrev pub one_of : Bool → ℕ → Option ℕ
one_of b k = if b then Some k else None

-- one rule more
pub more_kinds : {K : Type 0} (f : K → Bool) (ks : List K) (ns : List ℕ) (i : ℕ) (d : K) (e : ℕ) → i < length ks → i < length ns
    → kinds_of (take (suc i) (map f ks)) (take (suc i) ns) ≡ kinds_of (take i (map f ks)) (take i ns) ++ one_of (f (get_or ks i d)) (get_or ns i e) ∷ []
more_kinds f [] ns i d e in_ks in_ns = absurd (none in_ks)
  where
    none : i < 0 → ⊥
    none h = omega (arith, h)
more_kinds f (k ∷ ks) [] i d e in_ks in_ns = absurd (none in_ns)
  where
    none : i < 0 → ⊥
    none h = omega (arith, h)
more_kinds f (k ∷ ks) (n ∷ ns) zero d e in_ks in_ns = refl
more_kinds f (k ∷ ks) (n ∷ ns) (suc i) d e in_ks in_ns =
    ap (λ (os : List (Option ℕ)). one_of (f k) n ∷ os) (more_kinds f ks ns i d e (omega (arith, in_ks)) (omega (arith, in_ns)))

pub next_kind : {K : Type 0} (f : K → Bool) (ks : List K) (ns : List ℕ) (old new : List (Option ℕ)) (i : ℕ) (d : K) (e : ℕ) (o : Option ℕ)
    → i < length ks → i < length ns → old ≡ kinds_of (take i (map f ks)) (take i ns) → o ≡ one_of (f (get_or ks i d)) (get_or ns i e) → new ≡ old ++ o ∷ []
    → new ≡ kinds_of (take (i + 1) (map f ks)) (take (i + 1) ns)
next_kind f ks ns old new i d e o in_ks in_ns before is more =
    let next : suc i ≡ i + 1 = omega arith in
    more ∙ ap (λ (os : List (Option ℕ)). os ++ o ∷ []) before ∙ ap (λ (p : Option ℕ). kinds_of (take i (map f ks)) (take i ns) ++ p ∷ []) is
    ∙ sym (more_kinds f ks ns i d e in_ks in_ns) ∙ ap (λ (n : ℕ). kinds_of (take n (map f ks)) (take n ns)) next
