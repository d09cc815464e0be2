-- Depths and distances, as they are found.
use Rattle.std.proofs.Common.{◌≡◌, ◌≢◌, ℕ, zero, suc, ◌⊎◌, inl, inr, ◌↔◌, ◌+◌, ◌<◌, ◌≤◌, List, [], ◌∷◌, ◌++◌, length, take, drop, get_or, ◌-◌, Bool, true, false, refl, sym, ap, ◌∙◌, subst, arith}
use Rattle.std.specs.Prelude.{slice_get, is_some, Option, Some, None}
use Rattle.std.proofs.Math.Seq.{take-append_seam}
use Rattle.lalrpop_dfa.specs.declared.Kind.{Kind}
use Rattle.lalrpop_dfa.specs.declared.Kind.TheVariants.{Accepts}
use Rattle.lalrpop_hir.specs.Word.{IsWord}
use Rattle.lalrpop_dfa.specs.Dfa.{Row, step, IsWellFormed}
use Rattle.lalrpop_dfa.specs.Lookahead.{IsAccepting}
use Rattle.lalrpop_dfa.specs.Internal.Marks.{IsWaiting, WaitsAlong}
use Rattle.lalrpop_dfa.proofs.EdgeTargets.{step_within}
use Rattle.lalrpop_dfa.specs.Internal.Ranks.{IsLeastInto, IsWanted, StaysFor, IsGoal, IsNear, AreDepths}

module _ (d : List Row) where
  -- ---- how long a state stays open
  fewer_values : (n p : ℕ) (w : List ℕ) → IsWord w → WaitsAlong d p w → length w ≡ suc n → (v : List ℕ) × (IsWord v × WaitsAlong d p v × (length v ≡ n))
  fewer_values n p [] f s e = absurd (omega arith)
  fewer_values zero p (c ∷ w) f s e = ([], (tt, tt, refl))
  fewer_values (suc n) p (c ∷ w) f s e = (let (v, (g, t, l)) = fewer_values n (step d p c) w f.1 s.1 (omega arith) in (c ∷ v, ((f.0, g), (s.0, t), omega arith)))

  stays_fewer : (n p : ℕ) → StaysFor d (suc n) p → StaysFor d n p
  stays_fewer n p (o, (w, (f, s, e))) = (o, fewer_values n p w f s e)

  pub stays_less : (k n p : ℕ) → StaysFor d (n + k) p → StaysFor d n p
  stays_less zero n p h = subst (λ (j : ℕ). StaysFor d j p) (omega arith) h
  stays_less (suc k) n p h = stays_less k n p (stays_fewer (n + k) p (subst (λ (j : ℕ). StaysFor d j p) (omega arith) h))

  pub stays_at_most : (m n p : ℕ) → n ≤ m → StaysFor d m p → StaysFor d n p
  stays_at_most m n p l h = let e : (k : ℕ) × (n + k ≡ m) = (m - n, omega arith) in stays_less e.0 n p (subst (λ (j : ℕ). StaysFor d j p) (sym e.1) h)

  pub stays_on : (n p c : ℕ) → IsWaiting d p → c ≤ 4294967295 → StaysFor d n (step d p c) → StaysFor d (suc n) p
  stays_on n p c o l (q, (w, (f, s, e))) = (o, (c ∷ w, ((l, f), (q, s), omega arith)))

  pub stays_by : (n p : ℕ) → StaysFor d (suc n) p → (c : ℕ) × ((c ≤ 4294967295) × StaysFor d n (step d p c))
  stays_by n p (o, ([], (f, s, e))) = absurd (omega arith)
  stays_by n p (o, (c ∷ w, (f, s, e))) = (c, (f.0, (s.0, (w, (f.1, s.1, omega arith)))))

  pub goal_on : (n p c : ℕ) → IsAccepting d p → c ≤ 4294967295 → StaysFor d n (step d p c) → IsGoal d (suc n) p
  goal_on n p c a l (q, (w, (f, s, e))) = (a, (c ∷ w, ((l, f), (q, s), omega arith)))

  pub goal_by : (n p : ℕ) → IsGoal d (suc n) p → (c : ℕ) × ((c ≤ 4294967295) × StaysFor d n (step d p c))
  goal_by n p (a, ([], (f, s, e))) = absurd (omega arith)
  goal_by n p (a, (c ∷ w, (f, s, e))) = (c, (f.0, (s.0, (w, (f.1, s.1, omega arith)))))

  -- ---- how near a state is to a goal
  pub near_none : (n p : ℕ) → IsGoal d n p → IsNear d n 0 p
  near_none n p g = ([], (tt, g, omega arith))

  pub none_near : (n p : ℕ) → IsNear d n 0 p → IsGoal d n p
  none_near n p ([], (f, g, l)) = g
  none_near n p (c ∷ w, (f, g, l)) = absurd (omega arith)

  pub near_more : (n m k p : ℕ) → m ≤ k → IsNear d n m p → IsNear d n k p
  near_more n m k p l (w, (f, g, h)) = (w, (f, g, omega arith))

  pub near_on : (n m p c : ℕ) → c ≤ 4294967295 → IsNear d n m (step d p c) → IsNear d n (m + 1) p
  near_on n m p c l (w, (f, g, h)) = (c ∷ w, ((l, f), g, omega arith))

  pub near_by : (n m p : ℕ) → IsNear d n (m + 1) p → IsNear d n m p ⊎ ((c : ℕ) × ((c ≤ 4294967295) × IsNear d n m (step d p c)))
  near_by n m p ([], (f, g, h)) = inl ([], (f, g, omega arith))
  near_by n m p (c ∷ w, (f, g, h)) = inr (c, (f.0, (w, (f.1, g, omega arith))))

-- the states that are as deep as wanted
pub wanted_depth : (d : List Row) (most m : ℕ) (depths : List ℕ) → AreDepths d most depths → 0 < m → m ≤ most → (q : ℕ) → q < length d
    → IsWanted depths m 18446744073709551615 q ↔ ((i : ℕ) → i + 1 ≡ m → StaysFor d i q)
wanted_depth d most m depths h some low q ql = (
  λ w i e. (h.each q ql i (omega arith)).0 (omega (arith, w.0)),
  λ s. let e : (i : ℕ) × (i + 1 ≡ m) = (m - 1, omega arith) in
      let b : e.0 < get_or depths q 0 = (h.each q ql e.0 (omega (arith, e.1))).1 (s e.0 e.1) in
      (omega (arith, e.1), h.fits q ql),
)

-- ---- whether a state is a goal
module _ (d : List Row) (n p : ℕ) (depths : List ℕ) (h : AreDepths d n depths) (l : p < length d) where
  pub goal_at_once : n ≡ 0 → IsAccepting d p → IsGoal d n p
  goal_at_once e a = (a, ([], (tt, tt, sym e)))

  module _ (within : (p c : ℕ) → p < length d → step d p c < length d) (some : n ≢ 0) where
    pub goal_found : (o : Option ℕ) → IsLeastInto d (IsWanted depths n 18446744073709551615) p o → is_some o ≡ true → IsAccepting d p → IsGoal d n p
    goal_found None least found a = cc
    goal_found (Some c) (fits, w, low) found a =
        let e : (i : ℕ) × (i + 1 ≡ n) = (n - 1, omega arith) in
        let next : StaysFor d e.0 (step d p c) = (wanted_depth d n n depths h (omega arith) (omega arith) (step d p c) (within p c l)).0 w e.0 e.1 in
        subst (λ (j : ℕ). IsGoal d j p) (omega (arith, e.1)) (goal_on d e.0 p c a fits next)

    pub goal_missed : (o : Option ℕ) → IsLeastInto d (IsWanted depths n 18446744073709551615) p o → is_some o ≡ false → ¬ IsGoal d n p
    goal_missed (Some c) least none g = cc
    goal_missed None least none g =
        let e : (i : ℕ) × (i + 1 ≡ n) = (n - 1, omega arith) in
        let (c, (fits, next)) = goal_by d e.0 p (subst (λ (j : ℕ). IsGoal d j p) (omega (arith, e.1)) g) in
        least c fits ((wanted_depth d n n depths h (omega arith) (omega arith) (step d p c) (within p c l)).1 (λ i f. subst (λ (j : ℕ). StaysFor d j (step d p c)) (omega (arith, f, e.1)) next))

pub goal_told : (d : List Row) (n p : ℕ) (depths : List ℕ) → AreDepths d n depths → p < length d → IsWellFormed d → n ≢ 0 → (o : Option ℕ) (b : Bool)
    → IsLeastInto d (IsWanted depths n 18446744073709551615) p o → b ≡ is_some o → IsAccepting d p → (b ≡ true) ↔ IsGoal d n p
goal_told d n p depths h l well some o b least is a = (
  λ t. goal_found d n p depths h l (λ q c m. step_within d q c well m) some o least (sym is ∙ t) a,
  λ g. elim (true_or_not b) [
    | inl t ↦ t
    | inr f ↦ absurd (goal_missed d n p depths h l (λ q c m. step_within d q c well m) some o least (sym is ∙ f) g)
  ],
)
  where
    true_or_not : (b : Bool) → (b ≡ true) ⊎ (b ≡ false)
    true_or_not true = inl refl
    true_or_not false = inr refl

pub accepting_read : (d : List Row) (p : ℕ) (r : Row) (kind : Kind) → slice_get d p ≡ Some r → kind ≡ r.kind → (i : ℕ) → kind ≡ Accepts i → IsAccepting d p
accepting_read d p r kind at same i e = rw at (i, sym same ∙ e)

pub read_accepting : (d : List Row) (p : ℕ) (r : Row) (kind : Kind) → slice_get d p ≡ Some r → kind ≡ r.kind → IsAccepting d p → (i : ℕ) × (kind ≡ Accepts i)
read_accepting d p r kind at same a = let b : (i : ℕ) × (r.kind ≡ Accepts i) = rw at at a in (b.0, same ∙ b.1)

pub written : {A : Type 0} (xs ys : List A) (n : ℕ) → length xs ≡ length ys → n ≡ length ys → take n (xs ++ drop (length xs) ys) ≡ xs
written xs ys n long is = ap (λ k. take k (xs ++ drop (length xs) ys)) (is ∙ sym long) ∙ take-append_seam xs (drop (length xs) ys)
