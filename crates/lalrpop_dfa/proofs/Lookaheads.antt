-- How far an automaton reads past a match: what is found in each iteration.
use Rattle.std.proofs.Common.{◌≡◌, ℕ, zero, suc, ◌+◌, ◌-◌, ◌<◌, ◌≤◌, ⊎_elim, List, [], ◌∷◌, length, refl, subst, arith, add-zero, add-suc}
use Rattle.std.proofs.lemmas.Bool.{cases_lt}
use Rattle.lalrpop_dfa.specs.Dfa.{Row, step}
use Rattle.lalrpop_dfa.specs.Internal.Marks.{IsWaiting, WaitsAlong, WaitsFor}

module _ (d : List Row) where
  pub waits_none : (p : ℕ) → IsWaiting d p → WaitsFor d 0 p
  waits_none p o = (o, ([], (tt, refl)))

  pub waits_next : (n p : ℕ) → WaitsFor d (suc n) p → (c : ℕ) × WaitsFor d n (step d p c)
  waits_next n p (o, ([], (s, e))) = absurd (omega arith)
  waits_next n p (o, (c ∷ w, (s, e))) = (c, (s.0, (w, (s.1, omega arith))))

  pub waits_before : (n p c : ℕ) → IsWaiting d p → WaitsFor d n (step d p c) → WaitsFor d (suc n) p
  waits_before n p c o (q, (w, (s, e))) = (o, (c ∷ w, ((q, s), omega arith)))

  -- fewer values leave it waiting too
  fewer : (n p : ℕ) (w : List ℕ) → WaitsAlong d p w → length w ≡ suc n → (v : List ℕ) × (WaitsAlong d p v × (length v ≡ n))
  fewer n p [] s e = absurd (omega arith)
  fewer zero p (c ∷ w) s e = ([], (tt, refl))
  fewer (suc n) p (c ∷ w) s e = (let (v, (t, f)) = fewer n (step d p c) w s.1 (omega arith) in (c ∷ v, ((s.0, t), omega arith)))

  pub waits_fewer : (n p : ℕ) → WaitsFor d (suc n) p → WaitsFor d n p
  waits_fewer n p (o, (w, (s, e))) = (o, fewer n p w s e)

  -- if all states that wait for n values wait for one more, they wait forever
  pub waits_ever : (n : ℕ) → ((p : ℕ) → WaitsFor d n p → WaitsFor d (suc n) p) → (k p : ℕ) → WaitsFor d n p → WaitsFor d (n + k) p
  waits_ever n more zero p o = rw add-zero o
  waits_ever n more (suc k) p o =
      let (c, next) = waits_next n p (more p o) in
      rw add-suc (waits_before (n + k) p c o.0 (waits_ever n more k (step d p c) next))

  -- ---- states with a property, from which states that wait are entered
  module _ (A : ℕ → Type 0) where
    -- from some state with the property, some n values lead along states that wait
    abbrev pub CanWait : ℕ → Type 0
    CanWait n = (p : ℕ) × (w : List ℕ) × (A p × WaitsAlong d p w × (length w ≡ n))

    -- a value leads from such a state to one that can wait for n values
    abbrev pub Enters : ℕ → Type 0
    Enters n = (p c : ℕ) × (A p × WaitsFor d n (step d p c))

    can_fewer : (n : ℕ) → CanWait (suc n) → CanWait n
    can_fewer n (p, w, (a, s, e)) = (let (v, (t, f)) = fewer n p w s e in (p, v, (a, t, f)))

    can_at_most : (k n : ℕ) → CanWait (n + k) → CanWait n
    can_at_most zero n h = rw add-zero at h
    can_at_most (suc k) n h = can_at_most k n (can_fewer (n + k) (rw add-suc at h))

    pub entered_can : (n : ℕ) → Enters n → CanWait (suc n)
    entered_can n (p, c, (a, (o, (w, (s, e))))) = (p, c ∷ w, (a, (o, s), omega arith))

    pub can_entered : (n : ℕ) → CanWait (suc n) → Enters n
    can_entered n (p, [], (a, s, e)) = absurd (omega arith)
    can_entered n (p, c ∷ w, (a, s, e)) = (p, c, (a, (s.0, (w, (s.1, omega arith)))))

    -- if none leads to a state that waits for n, n is the most
    pub at_most : (n : ℕ) → (Enters n → ⊥) → (m : ℕ) → CanWait m → m ≤ n
    at_most n none m h =
        ⊎_elim
        (λ (a : n < m). absurd (none (can_entered n (can_at_most (m - suc n) (suc n) (subst CanWait (omega arith) h)))))
        (λ (a : m ≤ n). a)
        (cases_lt n m)

    -- if all states that wait for n values wait for one more, and one is entered, there is no most
    pub for_ever : (n : ℕ) → ((p : ℕ) → WaitsFor d n p → WaitsFor d (suc n) p) → Enters n → (m : ℕ) → CanWait m
    for_ever n more (p, c, (a, o)) m =
        can_at_most (suc n) m (subst CanWait (omega arith) (entered_can (n + m) (p, c, (a, waits_ever n more m (step d p c) o))))
