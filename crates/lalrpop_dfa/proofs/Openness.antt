-- States that wait, and words that leave it open whether a longer match comes.
use Rattle.std.proofs.Common.{◌≡◌, ◌≢◌, ℕ, ◌<◌, inl, inr, List, [], ◌∷◌, ◌++◌, length, refl, sym, ap, ◌∙◌, subst}
use Rattle.std.specs.Prelude.{slice_get, Some, None, Option, IsSomeAnd}
use Rattle.lalrpop_dfa.specs.declared.Kind.TheVariants.{Accepts, Neither}
use Rattle.lalrpop_dfa.specs.Dfa.{Row, step, run, after, IsWellFormed}
use Rattle.lalrpop_dfa.specs.Lookahead.{Accepted, IsAccepting, IsLive, IsOpen, IsTrim, LeavesOpen}
use Rattle.lalrpop_dfa.specs.Internal.Marks.{IsReached, IsWaiting, StaysOpen, WaitsAlong}
use Rattle.lalrpop_dfa.proofs.AfterLaws.{run_append, after_within}
use Rattle.lalrpop_dfa.proofs.EdgeTargets.{step_within}
use Rattle.std.proofs.lemmas.Option.{slice_get_cases, slice_get_within}
use Rattle.lalrpop_dfa.proofs.Lookaheads.{CanWait}

-- a state that neither accepts nor rejects doesn't accept
open_no_match : (o : Option Row) → IsSomeAnd o (λ r. r.kind ≡ Neither) → ¬ IsSomeAnd o (λ r. (i : ℕ) × (r.kind ≡ Accepts i))
open_no_match None e a = e
open_no_match (Some r) e (i, a) = let f : Neither ≡ Accepts i = sym e ∙ a in cc

module _ (d : List Row) where
  pub live_before : (p : ℕ) (x : List ℕ) → IsLive d (run d p x) → IsLive d p
  live_before p x (z, a) = (x ++ z, subst (IsAccepting d) (sym (run_append d p x z)) a)

  -- along a word that is waited for, each state waits, and the last is live
  waits_at : (p : ℕ) (u z : List ℕ) → WaitsAlong d p (u ++ z) → u ≢ [] → IsWaiting d (run d p u)
  waits_at p [] z s some = absurd (some refl)
  waits_at p (c ∷ []) z s some = s.0
  waits_at p (c ∷ b ∷ u) z s some = waits_at (step d p c) (b ∷ u) z s.1 (λ e. cc)

  live_along : (p : ℕ) (x : List ℕ) → IsLive d p → WaitsAlong d p x → IsLive d (run d p x)
  live_along p [] l s = l
  live_along p (c ∷ x) l s = live_along (step d p c) x s.0.2 s.1

  pub opened : (n : ℕ) (v x : List ℕ) → v ≢ [] → IsAccepting d (after d v) → WaitsAlong d (after d v) x → length x ≡ n → LeavesOpen (Accepted d) n v x
  opened n v x some a s long = record {
    some = some;
    word = a;
    long = long;
    none = λ u z e more m.
        (waits_at (after d v) u z (subst (WaitsAlong d (after d v)) e s) more).1 (subst (IsAccepting d) (run_append d 0 v u) m);
    later =
        (let (z, m) = live_along (after d v) x ([], a) s in
        (z, subst (IsAccepting d) (sym (run_append d 0 (v ++ x) z ∙ ap (λ p. run d p z) (run_append d 0 v x))) m));
  }

  -- if no state along the word accepts, and the last is live, they wait
  along : IsWellFormed d → (p : ℕ) (x : List ℕ) → p < length d → ((u z : List ℕ) → x ≡ u ++ z → u ≢ [] → ¬ IsAccepting d (run d p u)) → IsLive d (run d p x) → WaitsAlong d p x
  along well p [] here none l = tt
  along well p (c ∷ x) here none l =
      let there : step d p c < length d = step_within d p c well here in (
        (there, none (c ∷ []) x refl (λ e. cc), live_before (step d p c) x l),
        along well (step d p c) x there (λ u z e some. none (c ∷ u) z (ap (λ (w : List ℕ). c ∷ w) e) (λ f. cc)) l,
      )

  pub waits_of : IsWellFormed d → (n : ℕ) (v x : List ℕ) → LeavesOpen (Accepted d) n v x → WaitsAlong d (after d v) x
  waits_of well n v x h =
      along well (after d v) x (after_within d v well) (λ u z e some a. h.none u z e some (subst (IsAccepting d) (sym (run_append d 0 v u)) a))
      (h.later.0, subst (IsAccepting d) (run_append d 0 (v ++ x) h.later.0 ∙ ap (λ p. run d p h.later.0) (run_append d 0 v x)) h.later.1)

  -- ---- matches by states with a property
  module _ (B : ℕ → Type 0) (accepts : (p : ℕ) → B p → IsAccepting d p) where
    -- a nonempty match leads to such a state
    abbrev pub EndsMatch : ℕ → Type 0
    EndsMatch p = B p × IsReached d p

    pub can_opens : (n : ℕ) → CanWait d EndsMatch n → (v x : List ℕ) × (B (after d v) × LeavesOpen (Accepted d) n v x)
    can_opens n (p, x, ((b, (v, (some, e))), s, long)) =
        let here : B (after d v) = subst B (sym e) b in
        (v, x, (here, opened n v x some (accepts (after d v) here) (subst (λ q. WaitsAlong d q x) (sym e) s) long))

    pub opens_can : IsWellFormed d → (n : ℕ) (v x : List ℕ) → B (after d v) → LeavesOpen (Accepted d) n v x → CanWait d EndsMatch n
    opens_can well n v x b h = (after d v, x, ((b, (v, (h.some, refl))), waits_of well n v x h, h.long))

  -- ---- where only reject states are dead, a run that goes on waits
  open_within : (p : ℕ) → IsOpen d p → p < length d
  open_within p o = elim (slice_get_cases d p).1 [
    | inl x ↦ slice_get_within d p x.0 x.2
    | inr past ↦ absurd (rw past.1 at o)
  ]

  pub waits_open : IsTrim d → (p : ℕ) (w : List ℕ) → StaysOpen d p w → WaitsAlong d p w
  waits_open trim p [] s = tt
  waits_open trim p (c ∷ w) s = (
    (open_within (step d p c) s.0, open_no_match (slice_get d (step d p c)) s.0, trim (step d p c) s.0),
    waits_open trim (step d p c) w s.1,
  )
