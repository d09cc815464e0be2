-- States that can wait forever: those that are left when each that leads to none of them is left out.
use Rattle.std.proofs.Common.{◌≡◌, ◌≢◌, ℕ, zero, suc, ◌+◌, ◌<◌, ◌≤◌, inl, inr, ⊎_elim, List, length, set, get_or, get_or-set_same, get_or-set_other, length-set, refl, sym, ap, ◌∙◌, subst, arith, Bool, true, false}
use Rattle.std.specs.Prelude.{cond, count_by}
use Rattle.std.proofs.Math.Bool.{beq}
use lib.Pointwise.{pointwise}
use Rattle.std.proofs.lemmas.Bool.{cases_lt}
use Rattle.std.proofs.lemmas.List.Sums.{count_by-le-length, sum_by-set}
use Rattle.std.proofs.lemmas.Option.{slice_get_within}
use Rattle.lalrpop_dfa.specs.Dfa.{Row, step}
use Rattle.lalrpop_dfa.specs.Internal.Marks.{AreLeft, AreLeftOut, AreWaitingEver, AreWaitingFor, LeadsInto, Marked, WaitsFor}
use Rattle.lalrpop_dfa.proofs.Lookaheads.{waits_before, waits_fewer, waits_next, waits_none}
use Rattle.lalrpop_dfa.proofs.Marking.{fewer_marks, marked_count, marked_read, read_marked, same_marks}

-- ---- one mark less
module _ (marks : List Bool) (place : ℕ) (l : place < length marks) where
  abbrev without : List Bool
  without = set marks place false

  pub still_other : (p : ℕ) → Marked without p → p ≢ place
  still_other p m e =
      let is : false ≡ true = sym (get_or-set_same marks place false false l) ∙ read_marked without place (subst (Marked without) e m) in
      cc

  pub still_marked : (p : ℕ) → Marked without p → Marked marks p
  still_marked p m =
      let within : p < length marks = (let w = slice_get_within without p true m in omega (arith, w, length-set marks place false)) in
      marked_read marks p within (sym (get_or-set_other marks place p false false (still_other p m)) ∙ read_marked without p m)

  pub marked_still : (p : ℕ) → Marked marks p → p ≢ place → Marked without p
  marked_still p m other =
      let within : p < length without = (let w = slice_get_within marks p true m in omega (arith, w, length-set marks place false)) in
      marked_read without p within (get_or-set_other marks place p false false other ∙ read_marked marks p m)

  pub one_less : Marked marks place → count_by (λ b. b) without + 1 ≡ count_by (λ b. b) marks
  one_less m =
      let f : Bool → ℕ = λ b. cond b 1 0 in
      let sums = sum_by-set f marks place false false l in
      let was : f (get_or marks place false) ≡ 1 = ap f (read_marked marks place m) in
      omega (arith, sums, was)

module _ (d : List Row) where
  -- ---- at first
  pub left_first : (marks : List Bool) → AreWaitingFor d 0 marks → AreLeft d 0 marks
  left_first marks h = record {
    same_length = h.same_length;
    waiting = λ p m. ((h.each p (omega (arith, slice_get_within marks p true m, h.same_length))).0 m).0;
    left = λ p w. (h.each p w.0.0).1 w;
    few = omega (arith, count_by-le-length (λ b. b) marks, h.same_length);
  }

  -- ---- from the last state back to the first: those from the place on are done
  pub record IsLeavingOut (old new : List Bool) (place : ℕ) : Type 0 where
    pub same_length : length new ≡ length old
    pub kept : (p : ℕ) → Marked new p → Marked old p
    pub leads : (p : ℕ) → place ≤ p → Marked new p → LeadsInto d old p
    pub left : (n : ℕ) → AreLeft d n old → (m : ℕ) × AreLeft d m new

  pub out_first : (marks : List Bool) → IsLeavingOut marks marks (length marks)
  out_first marks = record {
    same_length = refl;
    kept = λ p m. m;
    leads = λ p from m. absurd (let w = slice_get_within marks p true m in omega (arith, from, w));
    left = λ n h. (n, h);
  }

  module _ (old new : List Bool) (place next : ℕ) (on : next ≡ place + 1) (h : IsLeavingOut old new next) where
    into_old : (p : ℕ) → LeadsInto d new p → LeadsInto d old p
    into_old p (c, m) = (c, h.kept (step d p c) m)

    pub out_stays : (Marked new place → LeadsInto d new place) → IsLeavingOut old new place
    out_stays why = record {
      same_length = h.same_length;
      kept = h.kept;
      leads = λ p from m.
          ⊎_elim (λ (x : place < p). h.leads p (omega (arith, on, x)) m)
          (λ (x : p ≤ place). let e : place ≡ p = omega (arith, from, x) in subst (LeadsInto d old) e (into_old place (why (subst (Marked new) (sym e) m))))
          (cases_lt place p);
      left = h.left;
    }

    pub out_left : place < length new → Marked new place → ¬ LeadsInto d new place → IsLeavingOut old (set new place false) place
    out_left l here none = record {
      same_length = length-set new place false ∙ h.same_length;
      kept = λ p m. h.kept p (still_marked new place l p m);
      leads = λ p from m.
          ⊎_elim (λ (x : place < p). h.leads p (omega (arith, on, x)) (still_marked new place l p m))
          (λ (x : p ≤ place). absurd (still_other new place l p m (omega (arith, from, x))))
          (cases_lt place p);
      left = λ n a. let (m, b) = h.left n a in (suc m, fewer m b);
    }
      where
        fewer : (m : ℕ) → AreLeft d m new → AreLeft d (suc m) (set new place false)
        fewer m b = record {
          same_length = length-set new place false ∙ b.same_length;
          waiting = λ p k. b.waiting p (still_marked new place l p k);
          left = λ p w. marked_still new place l p (b.left p (waits_fewer d m p w)) (λ e.
              let (c, next_waits) = waits_next d m p w in
              none (subst (LeadsInto d new) e (c, b.left (step d p c) next_waits)));
          few = omega (arith, one_less new place l here, b.few);
        }

  pub out_end : (old new : List Bool) → IsLeavingOut old new 0 → AreLeftOut d old new
  out_end old new h = record { same_length = h.same_length; kept = h.kept; leads = λ p m. h.leads p (omega arith) m; left = h.left }

  -- ---- at the end
  pub left_end : (n : ℕ) (marks : List Bool) → AreLeft d n marks → AreLeftOut d marks marks → AreWaitingEver d marks
  left_end n marks h out = (n, (omega (arith, h.few), (for_all n, up)))
    where
      forever : (k p : ℕ) → Marked marks p → WaitsFor d k p
      forever zero p m = waits_none d p (h.waiting p m)
      forever (suc k) p m = let (c, led) = out.leads p m in waits_before d k p c (h.waiting p m) (forever k (step d p c) led)

      for_all : (k : ℕ) → AreWaitingFor d n marks
      for_all k = record { same_length = h.same_length; each = λ p l. (λ m. forever n p m, λ w. h.left p w) }

      up : AreWaitingFor d (n + 1) marks
      up = record { same_length = h.same_length; each = λ p l. (λ m. forever (n + 1) p m, λ w. h.left p (waits_fewer d n p (subst (λ k. WaitsFor d k p) add_one w))) }
        where
          add_one : n + 1 ≡ suc n
          add_one = omega arith

-- marks that are the same after a pass, and marks of which there are fewer
module _ (old new copy : List Bool) (same : copy ≡ old) (decided : Bool) (told : decided ≡ pointwise beq new copy) where
  pub left_fewer : decided ≡ false → length new ≡ length old → ((p : ℕ) → Marked new p → Marked old p) → marked_count new < marked_count old
  left_fewer f long kept = elim (fewer_marks new old long kept) [
    | inl e ↦ absurd (let t : decided ≡ true = told ∙ (same_marks new copy).1 (e ∙ sym same) in cc)
    | inr less ↦ less
  ]
