-- Lengths that bound the walks to states that accept: how they are lowered, and what states that answer alike have in common.
use Rattle.std.proofs.Common.{◌≡◌, ◌≢◌, ℕ, inl, inr, ◌+◌, ◌<◌, ◌≤◌, List, map, length, get_or, set, get_or-set_same, get_or-set_other, length-set, refl, sym, ap, ◌∙◌, subst, ⊎_elim, arith}
use Rattle.std.specs.Prelude.{Vec}
use Rattle.std.specs.Global.{Global}
use Rattle.std.proofs.lemmas.Bool.{cases_lt}
use Rattle.std.proofs.lemmas.List.{get_or-map, length-map}
use Rattle.std.proofs.lemmas.List.Elements.{Contains-get_or}
use Rattle.lalrpop_dfa.specs.Dfa.{Row, IsWellFormed}
use Rattle.lalrpop_verdicts.specs.Internal.Classes.{AlikeFrom, AreLeads, AreTried, AreWithin}
use Rattle.lalrpop_verdicts.specs.Internal.Longest.{AreBounds, AreLongest, AreLowered, IsBound, IsLowered, IsMost, goes_on, stop_at, stops_here}
use Rattle.lalrpop_verdicts.specs.Internal.Shortest.{AreKept, target_at, targets_at}
use Rattle.lalrpop_dfa.proofs.Totals.{same_or_other}
use Rattle.lalrpop_verdicts.proofs.ShortestLaws.{same_count, target_within, targets_alike}

-- ---- where the walks stop
pub stops_kept : (d : List Row) (shortest stops : List ℕ) → AreKept d shortest → stops ≡ map stop_at shortest → AreKept d stops
stops_kept d shortest stops h e = record {
  same_length = ap length e ∙ length-map shortest stop_at ∙ h.same_length;
  kept = λ p q a b alike. stop p a ∙ ap stop_at (h.kept p q a b alike) ∙ sym (stop q b);
}
  where
    stop : (p : ℕ) → p < length d → get_or stops p 0 ≡ stop_at (get_or shortest p 0)
    stop p l = ap (λ xs. get_or xs p 0) e ∙ get_or-map stop_at shortest p 0 0 (omega (arith, l, h.same_length))

-- ---- lengths of states that answer alike
weaker : (table : List (Vec ℕ Global)) (stops : List ℕ) (p x y : ℕ) → x ≤ y → IsBound table stops p x → IsBound table stops p y
weaker table stops p x y le (stops_here l) = stops_here (omega (arith, l, le))
weaker table stops p x y le (goes_on z all less) = goes_on z all (omega (arith, less, le))

module _ (d : List Row) (vs : List ℕ) (table : List (Vec ℕ Global)) (stops lengths : List ℕ) (formed : IsWellFormed d) (tried : AreTried d vs) (leads : AreLeads d vs table)
    (same : AreKept d stops) (h : AreLongest table stops lengths) where
  -- no bound of a state is less than the length of a state that answers alike
  bound_least : (p x : ℕ) → IsBound table stops p x → (q : ℕ) → p < length d → q < length d → AlikeFrom d p q → get_or lengths q 0 ≤ x
  bound_least p x (stops_here l) q a b alike = omega (arith, l, h.most q (omega (arith, b, same.same_length)), same.kept p q a b alike)
  bound_least p x (goes_on y all less) q a b alike =
      let most : IsMost lengths (targets_at table q) y =
      λ k some m.
      let l : k < length (targets_at table p) = omega (arith, m, same_count d vs table formed tried leads p q a b) in
      bound_least (target_at table p k) y (all k some l) (target_at table q k) (target_within d vs table formed tried leads p k a l) (target_within d vs table formed tried leads q k b m)
      (targets_alike d vs table formed tried leads p q a b alike k l) in
      omega (arith, less, h.least q y (omega (arith, b, same.same_length)) most)

  pub bounds_kept : AreKept d lengths
  bounds_kept = record {
    same_length = long;
    kept = λ p q a b alike.
        let low = bound_least p (get_or lengths p 0) (h.bounds p (omega (arith, a, long))) q a b alike in
        let high = bound_least q (get_or lengths q 0) (h.bounds q (omega (arith, b, long))) p b a (λ w. sym (alike w)) in
        omega (arith, low, high);
  }
    where
      long : length lengths ≡ length d
      long = h.same_length ∙ same.same_length

-- ---- one place after another, from the last to the first
pub record IsLowering (table : List (Vec ℕ Global)) (old new : List ℕ) (from : ℕ) : Type 0 where
  pub same_length : length new ≡ length old
  pub most : (p : ℕ) → p < length old → get_or new p 0 ≤ get_or old p 0
  pub least : (p y : ℕ) → from ≤ p → p < length old → IsMost old (targets_at table p) y → get_or new p 0 ≤ y + 1
  pub bounds : (stops : List ℕ) → AreBounds table stops old → AreBounds table stops new

pub lowering_first : (table : List (Vec ℕ Global)) (old : List ℕ) → IsLowering table old old (length old)
lowering_first table old = record {
  same_length = refl;
  most = λ p l. omega arith;
  least = λ p y from l m. absurd (omega (arith, from, l));
  bounds = λ stops all. all;
}

module _ (table : List (Vec ℕ Global)) (old new : List ℕ) (place next value : ℕ) (on : next ≡ place + 1) (h : IsLowering table old new next) (within : place < length new)
    (targets : AreWithin (targets_at table place) (length new)) (less : IsLowered new (targets_at table place) (get_or new place 0) value) where
  abbrev now : List ℕ
  now = set new place value

  here : get_or now place 0 ≡ value
  here = get_or-set_same new place value 0 within

  there : (p : ℕ) → p ≢ place → get_or now p 0 ≡ get_or new p 0
  there p ne = get_or-set_other new place p value 0 ne

  falls : (p : ℕ) → get_or now p 0 ≤ get_or new p 0
  falls p = elim (same_or_other p place) [
    | inl e ↦ (rw (e, here) less.most)
    | inr ne ↦ (rw (there p ne) (omega arith))
  ]

  sinks : (p : ℕ) → p < length old → get_or now p 0 ≤ get_or old p 0
  sinks p l = omega (arith, falls p, h.most p l)

  target_in : (k : ℕ) → k < length (targets_at table place) → target_at table place k < length new
  target_in k l = targets (target_at table place k) (Contains-get_or (targets_at table place) k 0 l)

  least_at : (y : ℕ) → IsMost old (targets_at table place) y → value ≤ y + 1
  least_at y all = less.least y (λ k some l. omega (arith, all k some l, h.most (target_at table place k) (omega (arith, target_in k l, h.same_length))))

  bound_now : (stops : List ℕ) → AreBounds table stops new → IsBound table stops place value
  bound_now stops all =
      ⊎_elim (λ (e : value ≡ get_or new place 0). subst (IsBound table stops place) (sym e) (all place within))
      (λ (t : (y : ℕ) × (y < value × IsMost new (targets_at table place) y)).
      goes_on t.0 (λ k some l. weaker table stops (target_at table place k) (get_or new (target_at table place k) 0) t.0 (t.1.1 k some l) (all (target_at table place k) (target_in k l))) t.1.0)
      less.reached

  pub lowering_more : IsLowering table old now place
  lowering_more = record {
    same_length = length-set new place value ∙ h.same_length;
    most = sinks;
    least = λ p y from l m. elim (same_or_other p place) [
      | inl e ↦ (let bound = least_at y (subst (λ (n : ℕ). IsMost old (targets_at table n) y) e m) in
          rw (e, here) bound)
      | inr ne ↦ (rw (there p ne) (h.least p y (omega (arith, from, on, greater p from ne)) l m))
    ];
    bounds = λ stops all p l. elim (same_or_other p place) [
      | inl e ↦ (rw (e, here) (bound_now stops (h.bounds stops all)))
      | inr ne ↦ (rw (there p ne) (h.bounds stops all p (omega (arith, l, length-set new place value))))
    ];
  }
    where
      greater : (p : ℕ) → place ≤ p → p ≢ place → place < p
      greater p from ne = ⊎_elim (λ (l : place < p). l) (λ (l : p ≤ place). absurd (ne (omega (arith, from, l)))) (cases_lt place p)

pub lowering_end : (table : List (Vec ℕ Global)) (old new : List ℕ) → IsLowering table old new 0 → AreLowered table old new
lowering_end table old new h = record {
  same_length = h.same_length;
  most = h.most;
  least = λ p y l m. h.least p y (omega arith) l m;
  bounds = h.bounds;
}

-- ---- pass after pass
pub record AreLowering (table : List (Vec ℕ Global)) (stops lengths : List ℕ) : Type 0 where
  pub same_length : length lengths ≡ length stops
  pub most : (p : ℕ) → p < length stops → get_or lengths p 0 ≤ get_or stops p 0
  pub bounds : AreBounds table stops lengths

pub lower_first : (table : List (Vec ℕ Global)) (stops : List ℕ) → AreLowering table stops stops
lower_first table stops = record {
  same_length = refl;
  most = λ p l. omega arith;
  bounds = λ p l. stops_here (omega arith);
}

pub lower_more : (table : List (Vec ℕ Global)) (stops old new : List ℕ) → AreLowering table stops old → AreLowered table old new → AreLowering table stops new
lower_more table stops old new h on = record {
  same_length = on.same_length ∙ h.same_length;
  most = λ p l. omega (arith, h.most p l, on.most p (omega (arith, l, h.same_length)));
  bounds = on.bounds stops h.bounds;
}

pub lower_end : (table : List (Vec ℕ Global)) (stops lengths : List ℕ) → AreLowering table stops lengths → AreLowered table lengths lengths → AreLongest table stops lengths
lower_end table stops lengths h on = record {
  same_length = h.same_length;
  most = h.most;
  least = λ p y l m. on.least p y (omega (arith, l, h.same_length)) m;
  bounds = h.bounds;
}
