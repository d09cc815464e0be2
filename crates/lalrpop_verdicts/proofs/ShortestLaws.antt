-- Lengths of walks to states that accept: how they are shortened, and what states that answer alike have in common.
use Rattle.std.proofs.Common.{◌≡◌, ◌≢◌, ℕ, zero, suc, ◌⊎◌, inl, inr, ◌+◌, ◌<◌, ◌≤◌, List, [], ◌∷◌, map, length, get_or, set, get_or-set_same, get_or-set_other, length-set, refl, sym, ap, ◌∙◌, subst, ⊎_elim, arith}
use Rattle.std.specs.Prelude.{slice_get, Some, Vec}
use Rattle.std.specs.Global.{Global}
use Rattle.std.proofs.lemmas.Bool.{cases_lt}
use Rattle.std.proofs.lemmas.List.{length-map}
use Rattle.std.proofs.lemmas.List.Elements.{Contains-get_or}
use Rattle.std.proofs.lemmas.Option.{slice_get-get_or, slice_get_cases}
use Rattle.lalrpop_dfa.specs.Dfa.{Row, StoredState, AreStored, step, IsWellFormed}
use Rattle.lalrpop_dfa.proofs.Totals.{same_or_other}
use Rattle.lalrpop_verdicts.specs.Answers.{answer_from}
use Rattle.lalrpop_verdicts.specs.Internal.Classes.{AlikeFrom, AreLeads, AreSplit, AreFirstPlaces, AreTried, AreWithin, AreClassesOf, leads_of}
use Rattle.lalrpop_verdicts.specs.Internal.Rounds.{IsRound}
use Rattle.lalrpop_verdicts.specs.Internal.Shortest.{AreKept, AreShortened, AreShortest, AreWalks, IsShorter, IsWalk, ends, goes, start_of, start_with, target_at, targets_at}
use Rattle.lalrpop_verdicts.proofs.FirstLaws.{same_class}
use Rattle.lalrpop_verdicts.proofs.RoundLaws.{leads_within, same_map}

-- ---- where states that answer alike lead
module _ (d : List Row) (p q : ℕ) (alike : AlikeFrom d p q) where
  steps_alike : (vs : List ℕ) (k : ℕ) → k < length (map (step d p) vs) → AlikeFrom d (get_or (map (step d p) vs) k 0) (get_or (map (step d q) vs) k 0)
  steps_alike [] k l = absurd (omega (arith, l))
  steps_alike (v ∷ vs) zero l = λ w. alike (v ∷ w)
  steps_alike (v ∷ vs) (suc k) l = steps_alike vs k (omega (arith, l))

  leads_alike_at : (vs : List ℕ) → AreTried d vs → p < length d → q < length d → (k : ℕ) → k < length (leads_of d vs p) → AlikeFrom d (get_or (leads_of d vs p) k 0) (get_or (leads_of d vs q) k 0)
  leads_alike_at vs tried a b zero l = alike
  leads_alike_at vs tried a b (suc zero) l = λ w. ap (λ t. answer_from d t w) (sym (tried.beyond p a)) ∙ alike (4294967296 ∷ w) ∙ ap (λ t. answer_from d t w) (tried.beyond q b)
  leads_alike_at vs tried a b (suc (suc k)) l = steps_alike vs k (omega (arith, l))

targets_are : (d : List Row) (vs : List ℕ) (table : List (Vec ℕ Global)) → AreLeads d vs table → (p : ℕ) → p < length d → targets_at table p ≡ leads_of d vs p
targets_are d vs table leads p l = elim (slice_get_cases table p).1 [
  | inl x ↦ (rw x.2 (leads.each p x.0 x.2))
  | inr past ↦ absurd (omega (arith, past.0, leads.same_length, l))
]

pub read_targets : (table : List (Vec ℕ Global)) (p : ℕ) (v : Vec ℕ Global) → p < length table → v ≡ get_or table p v → targets_at table p ≡ v.items
read_targets table p v l e = let at : slice_get table p ≡ Some v = slice_get-get_or table p v l ∙ ap (λ (x : Vec ℕ Global). Some x) (sym e) in rw at refl

-- ---- where a state leads, and where one that answers alike does
module _ (d : List Row) (vs : List ℕ) (table : List (Vec ℕ Global)) (formed : IsWellFormed d) (tried : AreTried d vs) (leads : AreLeads d vs table) where
  pub same_count : (p q : ℕ) → p < length d → q < length d → length (targets_at table p) ≡ length (targets_at table q)
  same_count p q a b =
      ap length (targets_are d vs table leads p a) ∙ (let g : length (leads_of d vs p) ≡ length (leads_of d vs q) = omega (arith, length-map vs (step d p), length-map vs (step d q)) in g) ∙ sym (ap length (targets_are d vs table leads q b))

  pub target_within : (p k : ℕ) → p < length d → k < length (targets_at table p) → target_at table p k < length d
  target_within p k a l = elim (slice_get_cases table p).1 [
    | inl x ↦
        (let in_table : p < length table = omega (arith, a, leads.same_length) in
        let at : targets_at table p ≡ x.0.items = rw x.2 refl in
        let here : get_or table p x.0 ≡ x.0 = (let g : Some (get_or table p x.0) ≡ Some x.0 = sym (slice_get-get_or table p x.0 in_table) ∙ x.2 in cc) in
        subst (λ t. t < length d) (sym (ap (λ ts. get_or ts k 0) at))
        (leads_within d vs table formed tried leads x.0 (p, in_table, here) (get_or x.0.items k 0) (Contains-get_or x.0.items k 0 (omega (arith, l, ap length at)))))
    | inr past ↦ absurd (omega (arith, past.0, leads.same_length, a))
  ]

  pub targets_alike : (p q : ℕ) → p < length d → q < length d → AlikeFrom d p q → (k : ℕ) → k < length (targets_at table p) → AlikeFrom d (target_at table p k) (target_at table q k)
  targets_alike p q a b alike k l =
      rw (targets_are d vs table leads p a, targets_are d vs table leads q b)
      (leads_alike_at d p q alike vs tried a b k (omega (arith, l, ap length (targets_are d vs table leads p a))))

-- ---- lengths of states that answer alike
module _ (d : List Row) (vs : List ℕ) (table : List (Vec ℕ Global)) (starts lengths : List ℕ) (formed : IsWellFormed d) (tried : AreTried d vs) (leads : AreLeads d vs table)
    (same : AreKept d starts) (h : AreShortest table starts lengths) where
  -- no walk from a state is shorter than the length of a state that answers alike
  walk_bound : (p x : ℕ) → IsWalk table starts p x → (q : ℕ) → p < length d → q < length d → AlikeFrom d p q → get_or lengths q 0 ≤ x
  walk_bound p x (ends l) q a b alike = omega (arith, l, h.most q (omega (arith, b, same.same_length)), same.kept p q a b alike)
  walk_bound p x (goes k y l way less) q a b alike =
      let m : k < length (targets_at table q) = omega (arith, l, same_count d vs table formed tried leads p q a b) in
      let on = targets_alike d vs table formed tried leads p q a b alike k l in
      let later = walk_bound (target_at table p k) y way (target_at table q k) (target_within d vs table formed tried leads p k a l) (target_within d vs table formed tried leads q k b m) on in
      omega (arith, later, less, h.least q k (omega (arith, b, same.same_length)) m)

  pub lengths_kept : AreKept d lengths
  lengths_kept = record {
    same_length = long;
    kept = λ p q a b alike.
        let low = walk_bound p (get_or lengths p 0) (h.walks p (omega (arith, a, long))) q a b alike in
        let high = walk_bound q (get_or lengths q 0) (h.walks q (omega (arith, b, long))) p b a (λ w. sym (alike w)) in
        omega (arith, low, high);
  }
    where
      long : length lengths ≡ length d
      long = h.same_length ∙ same.same_length

-- ---- the starts
start_here : (d : List Row) (p : ℕ) → p < length d → get_or (map (λ s. start_of s.kind) d) p 0 ≡ start_with (answer_from d p [])
start_here [] p l = absurd (omega (arith, l))
start_here (s ∷ d) zero l = refl
start_here (s ∷ d) (suc p) l = start_here d p (omega (arith, l))

pub starts_kept : (d : List Row) (starts : List ℕ) → starts ≡ map (λ s. start_of s.kind) d → AreKept d starts
starts_kept d starts e = record {
  same_length = ap length e ∙ length-map d (λ s. start_of s.kind);
  kept = λ p q a b alike. rw e (start_here d p a ∙ ap start_with (alike []) ∙ sym (start_here d q b));
}

pub stored_starts : (d : List Row) (states : List StoredState) → AreStored d states → map (λ s. start_of s.kind) states ≡ map (λ r. start_of r.kind) d
stored_starts d states h = same_map (λ s. start_of s.kind) (λ r. start_of r.kind) states d h.same_length (λ k s r a b. ap start_of (h.each k r s b a).kind)

-- ---- one place after another, from the last to the first
pub record IsShortening (table : List (Vec ℕ Global)) (old new : List ℕ) (from : ℕ) : Type 0 where
  pub same_length : length new ≡ length old
  pub most : (p : ℕ) → p < length old → get_or new p 0 ≤ get_or old p 0
  pub least : (p k : ℕ) → from ≤ p → p < length old → k < length (targets_at table p) → get_or new p 0 ≤ get_or old (target_at table p k) 0 + 1
  pub walks : (starts : List ℕ) → AreWalks table starts old → AreWalks table starts new

pub shortening_first : (table : List (Vec ℕ Global)) (old : List ℕ) → IsShortening table old old (length old)
shortening_first table old = record {
  same_length = refl;
  most = λ p l. omega arith;
  least = λ p k from l m. absurd (omega (arith, from, l));
  walks = λ starts all. all;
}

module _ (table : List (Vec ℕ Global)) (old new : List ℕ) (place next value : ℕ) (on : next ≡ place + 1) (h : IsShortening table old new next) (within : place < length new)
    (targets : AreWithin (targets_at table place) (length new)) (less : IsShorter new (targets_at table place) (get_or new place 0) value) where
  abbrev now : List ℕ
  now = set new place value

  here : get_or now place 0 ≡ value
  here = get_or-set_same new place value 0 within

  there : (p : ℕ) → p ≢ place → get_or now p 0 ≡ get_or new p 0
  there p ne = get_or-set_other new place p value 0 ne

  falls : (p : ℕ) → get_or now p 0 ≤ get_or new p 0
  falls p = elim (same_or_other p place) [
    | inl e ↦ (rw (e, here) less.most)
    | inr ne ↦ (rw (there p ne) (omega arith))
  ]

  sinks : (p : ℕ) → p < length old → get_or now p 0 ≤ get_or old p 0
  sinks p l = omega (arith, falls p, h.most p l)

  least_at : (k : ℕ) → k < length (targets_at table place) → value ≤ get_or old (target_at table place k) 0 + 1
  least_at k l =
      let within_new = targets (target_at table place k) (Contains-get_or (targets_at table place) k 0 l) in
      omega (arith, less.least k l, h.most (target_at table place k) (omega (arith, within_new, h.same_length)))

  walk_now : (starts : List ℕ) → AreWalks table starts new → IsWalk table starts place value
  walk_now starts all =
      ⊎_elim (λ (e : value ≡ get_or new place 0). subst (IsWalk table starts place) (sym e) (all place within))
      (λ (t : (k : ℕ) × (k < length (targets_at table place) × (get_or new (target_at table place k) 0 < value))).
      goes t.0 (get_or new (target_at table place t.0) 0) t.1.0 (all (target_at table place t.0) (targets (target_at table place t.0) (Contains-get_or (targets_at table place) t.0 0 t.1.0))) t.1.1)
      less.reached

  pub shortening_more : IsShortening table old now place
  shortening_more = record {
    same_length = length-set new place value ∙ h.same_length;
    most = sinks;
    least = λ p k from l m. elim (same_or_other p place) [
      | inl e ↦ (let bound = least_at k (subst (λ (n : ℕ). k < length (targets_at table n)) e m) in
          rw (e, here) bound)
      | inr ne ↦ (rw (there p ne) (h.least p k (omega (arith, from, on, greater p from ne)) l m))
    ];
    walks = λ starts all p l. elim (same_or_other p place) [
      | inl e ↦ (rw (e, here) (walk_now starts (h.walks starts all)))
      | inr ne ↦ (rw (there p ne) (h.walks starts all p (omega (arith, l, length-set new place value))))
    ];
  }
    where
      greater : (p : ℕ) → place ≤ p → p ≢ place → place < p
      greater p from ne = ⊎_elim (λ (l : place < p). l) (λ (l : p ≤ place). absurd (ne (omega (arith, from, l)))) (cases_lt place p)

pub shortening_end : (table : List (Vec ℕ Global)) (old new : List ℕ) → IsShortening table old new 0 → AreShortened table old new
shortening_end table old new h = record {
  same_length = h.same_length;
  most = h.most;
  least = λ p k l m. h.least p k (omega arith) l m;
  walks = h.walks;
}

-- ---- pass after pass
pub record AreShortening (table : List (Vec ℕ Global)) (starts lengths : List ℕ) : Type 0 where
  pub same_length : length lengths ≡ length starts
  pub most : (p : ℕ) → p < length starts → get_or lengths p 0 ≤ get_or starts p 0
  pub walks : AreWalks table starts lengths

pub passes_first : (table : List (Vec ℕ Global)) (starts : List ℕ) → AreShortening table starts starts
passes_first table starts = record {
  same_length = refl;
  most = λ p l. omega arith;
  walks = λ p l. ends (omega arith);
}

module _ (table : List (Vec ℕ Global)) (starts old new : List ℕ) (h : AreShortening table starts old) (on : AreShortened table old new) where
  pub passes_more : AreShortening table starts new
  passes_more = record {
    same_length = on.same_length ∙ h.same_length;
    most = λ p l. omega (arith, h.most p l, on.most p (omega (arith, l, h.same_length)));
    walks = on.walks starts h.walks;
  }

pub passes_end : (table : List (Vec ℕ Global)) (starts lengths : List ℕ) → AreShortening table starts lengths → AreShortened table lengths lengths → AreShortest table starts lengths
passes_end table starts lengths h on = record {
  same_length = h.same_length;
  most = h.most;
  least = λ p k l m. on.least p k (omega (arith, l, h.same_length)) m;
  walks = h.walks;
}

-- ---- the least of the targets, one after another
pub record IsShorterOf (lengths targets : List ℕ) (old new n : ℕ) : Type 0 where
  pub most : new ≤ old
  pub least : (k : ℕ) → k < n → new ≤ get_or lengths (get_or targets k 0) 0 + 1
  pub reached : (new ≡ old) ⊎ ((k : ℕ) × (k < length targets × (get_or lengths (get_or targets k 0) 0 < new)))

-- ---- classes of states by what they answer, split by their lengths
pub first_places : (rows : List (List ℕ)) (classes : List ℕ) → AreClassesOf rows classes → AreFirstPlaces classes
first_places rows classes h = record {
  least = λ p l. h.least p (omega (arith, l, h.same_length));
  own = λ p l.
      let a : p < length rows = omega (arith, l, h.same_length) in
      same_class rows classes h (get_or classes p 0) p (omega (arith, h.least p a, a)) a (h.equal p a);
}

pub split_round : (d : List Row) (firsts keys parts : List ℕ) → IsRound d firsts → AreKept d keys → AreSplit firsts keys parts → IsRound d parts
split_round d firsts keys parts h same on = record {
  same_length = on.same_length ∙ h.same_length;
  least = λ p l. on.places.least p (omega (arith, l, on.same_length, h.same_length));
  answers = λ p q a b e. h.answers p q a b (sym (on.same_first p (in_firsts p a)) ∙ ap (λ t. get_or firsts t 0) e ∙ on.same_first q (in_firsts q b));
  kept = λ p q a b alike. on.together p q (in_firsts p a) (in_firsts q b) (h.kept p q a b alike) (same.kept p q a b alike);
}
  where
    in_firsts : (p : ℕ) → p < length d → p < length firsts
    in_firsts p l = omega (arith, l, h.same_length)
