-- How far states are from goals, as it is found.
use Rattle.std.proofs.Common.{◌≡◌, ◌≢◌, ℕ, ◌⊎◌, inl, inr, ◌+◌, ◌-◌, ◌<◌, ◌≤◌, ⊎_elim, List, [], ◌∷◌, length, get_or, set, get_or-set_same, get_or-set_other, length-set, refl, sym, ap, ◌∙◌, subst, arith}
use Rattle.std.specs.Prelude.{◌==◌, cond, None}
use Rattle.std.proofs.lemmas.Bool.{cases_lt, ne_eqb}
use Rattle.std.proofs.lemmas.List.Sums.{count_by-le-length, sum_by-set}
use Rattle.lalrpop_hir.specs.Word.{IsWord}
use Rattle.lalrpop_dfa.specs.Dfa.{Row, step, run, IsWellFormed}
use Rattle.lalrpop_dfa.specs.Internal.Ranks.{IsLeastInto, IsWanted, IsGoal, IsNear, AreDistances, AreNearest, AreNearer, AreStill, AreWays, IsNearer, unknown, unknown_count}
use Rattle.lalrpop_dfa.proofs.EdgeTargets.{step_within}
use Rattle.lalrpop_dfa.proofs.Ranked.{near_more, near_none, near_on}
use Rattle.lalrpop_dfa.proofs.Totals.{same_or_other}

-- ---- how many distances aren't known
-- 1 for a distance that isn't known
abbrev one_if_unknown : ℕ → ℕ
one_if_unknown k = cond (k == unknown) 1 0

unknown_more : (distances : List ℕ) (place v : ℕ) → place < length distances
    → unknown_count (set distances place v) + one_if_unknown (get_or distances place 0) ≡ unknown_count distances + one_if_unknown v
unknown_more distances place v l = sum_by-set one_if_unknown distances place v 0 l

one_if : (k : ℕ) → k ≡ unknown → one_if_unknown k ≡ 1
one_if k e = ap one_if_unknown e

none_if : (k : ℕ) → k ≢ unknown → one_if_unknown k ≡ 0
none_if k ne = rw (ne_eqb k unknown ne) refl

-- one that is known isn't among them
pub known_few : (distances : List ℕ) (place : ℕ) → place < length distances → get_or distances place 0 ≢ unknown → unknown_count distances < length distances
known_few distances place l known =
    let sums = unknown_more distances place unknown l in
    let was = none_if (get_or distances place 0) known in
    let is = one_if unknown refl in
    let all = count_by-le-length (λ k. k == unknown) (set distances place unknown) in
    omega (arith, sums, was, is, all, length-set distances place unknown)

-- ---- the distances at first
-- the distance of a state by whether it is a goal
abbrev pub FirstDistance : List Row → ℕ → ℕ → ℕ → Type 0
FirstDistance d n p k = ((k ≡ 0) × IsGoal d n p) ⊎ ((k ≡ unknown) × ¬ IsGoal d n p)

first_goal : (d : List Row) (n p k : ℕ) → FirstDistance d n p k → k < unknown → (k ≡ 0) × IsGoal d n p
first_goal d n p k (inl h) l = h
first_goal d n p k (inr h) l = absurd (omega (arith, h.0, l))

goal_first : (d : List Row) (n p k : ℕ) → FirstDistance d n p k → IsGoal d n p → k ≡ 0
goal_first d n p k (inl h) g = h.0
goal_first d n p k (inr h) g = absurd (h.1 g)

pub ways_at_first : (d : List Row) (n : ℕ) (distances : List ℕ) → length distances ≡ length d → ((p : ℕ) → p < length d → FirstDistance d n p (get_or distances p 0)) → AreWays d n distances
ways_at_first d n distances same h = record {
  same_length = same;
  near = λ p l known. let g = first_goal d n p (get_or distances p 0) (h p l) known in near_more d n 0 (get_or distances p 0) p (omega arith) (near_none d n p g.1);
  few = λ p l known.
      let g = first_goal d n p (get_or distances p 0) (h p l) known in
      omega (arith, g.0, same, known_few distances p (omega (arith, l, same)) (λ e. absurd (omega (arith, e, known))));
  goals = λ p l g. goal_first d n p (get_or distances p 0) (h p l) g;
}

-- ---- the least of those that the values of a state lead to
-- the distance so far
pub record IsNearerYet (d : List Row) (distances : List ℕ) (p own new : ℕ) : Type 0 where
  pub most : new ≤ own
  pub reached : (new ≡ own) ⊎ ((c : ℕ) × ((c ≤ 4294967295) × (get_or distances (step d p c) 0 + 1 ≡ new)))

pub nearer_first : (d : List Row) (distances : List ℕ) (p own : ℕ) → IsNearerYet d distances p own own
nearer_first d distances p own = record { most = omega arith; reached = inl refl }

pub nearer_by : (d : List Row) (distances : List ℕ) (p own old c new : ℕ) → IsNearerYet d distances p own old → c ≤ 4294967295 → get_or distances (step d p c) 0 + 1 ≡ new → new ≤ old
    → IsNearerYet d distances p own new
nearer_by d distances p own old c new h l e less = record { most = omega (arith, h.most, less); reached = inr (c, (l, e)) }

pub nearer_none : (d : List Row) (distances : List ℕ) (p own new : ℕ) → IsNearerYet d distances p own new → 1 < new → IsLeastInto d (IsWanted distances 0 (new - 2)) p None
    → IsNearer d distances p own new
nearer_none d distances p own new h some none = record {
  most = h.most;
  least = λ c l.
      ⊎_elim (λ (x : new - 2 < get_or distances (step d p c) 0). omega (arith, x, some))
      (λ (x : get_or distances (step d p c) 0 ≤ new - 2). absurd (none c l (omega arith, x)))
      (cases_lt (new - 2) (get_or distances (step d p c) 0));
  reached = h.reached;
}

pub nearer_end : (d : List Row) (distances : List ℕ) (p own new : ℕ) → IsNearerYet d distances p own new → new ≤ 1 → IsNearer d distances p own new
nearer_end d distances p own new h low = record { most = h.most; least = λ c l. omega (arith, low); reached = h.reached }

-- ---- one pass: the states from a place on are done
pub record IsSpreading (d : List Row) (old new : List ℕ) (from : ℕ) : Type 0 where
  pub same_length : length new ≡ length old
  pub most : (p : ℕ) → p < length d → get_or new p 0 ≤ get_or old p 0
  pub least : (p c : ℕ) → from ≤ p → p < length d → c ≤ 4294967295 → get_or new p 0 ≤ get_or old (step d p c) 0 + 1
  pub ways : (n : ℕ) → AreWays d n old → AreWays d n new

pub spreading_first : (d : List Row) (old : List ℕ) → IsSpreading d old old (length d)
spreading_first d old = record {
  same_length = refl;
  most = λ p l. omega arith;
  least = λ p c from l m. absurd (omega (arith, from, l));
  ways = λ n h. h;
}

pub spreading_end : (d : List Row) (old new : List ℕ) → IsSpreading d old new 0 → AreNearer d old new
spreading_end d old new h = record { same_length = h.same_length; most = h.most; least = λ p c l m. h.least p c (omega arith) l m; ways = h.ways }

-- one distance falls
module _ (d : List Row) (n : ℕ) (distances : List ℕ) (place value : ℕ) (h : AreWays d n distances) (l : place < length d) (well : IsWellFormed d)
    (fits : get_or distances place 0 ≤ unknown) (less : IsNearer d distances place (get_or distances place 0) value) where
  abbrev now : List ℕ
  now = set distances place value

  in_list : place < length distances
  in_list = omega (arith, l, h.same_length)

  here : get_or now place 0 ≡ value
  here = get_or-set_same distances place value 0 in_list

  there : (p : ℕ) → p ≢ place → get_or now p 0 ≡ get_or distances p 0
  there p ne = get_or-set_other distances place p value 0 ne

  counted : unknown_count now + one_if_unknown (get_or distances place 0) ≡ unknown_count distances + one_if_unknown value
  counted = unknown_more distances place value in_list

  -- one that is found is one more known
  found : get_or distances place 0 ≡ unknown → value < unknown → unknown_count now + 1 ≡ unknown_count distances
  found e less_known = omega (arith, counted, one_if (get_or distances place 0) e, none_if value (λ f. absurd (omega (arith, f, less_known))))

  fewer : unknown_count now ≤ unknown_count distances
  fewer = elim (same_or_other (get_or distances place 0) unknown) [
    | inl e ↦ elim (same_or_other value unknown) [
      | inl f ↦ omega (arith, counted, one_if (get_or distances place 0) e, one_if value f)
      | inr f ↦ omega (arith, counted, one_if (get_or distances place 0) e, none_if value f)
    ]
    | inr e ↦ elim (same_or_other value unknown) [
      | inl f ↦ absurd (e (omega (arith, less.most, f, fits)))
      | inr f ↦ omega (arith, counted, none_if (get_or distances place 0) e, none_if value f)
    ]
  ]

  near_here : value < unknown → IsNear d n value place
  near_here known = elim less.reached [
    | inl e ↦ subst (λ k. IsNear d n k place) (sym e) (h.near place l (omega (arith, e, known)))
    | inr t ↦ subst (λ k. IsNear d n k place) t.1.1
        (near_on d n (get_or distances (step d place t.0) 0) place t.0 t.1.0 (h.near (step d place t.0) (step_within d place t.0 well l) (omega (arith, t.1.1, known))))
  ]

  few_here : value < unknown → value + unknown_count now < length d
  few_here known = elim (same_or_other (get_or distances place 0) unknown) [
    | inl e ↦ elim less.reached [
      | inl f ↦ absurd (omega (arith, e, f, known))
      | inr t ↦ omega (arith, t.1.1, found e known, h.few (step d place t.0) (step_within d place t.0 well l) (omega (arith, t.1.1, known)))
    ]
    | inr e ↦ omega (arith, less.most, fewer, h.few place l (⊎_elim (λ (x : get_or distances place 0 < unknown). x) (λ (x : unknown ≤ get_or distances place 0). absurd (e (omega (arith, x, fits)))) (cases_lt (get_or distances place 0) unknown)))
  ]

  pub ways_fall : AreWays d n now
  ways_fall = record {
    same_length = length-set distances place value ∙ h.same_length;
    near = λ p m. elim (same_or_other p place) [
      | inl e ↦ (rw (e, here) near_here)
      | inr ne ↦ (rw (there p ne) (h.near p m))
    ];
    few = λ p m. elim (same_or_other p place) [
      | inl e ↦ (rw (e, here) few_here)
      | inr ne ↦ (rw (there p ne) (λ known. omega (arith, h.few p m known, fewer)))
    ];
    goals = λ p m g. elim (same_or_other p place) [
      | inl e ↦ (let zero_before = h.goals place l (subst (IsGoal d n) e g) in
          rw (e, here) (omega (arith, less.most, zero_before)))
      | inr ne ↦ (rw (there p ne) (h.goals p m g))
    ];
  }

module _ (d : List Row) (old new : List ℕ) (place next value : ℕ) (on : next ≡ place + 1) (h : IsSpreading d old new next) (long : length new ≡ length d) (l : place < length d) (well : IsWellFormed d)
    (fits : get_or new place 0 ≤ unknown) (less : IsNearer d new place (get_or new place 0) value) where
  pub spreading_more : IsSpreading d old (set new place value) place
  spreading_more = record {
    same_length = length-set new place value ∙ h.same_length;
    most = λ p m. elim (same_or_other p place) [
      | inl e ↦ (rw (e, here) (omega (arith, less.most, h.most place l)))
      | inr ne ↦ (rw (there p ne) (h.most p m))
    ];
    least = λ p c from m k. elim (same_or_other p place) [
      | inl e ↦ (let bound = least_here c k in
          rw (e, here) bound)
      | inr ne ↦ (rw (there p ne) (h.least p c (omega (arith, from, on, greater p from ne)) m k))
    ];
    ways = λ n a. ways_fall d n new place value (h.ways n a) l well fits less;
  }
    where
      here : get_or (set new place value) place 0 ≡ value
      here = get_or-set_same new place value 0 (omega (arith, l, long))

      there : (p : ℕ) → p ≢ place → get_or (set new place value) p 0 ≡ get_or new p 0
      there p ne = get_or-set_other new place p value 0 ne

      least_here : (c : ℕ) → c ≤ 4294967295 → value ≤ get_or old (step d place c) 0 + 1
      least_here c k = omega (arith, less.least c k, h.most (step d place c) (step_within d place c well l))

      greater : (p : ℕ) → place ≤ p → p ≢ place → place < p
      greater p from ne = ⊎_elim (λ (x : place < p). x) (λ (x : p ≤ place). absurd (ne (omega (arith, from, x)))) (cases_lt place p)

-- ---- pass after pass
pub record AreSpreading (d : List Row) (first distances : List ℕ) : Type 0 where
  pub same_length : length distances ≡ length d
  pub ways : (n : ℕ) → AreWays d n first → AreWays d n distances

pub passes_first : (d : List Row) (first : List ℕ) → length first ≡ length d → AreSpreading d first first
passes_first d first same = record { same_length = same; ways = λ n h. h }

pub passes_more : (d : List Row) (first old new : List ℕ) → AreSpreading d first old → AreNearer d old new → AreSpreading d first new
passes_more d first old new h on = record { same_length = on.same_length ∙ h.same_length; ways = λ n a. on.ways n (h.ways n a) }

-- ---- the distances at the end
module _ (d : List Row) (n : ℕ) (distances : List ℕ) (ways : AreWays d n distances) (still : AreStill d distances) (well : IsWellFormed d) (small : length d < unknown) where
  -- the distance of a state from which some word leads to a goal is known, and not greater than the word is long
  known_by : (w : List ℕ) (p : ℕ) → p < length d → IsWord w → IsGoal d n (run d p w) → (get_or distances p 0 ≤ length w) × (get_or distances p 0 < unknown)
  known_by [] p l f g = (omega (arith, ways.goals p l g), omega (arith, ways.goals p l g))
  known_by (c ∷ w) p l f g =
      let within = step_within d p c well l in
      let later = known_by w (step d p c) within f.1 g in
      let one = still p c l f.0 in
      let few = ways.few (step d p c) within later.1 in
      (omega (arith, one, later.0), omega (arith, one, few, small))

  are_distances : (m : ℕ) → m < unknown → AreDistances d n m distances
  are_distances m room = record {
    same_length = ways.same_length;
    each = λ p l j b. (
      λ low. near_more d n (get_or distances p 0) j p low (ways.near p l (omega (arith, low, b, room))),
      λ s. omega (arith, (known_by s.0 p l s.1.0 s.1.1).0, s.1.2),
    );
  }

  module _ (one_more : ℕ) (h : IsNearer d distances 0 unknown one_more) where
    pub nearest_found : one_more ≢ unknown → AreNearest d n (one_more - 1) distances
    nearest_found some = record {
      well_formed = well;
      fits = omega (arith, h.most);
      are = are_distances (one_more - 1) (omega (arith, h.most));
      near = elim h.reached [
        | inl e ↦ absurd (some e)
        | inr t ↦ (
          t.0,
          (
            t.1.0,
            subst (λ k. IsNear d n k (step d 0 t.0)) (omega (arith, t.1.1)) (ways.near (step d 0 t.0) (step_within d 0 t.0 well well.some) (omega (arith, t.1.1, h.most))),
          ),
        )
      ];
      least = λ j c l s. omega (arith, h.least c l, (known_by s.0 (step d 0 c) (step_within d 0 c well well.some) s.1.0 s.1.1).0, s.1.2);
    }

    pub none_near : one_more ≡ unknown → (m c : ℕ) → c ≤ 4294967295 → ¬ IsNear d n m (step d 0 c)
    none_near none m c l s =
        let within = step_within d 0 c well well.some in
        let known = known_by s.0 (step d 0 c) within s.1.0 s.1.1 in
        omega (arith, none, h.least c l, ways.few (step d 0 c) within known.1, small)
