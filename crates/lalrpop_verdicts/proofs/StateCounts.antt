-- The number of states that a walk over the classes has met is the least number of states.
use Rattle.std.proofs.Common.{◌≡◌, ℕ, suc, zero, ◌+◌, ◌<◌, ◌≤◌, ◌⊎◌, inl, inr, ⊎_elim, List, [], ◌∷◌, length, map, get_or, refl, sym, ap, ◌∙◌, subst, arith, Bool, true, false}
use Rattle.std.specs.Prelude.{slice_get, slice_index, Option, Some, None, nat_le, ◌&&◌, if◌then◌else◌, Vec}
use Rattle.std.specs.Global.{Global}
use Rattle.std.specs.List.{Contains}
use Rattle.std.proofs.lemmas.Bool.{cases_lt}
use Rattle.std.proofs.lemmas.List.{length-map}
use Rattle.std.proofs.lemmas.Option.{slice_get_cases, slice_get_within, slice_get-get_or, get_or_from_slice_get}
use Rattle.lalrpop_hir.specs.Range.{Range}
use Rattle.lalrpop_dfa.specs.Dfa.{Row, edge_target, step, after, AreAscendingTests, IsWellFormed}
use Rattle.lalrpop_dfa.specs.declared.Kind.TheVariants.{Neither}
use Rattle.lalrpop_dfa.proofs.EdgeTargets.{place_of, step_of}
use Rattle.lalrpop_verdicts.specs.Answers.{accepted_at, answer_from}
use Rattle.lalrpop_verdicts.specs.Smallest.{IsLeastCount}
use Rattle.lalrpop_verdicts.specs.Internal.Classes.{AreAlikeClasses, AreTried, AreWithin, leads_of, other_at}
use Rattle.lalrpop_verdicts.specs.Internal.ClassRows.{AreMet, AreNumbered, AreReached, IsMetClass, IsNumberOf, LeadsTo}
use Rattle.lalrpop_verdicts.specs.Internal.StateWalks.{AreAllLeads, AreAllMet, IsStateWalk}
use Rattle.lalrpop_verdicts.proofs.ClassAutomata.{IsOfClasses, class_alike, class_smallest}
use Rattle.lalrpop_verdicts.proofs.ClassWalks.{led_further, number_kept, reached_more, read_index}
use Rattle.lalrpop_verdicts.proofs.RoundLaws.{leads_within}
use Rattle.lalrpop_verdicts.proofs.StretchLaws.{contains_cases}

-- ---- edges that lead to other numbers
module _ (f : ℕ → ℕ) where
  abbrev led_to : Range × ℕ → Range × ℕ
  led_to t = (t.0, f t.1)

  either : (b : Bool) (x y : ℕ) → (if b then f x else f y) ≡ f (if b then x else y)
  either true x y = refl
  either false x y = refl

  target_led : (ts : List (Range × ℕ)) (o c : ℕ) → edge_target (map led_to ts) (f o) c ≡ f (edge_target ts o c)
  target_led [] o c = refl
  target_led (t ∷ ts) o c = rw (target_led ts o c) (either (nat_le t.0.start c && nat_le c t.0.end) t.1 (edge_target ts o c))

  led_ascend : (ts : List (Range × ℕ)) → AreAscendingTests ts → AreAscendingTests (map led_to ts)
  led_ascend [] a = tt
  led_ascend (t ∷ []) a = a
  led_ascend (t ∷ u ∷ ts) a = (a.0, a.1, led_ascend (u ∷ ts) a.2)

  led_at : (ts : List (Range × ℕ)) (k : ℕ) (u : Range × ℕ) → slice_get (map led_to ts) k ≡ Some u → (q : ℕ) × (f q ≡ u.1)
  led_at [] k u e = cc
  led_at (t ∷ ts) zero u e = let same : led_to t ≡ u = cc in (t.1, ap (λ (x : Range × ℕ). x.1) same)
  led_at (t ∷ ts) (suc k) u e = led_at ts k u e

-- ---- rows for the states of a list
map_at : {A : Type 0} (f : ℕ → A) (xs : List ℕ) (i : ℕ) → i < length xs → slice_get (map f xs) i ≡ Some (f (slice_index xs i))
map_at f [] i l = absurd (omega arith)
map_at f (x ∷ xs) zero l = refl
map_at f (x ∷ xs) (suc i) l = map_at f xs i (omega arith)

abbrev or_zero : Option (Option ℕ) → ℕ
or_zero None = 0
or_zero (Some None) = 0
or_zero (Some (Some n)) = n

module _ (d : List Row) (classes states : List ℕ) (well : IsWellFormed d) (are : AreAlikeClasses d classes) (all : AreAllMet d classes states) where
  reached : AreReached d classes states
  reached = all.walk.reached

  -- the number of the class, if it was met, or else 0
  abbrev number : ℕ → ℕ
  number q = or_zero (slice_get all.numbers (slice_index classes q))

  below : (o : Option (Option ℕ)) (k : ℕ) → slice_get all.numbers k ≡ o → or_zero o < length states
  below None k e = reached.some
  below (Some None) k e = reached.some
  below (Some (Some n)) k e = (all.numbered.back k n e).0

  number_below : (q : ℕ) → number q < length states
  number_below q = below (slice_get all.numbers (slice_index classes q)) (slice_index classes q) refl

  number_met : (q : ℕ) → IsMetClass classes states q → IsNumberOf classes states q (number q)
  number_met q (n, is) =
      let there : slice_get all.numbers (slice_index classes q) ≡ Some (Some n) = ap (slice_get all.numbers) (sym is.same) ∙ all.numbered.numbered n is.within in
      subst (λ m. IsNumberOf classes states q m) (sym (ap or_zero there)) is

  -- the row of p, with the numbers of the classes that it leads into
  abbrev led : Row → Row
  led r = record { kind = r.kind; tests = map (led_to number) r.tests; other = number r.other; items = [] }

  abbrev led_row : Option Row → Row
  led_row None = record { kind = Neither; tests = []; other = 0; items = [] }
  led_row (Some r) = led r

  abbrev row_for : ℕ → Row
  row_for p = led_row (slice_get d p)

  abbrev rows : List Row
  rows = map row_for states

  count : length rows ≡ length states
  count = length-map states row_for

  row_of_d : (i : ℕ) → i < length rows → (r : Row) × ((slice_get d (slice_index states i) ≡ Some r) × (slice_get rows i ≡ Some (led r)))
  row_of_d i l = elim (slice_get_cases d (slice_index states i)).1 [
    | inl x ↦ (x.0, (x.2, map_at row_for states i (omega (arith, l, count)) ∙ ap (λ o. Some (led_row o)) x.2))
    | inr past ↦ absurd (omega (arith, past.0, reached.within i (omega (arith, l, count))))
  ]

  steps : (i c : ℕ) → i < length rows → IsNumberOf classes states (step d (slice_index states i) c) (step rows i c)
  steps i c l = (let (r, (at, there)) = row_of_d i l in
      let same : step rows i c ≡ number (step d (slice_index states i) c) =
      step_of rows i c (led r) there ∙ target_led number r.tests r.other c ∙ ap number (sym (step_of d (slice_index states i) c r at)) in
      subst (λ n. IsNumberOf classes states (step d (slice_index states i) c) n) (sym same)
      (number_met (step d (slice_index states i) c) (all.walk.closed i c (omega (arith, l, count)))))

  accepts : (i : ℕ) → i < length rows → answer_from rows i [] ≡ answer_from d (slice_index states i) []
  accepts i l = (let (r, (at, there)) = row_of_d i l in ap accepted_at there ∙ sym (ap accepted_at at))

  of_states : IsOfClasses d classes states rows
  of_states = record { reached = reached; count = count; steps = steps; accepts = accepts }

  -- the rows are those of d, but for where their edges lead
  row_given : (i : ℕ) (s : Row) → slice_get rows i ≡ Some s → (p : ℕ) × (r : Row) × ((slice_get d p ≡ Some r) × (led r ≡ s))
  row_given i s e = (let (r, (at, there)) = row_of_d i (slice_get_within rows i s e) in
      let same : Some (led r) ≡ Some s = sym there ∙ e in
      (slice_index states i, r, (at, (let x : led r ≡ s = cc in x))))

  rows_well : IsWellFormed rows
  rows_well = record {
    some = omega (arith, reached.some, count);
    ascending = λ i s e. (let (p, r, (at, same)) = row_given i s e in subst (λ (x : Row). AreAscendingTests x.tests) same (led_ascend number r.tests (well.ascending p r at)));
    tests_in = λ i s u e has.
        (let (p, r, (at, same)) = row_given i s e in
        let (k, there) = place_of s.tests u has in
        let (q, to) = led_at number r.tests k u (ap (λ (x : Row). slice_get x.tests k) same ∙ there) in
        omega (arith, number_below q, to, count));
    others_in = λ i s e. (let (p, r, (at, same)) = row_given i s e in
        let to : number r.other ≡ s.other = ap (λ (x : Row). x.other) same in
        omega (arith, number_below r.other, to, count));
  }

  pub states_are_least : IsLeastCount d (length states)
  states_are_least = (rows, (rows_well, class_alike d classes states rows well are of_states, class_smallest d classes states rows well are of_states, count))

-- ---- the walk: one more state is looked at
-- each state in its list is the state itself, or some value leads to it
mapped_led : (d : List Row) (p : ℕ) (vs : List ℕ) (q : ℕ) → Contains (map (step d p) vs) q → LeadsTo d p q
mapped_led d p [] q (j, l, e) = absurd (omega arith)
mapped_led d p (v ∷ vs) q m = ⊎_elim (λ (x : step d p v ≡ q). (v, x)) (λ (x : Contains (map (step d p) vs) q). mapped_led d p vs q x) (contains_cases (step d p v) (map (step d p) vs) q m)

among_leads : (d : List Row) (vs : List ℕ) (p q : ℕ) → AreTried d vs → p < length d → Contains (leads_of d vs p) q → (p ≡ q) ⊎ LeadsTo d p q
among_leads d vs p q tried l m =
    ⊎_elim (λ (x : p ≡ q). inl x)
    (λ (x : Contains (other_at d p ∷ map (step d p) vs) q). inr
    (⊎_elim (λ (y : other_at d p ≡ q). (4294967296, tried.beyond p l ∙ y)) (λ (y : Contains (map (step d p) vs) q). mapped_led d p vs q y) (contains_cases (other_at d p) (map (step d p) vs) q x)))
    (contains_cases p (other_at d p ∷ map (step d p) vs) q m)

-- and each state to which a value leads is in it
has_mapped : (f : ℕ → ℕ) (vs : List ℕ) (b : ℕ) → Contains vs b → Contains (map f vs) (f b)
has_mapped f [] b (k, l, e) = absurd (omega arith)
has_mapped f (v ∷ vs) b m = ⊎_elim (λ (x : v ≡ b). (0, omega arith, ap f x)) (λ (x : Contains vs b). (let (k, l, e) = has_mapped f vs b x in (suc k, omega arith, e))) (contains_cases v vs b m)

has_led : (d : List Row) (vs : List ℕ) (p c : ℕ) → AreTried d vs → p < length d → Contains (leads_of d vs p) (step d p c)
has_led d vs p c tried l =
    let (b, (m, same)) = tried.all c in
    subst (λ q. Contains (leads_of d vs p) q) (sym (same p l))
    (⊎_elim (λ (x : 4294967296 ≡ b). (1, omega arith, sym (tried.beyond p l) ∙ ap (step d p) x))
    (λ (x : Contains vs b). (let (k, n, e) = has_mapped (step d p) vs b x in (suc (suc k), omega arith, e)))
    (contains_cases 4294967296 vs b m))

module _ (d : List Row) (classes : List ℕ) (numbers : List (Option ℕ)) (old new : List ℕ) (place p : ℕ) (vs targets : List ℕ) (are : AreAlikeClasses d classes) (tried : AreTried d vs)
    (walk : IsStateWalk d classes old place) (numbered : AreNumbered classes numbers new) (next : place < length old) (is : p ≡ slice_index old place) (row : targets ≡ leads_of d vs p)
    (met : AreMet (Contains targets) old new) (looked : (q : ℕ) → Contains targets q → IsMetClass classes new q) where
  p_in : p < length d
  p_in = omega (arith, walk.reached.within place next, is)

  to_p : (w : List ℕ) × (after d w ≡ p)
  to_p = (let (w, e) = walk.reached.reached place next in (w, e ∙ sym is))

  further : (q : ℕ) → Contains targets q → (w : List ℕ) × (after d w ≡ q)
  further q m =
      ⊎_elim (λ (x : p ≡ q). (let (w, e) = to_p in (w, e ∙ x))) (λ (x : LeadsTo d p q). led_further d p q to_p x)
      (among_leads d vs p q tried p_in (subst (λ (ts : List ℕ). Contains ts q) row m))

  pub count_more : IsStateWalk d classes new (place + 1)
  count_more = record {
    reached = reached_more (Contains targets) d classes numbers old new are walk.reached numbered met further;
    few = omega (arith, next, met.longer);
    closed = λ i c l. ⊎_elim (λ (x : i < place). earlier i c x) (λ (x : place ≤ i). here i c (omega arith)) (cases_lt i place);
  }
    where
      earlier : (i c : ℕ) → i < place → IsMetClass classes new (step d (slice_index new i) c)
      earlier i c l =
          let (n, number) = walk.closed i c l in
          rw (met.kept i (omega (arith, l, next))) (n, number_kept (Contains targets) classes old new met (step d (slice_index old i) c) n number)

      here : (i c : ℕ) → i ≡ place → IsMetClass classes new (step d (slice_index new i) c)
      here i c e =
          let same : slice_index new i ≡ p = ap (slice_index new) e ∙ met.kept place next ∙ sym is in
          rw same (looked (step d p c) (rw row (has_led d vs p c tried p_in)))

-- ---- the states of a list, one after another
pub all_more : (classes old new states : List ℕ) (k p n : ℕ) → AreMet (λ q. q ≡ p) old new → ((j : ℕ) → j < k → IsMetClass classes old (slice_index states j)) → p ≡ slice_index states k → IsNumberOf classes new p n
    → (j : ℕ) → j < k + 1 → IsMetClass classes new (slice_index states j)
all_more classes old new states k p n met all is number j l =
    ⊎_elim (λ (x : j < k). (let (m, before) = all j x in (m, number_kept (λ q. q ≡ p) classes old new met (slice_index states j) m before)))
    (λ (x : k ≤ j). (let same : k ≡ j = omega arith in subst (λ q. IsMetClass classes new q) (is ∙ ap (slice_index states) same) (n, number)))
    (cases_lt j k)

pub all_found : (classes met states : List ℕ) (k : ℕ) → ((j : ℕ) → j < k → IsMetClass classes met (slice_index states j)) → length states ≤ k → (q : ℕ) → Contains states q → IsMetClass classes met q
all_found classes met states k all end q (j, l, e) =
    let same : Some (slice_index states j) ≡ Some q = sym (slice_get-get_or states j 0 l) ∙ slice_get-get_or states j q l ∙ ap (λ x. Some x) e in
    subst (λ x. IsMetClass classes met x) (let is : slice_index states j ≡ q = cc in is) (all j (omega arith))

-- ---- what is read at the place of a walk: a state p, and then its list
pub record IsRead (d : List Row) (table : List (Vec ℕ Global)) (states : List ℕ) (place p : ℕ) (v : Vec ℕ Global) : Type 0 where
  pub state : p ≡ slice_index states place
  pub within : p < length d
  pub list : slice_get table p ≡ Some v

pub is_read : (d : List Row) (classes : List ℕ) (table : List (Vec ℕ Global)) (states : List ℕ) (place p j : ℕ) (v : Vec ℕ Global) → AreAllLeads d table → IsStateWalk d classes states place → place < length states
    → p ≡ get_or states place p → j ≡ p → v ≡ get_or table j v → IsRead d table states place p v
is_read d classes table states place p j v leads walk next is same here =
    let at : p ≡ slice_index states place = read_index states place place p refl next is in
    let within : p < length d = omega (arith, walk.reached.within place next, at) in
    let in_table : p < length table = omega (arith, within, leads.leads.same_length) in
    record { state = at; within = within; list = slice_get-get_or table p v in_table ∙ ap (λ (x : Vec ℕ Global). Some x) (sym (here ∙ ap (λ k. get_or table k v) same)) }

pub read_within : (d : List Row) (table : List (Vec ℕ Global)) (states : List ℕ) (place p : ℕ) (v : Vec ℕ Global) → IsWellFormed d → AreAllLeads d table → IsRead d table states place p v → AreWithin v.items (length d)
read_within d table states place p v well leads read =
    leads_within d leads.values table well leads.tried leads.leads v (p, slice_get_within table p v read.list, get_or_from_slice_get table p v v read.list)
