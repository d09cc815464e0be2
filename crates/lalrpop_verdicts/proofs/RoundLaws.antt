-- Rounds that split classes of states.
use Rattle.std.proofs.Common.{◌≡◌, ◌≢◌, ℕ, zero, suc, ◌+◌, ◌-◌, ◌<◌, ◌≤◌, List, [], ◌∷◌, map, length, get_or, refl, sym, ap, ◌∙◌, subst, ⊎_elim, inl, inr, arith}
use Rattle.std.specs.Prelude.{slice_get, Option, Some, None, Vec}
use Rattle.std.specs.Global.{Global}
use Rattle.std.specs.List.{Contains}
use Rattle.std.specs.Option.{option_to_list}
use Rattle.std.proofs.lemmas.Bool.{cases_lt}
use Rattle.std.proofs.lemmas.List.{get_or-map, length-map}
use Rattle.std.proofs.lemmas.Option.{slice_get-get_or, slice_get_cases}
use Rattle.lalrpop_dfa.specs.Dfa.{Row, StoredState, AreStored, step, IsWellFormed}
use Rattle.lalrpop_dfa.proofs.EdgeTargets.{step_within}
use Rattle.lalrpop_verdicts.specs.Answers.{accepted_at, accepted_by, answer_from}
use Rattle.lalrpop_verdicts.specs.Internal.Classes.{AlikeFrom, AreAlikeClasses, AreClassesOf, AreLeads, AreTried, AreWithin, answer_row, leads_of, leads_row, other_at, row_at}
use Rattle.lalrpop_verdicts.specs.Internal.Rounds.{AreOwnRows, IsRound}
use Rattle.lalrpop_verdicts.proofs.FirstLaws.{same_class, same_row}
use Rattle.lalrpop_verdicts.proofs.StretchLaws.{contains_cases}

-- ---- the first round
answer_at : (d : List Row) (p : ℕ) → row_at (map answer_row d) p ≡ option_to_list (accepted_at (slice_get d p))
answer_at [] p = refl
answer_at (r ∷ d) zero = refl
answer_at (r ∷ d) (suc p) = answer_at d p

same_option : (a b : Option ℕ) → option_to_list a ≡ option_to_list b → a ≡ b
same_option None None e = refl
same_option None (Some y) e = cc
same_option (Some x) None e = cc
same_option (Some x) (Some y) e = cc

pub first_round : (d : List Row) (classes : List ℕ) → AreClassesOf (map answer_row d) classes → IsRound d classes
first_round d classes h = record {
  same_length = h.same_length ∙ length-map d answer_row;
  least = λ p l. h.least p (within p l);
  answers = λ p q a b e. same_option _ _ (sym (answer_at d p) ∙ same_row (map answer_row d) classes h p q (within p a) (within q b) e ∙ answer_at d q);
  kept = λ p q a b alike. same_class (map answer_row d) classes h p q (within p a) (within q b) (answer_at d p ∙ ap option_to_list (alike []) ∙ sym (answer_at d q));
}
  where
    within : (p : ℕ) → p < length d → p < length (map answer_row d)
    within p l = omega (arith, length-map d answer_row)

-- ---- lists of where states lead
maps_at : (f g h : ℕ → ℕ) (vs : List ℕ) (b : ℕ) → map f (map g vs) ≡ map f (map h vs) → Contains vs b → f (g b) ≡ f (h b)
maps_at f g h [] b e (k, l, m) = absurd (omega arith)
maps_at f g h (v ∷ vs) b e m =
    ⊎_elim (λ (x : v ≡ b). let head : f (g v) ≡ f (h v) = cc in subst (λ (y : ℕ). f (g y) ≡ f (h y)) x head)
    (λ (x : Contains vs b). let tail : map f (map g vs) ≡ map f (map h vs) = cc in maps_at f g h vs b tail x) (contains_cases v vs b m)

same_maps : (f g h : ℕ → ℕ) (vs : List ℕ) → ((b : ℕ) → f (g b) ≡ f (h b)) → map f (map g vs) ≡ map f (map h vs)
same_maps f g h [] e = refl
same_maps f g h (v ∷ vs) e = let head = e v in let tail = same_maps f g h vs e in cc

module _ (d : List Row) (vs : List ℕ) (tried : AreTried d vs) (f : ℕ → ℕ) (p q : ℕ) (a : p < length d) (b : q < length d) where
  pub leads_alike : map f (leads_of d vs p) ≡ map f (leads_of d vs q) → (f p ≡ f q) × ((c : ℕ) → f (step d p c) ≡ f (step d q c))
  leads_alike e = (
    (let g : f p ≡ f q = cc in g),
    λ c. (let t = tried.all c in
        ap f (t.1.1 p a) ∙ ⊎_elim (λ (x : 4294967296 ≡ t.0). subst (λ (y : ℕ). f (step d p y) ≡ f (step d q y)) x beyond) (λ (x : Contains vs t.0). maps_at f (step d p) (step d q) vs t.0 rest x) (contains_cases 4294967296 vs t.0 t.1.0) ∙ sym (ap f (t.1.1 q b))),
  )
    where
      rest : map f (map (step d p) vs) ≡ map f (map (step d q) vs)
      rest = cc

      others : f (other_at d p) ≡ f (other_at d q)
      others = cc

      beyond : f (step d p 4294967296) ≡ f (step d q 4294967296)
      beyond = ap f (tried.beyond p a) ∙ others ∙ sym (ap f (tried.beyond q b))

  pub alike_leads : f p ≡ f q → ((c : ℕ) → f (step d p c) ≡ f (step d q c)) → map f (leads_of d vs p) ≡ map f (leads_of d vs q)
  alike_leads e h =
      let others : f (other_at d p) ≡ f (other_at d q) = ap f (sym (tried.beyond p a)) ∙ h 4294967296 ∙ ap f (tried.beyond q b) in
      let rest = same_maps f (step d p) (step d q) vs h in
      cc

-- ---- a further round
row_is : (d : List Row) (vs : List ℕ) (table : List (Vec ℕ Global)) (classes : List ℕ) → AreLeads d vs table → (p : ℕ) → p < length d
    → row_at (map (leads_row classes) table) p ≡ map (λ t. get_or classes t 0) (leads_of d vs p)
row_is d vs table classes leads p l = elim (slice_get_cases table p).1 [
  | inl x ↦
      (let m : p < length table = omega (arith, leads.same_length) in
      let at : get_or table p x.0 ≡ x.0 = (let g : Some (get_or table p x.0) ≡ Some x.0 = sym (slice_get-get_or table p x.0 m) ∙ x.2 in cc) in
      get_or-map (leads_row classes) table p x.0 [] m ∙ ap (leads_row classes) at ∙ ap (map (λ t. get_or classes t 0)) (leads.each p x.0 x.2))
  | inr past ↦ absurd (omega (arith, past.0, leads.same_length))
]

pub own_rows : (d : List Row) (vs : List ℕ) (table : List (Vec ℕ Global)) (classes : List ℕ) → AreLeads d vs table → IsRound d classes → AreOwnRows (map (leads_row classes) table) classes
own_rows d vs table classes leads h = record {
  same_length = h.same_length ∙ sym count;
  least = λ p l. h.least p (omega (arith, count));
  own = λ p l. ap (λ row. get_or row 0 0) (row_is d vs table classes leads p (omega (arith, count)));
}
  where
    count : length (map (leads_row classes) table) ≡ length d
    count = length-map table (leads_row classes) ∙ leads.same_length

module _ (d : List Row) (vs : List ℕ) (table : List (Vec ℕ Global)) (classes next : List ℕ) (formed : IsWellFormed d) (tried : AreTried d vs) (leads : AreLeads d vs table)
    (h : IsRound d classes) (on : AreClassesOf (map (leads_row classes) table) next) where
  abbrev class : ℕ → ℕ
  class p = get_or classes p 0

  abbrev rows : List (List ℕ)
  rows = map (leads_row classes) table

  count : length rows ≡ length d
  count = length-map table (leads_row classes) ∙ leads.same_length

  in_rows : (p : ℕ) → p < length d → p < length rows
  in_rows p l = omega (arith, count)

  pub rows_alike : (p q : ℕ) → p < length d → q < length d → row_at rows p ≡ row_at rows q → (class p ≡ class q) × ((c : ℕ) → class (step d p c) ≡ class (step d q c))
  rows_alike p q a b e = leads_alike d vs tried class p q a b (sym (row_is d vs table classes leads p a) ∙ e ∙ row_is d vs table classes leads q b)

  alike_rows : (p q : ℕ) → p < length d → q < length d → AlikeFrom d p q → row_at rows p ≡ row_at rows q
  alike_rows p q a b alike =
      row_is d vs table classes leads p a ∙ alike_leads d vs tried class p q a b (h.kept p q a b alike) (λ c. h.kept (step d p c) (step d q c) (step_within d p c formed a) (step_within d q c formed b) (λ w. alike (c ∷ w))) ∙ sym (row_is d vs table classes leads q b)

  pub next_round : IsRound d next
  next_round = record {
    same_length = on.same_length ∙ count;
    least = λ p l. on.least p (in_rows p l);
    answers = λ p q a b e. h.answers p q a b (rows_alike p q a b (same_row rows next on p q (in_rows p a) (in_rows q b) e)).0;
    kept = λ p q a b alike. same_class rows next on p q (in_rows p a) (in_rows q b) (alike_rows p q a b alike);
  }

  -- no class gets a lesser number
  pub round_grows : (p : ℕ) → p < length d → class p ≤ get_or next p 0
  round_grows p l =
      let low = on.least p (in_rows p l) in
      let k : get_or next p 0 < length d = omega (arith, low) in
      let same = (rows_alike (get_or next p 0) p k l (on.equal p (in_rows p l))).0 in
      omega (arith, h.least (get_or next p 0) k, same)

-- ---- the last round
module _ (d : List Row) (vs : List ℕ) (table : List (Vec ℕ Global)) (classes : List ℕ) (formed : IsWellFormed d) (tried : AreTried d vs) (leads : AreLeads d vs table)
    (h : IsRound d classes) (on : AreClassesOf (map (leads_row classes) table) classes) where
  stays_alike : (w : List ℕ) (p q : ℕ) → p < length d → q < length d → get_or classes p 0 ≡ get_or classes q 0 → answer_from d p w ≡ answer_from d q w
  stays_alike [] p q a b e = h.answers p q a b e
  stays_alike (c ∷ w) p q a b e =
      let same = same_row (map (leads_row classes) table) classes on p q (in_rows d vs table classes classes formed tried leads h on p a) (in_rows d vs table classes classes formed tried leads h on q b) e in
      stays_alike w (step d p c) (step d q c) (step_within d p c formed a) (step_within d q c formed b) ((rows_alike d vs table classes classes formed tried leads h on p q a b same).1 c)

  pub last_round : AreAlikeClasses d classes
  last_round = record {
    same_length = h.same_length;
    same = λ p q a b. (λ e w. stays_alike w p q a b e, h.kept p q a b);
    below = λ p l. omega (arith, h.least p l);
  }

-- ---- the measure: how far the classes are below n
abbrev pub room : ℕ → List ℕ → ℕ
room n [] = 0
room n (x ∷ xs) = (n - x) + room n xs

room_le : (n : ℕ) (xs ys : List ℕ) → length xs ≡ length ys → ((p : ℕ) → p < length xs → get_or xs p 0 ≤ get_or ys p 0) → room n ys ≤ room n xs
room_le n [] [] e h = omega arith
room_le n [] (y ∷ ys) e h = absurd (omega arith)
room_le n (x ∷ xs) [] e h = absurd (omega arith)
room_le n (x ∷ xs) (y ∷ ys) e h = omega (arith, h 0 (omega arith), room_le n xs ys (omega arith) (λ p l. h (suc p) (omega arith)))

pub room_less : (n : ℕ) (xs ys : List ℕ) → length xs ≡ length ys → ((p : ℕ) → p < length xs → get_or xs p 0 ≤ get_or ys p 0) → ((p : ℕ) → p < length ys → get_or ys p 0 ≤ n) → ys ≢ xs → room n ys < room n xs
room_less n [] [] e h most ne = absurd (ne refl)
room_less n [] (y ∷ ys) e h most ne = absurd (omega arith)
room_less n (x ∷ xs) [] e h most ne = absurd (omega arith)
room_less n (x ∷ xs) (y ∷ ys) e h most ne =
    ⊎_elim (λ (l : x < y). omega (arith, most 0 (omega arith), room_le n xs ys (omega arith) (λ p k. h (suc p) (omega arith))))
    (λ (l : y ≤ x). let same : y ≡ x = omega (arith, h 0 (omega arith)) in
    let later = room_less n xs ys (omega arith) (λ p k. h (suc p) (omega arith)) (λ p k. most (suc p) (omega arith)) (λ t. ne (let u = t in let v = same in cc)) in
    omega (arith, later, same))
    (cases_lt x y)

-- ---- the states as they are stored
abbrev pub stored_row : StoredState → List ℕ
stored_row s = option_to_list (accepted_by s.kind)

pub same_map : {X Y Z : Type 0} (f : X → Z) (g : Y → Z) (xs : List X) (ys : List Y) → length xs ≡ length ys
    → ((k : ℕ) (x : X) (y : Y) → slice_get xs k ≡ Some x → slice_get ys k ≡ Some y → f x ≡ g y) → map f xs ≡ map g ys
same_map f g [] [] e h = refl
same_map f g [] (y ∷ ys) e h = absurd (omega arith)
same_map f g (x ∷ xs) [] e h = absurd (omega arith)
same_map f g (x ∷ xs) (y ∷ ys) e h =
    let head = h 0 x y refl refl in
    let tail = same_map f g xs ys (omega arith) (λ k a b i j. h (suc k) a b i j) in
    cc

pub stored_rows : (d : List Row) (states : List StoredState) → AreStored d states → map stored_row states ≡ map answer_row d
stored_rows d states h = same_map stored_row answer_row states d h.same_length (λ k s r a b. ap (λ t. option_to_list (accepted_by t)) (h.each k r s b a).kind)

-- ---- what a round reads
pub leads_within : (d : List Row) (vs : List ℕ) (table : List (Vec ℕ Global)) → IsWellFormed d → AreTried d vs → AreLeads d vs table → (v : Vec ℕ Global) → Contains table v → AreWithin v.items (length d)
leads_within d vs table formed tried leads v (k, l, e) t m =
    let at : slice_get table k ≡ Some v = slice_get-get_or table k v l ∙ ap (λ (x : Vec ℕ Global). Some x) e in
    let here : k < length d = omega (arith, leads.same_length) in
    let among : Contains (leads_of d vs k) t = subst (λ (ts : List ℕ). Contains ts t) (leads.each k v at) m in
    ⊎_elim (λ (x : k ≡ t). omega arith)
    (λ (x : Contains (other_at d k ∷ map (step d k) vs) t).
    ⊎_elim (λ (y : other_at d k ≡ t). let other = tried.beyond k here in omega (arith, step_within d k 4294967296 formed here, other))
    (λ (y : Contains (map (step d k) vs) t). mapped d k vs t formed here y)
    (contains_cases (other_at d k) (map (step d k) vs) t x))
    (contains_cases k (other_at d k ∷ map (step d k) vs) t among)
  where
    mapped : (d : List Row) (k : ℕ) (us : List ℕ) (t : ℕ) → IsWellFormed d → k < length d → Contains (map (step d k) us) t → t < length d
    mapped d k [] t formed here (j, l, e) = absurd (omega arith)
    mapped d k (u ∷ us) t formed here m =
        ⊎_elim (λ (x : step d k u ≡ t). omega (arith, step_within d k u formed here, x)) (λ (x : Contains (map (step d k) us) t). mapped d k us t formed here x) (contains_cases (step d k u) (map (step d k) us) t m)

-- the lists are the same just if the test says so
-- a round that changes the classes leaves less room
pub room_shrinks : (d : List Row) (vs : List ℕ) (table : List (Vec ℕ Global)) (classes next : List ℕ) → IsWellFormed d → AreTried d vs → AreLeads d vs table → IsRound d classes
    → AreClassesOf (map (leads_row classes) table) next → next ≢ classes → room (length d) next < room (length d) classes
room_shrinks d vs table classes next formed tried leads h on apart =
    let i : IsRound d next = next_round d vs table classes next formed tried leads h on in
    room_less (length d) classes next (h.same_length ∙ sym i.same_length)
    (λ p l. let k : p < length d = omega (arith, h.same_length) in round_grows d vs table classes next formed tried leads h on p k)
    (λ p l. let k : p < length d = omega (arith, i.same_length) in let m = i.least p k in omega (arith, m))
    apart
