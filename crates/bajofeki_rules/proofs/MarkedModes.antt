-- Marks on modes: one more, those of a list of actions, one round, and all that can be entered.
use Rattle.std.proofs.Common.{◌≡◌, ℕ, ◌+◌, ◌<◌, ◌≤◌, ◌≢◌, ◌⊎◌, ◌↔◌, ◌||◌, inl, inr, ⊎_elim, Bool, true, false, cond, List, [], ◌∷◌, ◌++◌, length, take, map, get_or, set, Contains, refl, ap, sym, subst, ◌∙◌, arith, length-set, get_or-set_other, get_or-set_same, replicate, drop}
use Rattle.std.specs.Prelude.{Some, slice_get, IsTrue}
use Rattle.std.specs.List.{sum_by}
use Rattle.std.proofs.lemmas.Bool.{cases_eq, false≢true}
use Rattle.std.proofs.lemmas.List.{take_more, get_or-replicate, length-map, length-replicate}
use Rattle.std.proofs.Math.Seq.{take-append_seam}
use Rattle.std.proofs.lemmas.List.Sums.{sum_by-set}
use Rattle.std.specs.Option.{option_map}
use Rattle.std.proofs.lemmas.Option.{slice_get_within, slice_get-get_or, slice_get-map, get_or_from_slice_get}
use Rattle.bajofeki_rules.specs.declared.action.Action.{Action}
use Rattle.bajofeki_rules.specs.declared.mode_rule.ModeRule.{ModeRule}
use Rattle.bajofeki_rules.specs.Stack.{actions_of, these_or_none}
use Rattle.bajofeki_rules.specs.EnteredModes.{CanBeEntered, LeadsInto, OneLeadsInto, by_rule, first_mode}
use Rattle.bajofeki_rules.specs.Internal.Marks.{AreClosed, HasMarked, HasRound, Marked, OnlyEntered, unmarked}

-- ---- one mode

pub marked_read : (marks : List Bool) (m : ℕ) → Marked marks m → get_or marks m false ≡ true
marked_read marks m is = get_or_from_slice_get marks m true false is

pub read_marked : (marks : List Bool) (m : ℕ) → m < length marks → get_or marks m false ≡ true → Marked marks m
read_marked marks m within is = slice_get-get_or marks m false within ∙ ap Some is

-- nothing is marked
pub none_marked : (old : List Bool) (P : ℕ → Type 0) → ((m : ℕ) → m < length old → P m → Marked old m) → HasMarked old P old false
none_marked old P there = record {
  same_length = refl;
  each = λ m within. (λ is. inl is, λ either. ⊎_elim (λ (is : Marked old m). is) (λ (p : P m). there m within p) either);
  fewer = λ e. absurd (cc);
  at_most = omega arith;
  none = λ _. refl;
}

-- one mode more is marked
pub one_marked : (old : List Bool) (mode : ℕ) → mode < length old → get_or old mode false ≡ false → HasMarked old (λ m. m ≡ mode) (set old mode true) true
one_marked old mode within free =
    let new : List Bool = set old mode true in
    let f : Bool → ℕ = λ b. cond b 0 1 in
    let sums : sum_by f new + f (get_or old mode false) ≡ sum_by f old + f true = sum_by-set f old mode true false within in
    let one : f (get_or old mode false) ≡ 1 = ap f free in
    let less : unmarked new < unmarked old = omega (arith, sums, one) in
    record {
      same_length = length-set old mode true;
      each = λ m there. (to m there, from m there);
      fewer = λ _. less;
      at_most = omega (arith, less);
      none = λ e. absurd (cc);
    }
  where
    to : (m : ℕ) → m < length old → Marked (set old mode true) m → Marked old m ⊎ (m ≡ mode)
    to m there is = elim (cases_eq m mode) [
      | inl e ↦ inr e
      | inr differ ↦ inl (read_marked old m there (sym (get_or-set_other old mode m true false differ) ∙ marked_read (set old mode true) m is))
    ]

    from : (m : ℕ) → m < length old → Marked old m ⊎ (m ≡ mode) → Marked (set old mode true) m
    from m there either =
        let inside : m < length (set old mode true) = omega (arith, length-set old mode true) in
        read_marked (set old mode true) m inside (value either (cases_eq m mode))
      where
        value : Marked old m ⊎ (m ≡ mode) → (m ≡ mode) ⊎ (m ≢ mode) → get_or (set old mode true) m false ≡ true
        value either (inl e) = subst (λ (k : ℕ). get_or (set old mode true) k false ≡ true) (sym e) (get_or-set_same old mode true false within)
        value (inl is) (inr differ) = get_or-set_other old mode m true false differ ∙ marked_read old m is
        value (inr e) (inr differ) = absurd (differ e)

-- ---- one list of marks after another

-- the modes with the property P, and then those with the property Q
pub marked_then : (a b c : List Bool) (P Q R : ℕ → Type 0) (first second : Bool) → HasMarked a P b first → HasMarked b Q c second → ((m : ℕ) → R m ↔ (P m ⊎ Q m))
    → HasMarked a R c (first || second)
marked_then a b c P Q R first second h g same = record {
  same_length = g.same_length ∙ h.same_length;
  each = λ m within. let inside : m < length b = omega (arith, h.same_length) in (
    λ is. ⊎_elim (λ (x : Marked b m). ⊎_elim (λ (y : Marked a m). inl y) (λ (y : P m). inr ((same m).1 (inl y))) ((h.each m within).0 x))
        (λ (x : Q m). inr ((same m).1 (inr x))) ((g.each m inside).0 is),
    λ either. ⊎_elim (λ (x : Marked a m). (g.each m inside).1 (inl ((h.each m within).1 (inl x))))
        (λ (x : R m). ⊎_elim (λ (y : P m). (g.each m inside).1 (inl ((h.each m within).1 (inr y)))) (λ (y : Q m). (g.each m inside).1 (inr y)) ((same m).0 x)) either,
  );
  fewer = less first second h.fewer g.fewer h.at_most g.at_most;
  at_most = omega (arith, h.at_most, g.at_most);
  none = equal first second h.none g.none;
}
  where
    less : (first second : Bool) → (first ≡ true → unmarked b < unmarked a) → (second ≡ true → unmarked c < unmarked b) → unmarked b ≤ unmarked a → unmarked c ≤ unmarked b
        → first || second ≡ true → unmarked c < unmarked a
    less true second f g p q e = let x = f refl in omega (arith, x, q)
    less false true f g p q e = let x = g refl in omega (arith, x, p)
    less false false f g p q e = absurd (cc)

    equal : (first second : Bool) → (first ≡ false → b ≡ a) → (second ≡ false → c ≡ b) → first || second ≡ false → c ≡ a
    equal true second f g e = absurd (cc)
    equal false true f g e = absurd (cc)
    equal false false f g e = g refl ∙ f refl

-- ---- a list of actions

leads_end : (acts : List Action) (a : Action) (m : ℕ) → OneLeadsInto (acts ++ a ∷ []) m ↔ (OneLeadsInto acts m ⊎ LeadsInto a m)
leads_end [] a m = (λ h. ⊎_elim (λ (x : LeadsInto a m). inr x) (λ (x : ⊥). absurd x) h, λ h. ⊎_elim (λ (x : ⊥). absurd x) (λ (x : LeadsInto a m). inl x) h)
leads_end (b ∷ acts) a m =
    let more = leads_end acts a m in (
      λ h. ⊎_elim (λ (x : LeadsInto b m). inl (inl x)) (λ (x : OneLeadsInto (acts ++ a ∷ []) m). ⊎_elim (λ (y : OneLeadsInto acts m). inl (inr y)) (λ (y : LeadsInto a m). inr y) (more.0 x)) h,
      λ h. ⊎_elim (λ (x : LeadsInto b m ⊎ OneLeadsInto acts m). ⊎_elim (λ (y : LeadsInto b m). inl y) (λ (y : OneLeadsInto acts m). inr (more.1 (inl y))) x) (λ (x : LeadsInto a m). inr (more.1 (inr x))) h,
    )

-- one action more
pub targets_marked : (old marks new : List Bool) (acts : List Action) (i : ℕ) (d : Action) (first second : Bool) → i < length acts → HasMarked old (OneLeadsInto (take i acts)) marks first
    → HasMarked marks (LeadsInto (get_or acts i d)) new second → HasMarked old (OneLeadsInto (take (i + 1) acts)) new (first || second)
targets_marked old marks new acts i d first second within h g =
    let more = take_more acts i d within in
    marked_then old marks new (OneLeadsInto (take i acts)) (LeadsInto (get_or acts i d)) (OneLeadsInto (take (i + 1) acts)) first second h g
    (λ m. subst (λ (x : List Action). OneLeadsInto x m ↔ (OneLeadsInto (take i acts) m ⊎ LeadsInto (get_or acts i d) m)) (sym more) (leads_end (take i acts) (get_or acts i d) m))

-- ---- a round

module _ (members : List (List ℕ)) (actions : List (List Action)) where
  pub round_first : (old : List Bool) → HasRound members actions 0 old old false
  round_first old = record {
    same_length = refl;
    kept = λ m is. is;
    only = λ h. h;
    fewer = λ e. absurd (cc);
    at_most = omega arith;
    none = λ _. refl;
    closed = λ _ i m n own below. absurd (omega arith);
  }

  -- a rule without a marked mode
  pub round_aside : (k : ℕ) (old new : List Bool) (is_any : Bool) (own : List ℕ) → HasRound members actions k old new is_any → slice_get members k ≡ Some own
      → ¬ ((m : ℕ) × (Contains own m × Marked new m)) → HasRound members actions (k + 1) old new is_any
  round_aside k old new is_any own h at none = record {
    same_length = h.same_length;
    kept = h.kept;
    only = h.only;
    fewer = h.fewer;
    at_most = h.at_most;
    none = h.none;
    closed = λ e i m n these below here among is leads there. elim (cases_eq i k) [
      | inl same ↦ absurd (none (m, (subst (λ (x : List ℕ). Contains x m) (the_same i these same here) among, h.kept m is)))
      | inr differ ↦ h.closed e i m n these (omega arith) here among is leads there
    ];
  }
    where
      the_same : (i : ℕ) (these : List ℕ) → i ≡ k → slice_get members i ≡ Some these → these ≡ own
      the_same i these same here =
          let both : Some these ≡ Some own = sym here ∙ ap (slice_get members) same ∙ at in
          cc

  -- a rule with one
  pub round_on : (k : ℕ) (old new next : List Bool) (first second : Bool) (own : List ℕ) (acts : List Action) → HasRound members actions k old new first → slice_get members k ≡ Some own → actions_of actions k ≡ acts
      → (m : ℕ) × (Contains own m × Marked new m) → HasMarked new (OneLeadsInto acts) next second → HasRound members actions (k + 1) old next (first || second)
  round_on k old new next first second own acts h at act (from, (among, marked)) g = record {
    same_length = g.same_length ∙ h.same_length;
    kept = λ m is. let there : Marked new m = h.kept m is in (g.each m (slice_get_within new m true there)).1 (inl there);
    only = λ all. let before = h.only all in λ m is. entered before m is;
    fewer = less first second h.fewer g.fewer h.at_most g.at_most;
    at_most = omega (arith, h.at_most, g.at_most);
    none = equal first second h.none g.none;
    closed = λ e i m n these below here among_these is leads there. shut first second e h.closed h.none g.none i m n these below here among_these is leads there;
  }
    where
      entered : OnlyEntered members actions new → (m : ℕ) → Marked next m → CanBeEntered members actions (length next) m
      entered before m is =
          let within : m < length new = omega (arith, slice_get_within next m true is, g.same_length) in
          subst (λ (count : ℕ). CanBeEntered members actions count m) (sym g.same_length)
          (⊎_elim (λ (x : Marked new m). before m x)
          (λ (x : OneLeadsInto acts m). by_rule k (slice_get_within new from true marked) (before from marked) (own, (at, among)) (subst (λ (a : List Action). OneLeadsInto a m) (sym act) x))
          ((g.each m within).0 is))

      less : (first second : Bool) → (first ≡ true → unmarked new < unmarked old) → (second ≡ true → unmarked next < unmarked new) → unmarked new ≤ unmarked old → unmarked next ≤ unmarked new
          → first || second ≡ true → unmarked next < unmarked old
      less true second f s p q e = let x = f refl in omega (arith, x, q)
      less false true f s p q e = let x = s refl in omega (arith, x, p)
      less false false f s p q e = absurd (cc)

      equal : (first second : Bool) → (first ≡ false → new ≡ old) → (second ≡ false → next ≡ new) → first || second ≡ false → next ≡ old
      equal true second f s e = absurd (cc)
      equal false true f s e = absurd (cc)
      equal false false f s e = s refl ∙ f refl

      shut : (first second : Bool) → first || second ≡ false → (first ≡ false → AreClosed members actions k old) → (first ≡ false → new ≡ old) → (second ≡ false → next ≡ new) → AreClosed members actions (k + 1) old
      shut true second e closed f s i m n these below here among_these is leads there = absurd (cc)
      shut false true e closed f s i m n these below here among_these is leads there = absurd (cc)
      shut false false e closed f s i m n these below here among_these is leads there = elim (cases_eq i k) [
        | inl same ↦
            let led : OneLeadsInto acts n = subst (λ (a : List Action). OneLeadsInto a n) (ap (actions_of actions) same ∙ act) leads in
            let within : n < length new = omega (arith, h.same_length) in
            let after : Marked next n = (g.each n within).1 (inr led) in
            subst (λ (x : List Bool). Marked x n) (s refl ∙ f refl) after
        | inr differ ↦ closed refl i m n these (omega arith) here among_these is leads there
      ]

  -- ---- all modes that can be entered

  module _ (marks : List Bool) (first : 0 < length marks → Marked marks 0) (closed : AreClosed members actions (length members) marks) where
    all_marked : (m : ℕ) → CanBeEntered members actions (length marks) m → m < length marks → Marked marks m
    all_marked m first_mode within = first within
    all_marked m (by_rule {m = from} i there entered (own, (at, among)) leads) within =
        closed i from m own (slice_get_within members i own at) at among (all_marked from entered there) leads within

    pub all_entered : (modes : ℕ) → length marks ≡ modes → OnlyEntered members actions marks → (m : ℕ) → m < modes → Marked marks m ↔ CanBeEntered members actions modes m
    all_entered modes same only m within = (
      λ is. subst (λ (count : ℕ). CanBeEntered members actions count m) same (only m is),
      λ entered. all_marked m (subst (λ (count : ℕ). CanBeEntered members actions count m) (sym same) entered) (omega (arith, same)),
    )

-- ---- rules

-- the modes and the actions of rules
abbrev pub members_of : List ModeRule → List (List ℕ)
members_of rs = map (λ r. r.modes.now) rs

abbrev pub all_actions_of : List ModeRule → List (List Action)
all_actions_of rs = map (λ r. r.actions.now) rs

its_modes : (rs : List ModeRule) (k : ℕ) (r : ModeRule) → k < length rs → r ≡ get_or rs k r → slice_get (members_of rs) k ≡ Some r.modes.now
its_modes rs k r within is = slice_get-map (λ q. q.modes.now) rs k ∙ ap (option_map (λ (q : ModeRule). q.modes.now)) (slice_get-get_or rs k r within ∙ ap Some (sym is))

its_actions : (rs : List ModeRule) (k : ℕ) (r : ModeRule) → k < length rs → r ≡ get_or rs k r → actions_of (all_actions_of rs) k ≡ r.actions.now
its_actions rs k r within is =
    ap these_or_none (slice_get-map (λ q. q.actions.now) rs k ∙ ap (option_map (λ (q : ModeRule). q.actions.now)) (slice_get-get_or rs k r within ∙ ap Some (sym is)))

pub rule_aside : (rs : List ModeRule) (k : ℕ) (r : ModeRule) (old new : List Bool) (is_any found : Bool) → k < length rs → r ≡ get_or rs k r → HasRound (members_of rs) (all_actions_of rs) k old new is_any
    → IsTrue found ↔ ((m : ℕ) × (Contains r.modes.now m × Marked new m)) → found ≡ false → HasRound (members_of rs) (all_actions_of rs) (k + 1) old new is_any
rule_aside rs k r old new is_any found within item h is none =
    round_aside (members_of rs) (all_actions_of rs) k old new is_any r.modes.now h (its_modes rs k r within item) (λ some. let yes : found ≡ true = is.1 some in cc)

pub rule_on : (rs : List ModeRule) (k : ℕ) (r : ModeRule) (old new next : List Bool) (first second found : Bool) → k < length rs → r ≡ get_or rs k r → HasRound (members_of rs) (all_actions_of rs) k old new first
    → IsTrue found ↔ ((m : ℕ) × (Contains r.modes.now m × Marked new m)) → found ≡ true → HasMarked new (OneLeadsInto r.actions.now) next second → HasRound (members_of rs) (all_actions_of rs) (k + 1) old next (first || second)
rule_on rs k r old new next first second found within item h is some g =
    round_on (members_of rs) (all_actions_of rs) k old new next first second r.modes.now r.actions.now h (its_modes rs k r within item) (its_actions rs k r within item) (is.0 some) g

-- ---- the first mode

pub first_marked : (members : List (List ℕ)) (actions : List (List Action)) (modes : ℕ) (old new : List Bool) (is_any : Bool) → old ≡ replicate modes false → HasMarked old (λ m. m ≡ 0) new is_any
    → (length new ≡ modes) × (0 < modes → Marked new 0) × OnlyEntered members actions new
first_marked members actions modes old new is_any none h =
    let count : length old ≡ modes = ap length none ∙ length-replicate modes false in
    (h.same_length ∙ count, λ some. (h.each 0 (omega (arith, count))).1 (inr refl), λ m is. by_first m is)
  where
    by_first : (m : ℕ) → Marked new m → CanBeEntered members actions (length new) m
    by_first m is =
        let within : m < length old = omega (arith, slice_get_within new m true is, h.same_length) in
        ⊎_elim (λ (x : Marked old m). absurd (no x within)) (λ (e : m ≡ 0). subst (CanBeEntered members actions (length new)) (sym e) first_mode) ((h.each m within).0 is)
      where
        no : Marked old m → m < length old → ⊥
        no x within =
            let there : m < modes = omega (arith, ap length none ∙ length-replicate modes false) in
            false≢true (sym (get_or-replicate modes m false false there) ∙ ap (λ (b : List Bool). get_or b m false) (sym none) ∙ marked_read old m x)

-- ---- all of them

-- what a list of marks is after a call that writes it
pub written : (xs ys : List Bool) (n : ℕ) → length xs ≡ length ys → n ≡ length ys → take n (xs ++ drop (length xs) ys) ≡ xs
written xs ys n long is = ap (λ k. take k (xs ++ drop (length xs) ys)) (is ∙ sym long) ∙ take-append_seam xs (drop (length xs) ys)

-- after a round that marks no more
pub round_last : (rs : List ModeRule) (old new : List Bool) (modes : ℕ) (is_any : Bool) → length old ≡ modes → (0 < modes → Marked old 0) → OnlyEntered (members_of rs) (all_actions_of rs) old
    → HasRound (members_of rs) (all_actions_of rs) (length rs) old new is_any → is_any ≡ false → (m : ℕ) → m < modes → Marked new m ↔ CanBeEntered (members_of rs) (all_actions_of rs) modes m
round_last rs old new modes is_any same first only h none =
    let count : length (members_of rs) ≡ length rs = length-map rs (λ r. r.modes.now) in
    let closed = subst (λ (k : ℕ). AreClosed (members_of rs) (all_actions_of rs) k old) (sym count) (h.closed none) in
    rw (h.none none) (all_entered (members_of rs) (all_actions_of rs) old (λ some. first (omega (arith, same))) closed modes same only)
