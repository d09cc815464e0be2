-- The ties of one set, found pair by pair.
use Rattle.std.proofs.Common.{◌≡◌, ℕ, ◌+◌, ◌<◌, ◌≤◌, ◌⊎◌, inl, inr, ⊎_elim, List, [], ◌∷◌, ◌++◌, length, get_or, refl, ap, ap₂, sym, ◌∙◌, subst, arith, append_assoc, append-nil, Bool, true, false, not, IsTrue}
use Rattle.std.specs.Prelude.{slice_get, Some}
use Rattle.std.specs.List.{Contains}
use Rattle.std.specs.BTreeSet.{BTreeSet, contains, Updates}
use Rattle.std.proofs.lemmas.Map.Views.{btree_set_contains_iff}
use Rattle.std.proofs.lemmas.List.Elements.{Contains-append_left, Contains-push, Contains-push_cases}
use Rattle.std.proofs.lemmas.Option.{slice_get_within, slice_get-get_or}
use Rattle.std.proofs.lemmas.Bool.{cases_lt}
use Rattle.lalrpop_hir.proofs.Pushed.{pushed_cases}
use Rattle.lalrpop_hir.proofs.Orders.{set_come, set_has, set_kept}
use Rattle.lalrpop_hir.proofs.Contained.{contains_none}
use Rattle.lalrpop_dfa.specs.Ascending.{item_cmp}
use Rattle.lalrpop_dfa.specs.Internal.OrderLaws.{item_total}
use Rattle.lalrpop_dfa.proofs.ItemTies.{item_exact}
use Rattle.lalrpop_hir.proofs.Members.{contains_from, has_at}
use Rattle.lalrpop_hir.specs.Clashes.{Entry, AreInOrder, StandsBefore}
use Rattle.lalrpop_build.specs.Internal.Ties.{HasPair, ArePairsOf, IsAddedOnce, AreAscending, IsReached, AreTiesTo, HasTiesTo}

-- ---- pairs of a list
pub pair_left : (cs es : List Entry) (i j : ℕ) → HasPair cs i j → HasPair (cs ++ es) i j
pair_left cs es i j (c, (m, f, s)) = (c, (Contains-append_left cs es c m, f, s))

pub pair_last : (cs : List Entry) (c : Entry) (i j : ℕ) → c.match0 ≡ i → c.match1 ≡ j → HasPair (cs ++ c ∷ []) i j
pair_last cs c i j f s = (c, (Contains-push cs c, f, s))

pub pair_cases : (cs : List Entry) (c : Entry) (i j : ℕ) → HasPair (cs ++ c ∷ []) i j → HasPair cs i j ⊎ ((c.match0 ≡ i) × (c.match1 ≡ j))
pair_cases cs c i j (d, (m, f, s)) = elim (Contains-push_cases cs c d m) [
  | inl was ↦ inl (d, (was, f, s))
  | inr e ↦ inr (ap (λ (x : Entry). x.match0) e ∙ f, ap (λ (x : Entry). x.match1) e ∙ s)
]

pair_at : (cs : List Entry) (i j k l : ℕ) → i ≡ k → j ≡ l → HasPair cs i j → HasPair cs k l
pair_at cs i j k l e f h = subst (λ (b : ℕ). HasPair cs k b) f (subst (λ (a : ℕ). HasPair cs a j) e h)

pub no_pairs : (pairs : BTreeSet (ℕ × ℕ)) (cs : List Entry) → pairs.keys ≡ [] → cs ≡ [] → ArePairsOf pairs cs
no_pairs pairs cs e none i j = (
  λ h. absurd (contains_none (i, j) (rw e at h)),
  λ h. absurd (contains_none h.0 (rw none at h.1.0)),
)

-- ---- one pair
module _ (old new : BTreeSet (ℕ × ℕ)) (cs : List Entry) (c : Entry) (h : ArePairsOf old cs) (u : Updates item_cmp old new (c.match0, c.match1) true) where
  pair_key : (i j : ℕ) → let k : ℕ × ℕ = (c.match0, c.match1) in let q : ℕ × ℕ = (i, j) in k ≡ q → (c.match0 ≡ i) × (c.match1 ≡ j)
  pair_key i j e = (ap (λ (x : ℕ × ℕ). x.0) e, ap (λ (x : ℕ × ℕ). x.1) e)

  key_pair : (i j : ℕ) → c.match0 ≡ i → c.match1 ≡ j → let k : ℕ × ℕ = (c.match0, c.match1) in let q : ℕ × ℕ = (i, j) in k ≡ q
  key_pair i j e f = ap₂ (λ (a b : ℕ). let z : ℕ × ℕ = (a, b) in z) e f

  -- it has no entry: it is added
  pub pairs_more : (cs2 : List Entry) → cs2 ≡ cs ++ c ∷ [] → ArePairsOf new cs2
  pairs_more cs2 more i j = (
    λ k. rw more (elim (set_come item_total item_exact old new (c.match0, c.match1) u (i, j) k) [
      | inl was ↦ pair_left cs (c ∷ []) i j ((h i j).0 was)
      | inr e ↦ (let p = pair_key i j e in pair_last cs c i j p.0 p.1)
    ]),
    λ k. elim (pair_cases cs c i j (rw more at k)) [
      | inl was ↦ set_kept item_total item_exact old new (c.match0, c.match1) u (i, j) ((h i j).1 was)
      | inr e ↦ set_has item_total item_exact old new (c.match0, c.match1) u (i, j) (key_pair i j e.0 e.1)
    ],
  )

  -- it has an entry
  pub pairs_same : (cs2 : List Entry) → HasPair cs c.match0 c.match1 → cs2 ≡ cs → ArePairsOf new cs2
  pairs_same cs2 there same i j = (
    λ k. rw same (elim (set_come item_total item_exact old new (c.match0, c.match1) u (i, j) k) [
      | inl was ↦ (h i j).0 was
      | inr e ↦ (let p = pair_key i j e in pair_at cs c.match0 c.match1 i j p.0 p.1 there)
    ]),
    λ k. set_kept item_total item_exact old new (c.match0, c.match1) u (i, j) ((h i j).1 (rw same at k)),
  )

not_true : (b : Bool) → true ≡ not b → IsTrue b → ⊥
not_true true e t = (let f : true ≡ false = e in cc)
not_true false e t = (let f : false ≡ true = t in cc)

not_false : (b : Bool) → false ≡ not b → IsTrue b
not_false true e = refl
not_false false e = cc

module _ (pairs : BTreeSet (ℕ × ℕ)) (cs : List Entry) (i j : ℕ) (h : ArePairsOf pairs cs) where
  pub pair_new : (added : Bool) → added ≡ true → added ≡ not (contains item_cmp pairs (i, j)) → ¬ HasPair cs i j
  pair_new added is e there = not_true (contains item_cmp pairs (i, j)) (sym is ∙ e) ((btree_set_contains_iff item_total item_exact pairs (i, j)).1 ((h i j).1 there))

  pub pair_old : (added : Bool) → added ≡ false → added ≡ not (contains item_cmp pairs (i, j)) → HasPair cs i j
  pair_old added is e = (h i j).0 ((btree_set_contains_iff item_total item_exact pairs (i, j)).0 (not_false (contains item_cmp pairs (i, j)) (sym is ∙ e)))

-- ---- from pair to pair
module _ (strongest w : List ℕ) (cs : List Entry) where
  pub ties_none : HasTiesTo strongest w cs cs (length strongest) 0
  ties_none = (
    [],
    (
      sym (append-nil cs),
      record {
        each = λ c h. absurd (contains_none c h);
        fresh = λ c h. absurd (contains_none c h);
        all = λ p q i j l a b r. absurd (past p q (slice_get_within strongest p i a) r);
        in_order = λ p q c d l a b. absurd (cc);
      },
    ),
  )
    where
      past : (p q : ℕ) → p < length strongest → IsReached (length strongest) 0 p q → ⊥
      past p q l (inl a) = omega arith
      past p q l (inr a) = omega (arith, a.0)

  -- the next upper place: its pairs are still to come
  pub ties_row : (cs2 : List Entry) (k u : ℕ) → k ≡ u + 1 → HasTiesTo strongest w cs cs2 k 0 → HasTiesTo strongest w cs cs2 u u
  ties_row cs2 k u e (es, (more, t)) = (
    es,
    (
      more,
      record {
        each = λ c h. (let f = t.each c h in (f.0, (f.1.0, f.1.1, (f.1.2.0, f.1.2.1, f.1.2.2, wide f.1.0 f.1.1 f.1.2.3))));
        fresh = t.fresh;
        all = λ p q i j l a b r. t.all p q i j l a b (narrow p q l r);
        in_order = t.in_order;
      },
    ),
  )
    where
      wide : (p q : ℕ) → IsReached k 0 p q → IsReached u u p q
      wide p q (inl a) = inl (omega (arith, e))
      wide p q (inr a) = inl (omega (arith, e, a.0))

      narrow : (p q : ℕ) → q < p → IsReached u u p q → IsReached k 0 p q
      narrow p q l (inl a) = ⊎_elim (λ (b : k < p). inl b) (λ (b : p ≤ k). inr (omega (arith, e), omega arith)) (cases_lt k p)
      narrow p q l (inr a) = absurd (omega (arith, a.0, a.1))

  -- one more pair
  module _ (ascending : AreAscending strongest) (cs2 cs3 : List Entry) (u v i j : ℕ) (at_u : slice_get strongest u ≡ Some i) (at_v : slice_get strongest v ≡ Some j) (below : v < u) where
    abbrev c : Entry
    c = record { match0 = i; match1 = j; word = w }

    wider : (p q : ℕ) → IsReached u (v + 1) p q → IsReached u v p q
    wider p q (inl a) = inl a
    wider p q (inr a) = inr (a.0, omega (arith, a.1))

    -- a pair that is reached now was reached before, or is this one
    reached_cases : (p q : ℕ) → IsReached u v p q → IsReached u (v + 1) p q ⊎ ((p ≡ u) × (q ≡ v))
    reached_cases p q (inl a) = inl (inl a)
    reached_cases p q (inr a) = ⊎_elim (λ (b : v < q). inl (inr (a.0, omega arith))) (λ (b : q ≤ v). inr (a.0, omega (arith, a.1))) (cases_lt v q)

    same_first : (p a : ℕ) → p ≡ u → slice_get strongest p ≡ Some a → i ≡ a
    same_first p a e at = let f : Some i ≡ Some a = sym at_u ∙ (rw e at at) in cc

    same_second : (q b : ℕ) → q ≡ v → slice_get strongest q ≡ Some b → j ≡ b
    same_second q b e at = let f : Some j ≡ Some b = sym at_v ∙ (rw e at at) in cc

    step_old : (es : List Entry) → cs2 ≡ cs ++ es → AreTiesTo strongest w cs es u (v + 1) → HasPair cs2 i j → AreTiesTo strongest w cs es u v
    step_old es more t there = record {
      each = λ d h. (let f = t.each d h in (f.0, (f.1.0, f.1.1, (f.1.2.0, f.1.2.1, f.1.2.2, wider f.1.0 f.1.1 f.1.2.3))));
      fresh = t.fresh;
      all = λ p q a b l x y r. elim (reached_cases p q r) [
        | inl was ↦ t.all p q a b l x y was
        | inr e ↦ pair_at (cs ++ es) i j a b (same_first p a e.0 x) (same_second q b e.1 y) (rw more at there)
      ];
      in_order = t.in_order;
    }

    -- the earlier entries stand before it
    before_it : (es : List Entry) → AreTiesTo strongest w cs es u (v + 1) → (d : Entry) → Contains es d → StandsBefore d c
    before_it es t d h = (let f = t.each d h in inr (f.0, places f.1.0 f.1.1 f.1.2.1 f.1.2.2 f.1.2.3))
      where
        places : (p q : ℕ) → slice_get strongest p ≡ Some d.match0 → slice_get strongest q ≡ Some d.match1 → IsReached u (v + 1) p q → (i < d.match0) ⊎ ((d.match0 ≡ i) × (j < d.match1))
        places p q x y (inl a) = inl (ascending p u d.match0 i a x at_u)
        places p q x y (inr a) = inr (sym (same_first p d.match0 a.0 x), ascending q v d.match1 j (omega (arith, a.1)) y at_v)

    step_new : (es : List Entry) → cs2 ≡ cs ++ es → AreTiesTo strongest w cs es u (v + 1) → (¬ HasPair cs2 i j) → AreTiesTo strongest w cs (es ++ c ∷ []) u v
    step_new es more t none = record {
      each = λ d h. elim (Contains-push_cases es c d h) [
        | inl was ↦ (let f = t.each d was in (f.0, (f.1.0, f.1.1, (f.1.2.0, f.1.2.1, f.1.2.2, wider f.1.0 f.1.1 f.1.2.3))))
        | inr e ↦ rw (← e) (refl, (u, v, (below, at_u, at_v, inr (refl, omega arith))))
      ];
      fresh = λ d h k. elim (Contains-push_cases es c d h) [
        | inl was ↦ t.fresh d was k
        | inr e ↦ none (rw more (pair_left cs es i j (pair_at cs d.match0 d.match1 i j (sym (ap (λ (x : Entry). x.match0) e)) (sym (ap (λ (x : Entry). x.match1) e)) k)))
      ];
      all = λ p q a b l x y r. subst (λ (ds : List Entry). HasPair ds a b) (append_assoc cs es (c ∷ [])) (elim (reached_cases p q r) [
        | inl was ↦ pair_left (cs ++ es) (c ∷ []) a b (t.all p q a b l x y was)
        | inr e ↦ pair_last (cs ++ es) c a b (same_first p a e.0 x) (same_second q b e.1 y)
      ]);
      in_order = order;
    }
      where
        order : AreInOrder (es ++ c ∷ [])
        order p q x y l a b = elim (pushed_cases es c q y b) [
          | inl wasq ↦ elim (pushed_cases es c p x a) [
            | inl wasp ↦ t.in_order p q x y l wasp wasq
            | inr e ↦ absurd (omega (arith, e.0, slice_get_within es q y wasq))
          ]
          | inr e ↦ elim (pushed_cases es c p x a) [
            | inl wasp ↦ rw e.1 (before_it es t x (contains_from es x (has_at es p x wasp)))
            | inr f ↦ absurd (omega (arith, e.0, f.0))
          ]
        ]

    pub ties_step : HasTiesTo strongest w cs cs2 u (v + 1) → IsAddedOnce cs2 c cs3 → HasTiesTo strongest w cs cs3 u v
    ties_step (es, (more, t)) (inl (there, same)) = (es, (same ∙ more, step_old es more t there))
    ties_step (es, (more, t)) (inr (none, added)) = (es ++ c ∷ [], (added ∙ (ap (λ (ds : List Entry). ds ++ c ∷ []) more ∙ append_assoc cs es (c ∷ [])), step_new es more t none))

pub entry_word : (i j : ℕ) (v w : List ℕ) → v ≡ w → let c : Entry = record { match0 = i; match1 = j; word = v } in let d : Entry = record { match0 = i; match1 = j; word = w } in c ≡ d
entry_word i j v w e = ap (λ (u : List ℕ). let c : Entry = record { match0 = i; match1 = j; word = u } in c) e

pub read_at : (xs : List ℕ) (k r : ℕ) → k < length xs → r ≡ get_or xs k r → slice_get xs k ≡ Some r
read_at xs k r l e = slice_get-get_or xs k r l ∙ ap (λ (n : ℕ). Some n) (sym e)
