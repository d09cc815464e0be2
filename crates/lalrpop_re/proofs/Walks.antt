-- Eliminating a state keeps the words of the walks between the others.
use Rattle.std.proofs.Common.{◌≡◌, ◌≢◌, ℕ, zero, suc, ◌+◌, ◌<◌, ◌⊎◌, inl, inr, ◌↔◌, List, [], ◌∷◌, ◌++◌, length, append_assoc, All, refl, sym, ap, subst, ◌∙◌, arith}
use Rattle.std.proofs.lemmas.Bool.{cases_eq}
use Rattle.std.proofs.lemmas.List.{append-nil, take_at, drop_at}
use Rattle.std.proofs.lemmas.List.Elements.{All-head, All-tail, All-take, All-drop}
use Rattle.std.proofs.lemmas.List.Sorted.{All-permutation, Contains-permutation}
use Rattle.std.proofs.lemmas.List.FromFn.{length-range_with_len, get_or-range_with_len}
use Rattle.std.specs.List.Sorted.{IsPermutation}
use Rattle.std.specs.List.{Contains, range_with_len}
use Rattle.lalrpop_hir.specs.Runs.{IsScalar}
use Rattle.lalrpop_hir.specs.Language.{Words, Then, Power}
use Rattle.lalrpop_re.specs.Internal.Walks.{Graph, Star, Steps, Walk, Past, IsWithout, IsWithin, Reads}

scalars-left : (u v : List ℕ) → All IsScalar (u ++ v) → All IsScalar u
scalars-left u v h = subst (λ x. All IsScalar x) (take_at u v (length u) refl) (All-take IsScalar (length u) (u ++ v) h)

scalars-right : (u v : List ℕ) → All IsScalar (u ++ v) → All IsScalar v
scalars-right u v h = subst (λ x. All IsScalar x) (drop_at u v (length u) refl) (All-drop IsScalar (length u) (u ++ v) h)

-- one edge, and then a walk
pub Walk-cons : (M : Graph) (end p q : ℕ) (u v w : List ℕ) → w ≡ u ++ v → M p q u → Walk M end q v → Walk M end p w
Walk-cons M end p q u v w e m h = (suc h.0, (q, (u, v, (e, m, h.1))))

-- turns at a state, and then a walk from it
turns-Walk : (M : Graph) (end k j : ℕ) (t v w : List ℕ) → w ≡ t ++ v → Power j (M k k) t → Walk M end k v → Walk M end k w
turns-Walk M end k zero t v w e p h = let same : v ≡ w = sym (e ∙ ap (λ x. x ++ v) p) in subst (Walk M end k) same h
turns-Walk M end k (suc j) t v w e p h =
    let at : w ≡ p.0 ++ (p.1 ++ v) = e ∙ (ap (λ x. x ++ v) p.2.0 ∙ append_assoc p.0 p.1 v) in
    Walk-cons M end k k p.0 (p.1 ++ v) w at p.2.1 (turns-Walk M end k j p.1 v (p.1 ++ v) refl p.2.2 h)

-- what leads out of state k: turns at it, an edge to another state, and a walk in N from there
abbrev Leaves : Graph → Graph → ℕ → ℕ → Words
Leaves M N end k = Then (Star (M k k)) (λ w. (q : ℕ) × ((q ≢ k) × Then (M k q) (Walk N end q) w))

module _ (M N : Graph) (end k : ℕ) (without : IsWithout M k N) where
  back : (j p : ℕ) (w : List ℕ) → Steps N end j p w → Walk M end p w
  back zero p w h = (0, h)
  back (suc j) p w (q, (u, v, (e, m, h))) = by_kind ((without p q u).0 m).2 (back j q v h)
    where
      by_kind : (M p q u ⊎ Past M M k p q u) → Walk M end q v → Walk M end p w
      by_kind (inl n) r = Walk-cons M end p q u v w e n r
      by_kind (inr (a, b, (f, n, (t, x, (g, s, l))))) r =
          let at : w ≡ a ++ (b ++ v) = e ∙ (ap (λ y. y ++ v) f ∙ append_assoc a b v) in
          let on : b ++ v ≡ t ++ (x ++ v) = ap (λ y. y ++ v) g ∙ append_assoc t x v in
          Walk-cons M end p k a (b ++ v) w at n (turns-Walk M end k s.0 t (x ++ v) (b ++ v) on s.1 (Walk-cons M end k q x v (x ++ v) refl l r))

  -- an edge of M, and then what a walk in M from its state gives in N: from another state than k, and from k itself
  onward : (p q : ℕ) (u v w : List ℕ) → w ≡ u ++ v → M p q u → ((q ≢ k) → Walk N end q v) → ((q ≡ k) → Leaves M N end k v) → ((p ≢ k) → Walk N end p w) × ((p ≡ k) → Leaves M N end k w)
  onward p q u v w e m walk leaves = (λ n. outside n (cases_eq q k), λ s. inside s (cases_eq q k))
    where
      outside : (p ≢ k) → (q ≡ k) ⊎ (q ≢ k) → Walk N end p w
      outside n (inr o) = Walk-cons N end p q u v w e ((without p q u).1 (n, o, inl m)) (walk o)
      outside n (inl s) = by_exit (leaves s)
        where
          by_exit : Leaves M N end k v → Walk N end p w
          by_exit (t, x, (f, g, (r, (o, (b, y, (i, l, h)))))) =
              let at : w ≡ (u ++ (t ++ b)) ++ y = e ∙ (ap (λ z. u ++ z) (f ∙ (ap (λ z. t ++ z) i ∙ sym (append_assoc t b y))) ∙ sym (append_assoc u (t ++ b) y)) in
              let into : M p k u = subst (λ z. M p z u) s m in
              Walk-cons N end p r (u ++ (t ++ b)) y w at ((without p r (u ++ (t ++ b))).1 (n, o, inr (u, t ++ b, (refl, into, (t, b, (refl, g, l)))))) h

      inside : (p ≡ k) → (q ≡ k) ⊎ (q ≢ k) → Leaves M N end k w
      inside s (inr o) = ([], w, (refl, (0, refl), (q, (o, (u, v, (e, subst (λ z. M z q u) s m, walk o))))))
      inside s (inl r) = by_exit (leaves r)
        where
          by_exit : Leaves M N end k v → Leaves M N end k w
          by_exit (t, x, (f, g, h)) =
              let turn : M k k u = subst (λ z. M k z u) r (subst (λ z. M z q u) s m) in
              (u ++ t, x, (e ∙ (ap (λ z. u ++ z) f ∙ sym (append_assoc u t x)), (suc g.0, (u, t, (refl, turn, g.1))), h))

  forth : (end ≢ k) → (j p : ℕ) (w : List ℕ) → Steps M end j p w → ((p ≢ k) → Walk N end p w) × ((p ≡ k) → Leaves M N end k w)
  forth ne zero p w h = (λ _. (0, h), λ s. absurd (ne (sym h.0 ∙ s)))
  forth ne (suc j) p w (q, (u, v, (e, m, h))) =
      let r = forth ne j q v h in onward p q u v w e m r.0 r.1

  -- eliminating a state keeps the words between the others
  pub Walk-without : (end ≢ k) → (p : ℕ) (w : List ℕ) → (p ≢ k) → Walk M end p w ↔ Walk N end p w
  Walk-without ne p w n = (λ h. (forth ne h.0 p w h.1).0 n, λ h. back h.0 p w h.1)

-- the edges lead from state n + 1 or a state of the list, to state n or a state of the list
abbrev pub IsAmong : ℕ → List ℕ → Graph → Type 0
IsAmong n left M = (p q : ℕ) (w : List ℕ) → M p q w → ((p ≡ n + 1) ⊎ Contains left p) × ((q ≡ n) ⊎ Contains left q)

-- where no other states are left, one edge is the whole walk
pub Walk-last : (n : ℕ) (left : List ℕ) (M : Graph) (w : List ℕ) → length left ≡ 0 → IsAmong n left M → Walk M n (n + 1) w ↔ M (n + 1) n w
Walk-last n left M w none among = (λ h. front h.0 h.1, λ m. Walk-cons M n (n + 1) n w [] w (sym (append-nil w)) m (0, (refl, refl)))
  where
    not_in : (q : ℕ) → Contains left q → ⊥
    not_in q c = omega arith

    behind : (j : ℕ) (v : List ℕ) → Steps M n j n v → v ≡ []
    behind zero v h = h.1
    behind (suc j) v (q, (u, x, (e, m, h))) =
        elim (among n q u m).0 [ inl a ↦ absurd (omega arith) | inr c ↦ absurd (not_in n c) ]

    by_end : (q : ℕ) (u v : List ℕ) (j : ℕ) → w ≡ u ++ v → M (n + 1) q u → Steps M n j q v → (q ≡ n) ⊎ Contains left q → M (n + 1) n w
    by_end q u v j e m h (inr c) = absurd (not_in q c)
    by_end q u v j e m h (inl a) =
        let none_left : v ≡ [] = behind j v (subst (λ z. Steps M n j z v) a h) in
        let same : u ≡ w = sym (e ∙ (ap (λ z. u ++ z) none_left ∙ append-nil u)) in
        subst (M (n + 1) n) same (subst (λ z. M (n + 1) z u) a m)

    front : (j : ℕ) → Steps M n j (n + 1) w → M (n + 1) n w
    front zero h = absurd (omega (arith, h.0))
    front (suc j) (q, (u, v, (e, m, h))) =
        by_end q u v j e m h (among (n + 1) q u m).1

-- without state k, the edges lead from and to the others
pub among-without : (n k : ℕ) (old new : List ℕ) (M N : Graph) → ((q : ℕ) → Contains old q → (q ≡ k) ⊎ Contains new q) → IsWithout M k N → IsAmong n old M → IsAmong n new N
among-without n k old new M N other without among p q w h = by_kind ((without p q w).0 h)
  where
    from : (p ≢ k) → (p ≡ n + 1) ⊎ Contains old p → (p ≡ n + 1) ⊎ Contains new p
    from o (inl e) = inl e
    from o (inr c) = elim (other p c) [ inl e ↦ absurd (o e) | inr d ↦ inr d ]

    to : (q ≢ k) → (q ≡ n) ⊎ Contains old q → (q ≡ n) ⊎ Contains new q
    to o (inl e) = inl e
    to o (inr c) = elim (other q c) [ inl e ↦ absurd (o e) | inr d ↦ inr d ]

    by_kind : ((p ≢ k) × (q ≢ k) × (M p q w ⊎ Past M M k p q w)) → ((p ≡ n + 1) ⊎ Contains new p) × ((q ≡ n) ⊎ Contains new q)
    by_kind (o, r, inl m) = let a = among p q w m in (from o a.0, to r a.1)
    by_kind (o, r, inr (u, v, (e, m, (t, x, (f, _, l))))) =
        (from o (among p k u m).0, to r (among k q x l).1)

-- walks are kept where words are
Steps-inside : (M N : Graph) (end j p : ℕ) (w : List ℕ) → Reads M N → Steps N end j p w → Steps M end j p w
Steps-inside M N end zero p w r h = h
Steps-inside M N end (suc j) p w r (q, (u, v, (e, m, h))) = (q, (u, v, (e, (r p q u).0 m, Steps-inside M N end j q v r h)))

pub Walk-inside : (M N : Graph) (end p : ℕ) (w : List ℕ) → Reads M N → Walk N end p w → Walk M end p w
Walk-inside M N end p w r h = (h.0, Steps-inside M N end h.0 p w r h.1)

Steps-reads : (M N : Graph) (end j p : ℕ) (w : List ℕ) → Reads M N → All IsScalar w → Steps M end j p w → Steps N end j p w
Steps-reads M N end zero p w r s h = h
Steps-reads M N end (suc j) p w r s (q, (u, v, (e, m, h))) =
    (q, (u, v, (e, (r p q u).1 (scalars-left u v (subst (λ z. All IsScalar z) e s)) m, Steps-reads M N end j q v r (scalars-right u v (subst (λ z. All IsScalar z) e s)) h)))

pub Walk-reads : (M N : Graph) (end p : ℕ) (w : List ℕ) → Reads M N → All IsScalar w → Walk M end p w → Walk N end p w
Walk-reads M N end p w r s h = (h.0, Steps-reads M N end h.0 p w r s h.1)

-- ---- the loop over all states

pub among-start : (n : ℕ) (left : List ℕ) (M : Graph) → left ≡ range_with_len 0 n → IsWithin n M → IsAmong n left M
among-start n left M e within p q w m = (elim a.0 [ inl x ↦ inl x | inr x ↦ inr (listed p x) ], elim a.1 [ inl x ↦ inl x | inr x ↦ inr (listed q x) ])
  where
    a : ((p ≡ n + 1) ⊎ (p < n)) × ((q ≡ n) ⊎ (q < n))
    a = within p q w m

    listed : (x : ℕ) → x < n → Contains left x
    listed x h =
        subst (λ l. Contains l x) (sym e) (x, omega (arith, length-range_with_len 0 n), omega (arith, get_or-range_with_len 0 n x x h))

pub below-start : (n : ℕ) (left : List ℕ) → left ≡ range_with_len 0 n → All (λ q. q < n) left
below-start n left e = subst (λ l. All (λ q. q < n) l) (sym e) (λ k d h. omega (arith, length-range_with_len 0 n, get_or-range_with_len 0 n k d (omega (arith, length-range_with_len 0 n))))

-- the states that are left after one is taken
pub others-left : (old new : List ℕ) (k : ℕ) → IsPermutation old (k ∷ new) → (q : ℕ) → Contains old q → (q ≡ k) ⊎ Contains new q
others-left old new k perm q h = by_place (Contains-permutation old (k ∷ new) q perm h)
  where
    by_place : Contains (k ∷ new) q → (q ≡ k) ⊎ Contains new q
    by_place (zero, l, e) = inl (sym e)
    by_place (suc j, l, e) = inr (j, omega arith, e)

-- one state less
pub record IsLess (n k : ℕ) (old new : List ℕ) (M0 M N : Graph) : Type 0 where
  pub words : (w : List ℕ) → Walk M0 n (n + 1) w ↔ Walk N n (n + 1) w
  pub among : IsAmong n new N
  pub below : All (λ q. q < n) new

pub one-less : (n k : ℕ) (old new : List ℕ) (M0 M N : Graph) → IsPermutation old (k ∷ new) → All (λ q. q < n) old → IsAmong n old M → ((w : List ℕ) → Walk M0 n (n + 1) w ↔ Walk M n (n + 1) w) → IsWithout M k N → IsLess n k old new M0 M N
one-less n k old new M0 M N perm below among words without =
    let all = All-permutation (λ q. q < n) old (k ∷ new) perm below in
    let low = All-head (λ q. q < n) k new all in
    record {
      words = λ w. (let s = Walk-without M N n k without (omega arith) (n + 1) w (omega arith) in (λ h. s.0 ((words w).0 h), λ h. (words w).1 (s.1 h)));
      among = among-without n k old new M N (others-left old new k perm) without among;
      below = All-tail (λ q. q < n) k new all;
    }

-- the words of the one edge that is left
pub all-eliminated : (n : ℕ) (left : List ℕ) (M0 M : Graph) (L : Words) → length left ≡ 0 → IsAmong n left M → ((w : List ℕ) → Walk M0 n (n + 1) w ↔ Walk M n (n + 1) w) → ((w : List ℕ) → L w ↔ M (n + 1) n w) → (w : List ℕ) → L w ↔ Walk M0 n (n + 1) w
all-eliminated n left M0 M L none among words edge w =
    let last = Walk-last n left M w none among in
    (λ h. (words w).1 (last.1 ((edge w).0 h)), λ h. (edge w).1 (last.0 ((words w).0 h)))
