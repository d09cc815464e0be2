-- The numbers of lists are added to the cells that their labels cover.
use Rattle.std.proofs.Common.{◌≡◌, ℕ, zero, suc, ◌+◌, ◌<◌, ◌≤◌, ◌⊎◌, inl, inr, List, [], ◌∷◌, ◌++◌, length, slice_set, get_or, take, nat_lt, true, false, ltb-true, ltb-false, refl, ap, sym, ◌∙◌, subst, arith}
use Rattle.std.specs.Prelude.{slice_get, Some, ◌↔◌}
use Rattle.std.specs.List.{Contains}
use Rattle.std.proofs.lemmas.Bool.{cases_lt}
use Rattle.std.proofs.lemmas.List.{take_more}
use Rattle.std.proofs.lemmas.List.Elements.{Contains-append_left, Contains-append_right, Contains-append_cases}
use Rattle.std.proofs.lemmas.Option.{slice_get_read, slice_get_within, get_or_from_slice_get, slice_get-get_or}
use Rattle.lalrpop_hir.specs.Range.{Range, Covers}
use Rattle.lalrpop_hir.proofs.Contained.{contains_none}
use Rattle.lalrpop_hir.proofs.Pushed.{pushed_cases, pushed_keeps, pushed_last}
use Rattle.lalrpop_build.specs.declared.alphabet.signatures.Signature.{Signature}
use Rattle.lalrpop_build.specs.declared.alphabet.Group.{Group}
use Rattle.lalrpop_build.specs.declared.alphabet.groups.Labels.{Labels}
use Rattle.lalrpop_build.specs.Internal.Alphabet.{HasBoundary}
use Rattle.lalrpop_build.specs.Internal.Grouped.{HasLabel}
use Rattle.lalrpop_build.specs.Internal.Signatures.{AreRising, IsEndAt, EndsAt, CoversAny, CoversIn, Added, Marked, Gained, AreSigned, HaveEnds, HaveNoClasses}

-- ---- elements by their places
module _ {X : Type 0} where
  pub at_contains : (xs : List X) (k : ℕ) (x : X) → slice_get xs k ≡ Some x → Contains xs x
  at_contains xs k x h = (k, slice_get_within xs k x h, get_or_from_slice_get xs k x x h)

  pub contains_at : (xs : List X) (x : X) → Contains xs x → (k : ℕ) × (slice_get xs k ≡ Some x)
  contains_at xs x (k, l, e) = (k, slice_get-get_or xs k x l ∙ ap (λ y. Some y) e)

  pub at_within : (xs : List X) (k : ℕ) → k < length xs → (x : X) × (slice_get xs k ≡ Some x)
  at_within [] k l = absurd (omega (arith, l))
  at_within (x ∷ xs) zero l = (x, refl)
  at_within (x ∷ xs) (suc k) l = at_within xs k (omega (arith, l))

  pub set_at : (xs : List X) (i : ℕ) (x : X) (k : ℕ) (y : X) → i < length xs → slice_get (slice_set xs i x) k ≡ Some y → ((k ≡ i) × (y ≡ x)) ⊎ (((k ≡ i) → ⊥) × (slice_get xs k ≡ Some y))
  set_at [] i x k y l h = absurd (omega (arith, l))
  set_at (z ∷ xs) zero x zero y l h = inl (refl, cc)
  set_at (z ∷ xs) zero x (suc k) y l h = inr ((λ e. cc), h)
  set_at (z ∷ xs) (suc i) x zero y l h = inr ((λ e. cc), h)
  set_at (z ∷ xs) (suc i) x (suc k) y l h = elim (set_at xs i x k y (omega (arith, l)) h) [
    | inl s ↦ inl (ap (λ n. suc n) s.0, s.1)
    | inr o ↦ inr ((λ e. o.0 (omega (arith, e))), o.1)
  ]

  pub set_there : (xs : List X) (i : ℕ) (x : X) → i < length xs → slice_get (slice_set xs i x) i ≡ Some x
  set_there [] i x l = absurd (omega (arith, l))
  set_there (z ∷ xs) zero x l = refl
  set_there (z ∷ xs) (suc i) x l = set_there xs i x (omega (arith, l))

  pub set_elsewhere : (xs : List X) (i : ℕ) (x : X) (k : ℕ) (y : X) → (k ≡ i → ⊥) → slice_get xs k ≡ Some y → slice_get (slice_set xs i x) k ≡ Some y
  set_elsewhere [] i x k y n h = cc
  set_elsewhere (z ∷ xs) zero x zero y n h = absurd (n refl)
  set_elsewhere (z ∷ xs) zero x (suc k) y n h = h
  set_elsewhere (z ∷ xs) (suc i) x zero y n h = h
  set_elsewhere (z ∷ xs) (suc i) x (suc k) y n h = set_elsewhere xs i x k y (λ e. n (ap (λ m. suc m) e)) h

  pub set_length : (xs : List X) (i : ℕ) (x : X) → length (slice_set xs i x) ≡ length xs
  set_length [] i x = refl
  set_length (z ∷ xs) zero x = refl
  set_length (z ∷ xs) (suc i) x = ap (λ n. suc n) (set_length xs i x)

  pub one_has : (y x : X) → Contains (y ∷ []) x → x ≡ y
  one_has y x (zero, l, e) = sym e
  one_has y x (suc k, l, e) = absurd (omega (arith, l))

  -- one more element
  pub taken_more : (xs : List X) (i : ℕ) (y x : X) → i < length xs → y ≡ get_or xs i y → Contains (take (i + 1) xs) x ↔ (Contains (take i xs) x ⊎ (x ≡ y))
  taken_more xs i y x l is =
      let more : take (i + 1) xs ≡ take i xs ++ y ∷ [] = take_more xs i y l ∙ ap (λ z. take i xs ++ z ∷ []) (sym is) in (
        λ h. elim (Contains-append_cases (take i xs) (y ∷ []) x (rw more at h)) [ inl a ↦ inl a | inr b ↦ inr (one_has y x b) ],
        λ h. rw more (elim h [ inl a ↦ Contains-append_left (take i xs) (y ∷ []) x a | inr b ↦ Contains-append_right (take i xs) (y ∷ []) x (rw b (0, omega arith, refl)) ]),
      )

-- ---- the place of a boundary
pub rises : (boundaries : List ℕ) → AreRising boundaries → (i j : ℕ) (d : ℕ) → i ≤ j → j < length boundaries → suc (get_or boundaries i d) ≤ suc (get_or boundaries j d)
rises boundaries rising i j d l m = elim (cases_lt i j) [
  | inl before ↦ (let a = rising i j (get_or boundaries i d) (get_or boundaries j d) (slice_get-get_or boundaries i d (omega (arith, before, m))) (slice_get-get_or boundaries j d m) before in omega (arith, a))
  | inr same ↦ (let e : i ≡ j = omega (arith, l, same) in rw e (omega arith))
]

pub placed : (boundaries : List ℕ) (value i : ℕ) → AreRising boundaries → Contains boundaries value → ((k : ℕ) (d : ℕ) → k < i → nat_lt (get_or boundaries k d) value ≡ true) → ((k : ℕ) (d : ℕ) → i ≤ k → k < length boundaries → nat_lt (get_or boundaries k d) value ≡ false)
    → slice_get boundaries i ≡ Some value
placed boundaries value i rising there below above =
    let (k, at) = contains_at boundaries value there in
    let within : k < length boundaries = slice_get_within boundaries k value at in
    let is : get_or boundaries k 0 ≡ value = get_or_from_slice_get boundaries k value 0 at in
    elim (cases_lt k i) [
      | inl before ↦ absurd (let t = ltb-true _ _ (below k 0 before) in omega (arith, t, is))
      | inr from ↦ elim (cases_lt i k) [
        | inl apart ↦ absurd (
            let t = ltb-false _ _ (above i 0 (omega arith) (omega (arith, apart, within))) in
            let u = rising i k (get_or boundaries i 0) value (slice_get-get_or boundaries i 0 (omega (arith, apart, within))) at apart in
            omega (arith, t, u))
        | inr past ↦ (let e : k ≡ i = omega (arith, from, past) in rw (← e) at)
      ]
    ]

-- ---- a number is added to the cells from a on and below b
pub marked_none : (a b number : ℕ) (old : List Signature) → b ≤ a → Marked old old (λ k n. (n ≡ number) × (a ≤ k) × (k < b))
marked_none a b number old l = (refl, λ k s s2 was will n. (let e : s2 ≡ s = cc in (λ h. inl (rw (← e) h), λ h. elim h [ inl x ↦ rw e x | inr x ↦ absurd (omega (arith, l, x.1, x.2)) ])))

pub marked_more : (a i number : ℕ) (old cur : List Signature) (now new : Signature) → Marked old cur (λ k n. (n ≡ number) × (a ≤ k) × (k < i)) → a ≤ i → i < length cur → now ≡ get_or cur i now → Added now.lists.items new.lists.items (λ n. n ≡ number)
    → Marked old (slice_set cur i new) (λ k n. (n ≡ number) × (a ≤ k) × (k < i + 1))
marked_more a i number old cur now new got after within is added = (
  set_length cur i new ∙ got.0,
  λ k s s2 was will n. elim (set_at cur i new k s2 within will) [
    | inl here ↦
        (let at : slice_get cur k ≡ Some now = rw here.0 (slice_get_read cur (length cur) i now refl within is) in
        let g = got.1 k s now was at n in
        let f = added n in (
          λ h. elim (f.0 (rw (← here.1) h)) [ inl x ↦ elim (g.0 x) [ inl y ↦ inl y | inr y ↦ inr (y.0, y.1, omega (arith, y.2)) ] | inr x ↦ inr (x, omega (arith, after, here.0), omega (arith, here.0)) ],
          λ h. rw here.1 (elim h [ inl x ↦ f.1 (inl (g.1 (inl x))) | inr x ↦ f.1 (inr x.0) ]),
        ))
    | inr other ↦
        (let g = got.1 k s s2 was other.1 n in (
          λ h. elim (g.0 h) [ inl x ↦ inl x | inr x ↦ inr (x.0, x.1, omega (arith, x.2)) ],
          λ h. g.1 (elim h [ inl x ↦ inl x | inr x ↦ inr (x.0, x.1, (let d : k ≡ i → ⊥ = other.0 in omega (arith, x.2, d))) ]),
        ))
  ],
)

marked_like : {E F : ℕ → ℕ → Type 0} → (old new : List Signature) → Marked old new E → ((k n : ℕ) → E k n ↔ F k n) → Marked old new F
marked_like old new m same = (
  m.0,
  λ k s s2 was will n. (
    λ h. elim ((m.1 k s s2 was will n).0 h) [ inl x ↦ inl x | inr x ↦ inr ((same k n).0 x) ],
    λ h. (m.1 k s s2 was will n).1 (elim h [ inl x ↦ inl x | inr x ↦ inr ((same k n).1 x) ]),
  ),
)

pub marked_all : (a b stop number : ℕ) (old new : List Signature) → Marked old new (λ k n. (n ≡ number) × (a ≤ k) × (k < stop)) → b ≤ stop → (a < stop → stop ≤ b) → Marked old new (λ k n. (n ≡ number) × (a ≤ k) × (k < b))
marked_all a b stop number old new m l inside = marked_like old new m (λ k n. (
  λ h. (h.0, h.1, (let i : stop ≤ b = inside (omega (arith, h.1, h.2)) in omega (arith, h.2, i))),
  λ h. (h.0, h.1, omega (arith, h.2, l)),
))

-- ---- the cells of a label
module _ (boundaries : List ℕ) (rising : AreRising boundaries) where
  pub not_after : (i j u v : ℕ) → slice_get boundaries i ≡ Some u → slice_get boundaries j ≡ Some v → i ≤ j → u ≤ v
  not_after i j u v a b l = elim (cases_lt i j) [
    | inl before ↦ (let h = rising i j u v a b before in omega (arith, h))
    | inr same ↦ (let e : i ≡ j = omega (arith, l, same) in let s : u ≡ v = (let at : slice_get boundaries j ≡ Some u = rw (← e) a in cc) in omega (arith, s))
  ]

  same_place : (i j v : ℕ) → slice_get boundaries i ≡ Some v → slice_get boundaries j ≡ Some v → i ≡ j
  same_place i j v a b = elim (cases_lt i j) [
    | inl before ↦ absurd (let h = rising i j v v a b before in omega (arith, h))
    | inr from ↦ elim (cases_lt j i) [
      | inl after ↦ absurd (let h = rising j i v v b a after in omega (arith, h))
      | inr past ↦ omega (arith, from, past)
    ]
  ]

  pub label_marked : (r : Range) (from until number : ℕ) (old new : List Signature) → slice_get boundaries from ≡ Some r.start → slice_get boundaries until ≡ Some (r.end + 1) → Marked old new (λ k n. (n ≡ number) × (from ≤ k) × (k < until))
      → Gained boundaries old new (λ v n. (n ≡ number) × Covers r v)
  label_marked r from until number old new start end m = (
    m.0,
    λ k v s s2 boundary was will n.
        let g = m.1 k s s2 was will n in (
          λ h. elim (g.0 h) [
            | inl x ↦ inl x
            | inr x ↦
                (let low : r.start ≤ v = not_after from k r.start v start boundary x.1 in
                let high : v < r.end + 1 = rising k until v (r.end + 1) boundary end x.2 in
                inr (x.0, (low, omega (arith, high))))
          ],
          λ h. g.1 (elim h [
            | inl x ↦ inl x
            | inr x ↦
                (let low : from ≤ k = elim (cases_lt k from) [ inl before ↦ absurd (let b = rising k from v r.start boundary start before in omega (arith, b, x.1.0)) | inr a ↦ a ] in
                let high : k < until = elim (cases_lt k until) [ inl a ↦ a | inr past ↦ absurd (let b = not_after until k (r.end + 1) v end boundary past in omega (arith, b, x.1.1)) ] in
                inr (x.0, low, high))
          ]),
        ),
  )

  pub ends_added : (r : Range) (from until : ℕ) (xs ys zs : List ℕ) → r.start ≤ r.end → slice_get boundaries from ≡ Some r.start → slice_get boundaries until ≡ Some (r.end + 1) → Added xs ys (λ n. n ≡ from) → Added ys zs (λ n. n ≡ until) → Added xs zs (IsEndAt boundaries r)
  ends_added r from until xs ys zs some start end a b n = (
    λ h. elim ((b n).0 h) [
      | inl x ↦ elim ((a n).0 x) [ inl y ↦ inl y | inr y ↦ inr (r.start, (rw y start, (some, inl refl))) ]
      | inr x ↦ inr (r.end + 1, (rw x end, (some, inr refl)))
    ],
    λ h. (b n).1 (elim h [ inl x ↦ inl ((a n).1 (inl x)) | inr x ↦ is_end x.0 x.1.0 x.1.1.1 ]),
  )
    where
      is_end : (v : ℕ) → slice_get boundaries n ≡ Some v → (v ≡ r.start) ⊎ (v ≡ r.end + 1) → Contains ys n ⊎ (n ≡ until)
      is_end v at (inl e) = inl ((a n).1 (inr (same_place n from r.start (rw e at at) start)))
      is_end v at (inr e) = inr (same_place n until (r.end + 1) (rw e at at) end)

gained_same : {E : ℕ → ℕ → Type 0} → (boundaries : List ℕ) (old : List Signature) → ((v n : ℕ) → E v n → ⊥) → Gained boundaries old old E
gained_same boundaries old none = (refl, λ k v s s2 boundary was will n. (let e : s2 ≡ s = cc in (λ h. inl (rw (← e) h), λ h. elim h [ inl x ↦ rw e x | inr x ↦ absurd (none v n x) ])))

-- by one step, and then by another
gained_then : {E F G : ℕ → ℕ → Type 0} → (boundaries : List ℕ) (old cur new : List Signature) → Gained boundaries old cur E → Gained boundaries cur new F → ((v n : ℕ) → (E v n ⊎ F v n) ↔ G v n) → Gained boundaries old new G
gained_then {E} {F} {G} boundaries old cur new f g both = (
  g.0 ∙ f.0,
  λ k v s s2 boundary was will n.
      let (q, at) = at_within cur k (omega (arith, slice_get_within old k s was, f.0)) in
      let a = f.1 k v s q boundary was at n in
      let b = g.1 k v q s2 boundary at will n in
      let c = both v n in (
        λ h. elim (b.0 h) [ inl x ↦ elim (a.0 x) [ inl y ↦ inl y | inr y ↦ inr (c.0 (inl y)) ] | inr x ↦ inr (c.0 (inr x)) ],
        λ h. elim h [ inl x ↦ b.1 (inl (a.1 (inl x))) | inr x ↦ elim (c.1 x) [ inl y ↦ b.1 (inl (a.1 (inr y))) | inr y ↦ b.1 (inr y) ] ],
      ),
)

-- ---- label by label
pub label_gained : (boundaries : List ℕ) (rs : List Range) (i number : ℕ) (r : Range) (old cur new : List Signature) → Gained boundaries old cur (λ v n. (n ≡ number) × CoversAny (take i rs) v) → Gained boundaries cur new (λ v n. (n ≡ number) × Covers r v)
    → i < length rs → r ≡ get_or rs i r → Gained boundaries old new (λ v n. (n ≡ number) × CoversAny (take (i + 1) rs) v)
label_gained boundaries rs i number r old cur new f g l is = gained_then boundaries old cur new f g (λ v n. (to v n, from v n))
  where
    to : (v n : ℕ) → ((n ≡ number) × CoversAny (take i rs) v) ⊎ ((n ≡ number) × Covers r v) → (n ≡ number) × CoversAny (take (i + 1) rs) v
    to v n (inl (e, (q, (has, low)))) = (e, (q, ((taken_more rs i r q l is).1 (inl has), low)))
    to v n (inr (e, low)) = (e, (r, ((taken_more rs i r r l is).1 (inr refl), low)))

    from : (v n : ℕ) → (n ≡ number) × CoversAny (take (i + 1) rs) v → ((n ≡ number) × CoversAny (take i rs) v) ⊎ ((n ≡ number) × Covers r v)
    from v n (e, (q, (has, low))) = elim ((taken_more rs i r q l is).0 has) [ inl x ↦ inl (e, (q, (x, low))) | inr x ↦ inr (e, subst (λ (p : Range). Covers p v) x low) ]

pub label_ends : (boundaries : List ℕ) (rs : List Range) (i : ℕ) (r : Range) (xs ys : List ℕ) → ((k : ℕ) → Contains xs k ↔ EndsAt boundaries (take i rs) k) → Added xs ys (IsEndAt boundaries r) → i < length rs → r ≡ get_or rs i r → (k : ℕ) → Contains ys k ↔ EndsAt boundaries (take (i + 1) rs) k
label_ends boundaries rs i r xs ys f g l is k = (to, from)
  where
    to : Contains ys k → EndsAt boundaries (take (i + 1) rs) k
    to h = elim ((g k).0 h) [
      | inl x ↦ (let (q, (has, end)) = (f k).0 x in (q, ((taken_more rs i r q l is).1 (inl has), end)))
      | inr x ↦ (r, ((taken_more rs i r r l is).1 (inr refl), x))
    ]

    from : EndsAt boundaries (take (i + 1) rs) k → Contains ys k
    from (q, (has, end)) = (g k).1 (elim ((taken_more rs i r q l is).0 has) [ inl x ↦ inl ((f k).1 (q, (x, end))) | inr x ↦ inr (subst (λ (p : Range). IsEndAt boundaries p k) x end) ])

-- ---- list by list
pub list_gained : (boundaries : List ℕ) (lists : List Labels) (i : ℕ) (ls : Labels) (old new : List Signature) → slice_get lists i ≡ Some ls → AreSigned boundaries old (λ v n. (n < i) × CoversIn lists n v) → Gained boundaries old new (λ v n. (n ≡ i) × CoversAny ls.list.items v)
    → AreSigned boundaries new (λ v n. (n < i + 1) × CoversIn lists n v)
list_gained boundaries lists i ls old new at signed g = (
  g.0 ∙ signed.0,
  λ k v s2 boundary will n.
      let (s, was) = at_within old k (omega (arith, slice_get_within new k s2 will, g.0)) in
      let a = signed.1 k v s boundary was n in
      let b = g.1 k v s s2 boundary was will n in (
        λ h. elim (b.0 h) [ inl x ↦ (omega (arith, (a.0 x).0), (a.0 x).1) | inr x ↦ (omega (arith, x.0), covers_here v n x.0 x.1) ],
        λ h. b.1 (elim (cases_lt n i) [ inl before ↦ inl (a.1 (before, h.1)) | inr from ↦ (let e : n ≡ i = omega (arith, from, h.0) in inr (e, there v n e h.1)) ]),
      ),
)
  where
    covers_here : (v n : ℕ) → n ≡ i → CoversAny ls.list.items v → CoversIn lists n v
    covers_here v n e (r, (has, low)) = (r, ((ls, (rw e at, has)), low))

    there : (v n : ℕ) → n ≡ i → CoversIn lists n v → CoversAny ls.list.items v
    there v n e (r, ((ms, (here, has)), low)) = let same : ms ≡ ls = (let both : slice_get lists i ≡ Some ms = rw (← e) here in cc) in (r, (subst (λ (x : Labels). Contains x.list.items r) same has, low))

-- the groups of the lists below i have the ends of their labels
abbrev pub HaveEndsBelow : ℕ → List Labels → List ℕ → List Group → Type 0
HaveEndsBelow i lists boundaries groups = (n k : ℕ) → HasBoundary groups n k ↔ ((n < i) × ((r : Range) × (HasLabel lists n r × IsEndAt boundaries r k)))

pub group_ends : (boundaries : List ℕ) (lists : List Labels) (i : ℕ) (ls : Labels) (groups : List Group) (group : Group) → slice_get lists i ≡ Some ls → length groups ≡ i → HaveEndsBelow i lists boundaries groups → ((k : ℕ) → Contains group.boundaries.items k ↔ EndsAt boundaries ls.list.items k)
    → HaveEndsBelow (i + 1) lists boundaries (groups ++ group ∷ [])
group_ends boundaries lists i ls groups group at len f g n k = (to, from)
  where
    to : HasBoundary (groups ++ group ∷ []) n k → (n < i + 1) × ((r : Range) × (HasLabel lists n r × IsEndAt boundaries r k))
    to (x, (here, has)) = elim (pushed_cases groups group n x here) [
      | inl was ↦ (let h = (f n k).0 (x, (was, has)) in (omega (arith, h.0), h.1))
      | inr new ↦
          (let e : n ≡ i = omega (arith, new.0, len) in
          let (r, (m, end)) = (g k).0 (subst (λ (y : Group). Contains y.boundaries.items k) new.1 has) in
          (omega (arith, e), (r, ((ls, (rw e at, m)), end))))
    ]

    from : (n < i + 1) × ((r : Range) × (HasLabel lists n r × IsEndAt boundaries r k)) → HasBoundary (groups ++ group ∷ []) n k
    from (l, (r, ((ms, (here, has)), end))) = elim (cases_lt n i) [
      | inl before ↦ (let (x, (was, m)) = (f n k).1 (before, (r, ((ms, (here, has)), end))) in (x, (pushed_keeps groups group n x was, m)))
      | inr past ↦
          (let e : n ≡ i = omega (arith, past, l) in
          let same : ms ≡ ls = (let both : slice_get lists i ≡ Some ms = rw (← e) here in cc) in
          let place : n ≡ length groups = omega (arith, e, len) in
          (group, (rw place (pushed_last groups group), (g k).1 (r, (subst (λ (x : Labels). Contains x.list.items r) same has, end)))))
    ]

pub still_no_classes : (groups : List Group) (group : Group) → HaveNoClasses groups → group.classes.items ≡ [] → HaveNoClasses (groups ++ group ∷ [])
still_no_classes groups group no_classes none n c (x, (at, has)) = elim (pushed_cases groups group n x at) [
  | inl was ↦ no_classes n c (x, (was, has))
  | inr new ↦ contains_none c (subst (λ ys. Contains ys c) none (subst (λ (y : Group). Contains y.classes.items c) new.1 has))
]

pub none_signed : (boundaries : List ℕ) (lists : List Labels) (signatures : List Signature) → length signatures ≡ length boundaries → ((k : ℕ) (s : Signature) → slice_get signatures k ≡ Some s → (n : ℕ) → Contains s.lists.items n → ⊥)
    → AreSigned boundaries signatures (λ v n. (n < 0) × CoversIn lists n v)
none_signed boundaries lists signatures len none = (len, λ k v s boundary at n. (λ h. absurd (none k s at n h), λ h. absurd (omega (arith, h.0))))

pub all_signed : (boundaries : List ℕ) (lists : List Labels) (signatures : List Signature) (i : ℕ) → length lists ≤ i → AreSigned boundaries signatures (λ v n. (n < i) × CoversIn lists n v) → AreSigned boundaries signatures (λ v n. CoversIn lists n v)
all_signed boundaries lists signatures i all signed = (
  signed.0,
  λ k v s boundary at n. (λ h. ((signed.1 k v s boundary at n).0 h).1, λ h. (signed.1 k v s boundary at n).1 (inside n h.1.0, h)),
)
  where
    inside : {r : Range} → (n : ℕ) → HasLabel lists n r → n < i
    inside n (ls, (at, has)) = omega (arith, slice_get_within lists n ls at, all)

pub all_ends : (boundaries : List ℕ) (lists : List Labels) (groups : List Group) (i : ℕ) → length lists ≤ i → HaveEndsBelow i lists boundaries groups → HaveEnds lists boundaries groups
all_ends boundaries lists groups i all f n k = (λ h. ((f n k).0 h).1, λ h. (f n k).1 (inside h.1.0, h))
  where
    inside : {r : Range} → HasLabel lists n r → n < i
    inside (ls, (at, has)) = omega (arith, slice_get_within lists n ls at, all)

pub no_classes_yet : HaveNoClasses []
no_classes_yet n c (x, (at, has)) = cc

pub no_ends : (boundaries : List ℕ) (lists : List Labels) → HaveEndsBelow 0 lists boundaries []
no_ends boundaries lists n k = (λ (x, (at, has)). cc, λ h. absurd (omega (arith, h.0)))

pub none_gained : (boundaries : List ℕ) (rs : List Range) (number : ℕ) (old : List Signature) → Gained boundaries old old (λ v n. (n ≡ number) × CoversAny (take 0 rs) v)
none_gained boundaries rs number old = gained_same boundaries old (λ v n (e, (r, (has, low))). contains_none r has)

pub none_end : (boundaries : List ℕ) (rs : List Range) (ends : List ℕ) → ends ≡ [] → (k : ℕ) → Contains ends k ↔ EndsAt boundaries (take 0 rs) k
none_end boundaries rs ends none k = (λ h. absurd (contains_none k (subst (λ xs. Contains xs k) none h)), λ (r, (has, end)). absurd (contains_none r has))

pub none_more : (signatures new : List Signature) (s : Signature) → ((k : ℕ) (t : Signature) → slice_get signatures k ≡ Some t → (n : ℕ) → Contains t.lists.items n → ⊥) → s.lists.items ≡ [] → new ≡ signatures ++ s ∷ []
    → (k : ℕ) (t : Signature) → slice_get new k ≡ Some t → (n : ℕ) → Contains t.lists.items n → ⊥
none_more signatures new s none bare is k t at n has = elim (pushed_cases signatures s k t (subst (λ ys. slice_get ys k ≡ Some t) is at)) [
  | inl was ↦ none k t was n has
  | inr end ↦ contains_none n (subst (λ ys. Contains ys n) bare (subst (λ (y : Signature). Contains y.lists.items n) end.1 has))
]
