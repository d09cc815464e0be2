-- What leaves items, gathered item by item: the edges of each class, and the cells at which labels begin or are over.
use Rattle.std.proofs.Common.{◌≡◌, ℕ, ◌+◌, ◌<◌, ◌⊎◌, inl, inr, List, [], ◌∷◌, ◌++◌, length, slice_set, get_or, take, refl, ap, ap₂, sym, ◌∙◌, subst, arith}
use Rattle.std.specs.Prelude.{slice_get, Some, ◌↔◌}
use Rattle.std.specs.List.{Contains}
use Rattle.std.proofs.lemmas.Option.{slice_get_read, slice_get_within, slice_get-get_or}
use Rattle.std.proofs.lemmas.List.{get_or_default, length-set}
use Rattle.std.proofs.lemmas.List.Elements.{Contains-append_left, Contains-append_right, Contains-append_cases}
use Rattle.lalrpop_build.specs.Internal.Alphabet.{Classes, AreEdgeGroupsOf, IsEdgeGroupOf, HasClass, HasBoundary, LeadsBy, HasBoundaryAt}
use Rattle.lalrpop_build.specs.declared.alphabet.Group.{Group}
use Rattle.lalrpop_build.specs.declared.alphabet.EdgeGroup.{EdgeGroup}
use Rattle.lalrpop_build.specs.declared.alphabet.NfaEdgeGroups.{NfaEdgeGroups}
use Rattle.lalrpop_build.specs.declared.alphabet.StateEdgeGroups.{StateEdgeGroups}
use Rattle.lalrpop_dfa.specs.Ascending.{Item}
use Rattle.lalrpop_build.specs.Internal.ClassTransitions.{HaveNoEdges, Gained, AreGathered, AreBoundariesOf}
use Rattle.lalrpop_build.specs.declared.transitions.Transition.{Transition}
use Rattle.lalrpop_build.specs.declared.build.scratch.Transitions.{Transitions}
use Rattle.lalrpop_hir.proofs.Contained.{contains_only, contains_none}
use Rattle.lalrpop_build.proofs.Marking.{set_at}
use Rattle.lalrpop_hir.proofs.Pushed.{pushed_cases}
use Rattle.lalrpop_hir.proofs.Members.{taken_more}

pub gained_none : {E : ℕ → Transition → Type 0} → (old : List Transitions) → ((c : ℕ) (l : Transition) → E c l → ⊥) → Gained old old E
gained_none old none = (refl, λ c t t2 was will l. (let e : t2 ≡ t = cc in (λ h. inl (rw (← e) h), λ h. elim h [ inl x ↦ rw e x | inr x ↦ absurd (none c l x) ])))

-- one class gets one edge
pub gained_one : (old : List Transitions) (i : ℕ) (now more : Transitions) (edge : Transition) → i < length old → now ≡ get_or old i now → more.list.items ≡ now.list.items ++ edge ∷ []
    → Gained old (slice_set old i more) (λ c l. (c ≡ i) × (l ≡ edge))
gained_one old i now more edge within is got = (
  length-set old i more,
  λ c t t2 was will l. elim (set_at old i more c t2 within will) [
    | inl here ↦
        (let at : slice_get old i ≡ Some now = slice_get_read old (length old) i now refl within is in
        let same : t ≡ now = (let f : Some t ≡ Some now = sym was ∙ (ap (slice_get old) here.0 ∙ at) in cc) in
        let all : t2.list.items ≡ t.list.items ++ edge ∷ [] = ap (λ (q : Transitions). q.list.items) here.1 ∙ got ∙ ap (λ (q : Transitions). q.list.items ++ edge ∷ []) (sym same) in (
          λ h. elim (Contains-append_cases t.list.items (edge ∷ []) l (rw (← all) h)) [ inl x ↦ inl x | inr x ↦ inr (here.0, sym (contains_only edge l x)) ],
          λ h. rw all (elim h [ inl x ↦ Contains-append_left t.list.items (edge ∷ []) l x | inr x ↦ Contains-append_right t.list.items (edge ∷ []) l (rw x.1 (0, omega arith, refl)) ]),
        ))
    | inr other ↦
        (let same : t2 ≡ t = (let f : Some t2 ≡ Some t = sym other.1 ∙ was in cc) in (
          λ h. inl (subst (λ (q : Transitions). Contains q.list.items l) same h),
          λ h. elim h [ inl x ↦ subst (λ (q : Transitions). Contains q.list.items l) (sym same) x | inr x ↦ absurd (other.0 x.0) ],
        ))
  ],
)

-- by one step, and then by another
pub gained_then : {E F G : ℕ → Transition → Type 0} → (old cur new : List Transitions) → Gained old cur E → Gained cur new F → ((c : ℕ) (l : Transition) → (E c l ⊎ F c l) ↔ G c l) → Gained old new G
gained_then {E} {F} {G} old cur new f g both = (
  g.0 ∙ f.0,
  λ c t t2 was will l.
      let here : c < length cur = omega (arith, slice_get_within old c t was, f.0) in
      let q : Transitions = get_or cur c t in
      let at : slice_get cur c ≡ Some q = slice_get-get_or cur c t here in
      let a = f.1 c t q was at l in
      let b = g.1 c q t2 at will l in
      let d = both c l in (
        λ h. elim (b.0 h) [ inl x ↦ elim (a.0 x) [ inl y ↦ inl y | inr y ↦ inr (d.0 (inl y)) ] | inr x ↦ inr (d.0 (inr x)) ],
        λ h. elim h [ inl x ↦ b.1 (inl (a.1 (inl x))) | inr x ↦ elim (d.1 x) [ inl y ↦ b.1 (inl (a.1 (inr y))) | inr y ↦ b.1 (inr y) ] ],
      ),
)

-- one more class of a list gets the edge
pub class_more : (cs : List ℕ) (k d : ℕ) (edge : Transition) → k < length cs → (c : ℕ) (l : Transition) → ((Contains (take k cs) c × (l ≡ edge)) ⊎ ((c ≡ get_or cs k d) × (l ≡ edge))) ↔ (Contains (take (k + 1) cs) c × (l ≡ edge))
class_more cs k d edge within c l =
    let more = taken_more cs k (get_or cs k d) c within (get_or_default cs k d (get_or cs k d) within) in (
      λ h. elim h [ inl x ↦ (more.0 (inl x.0), x.1) | inr x ↦ (more.0 (inr x.0), x.1) ],
      λ h. elim (more.1 h.0) [ inl x ↦ inl (x, h.1) | inr x ↦ inr (x, h.1) ],
    )

-- ---- one item, group by group
-- some edge group goes to q, by a group with the class c
abbrev pub EdgeTo : List Group → List EdgeGroup → ℕ → ℕ → Type 0
EdgeTo groups edge_groups c q = (l : EdgeGroup) × (Contains edge_groups l × (l.to ≡ q) × HasClass groups l.group c)

-- one of their groups has the boundary k
abbrev pub EdgeBoundary : List Group → List EdgeGroup → ℕ → Type 0
EdgeBoundary groups edge_groups k = (l : EdgeGroup) × (Contains edge_groups l × HasBoundary groups l.group k)

-- these are the edge groups of a state
pub edge_groups_are : (nfas : List NfaEdgeGroups) (i p : ℕ) (ls : List EdgeGroup) (l : EdgeGroup) → AreEdgeGroupsOf nfas i p ls → IsEdgeGroupOf nfas i p l ↔ Contains ls l
edge_groups_are nfas i p ls l are = (λ h. there are h, λ h. (ls, (are, h)))
  where
    there : AreEdgeGroupsOf nfas i p ls → IsEdgeGroupOf nfas i p l → Contains ls l
    there (x, y, (at, own, is)) (ks, ((z, w, (at2, own2, is2)), h)) =
        let e : z ≡ x = (let f : Some z ≡ Some x = sym at2 ∙ at in cc) in
        let g : w ≡ y = (let f : Some w ≡ Some y = sym (subst (λ (n : NfaEdgeGroups). slice_get n.states.items p ≡ Some w) e own2) ∙ own in cc) in
        subst (λ (xs : List EdgeGroup). Contains xs l) (is2 ∙ (ap (λ (s : StateEdgeGroups). s.edge_groups.items) g ∙ sym is)) h

module _ (groups : List Group) (edge_groups : List EdgeGroup) (k : ℕ) (edge_group : EdgeGroup) (within : k < length edge_groups) (read : edge_group ≡ get_or edge_groups k edge_group) where
  -- the boundaries of one more edge group
  pub boundary_more : (old boundaries new : List ℕ) (j : ℕ) → Contains boundaries j ↔ (Contains old j ⊎ EdgeBoundary groups (take k edge_groups) j) → Contains new j ↔ (Contains boundaries j ⊎ HasBoundary groups edge_group.group j)
      → Contains new j ↔ (Contains old j ⊎ EdgeBoundary groups (take (k + 1) edge_groups) j)
  boundary_more old boundaries new j had more = (
    λ h. elim (more.0 h) [
      | inl x ↦ elim (had.0 x) [ inl y ↦ inl y | inr (m, (member, boundary)) ↦ inr (m, ((taken_more edge_groups k edge_group m within read).0 (inl member), boundary)) ]
      | inr boundary ↦ inr (edge_group, ((taken_more edge_groups k edge_group edge_group within read).0 (inr refl), boundary))
    ],
    λ h. more.1 (elim h [
      | inl y ↦ inl (had.1 (inl y))
      | inr (m, (member, boundary)) ↦ elim ((taken_more edge_groups k edge_group m within read).1 member) [
        | inl before ↦ inl (had.1 (inr (m, (before, boundary))))
        | inr here ↦ inr (subst (λ (x : EdgeGroup). HasBoundary groups x.group j) here boundary)
      ]
    ]),
  )

  module _ (group : Group) (at : slice_get groups edge_group.group ≡ Some group) where
    the_group : (l : EdgeGroup) (x : Group) → l ≡ edge_group → slice_get groups l.group ≡ Some x → x ≡ group
    the_group l x same there = (let f : Some x ≡ Some group = sym there ∙ (ap (λ (m : EdgeGroup). slice_get groups m.group) same ∙ at) in cc)

    -- its edges
    pub edge_more : (item : Item) (edge : Transition) → edge ≡ record { item = item; to = edge_group.to } → (c : ℕ) (l : Transition)
        → (((l.item ≡ item) × EdgeTo groups (take k edge_groups) c l.to) ⊎ (Contains group.classes.items c × (l ≡ edge))) ↔ ((l.item ≡ item) × EdgeTo groups (take (k + 1) edge_groups) c l.to)
    edge_more item edge is c l = (
      λ h. elim h [
        | inl (same, (m, (member, to, has))) ↦ (same, (m, ((taken_more edge_groups k edge_group m within read).0 (inl member), to, has)))
        | inr (has, same) ↦ (
          ap (λ (x : Transition). x.item) (same ∙ is),
          (edge_group, ((taken_more edge_groups k edge_group edge_group within read).0 (inr refl), sym (ap (λ (x : Transition). x.to) (same ∙ is)), (group, (at, has)))),
        )
      ],
      λ (same, (m, (member, to, has))). elim ((taken_more edge_groups k edge_group m within read).1 member) [
        | inl before ↦ inl (same, (m, (before, to, has)))
        | inr here ↦
            (let e : has.0 ≡ group = the_group m has.0 here has.1.0 in
            let target : l.to ≡ edge_group.to = sym to ∙ ap (λ (x : EdgeGroup). x.to) here in
            let all : l ≡ record { item = item; to = edge_group.to } = ap₂ (λ (x : Item) (q : ℕ). let y : Transition = record { item = x; to = q } in y) same target in
            inr (subst (λ (x : Group). Contains x.classes.items c) e has.1.1, all ∙ sym is))
      ],
    )

-- the same under another name
pub gained_like : {E F : ℕ → Transition → Type 0} → (old new : List Transitions) → Gained old new E → ((c : ℕ) (l : Transition) → E c l ↔ F c l) → Gained old new F
gained_like old new g same = (
  g.0,
  λ c t t2 was will l. (
    λ h. elim ((g.1 c t t2 was will l).0 h) [ inl x ↦ inl x | inr x ↦ inr ((same c l).0 x) ],
    λ h. (g.1 c t t2 was will l).1 (elim h [ inl x ↦ inl x | inr x ↦ inr ((same c l).1 x) ]),
  ),
)

-- an edge group that is read from the edge groups of a state is an edge group of it
pub edge_there : (nfas : List NfaEdgeGroups) (i p : ℕ) (ls : List EdgeGroup) (k : ℕ) (l : EdgeGroup) → AreEdgeGroupsOf nfas i p ls → k < length ls → l ≡ get_or ls k l → IsEdgeGroupOf nfas i p l
edge_there nfas i p ls k l are within is = (ls, (are, (k, within, sym is)))

-- once all edge groups are visited
pub edges_of_state : (a : Classes) (x : Item) (edge_groups : List EdgeGroup) → AreEdgeGroupsOf a.nfas x.0 x.1 edge_groups → (c : ℕ) (l : Transition) → ((l.item ≡ x) × EdgeTo a.groups edge_groups c l.to) ↔ ((l.item ≡ x) × LeadsBy a x.0 x.1 c l.to)
edges_of_state a x edge_groups are c l = (
  λ (same, (m, (member, to, has))). (same, (m, ((edge_groups_are a.nfas x.0 x.1 edge_groups m are).1 member, to, has))),
  λ (same, (m, (member, to, has))). (same, (m, ((edge_groups_are a.nfas x.0 x.1 edge_groups m are).0 member, to, has))),
)

pub boundaries_of_state : (a : Classes) (i p : ℕ) (edge_groups : List EdgeGroup) (old new : List ℕ) → AreEdgeGroupsOf a.nfas i p edge_groups → ((k : ℕ) → Contains new k ↔ (Contains old k ⊎ EdgeBoundary a.groups edge_groups k)) → (k : ℕ) → Contains new k ↔ (Contains old k ⊎ HasBoundaryAt a i p k)
boundaries_of_state a i p edge_groups old new are had k = (
  λ h. elim ((had k).0 h) [ inl x ↦ inl x | inr (m, (member, boundary)) ↦ inr (m, ((edge_groups_are a.nfas i p edge_groups m are).1 member, boundary)) ],
  λ h. (had k).1 (elim h [ inl x ↦ inl x | inr (m, (member, boundary)) ↦ inr (m, ((edge_groups_are a.nfas i p edge_groups m are).0 member, boundary)) ]),
)

-- ---- item by item
-- one more class without edges
pub no_edges_more : (by_class new : List Transitions) (t : Transitions) → HaveNoEdges by_class → t.list.items ≡ [] → new ≡ by_class ++ t ∷ [] → HaveNoEdges new
no_edges_more by_class new t no_edges empty is c u at = elim (pushed_cases by_class t c u (rw is at at)) [
  | inl before ↦ no_edges c u before
  | inr here ↦ rw here.1 empty
]

module _ (a : Classes) (items : List Item) (k : ℕ) (item : Item) (within : k < length items) (read : item ≡ get_or items k item) where
  -- the edges of one more item
  pub item_more : (c : ℕ) (l : Transition)
      → ((Contains (take k items) l.item × LeadsBy a l.item.0 l.item.1 c l.to) ⊎ ((l.item ≡ item) × LeadsBy a item.0 item.1 c l.to)) ↔ (Contains (take (k + 1) items) l.item × LeadsBy a l.item.0 l.item.1 c l.to)
  item_more c l = (
    λ h. elim h [
      | inl (member, leads) ↦ ((taken_more items k item l.item within read).0 (inl member), leads)
      | inr (same, leads) ↦ ((taken_more items k item l.item within read).0 (inr same), subst (λ (x : Item). LeadsBy a x.0 x.1 c l.to) (sym same) leads)
    ],
    λ (member, leads). elim ((taken_more items k item l.item within read).1 member) [
      | inl before ↦ inl (before, leads)
      | inr same ↦ inr (same, subst (λ (x : Item). LeadsBy a x.0 x.1 c l.to) same leads)
    ],
  )

  -- its boundaries
  pub item_boundaries : (old new : List ℕ) → AreBoundariesOf a (take k items) old → ((j : ℕ) → Contains new j ↔ (Contains old j ⊎ HasBoundaryAt a item.0 item.1 j)) → AreBoundariesOf a (take (k + 1) items) new
  item_boundaries old new had more j = (
    λ h. elim ((more j).0 h) [
      | inl x ↦ (let (y, (member, boundary)) = (had j).0 x in (y, ((taken_more items k item y within read).0 (inl member), boundary)))
      | inr boundary ↦ (item, ((taken_more items k item item within read).0 (inr refl), boundary))
    ],
    λ (y, (member, boundary)). (more j).1 (elim ((taken_more items k item y within read).1 member) [
      | inl before ↦ inl ((had j).1 (y, (before, boundary)))
      | inr same ↦ inr (subst (λ (x : Item). HasBoundaryAt a x.0 x.1 j) same boundary)
    ]),
  )

-- once all are visited
pub all_gathered : (a : Classes) (items : List Item) (old new : List Transitions) → length old ≡ a.count → HaveNoEdges old → Gained old new (λ c l. Contains items l.item × LeadsBy a l.item.0 l.item.1 c l.to) → AreGathered a items new
all_gathered a items old new count none got = (
  got.0 ∙ count,
  λ c t at l.
      let here : c < length old = omega (arith, slice_get_within new c t at, got.0) in
      let was : Transitions = get_or old c t in
      let there : slice_get old c ≡ Some was = slice_get-get_or old c t here in
      let has = got.1 c was t there at l in (
        λ h. elim (has.0 h) [ inl x ↦ absurd (contains_none l (rw (none c was there) at x)) | inr x ↦ x ],
        λ h. has.1 (inr h),
      ),
)
