-- How many states the fragment of a tree has, and which states its edges join.
use Rattle.std.proofs.Common.{◌≡◌, ℕ, zero, suc, ◌<◌, ◌≤◌, ◌+◌, ◌-◌, List, [], ◌∷◌, ◌++◌, ap, sym, subst, arith, inl, inr}
use Rattle.std.specs.Prelude.{Option, Some, None}
use Rattle.std.specs.List.{Contains}
use Rattle.std.proofs.lemmas.List.Elements.{Contains-append_cases}
use Rattle.lalrpop_hir.specs.Range.{Range}
use Rattle.lalrpop_hir.specs.Tree.{Class, unicode, bytes, Tree, empty, literal, class, look, repetition, capture, concat, alternation, Trees, none, also}
use Rattle.lalrpop_nfa.specs.declared.edge.Edge.{Edge}
use Rattle.lalrpop_nfa.specs.declared.edge.Noop.{Noop}
use Rattle.lalrpop_nfa.specs.declared.edge.Other.{Other}
use Rattle.lalrpop_nfa.specs.Graph.{Lists}
use Rattle.lalrpop_nfa.specs.Path.{noop, test, other}
use Rattle.lalrpop_hir.specs.States.{reject_state}
use Rattle.lalrpop_nfa.specs.Internal.Fragment.{Construction, no_edges, noops_to, joined, nothing, before, one_of, literal_expr, copies, optional_expr, optional_copies, star_expr, plus_expr, repeat_expr, Branches, alternation_expr, class_construction, fragment_of, concat_expr, branches}
use Rattle.lalrpop_hir.proofs.Contained.{contains_none, contains_cases, contains_only, contains_from_map}

-- the edges leave states from a up to b, and lead to states with P
abbrev pub Joins : {L : Type 0} → (ℕ → Type 0) → ℕ → ℕ → List (Edge L) → Type 0
Joins {L} P a b es = (x : Edge L) → Contains es x → (a ≤ x.from) × (x.from < b) × P x.to

-- the same for three lists, where other edges lead to REJECT
pub record Fits (P : ℕ → Type 0) (a b : ℕ) (e : Lists) : Type 0 where
  pub noops : Joins P a b e.noops
  pub tests : Joins P a b e.tests
  pub others : Joins (λ q. q ≡ reject_state) a b e.others

-- the z states from n on have P
abbrev pub HoldsFrom : (ℕ → Type 0) → ℕ → ℕ → Type 0
HoldsFrom P n z = (q : ℕ) → n ≤ q → q < n + z → P q

-- if the target and the new states have P, so do the entry and the states to which edges lead
pub record Leads (P : ℕ → Type 0) (x : Construction) : Type 0 where
  pub entry : (target n : ℕ) → P target → HoldsFrom P n (x target n).size → P (x target n).entry
  pub edges : (target n : ℕ) → P target → HoldsFrom P n (x target n).size → Fits P n (n + (x target n).size) (x target n).edges

-- the same for branches
pub record LeadsEach (P : ℕ → Type 0) (bs : ℕ → ℕ → Branches) : Type 0 where
  pub entries : (target n : ℕ) → P target → HoldsFrom P n (bs target n).size → (q : ℕ) → Contains (bs target n).entries q → P q
  pub edges : (target n : ℕ) → P target → HoldsFrom P n (bs target n).size → Fits P n (n + (bs target n).size) (bs target n).edges

pub Joins-both : {L : Type 0} (P : ℕ → Type 0) (a b c d p q : ℕ) (xs ys : List (Edge L)) → p ≤ a → b ≤ q → p ≤ c → d ≤ q → Joins P a b xs → Joins P c d ys → Joins P p q (xs ++ ys)
Joins-both P a b c d p q xs ys i j k l f g x h = elim (Contains-append_cases xs ys x h) [
  | inl m ↦ (let r = f x m in (omega (arith, r.0), omega (arith, r.1), r.2))
  | inr m ↦ (let r = g x m in (omega (arith, r.0), omega (arith, r.1), r.2))
]

pub Joins-none : {L : Type 0} (P : ℕ → Type 0) (a b : ℕ) → Joins {L = L} P a b []
Joins-none P a b x h = absurd (contains_none x h)

module _ (P : ℕ → Type 0) where
  pub Fits-none : (a b : ℕ) → Fits P a b no_edges
  Fits-none a b = record { noops = Joins-none P a b; tests = Joins-none P a b; others = Joins-none (λ q. q ≡ reject_state) a b }

  pub Fits-joined : (a b c d p q : ℕ) (e f : Lists) → p ≤ a → b ≤ q → p ≤ c → d ≤ q → Fits P a b e → Fits P c d f → Fits P p q (joined e f)
  Fits-joined a b c d p q e f i j k l x y = record {
    noops = Joins-both P a b c d p q e.noops f.noops i j k l x.noops y.noops;
    tests = Joins-both P a b c d p q e.tests f.tests i j k l x.tests y.tests;
    others = Joins-both (λ q. q ≡ reject_state) a b c d p q e.others f.others i j k l x.others y.others;
  }

  pub Fits-noops_to : (a b s : ℕ) (qs : List ℕ) → a ≤ s → s < b → ((q : ℕ) → Contains qs q → P q) → Fits P a b (noops_to s qs)
  Fits-noops_to a b s qs l h f = record {
    noops = λ x m.
        let r = contains_from_map (noop s) qs x m in
        let at = ap (λ (z : Edge Noop). z.from) r.1.1 in
        (omega (arith, at), omega (arith, at), subst P (ap (λ (z : Edge Noop). z.to) r.1.1) (f r.0 r.1.0));
    tests = Joins-none P a b;
    others = Joins-none (λ q. q ≡ reject_state) a b;
  }

  two : (p q : ℕ) → P p → P q → (r : ℕ) → Contains (p ∷ q ∷ []) r → P r
  two p q h k r m = elim (contains_cases p (q ∷ []) r m) [ inl e ↦ subst P e h | inr j ↦ subst P (contains_only q r j) k ]

  pub Leads-nothing : Leads P nothing
  Leads-nothing = record { entry = λ target n t b. t; edges = λ target n t b. Fits-none n (n + 0) }

  pub Leads-before : (x y : Construction) → Leads P x → Leads P y → Leads P (before x y)
  Leads-before x y f g = record { entry = entry; edges = edges }
    where
      mid : (target n : ℕ) → P target → HoldsFrom P n (before x y target n).size → P (y target n).entry
      mid target n t b = g.entry target n t (λ q l h. b q l (omega arith))

      later : (target n : ℕ) → HoldsFrom P n (before x y target n).size → HoldsFrom P (n + (y target n).size) (x (y target n).entry (n + (y target n).size)).size
      later target n b q l h = b q (omega arith) (omega arith)

      entry : (target n : ℕ) → P target → HoldsFrom P n (before x y target n).size → P (before x y target n).entry
      entry target n t b = f.entry (y target n).entry (n + (y target n).size) (mid target n t b) (later target n b)

      edges : (target n : ℕ) → P target → HoldsFrom P n (before x y target n).size → Fits P n (n + (before x y target n).size) (before x y target n).edges
      edges target n t b =
          let s = y target n in
          let r = x s.entry (n + s.size) in
          Fits-joined n (n + s.size) (n + s.size) (n + s.size + r.size) n (n + (s.size + r.size)) s.edges r.edges (omega arith) (omega arith) (omega arith) (omega arith)
          (g.edges target n t (λ q l h. b q l (omega arith)))
          (f.edges s.entry (n + s.size) (mid target n t b) (later target n b))

  pub Leads-one_of : (rs : List Range) → Leads P (one_of rs)
  Leads-one_of rs = record {
    entry = λ target n t b. b n (omega arith) (omega arith);
    edges = λ target n t b. record {
      noops = Joins-none P n (n + 1);
      tests = λ x m.
          let r = contains_from_map (λ r. test n r target) rs x m in
          let at = ap (λ (z : Edge Range). z.from) r.1.1 in
          (omega (arith, at), omega (arith, at), subst P (ap (λ (z : Edge Range). z.to) r.1.1) t);
      others = λ x m.
          let e = contains_only (other n reject_state) x m in
          let at = ap (λ (z : Edge Other). z.from) e in
          (omega (arith, at), omega (arith, at), sym (ap (λ (z : Edge Other). z.to) e));
    };
  }

  pub Leads-literal_expr : (cs : List ℕ) → Leads P (literal_expr cs)
  Leads-literal_expr [] = Leads-nothing
  Leads-literal_expr (c ∷ cs) = Leads-before (one_of (record { start = c; end = c } ∷ [])) (literal_expr cs) (Leads-one_of (record { start = c; end = c } ∷ [])) (Leads-literal_expr cs)

  module _ (x : Construction) (f : Leads P x) where
    pub Leads-copies : (k : ℕ) → Leads P (copies x k)
    Leads-copies zero = Leads-nothing
    Leads-copies (suc k) = Leads-before x (copies x k) f (Leads-copies k)

    pub Leads-optional_expr : Leads P (optional_expr x)
    Leads-optional_expr = record {
      entry = λ target n t b. b (n + (x target n).size) (omega arith) (omega arith);
      edges = λ target n t b.
          let a = x target n in
          let inner : HoldsFrom P n a.size = λ q l h. b q l (omega arith) in
          Fits-joined n (n + a.size) n (n + (a.size + 1)) n (n + (a.size + 1)) a.edges (noops_to (n + a.size) (target ∷ a.entry ∷ [])) (omega arith) (omega arith) (omega arith) (omega arith)
          (f.edges target n t inner)
          (Fits-noops_to n (n + (a.size + 1)) (n + a.size) (target ∷ a.entry ∷ []) (omega arith) (omega arith) (two target a.entry t (f.entry target n t inner)));
    }

    pub Leads-optional_copies : (k : ℕ) → Leads P (optional_copies x k)
    Leads-optional_copies zero = Leads-nothing
    Leads-optional_copies (suc k) = Leads-before (optional_expr x) (optional_copies x k) Leads-optional_expr (Leads-optional_copies k)

    looped : (target n : ℕ) → P target → HoldsFrom P n ((x n (n + 1)).size + 1) → P (x n (n + 1)).entry × Fits P n (n + ((x n (n + 1)).size + 1)) (star_expr x target n).edges
    looped target n t b =
        let a = x n (n + 1) in
        let here : P n = b n (omega arith) (omega arith) in
        let inner : HoldsFrom P (n + 1) a.size = λ q l h. b q (omega arith) (omega arith) in
        let first = f.entry n (n + 1) here inner in (
          first,
          Fits-joined (n + 1) (n + 1 + a.size) n (n + (a.size + 1)) n (n + (a.size + 1)) a.edges (noops_to n (target ∷ a.entry ∷ [])) (omega arith) (omega arith) (omega arith) (omega arith)
              (f.edges n (n + 1) here inner)
              (Fits-noops_to n (n + (a.size + 1)) n (target ∷ a.entry ∷ []) (omega arith) (omega arith) (two target a.entry t first)),
        )

    pub Leads-star_expr : Leads P (star_expr x)
    Leads-star_expr = record {
      entry = λ target n t b. b n (omega arith) (omega arith);
      edges = λ target n t b. (looped target n t b).1;
    }

    pub Leads-plus_expr : Leads P (plus_expr x)
    Leads-plus_expr = record {
      entry = λ target n t b. (looped target n t b).0;
      edges = λ target n t b. (looped target n t b).1;
    }

    pub Leads-repeat_expr : (min : ℕ) (max : Option ℕ) → Leads P (repeat_expr x min max)
    Leads-repeat_expr min (Some max) = Leads-before (copies x min) (optional_copies x (max - min)) (Leads-copies min) (Leads-optional_copies (max - min))
    Leads-repeat_expr zero None = Leads-star_expr
    Leads-repeat_expr (suc zero) None = Leads-plus_expr
    Leads-repeat_expr (suc (suc k)) None = Leads-before (copies x (suc (suc k))) (star_expr x) (Leads-copies (suc (suc k))) Leads-star_expr

  pub Leads-alternation_expr : (bs : ℕ → ℕ → Branches) → LeadsEach P bs → Leads P (alternation_expr bs)
  Leads-alternation_expr bs f = record {
    entry = λ target n t b. b n (omega arith) (omega arith);
    edges = λ target n t b.
        let s = bs target (n + 1) in
        let inner : HoldsFrom P (n + 1) s.size = λ q l h. b q (omega arith) (omega arith) in
        Fits-joined (n + 1) (n + 1 + s.size) n (n + (s.size + 1)) n (n + (s.size + 1)) s.edges (noops_to n s.entries) (omega arith) (omega arith) (omega arith) (omega arith)
        (f.edges target (n + 1) t inner)
        (Fits-noops_to n (n + (s.size + 1)) n s.entries (omega arith) (omega arith) (f.entries target (n + 1) t inner));
  }

  pub Leads-class_construction : (a : Class) → Leads P (class_construction a)
  Leads-class_construction (unicode rs) = Leads-one_of rs
  Leads-class_construction (bytes rs) = Leads-one_of rs

  LeadsEach-none : LeadsEach P (branches none)
  LeadsEach-none = record { entries = λ target n t b q m. absurd (contains_none q m); edges = λ target n t b. Fits-none n (n + 0) }

  LeadsEach-also : (t : Tree) (ts : Trees) → Leads P (fragment_of t) → LeadsEach P (branches ts) → LeadsEach P (branches (also t ts))
  LeadsEach-also t ts f g = record {
    entries = λ target n h b q m.
        let a = fragment_of t target n in
        let r = branches ts target (n + a.size) in
        elim (contains_cases a.entry r.entries q m) [
          | inl e ↦ subst P e (f.entry target n h (λ q l k. b q l (omega arith)))
          | inr j ↦ g.entries target (n + a.size) h (λ q l k. b q (omega arith) (omega arith)) q j
        ];
    edges = λ target n h b.
        let a = fragment_of t target n in
        let r = branches ts target (n + a.size) in
        Fits-joined n (n + a.size) (n + a.size) (n + a.size + r.size) n (n + (a.size + r.size)) a.edges r.edges (omega arith) (omega arith) (omega arith) (omega arith)
        (f.edges target n h (λ q l k. b q l (omega arith)))
        (g.edges target (n + a.size) h (λ q l k. b q (omega arith) (omega arith)));
  }

  mutual
    pub fragment_leads : (t : Tree) → Leads P (fragment_of t)
    fragment_leads empty = Leads-nothing
    fragment_leads (literal cs) = Leads-literal_expr cs
    fragment_leads (class a) = Leads-class_construction a
    fragment_leads (look l) = Leads-nothing
    fragment_leads (repetition min max greedy t) = Leads-repeat_expr (fragment_of t) (fragment_leads t) min max
    fragment_leads (capture name t) = fragment_leads t
    fragment_leads (concat ts) = concat_leads ts
    fragment_leads (alternation ts) = Leads-alternation_expr (branches ts) (branches_lead ts)

    pub concat_leads : (ts : Trees) → Leads P (concat_expr ts)
    concat_leads none = Leads-nothing
    concat_leads (also t ts) = Leads-before (fragment_of t) (concat_expr ts) (fragment_leads t) (concat_leads ts)

    pub branches_lead : (ts : Trees) → LeadsEach P (branches ts)
    branches_lead none = LeadsEach-none
    branches_lead (also t ts) = LeadsEach-also t ts (fragment_leads t) (branches_lead ts)

-- every state
abbrev pub Anywhere : ℕ → Type 0
Anywhere q = Unit {0}

-- the edges leave states from a up to b
abbrev pub Within : ℕ → ℕ → Lists → Type 0
Within = Fits Anywhere

-- the edges of a construction leave its own states
pub construction_within : (x : Construction) → Leads Anywhere x → (target n : ℕ) → Within n (n + (x target n).size) (x target n).edges
construction_within x f target n = f.edges target n tt (λ q l h. tt)

pub fragment_within : (t : Tree) (target n : ℕ) → Within n (n + (fragment_of t target n).size) (fragment_of t target n).edges
fragment_within t = construction_within (fragment_of t) (fragment_leads Anywhere t)

pub branches_within : (ts : Trees) (target n : ℕ) → Within n (n + (branches ts target n).size) (branches ts target n).edges
branches_within ts target n = (branches_lead Anywhere ts).edges target n tt (λ q l h. tt)
