-- Where edges that read nothing lead: the computed closure, and paths.
use Rattle.std.proofs.Common.{◌≡◌, ℕ, zero, suc, ◌<◌, ◌⊎◌, inl, inr, List, [], length, refl, ap₂, arith, true, ◌&&◌, ◌==◌, eqb-true, eq-eqb}
use Rattle.std.specs.List.{Contains}
use Rattle.std.proofs.lemmas.Bool.{or_cases, or_left, or_right, and_parts, and_from, cases_lt}
use Rattle.lalrpop_nfa.specs.declared.edge.Edge.{Edge}
use Rattle.lalrpop_nfa.specs.declared.edge.Noop.{Noop}
use Rattle.lalrpop_nfa.specs.Graph.{Graph}
use Rattle.lalrpop_nfa.specs.Path.{Path, here, epsilon, read, otherwise, noop}
use Rattle.lalrpop_build.specs.Internal.Subsets.{has_noop, joins, is_epsilon_path}
use Rattle.lalrpop_hir.proofs.Members.{has_from, contains_from, any_from_has, has_from_any}
use Rattle.lalrpop_nfa.proofs.PathLemmas.{path_join}

module _ (g : Graph) where
  noop_has : (p q : ℕ) → Contains g.edges.noops (noop p q) → has_noop g p q ≡ true
  noop_has p q h =
      any_from_has (λ (e : Edge Noop). (e.from == p) && (e.to == q)) g.edges.noops (noop p q) (has_from g.edges.noops (noop p q) h)
      (and_from (p == p) (q == q) (eq-eqb p p refl) (eq-eqb q q refl))

  noop_from : (p q : ℕ) → has_noop g p q ≡ true → Contains g.edges.noops (noop p q)
  noop_from p q h =
      let r = has_from_any (λ (e : Edge Noop). (e.from == p) && (e.to == q)) g.edges.noops h in
      let e : Edge Noop = r.0 in
      let both : (e.from ≡ p) × (e.to ≡ q) =
      (eqb-true e.from p (and_parts (e.from == p) (e.to == q) r.1.1).0, eqb-true e.to q (and_parts (e.from == p) (e.to == q) r.1.1).1) in
      let same : e ≡ noop p q = ap₂ (λ (a b : ℕ). noop a b) both.0 both.1 in
      contains_from g.edges.noops (noop p q) (rw same at r.1.0)

  joins_more : (k p q : ℕ) → joins g k p q ≡ true → joins g (suc k) p q ≡ true
  unfolding joins
  joins_more k p q h = or_left (joins g k p q) (joins g k p k && joins g k k q) h

  joins_self : (k p : ℕ) → joins g k p p ≡ true
  unfolding joins
  joins_self zero p = or_left (p == p) (has_noop g p p) (eq-eqb p p refl)
  joins_self (suc k) p = or_left (joins g k p p) (joins g k p k && joins g k k p) (joins_self k p)

  joins_noop : (k p q : ℕ) → has_noop g p q ≡ true → joins g k p q ≡ true
  unfolding joins
  joins_noop zero p q h = or_right (p == q) (has_noop g p q) h
  joins_noop (suc k) p q h = or_left (joins g k p q) (joins g k p k && joins g k k q) (joins_noop k p q h)

  abbrev JoinsCases : ℕ → ℕ → ℕ → Type 0
  JoinsCases k p q = (joins g k p q ≡ true) ⊎ ((joins g k p k ≡ true) × (joins g k k q ≡ true))

  joins_cases : (k p q : ℕ) → joins g (suc k) p q ≡ true → JoinsCases k p q
  unfolding joins
  joins_cases k p q h = elim (or_cases (joins g k p q) (joins g k p k && joins g k k q) h) [
    | inl a ↦ inl a
    | inr b ↦ inr (and_parts (joins g k p k) (joins g k k q) b)
  ]

  joins_by : (k p q : ℕ) → joins g k p k ≡ true → joins g k k q ≡ true → joins g (suc k) p q ≡ true
  unfolding joins
  joins_by k p q a b = or_right (joins g k p q) (joins g k p k && joins g k k q) (and_from (joins g k p k) (joins g k k q) a b)

  -- by way of a state below k
  joins_trans : (k p r q : ℕ) → r < k → joins g k p r ≡ true → joins g k r q ≡ true → joins g k p q ≡ true
  joins_trans zero p r q l h t = absurd (omega arith)
  joins_trans (suc k) p r q l h t = elim (cases_lt r k) [
    | inl less ↦ below less (λ a b u v. joins_trans k a r b less u v) (joins_cases k p r h) (joins_cases k r q t)
    | inr least ↦ (let e : r ≡ k = omega arith in at e (joins_cases k p r h) (joins_cases k r q t))
  ]
    where
      below : r < k → ((a b : ℕ) → joins g k a r ≡ true → joins g k r b ≡ true → joins g k a b ≡ true) → JoinsCases k p r → JoinsCases k r q → joins g (suc k) p q ≡ true
      below less ih (inl a) (inl b) = joins_more k p q (ih p q a b)
      below less ih (inl a) (inr b) = joins_by k p q (ih p k a b.0) b.1
      below less ih (inr a) (inl b) = joins_by k p q a.0 (ih k q a.1 b)
      below less ih (inr a) (inr b) = joins_by k p q a.0 b.1

      to : r ≡ k → JoinsCases k p r → joins g k p k ≡ true
      to e (inl a) = rw e at a
      to e (inr a) = a.0

      away : r ≡ k → JoinsCases k r q → joins g k k q ≡ true
      away e (inl b) = rw e at b
      away e (inr b) = b.1

      at : r ≡ k → JoinsCases k p r → JoinsCases k r q → joins g (suc k) p q ≡ true
      at e a b = joins_by k p q (to e a) (away e b)

  edge_path : (p q : ℕ) → (p == q ≡ true) ⊎ (has_noop g p q ≡ true) → Path g.edges q p []
  edge_path p q (inl e) = here p (eqb-true p q e)
  edge_path p q (inr h) = epsilon p q [] (noop_from p q h) (here q refl)

  joins_path : (k p q : ℕ) → joins g k p q ≡ true → Path g.edges q p []
  unfolding joins
  joins_path zero p q h = edge_path p q (or_cases (p == q) (has_noop g p q) h)
  joins_path (suc k) p q h = elim (joins_cases k p q h) [
    | inl a ↦ joins_path k p q a
    | inr b ↦ path_join g.edges q k [] (joins_path k k q b.1) p [] (joins_path k p k b.0)
  ]

  pub epsilon_self : (p : ℕ) → is_epsilon_path g p p ≡ true
  unfolding is_epsilon_path
  epsilon_self p = joins_self (length g.kinds) p

  pub epsilon_edge : (p q : ℕ) → Contains g.edges.noops (noop p q) → is_epsilon_path g p q ≡ true
  unfolding is_epsilon_path
  epsilon_edge p q h = joins_noop (length g.kinds) p q (noop_has p q h)

  pub epsilon_trans : (p r q : ℕ) → r < length g.kinds → is_epsilon_path g p r ≡ true → is_epsilon_path g r q ≡ true → is_epsilon_path g p q ≡ true
  unfolding is_epsilon_path
  epsilon_trans p r q l a b = joins_trans (length g.kinds) p r q l a b

  pub epsilon_path : (p q : ℕ) → is_epsilon_path g p q ≡ true → Path g.edges q p []
  unfolding is_epsilon_path
  epsilon_path p q h = joins_path (length g.kinds) p q h

  path_epsilon_at : ((e : Edge Noop) → Contains g.edges.noops e → e.to < length g.kinds) → (q p : ℕ) (w : List ℕ) → Path g.edges q p w → w ≡ [] → is_epsilon_path g p q ≡ true
  path_epsilon_at inside q p w (here a same) e = rw same (epsilon_self q)
  path_epsilon_at inside q p w (epsilon a b u h t) e = epsilon_trans a b q (inside (noop a b) h) (epsilon_edge a b h) (path_epsilon_at inside q b u t e)
  path_epsilon_at inside q p w (read a b u r c h k t) e = cc
  path_epsilon_at inside q p w (otherwise a b u c h k t) e = cc

  pub path_epsilon : ((e : Edge Noop) → Contains g.edges.noops e → e.to < length g.kinds) → (p q : ℕ) → Path g.edges q p [] → is_epsilon_path g p q ≡ true
  path_epsilon inside p q t = path_epsilon_at inside q p [] t refl
