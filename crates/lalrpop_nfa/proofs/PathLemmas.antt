-- Paths one after another, and a path before and after its last value.
use Rattle.std.proofs.Common.{◌≡◌, ℕ, ◌<◌, inl, inr, List, [], ◌∷◌, ◌++◌, length, refl, sym, subst, arith}
use Rattle.std.specs.List.{Contains}
use Rattle.lalrpop_hir.specs.Range.{Range, Covers}
use Rattle.lalrpop_hir.specs.Tree.{Tree}
use Rattle.lalrpop_nfa.specs.Graph.{Graph, Lists}
use Rattle.lalrpop_nfa.specs.Path.{Path, here, epsilon, read, otherwise, noop, test, other, IsUntested}
use Rattle.lalrpop_nfa.specs.Internal.Reads.{Reads}
use Rattle.lalrpop_hir.specs.States.{reject_state}
use Rattle.lalrpop_nfa.specs.Compiled.{IsCompiled}

-- one path after another
pub path_join : (e : Lists) (q r : ℕ) (v : List ℕ) → Path e q r v → (p : ℕ) (u : List ℕ) → Path e r p u → Path e q p (u ++ v)
path_join e q r v t p u (here a same) = subst (λ (k : ℕ). Path e q k v) (sym same) t
path_join e q r v t p u (epsilon a b w h s) = epsilon a b (w ++ v) h (path_join e q r v t b w s)
path_join e q r v t p u (read a b w x c h k s) = read a b (w ++ v) x c h k (path_join e q r v t b w s)
path_join e q r v t p u (otherwise a b w c h k s) = otherwise a b (w ++ v) c h k (path_join e q r v t b w s)

-- a path that reads w, an edge that reads c, and a path that reads nothing
abbrev pub ReadsLast : Lists → ℕ → ℕ → ℕ → List ℕ → Type 0
ReadsLast e q c p w = (a b : ℕ) × (Path e a p w × Reads e a c b × Path e q b [])

module _ (e : Lists) (q c : ℕ) where
  not_empty : (w : List ℕ) → [] ≡ w ++ c ∷ [] → ⊥
  not_empty [] h = cc
  not_empty (x ∷ w) h = cc

  after_read : (p b : ℕ) (v : List ℕ) (r : Range) (d : ℕ) → Contains e.tests (test p r b) → Covers r d → Path e q b v
      → ((w : List ℕ) → v ≡ w ++ c ∷ [] → ReadsLast e q c b w) → (w : List ℕ) → d ∷ v ≡ w ++ c ∷ [] → ReadsLast e q c p w
  after_read p b v r d h k t more [] same =
      let first : d ≡ c = cc in
      let rest : v ≡ [] = cc in
      (p, b, (here p refl, inl (r, (h, rw (← first) k)), subst (λ (z : List ℕ). Path e q b z) rest t))
  after_read p b v r d h k t more (x ∷ w) same =
      let first : d ≡ x = cc in
      let rest : v ≡ w ++ c ∷ [] = cc in
      let m = more w rest in
      (m.0, m.1, (subst (λ (z : ℕ). Path e m.0 p (z ∷ w)) first (read p b w r d h k m.2.0), m.2.1, m.2.2))

  after_fall : (p b : ℕ) (v : List ℕ) (d : ℕ) → Contains e.others (other p b) → IsUntested e p d → Path e q b v
      → ((w : List ℕ) → v ≡ w ++ c ∷ [] → ReadsLast e q c b w) → (w : List ℕ) → d ∷ v ≡ w ++ c ∷ [] → ReadsLast e q c p w
  after_fall p b v d h k t more [] same =
      let first : d ≡ c = cc in
      let rest : v ≡ [] = cc in
      (p, b, (here p refl, inr (h, subst (λ (z : ℕ). IsUntested e p z) first k), subst (λ (z : List ℕ). Path e q b z) rest t))
  after_fall p b v d h k t more (x ∷ w) same =
      let first : d ≡ x = cc in
      let rest : v ≡ w ++ c ∷ [] = cc in
      let m = more w rest in
      (m.0, m.1, (subst (λ (z : ℕ). Path e m.0 p (z ∷ w)) first (otherwise p b w d h k m.2.0), m.2.1, m.2.2))

  split_from : (p : ℕ) (v : List ℕ) → Path e q p v → (w : List ℕ) → v ≡ w ++ c ∷ [] → ReadsLast e q c p w
  split_from p v (here a same) w is = absurd (not_empty w is)
  split_from p v (epsilon a b u h t) w is =
      let m = split_from b u t w is in
      (m.0, m.1, (epsilon a b w h m.2.0, m.2.1, m.2.2))
  split_from p v (read a b u r d h k t) w is = after_read a b u r d h k t (λ z same. split_from b u t z same) w is
  split_from p v (otherwise a b u d h k t) w is = after_fall a b u d h k t (λ z same. split_from b u t z same) w is

  -- before and after the last value
  pub path_split : (p : ℕ) (w : List ℕ) → Path e q p (w ++ c ∷ []) → ReadsLast e q c p w
  path_split p w t = split_from p (w ++ c ∷ []) t w refl

  -- a single edge
  pub path_edge : (p b : ℕ) → Reads e p c b → Path e q b [] → Path e q p (c ∷ [])
  path_edge p b (inl h) t = read p b [] h.0 c h.1.0 h.1.1 t
  path_edge p b (inr h) t = otherwise p b [] c h.0 h.1 t

-- paths stay among the states of a compiled automaton
pub path_inside : (t : Tree) (g : Graph) → IsCompiled t g → (q p : ℕ) (w : List ℕ) → p < length g.kinds → Path g.edges q p w → q < length g.kinds
path_inside t g h q p w l (here a same) = rw (← same) l
path_inside t g h q p w l (epsilon a b u k s) = path_inside t g h q b u (h.noops_in (noop a b) k).1 s
path_inside t g h q p w l (read a b u r c k n s) = path_inside t g h q b u (h.tests_in (test a r b) k).1 s
path_inside t g h q p w l (otherwise a b u c k n s) =
    path_inside t g h q b u (let e : b ≡ reject_state = (h.others_in (other a b) k).1 in omega (arith, h.start_in)) s
