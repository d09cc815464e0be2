-- Cases of specs/Path.antt: the automaton of the literal `a`. Its states are ACCEPT, REJECT, START, and 3, before the letter.
use Rattle.std.proofs.Common.{◌≡◌, ℕ, zero, suc, ◌<◌, List, [], ◌∷◌, refl, sym, ap, subst, ◌∙◌, arith}
use Rattle.std.specs.List.{Contains}
use Rattle.lalrpop_hir.specs.Range.{Range, Covers}
use Rattle.lalrpop_nfa.specs.Graph.{Lists}
use Rattle.lalrpop_nfa.specs.Path.{noop, test, other, IsUntested, Path, here, epsilon, read, otherwise}
use Rattle.lalrpop_nfa.specs.declared.edge.Edge.{Edge}
use Rattle.lalrpop_nfa.specs.declared.edge.Noop.{Noop}
use Rattle.lalrpop_nfa.specs.declared.edge.Other.{Other}

abbrev pub just_a : Range
just_a = record { start = 97; end = 97 }

abbrev pub edges_of_a : Lists
edges_of_a = record { noops = noop 2 3 ∷ []; tests = test 3 just_a 0 ∷ []; others = other 0 1 ∷ other 1 1 ∷ other 3 1 ∷ [] }

-- ---- its edges

pub noop_is : (p q : ℕ) → Contains edges_of_a.noops (noop p q) → (p ≡ 2) × (q ≡ 3)
noop_is p q (zero, l, e) = (sym (ap (λ (x : Edge Noop). x.from) e), sym (ap (λ (x : Edge Noop). x.to) e))
noop_is p q (suc k, l, e) = absurd (omega arith)

pub test_is : (p q : ℕ) (r : Range) → Contains edges_of_a.tests (test p r q) → (p ≡ 3) × (q ≡ 0) × (r ≡ just_a)
test_is p q r (zero, l, e) = (sym (ap (λ (x : Edge Range). x.from) e), sym (ap (λ (x : Edge Range). x.to) e), sym (ap (λ (x : Edge Range). x.label) e))
test_is p q r (suc k, l, e) = absurd (omega arith)

pub other_is : (p q : ℕ) → Contains edges_of_a.others (other p q) → (p < 4) × (q ≡ 1)
other_is p q (zero, l, e) = (let f : 0 ≡ p = ap (λ (x : Edge Other). x.from) e in omega (arith, f), sym (ap (λ (x : Edge Other). x.to) e))
other_is p q (suc zero, l, e) = (let f : 1 ≡ p = ap (λ (x : Edge Other). x.from) e in omega (arith, f), sym (ap (λ (x : Edge Other). x.to) e))
other_is p q (suc (suc zero), l, e) = (let f : 3 ≡ p = ap (λ (x : Edge Other). x.from) e in omega (arith, f), sym (ap (λ (x : Edge Other). x.to) e))
other_is p q (suc (suc (suc k)), l, e) = absurd (omega arith)

-- ---- steps

pub covers_a : Covers just_a 97
covers_a = (omega arith, omega arith)

-- no test of 3 covers `b`, and one covers `a`
pub value_that_is_untested : IsUntested edges_of_a 3 98
value_that_is_untested r q h k = let c = subst (λ s. Covers s 98) (test_is 3 q r h).2 k in omega (arith, c.1)

pub tested_value_is_not_untested : ¬ IsUntested edges_of_a 3 97
tested_value_is_not_untested u = u just_a 0 (0, omega arith, refl) covers_a

-- ---- paths

-- from START to ACCEPT, by an edge that reads nothing and one that reads `a`
pub path_of_a : Path edges_of_a 0 2 (97 ∷ [])
path_of_a = epsilon 2 3 (97 ∷ []) (0, omega arith, refl) (read 3 0 [] just_a 97 (0, omega arith, refl) covers_a (here 0 refl))

-- `b` leads to REJECT
path_to_reject : Path edges_of_a 1 2 (98 ∷ [])
path_to_reject = epsilon 2 3 (98 ∷ []) (0, omega arith, refl) (otherwise 3 1 [] 98 (2, omega arith, refl) value_that_is_untested (here 1 refl))

-- what is read from each state to ACCEPT
record Reading (p : ℕ) (w : List ℕ) : Type 0 where
  accept : p ≡ 0 → w ≡ []
  reject : p ≡ 1 → ⊥
  start : p ≡ 2 → w ≡ 97 ∷ []
  character_expr : p ≡ 3 → w ≡ 97 ∷ []

reading : (p : ℕ) (w : List ℕ) → Path edges_of_a 0 p w → Reading p w
reading _ _ (here p e) = record {
  accept = λ _. refl;
  reject = λ h. omega (arith, h, e);
  start = λ h. absurd (omega (arith, h, e));
  character_expr = λ h. absurd (omega (arith, h, e));
}
reading _ _ (epsilon p q w m path) =
    let is = noop_is p q m in
    let rest = reading q w path in
    record {
      accept = λ h. absurd (omega (arith, h, is.0));
      reject = λ h. omega (arith, h, is.0);
      start = λ _. rest.character_expr is.1;
      character_expr = λ h. absurd (omega (arith, h, is.0));
    }
reading _ _ (read p q v r c m k path) =
    let is = test_is p q r m in
    let rest = reading q v path in
    let value : Covers just_a c = subst (λ s. Covers s c) is.2 k in
    let same : c ≡ 97 = omega (arith, value.0, value.1) in
    let none : v ≡ [] = rest.accept is.1 in
    record {
      accept = λ h. absurd (omega (arith, h, is.0));
      reject = λ h. omega (arith, h, is.0);
      start = λ h. absurd (omega (arith, h, is.0));
      character_expr = λ _. ap (λ x. x ∷ v) same ∙ ap (λ x. 97 ∷ x) none;
    }
reading _ _ (otherwise p q v c m u path) =
    let rest = reading q v path in
    let stuck : ⊥ = rest.reject (other_is p q m).1 in
    absurd stuck

-- no other word leads from START to ACCEPT
pub path_reads_a_alone : (w : List ℕ) → Path edges_of_a 0 2 w → w ≡ 97 ∷ []
path_reads_a_alone w path = (reading 2 w path).start refl

-- and none from REJECT
no_path_from_reject : (w : List ℕ) → ¬ Path edges_of_a 0 1 w
no_path_from_reject w path = (reading 1 w path).reject refl
