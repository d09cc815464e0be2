-- The automaton of a tree reads exactly the tree's words.
use Rattle.std.proofs.Common.{◌≡◌, ◌≢◌, ℕ, zero, suc, ◌<◌, ◌≤◌, ◌+◌, List, [], ◌∷◌, ◌++◌, length, refl, ap, sym, ◌∙◌, subst, arith, ◌⊎◌, inl, inr}
use Rattle.std.specs.Prelude.{Some, None, slice_get, replicate}
use Rattle.std.specs.List.{Contains, filter}
use Rattle.std.proofs.lemmas.List.{append-nil, length-replicate}
use Rattle.std.proofs.lemmas.Bool.{ne_eqb}
use Rattle.std.proofs.lemmas.List.Elements.{Contains-append_cases, filter-append}
use Rattle.lalrpop_hir.specs.Range.{Range}
use Rattle.lalrpop_hir.specs.Tree.{Tree}
use Rattle.lalrpop_hir.specs.Size.{size}
use Rattle.lalrpop_hir.specs.Language.{Matches}
use Rattle.lalrpop_nfa.specs.declared.edge.Edge.{Edge}
use Rattle.lalrpop_nfa.specs.declared.edge.Noop.{Noop}
use Rattle.lalrpop_nfa.specs.declared.edge.Other.{Other}
use Rattle.lalrpop_nfa.specs.declared.edge.StateKind.TheVariants.{Accept, Reject, Neither}
use Rattle.lalrpop_nfa.specs.Graph.{Lists}
use Rattle.lalrpop_nfa.specs.Walk.{leaves}
use Rattle.lalrpop_nfa.specs.Path.{noop, test, other, Path, here, epsilon, read, otherwise}
use Rattle.lalrpop_hir.specs.Fault.{fault}
use Rattle.lalrpop_nfa.specs.Internal.Valid.{IsValid}
use Rattle.lalrpop_hir.specs.States.{accept_state, reject_state, start_state}
use Rattle.lalrpop_nfa.specs.Compiled.{IsLabel, ReadsWordsOf, IsCompiled, HasFixedEdges}
use Rattle.lalrpop_nfa.specs.Internal.Fragment.{fragment_of, noops_to, joined, fresh_graph, compiled}
use Rattle.lalrpop_hir.proofs.Contained.{contains_none, contains_cases, contains_only, contains_first, contains_later}
use Rattle.lalrpop_nfa.proofs.Compilable.{IsCompilableWithin, plain}
use Rattle.lalrpop_nfa.proofs.Fragments.{Anywhere, Fits, Within, Fits-joined, Fits-noops_to, fragment_leads, fragment_within}
use Rattle.lalrpop_nfa.proofs.Sizes.{fragment_size}
use Rattle.lalrpop_nfa.proofs.Readings.{Reads, Reads-alternation_expr, FromSome-none, FromSome-also}
use Rattle.lalrpop_nfa.proofs.FragmentReads.{Agrees, Agrees-left, Agrees-right, alternates_at, fragment_reads}
use Rattle.lalrpop_nfa.proofs.FragmentTests.{AreTestsWithin, fragment_tests, places_apart}

-- what the labels of a compiled tree are
abbrev IsCodeLabel : Tree → Range → Type 0
IsCodeLabel t r = IsLabel t r × (r.start ≤ r.end) × (r.end ≤ 1114111)

module _ (t : Tree) where
  -- the edges of the tree's own states, of all states, and of ACCEPT and REJECT
  abbrev own : Lists
  own = (fragment_of t accept_state 3).edges

  abbrev whole : Lists
  whole = (compiled t).edges

  abbrev from_start : Lists
  from_start = noops_to start_state ((fragment_of t accept_state 3).entry ∷ [])

  abbrev end : ℕ
  end = 3 + (fragment_of t accept_state 3).size

  first_within : Within 0 2 fresh_graph.edges
  first_within = record {
    noops = λ x m. absurd (contains_none x m);
    tests = λ x m. absurd (contains_none x m);
    others = λ x m. elim (contains_cases (other accept_state reject_state) (other reject_state reject_state ∷ []) x m) [
      | inl e ↦ (let f = ap (λ (z : Edge Other). z.from) e in (omega arith, omega (arith, f), sym (ap (λ (z : Edge Other). z.to) e)))
      | inr k ↦ (let e = contains_only (other reject_state reject_state) x k in let f = ap (λ (z : Edge Other). z.from) e in (omega arith, omega (arith, f), sym (ap (λ (z : Edge Other). z.to) e)))
    ];
  }

  start_within : Within 2 3 from_start
  start_within = Fits-noops_to Anywhere 2 3 start_state ((fragment_of t accept_state 3).entry ∷ []) (omega arith) (omega arith) (λ q m. tt)

  -- the edges of START and of the tree's states, which come after those of ACCEPT and REJECT
  late_within : Within 2 end (joined own from_start)
  late_within = Fits-joined Anywhere 3 end 2 3 2 end own from_start (omega arith) (omega arith) (omega arith) (omega arith) (fragment_within t accept_state 3) start_within

  itself : (a b : ℕ) → Agrees a b whole (joined fresh_graph.edges (joined own from_start))
  itself a b = record {
    noops = λ x l h. (λ m. m, λ m. m);
    tests = λ x l h. (λ m. m, λ m. m);
    others = λ x l h. (λ m. m, λ m. m);
  }

  late : (a b : ℕ) → 2 ≤ a → Agrees a b whole (joined own from_start)
  late a b l = Agrees-right whole a b a b 0 2 fresh_graph.edges (joined own from_start) (itself a b) (omega arith) (omega arith) (inl l) first_within

  agrees_own : Agrees 3 end whole own
  agrees_own = Agrees-left whole 3 end 3 end 2 3 own from_start (late 3 end (omega arith)) (omega arith) (omega arith) (inl (omega arith)) start_within

  agrees_start : Agrees 2 3 whole from_start
  agrees_start = Agrees-right whole 2 3 2 3 3 end own from_start (late 2 3 (omega arith)) (omega arith) (omega arith) (inr (omega arith)) (fragment_within t accept_state 3)

  -- ACCEPT and REJECT have only other edges, and they lead to REJECT
  no_noop : (p q : ℕ) → p < 2 → Contains whole.noops (noop p q) → ⊥
  no_noop p q l m = let w = late_within.noops (noop p q) m in omega (arith, w.0)

  no_test : (r : Range) (p q : ℕ) → p < 2 → Contains whole.tests (test p r q) → ⊥
  no_test r p q l m = let w = late_within.tests (test p r q) m in omega (arith, w.0)

  to_reject : (x : Edge Other) → Contains whole.others x → (x.from < end) × (x.to ≡ reject_state)
  to_reject x m = elim (Contains-append_cases fresh_graph.edges.others (joined own from_start).others x m) [
    | inl k ↦ (let w = first_within.others x k in (omega (arith, w.1), w.2))
    | inr k ↦ (let w = late_within.others x k in (w.1, w.2))
  ]

  dead : (p : ℕ) (w : List ℕ) → p ≡ reject_state → Path whole accept_state p w → ⊥
  dead _ _ is (here p s) = omega arith
  dead _ _ is (epsilon p q w m h) = no_noop p q (omega arith) m
  dead _ _ is (read p q w r c m k h) = no_test r p q (omega arith) m
  dead _ _ is (otherwise p q w c m k h) = dead q w (to_reject (other p q) m).1 h

  at_accept : (p : ℕ) (w : List ℕ) → p ≡ accept_state → Path whole accept_state p w → w ≡ []
  at_accept _ _ is (here p s) = refl
  at_accept _ _ is (epsilon p q w m h) = absurd (no_noop p q (omega arith) m)
  at_accept _ _ is (read p q w r c m k h) = absurd (no_test r p q (omega arith) m)
  at_accept _ _ is (otherwise p q w c m k h) = absurd (dead q w (to_reject (other p q) m).1 h)

  compiled_reads : (K : Range → Type 0) → IsCompilableWithin K t → ReadsWordsOf t (compiled t)
  compiled_reads K p w = (out, into)
    where
      own_reads : Reads whole (Matches t) accept_state (fragment_of t accept_state 3).entry
      own_reads = fragment_reads whole (λ v h. dead reject_state v refl h) K t p accept_state 3 (omega arith) agrees_own

      start_reads : Reads whole (λ v. Matches t v ⊎ ⊥) accept_state start_state
      start_reads =
          Reads-alternation_expr whole (λ v. Matches t v ⊎ ⊥) accept_state start_state ((fragment_of t accept_state 3).entry ∷ []) (alternates_at whole start_state ((fragment_of t accept_state 3).entry ∷ []) agrees_start (omega arith))
          (FromSome-also whole (Matches t) (λ v. ⊥) accept_state (fragment_of t accept_state 3).entry [] own_reads (FromSome-none whole accept_state))

      out : Path whole accept_state start_state w → Matches t w
      out h =
          let c = start_reads.out w h in
          let same : w ≡ c.first = c.same ∙ (ap (λ v. c.first ++ v) (at_accept accept_state c.rest refl c.path) ∙ append-nil c.first) in
          subst (Matches t) (sym same) (elim c.is [ inl m ↦ m | inr n ↦ absurd n ])

      into : Matches t w → Path whole accept_state start_state w
      into m = subst (Path whole accept_state start_state) (append-nil w) (start_reads.into w [] (inl m) (here accept_state refl))

  -- states to which tests may lead
  abbrev IsProper : ℕ → Type 0
  IsProper q = (q < end) × (q ≢ reject_state)

  late_fits : Fits IsProper 2 end (joined own from_start)
  late_fits =
      let lead = fragment_leads IsProper t in
      let target : IsProper accept_state = (omega arith, λ h. absurd (omega arith)) in
      let block : (q : ℕ) → 3 ≤ q → q < end → IsProper q = λ q l h. (h, λ e. absurd (omega arith)) in
      Fits-joined IsProper 3 end 2 3 2 end own from_start (omega arith) (omega arith) (omega arith) (omega arith) (lead.edges accept_state 3 target block)
      (Fits-noops_to IsProper 2 3 start_state ((fragment_of t accept_state 3).entry ∷ []) (omega arith) (omega arith) (λ q m. subst IsProper (contains_only (fragment_of t accept_state 3).entry q m) (lead.entry accept_state 3 target block)))

  kinds_long : length (compiled t).kinds ≡ end
  kinds_long = omega (arith, length-replicate (fragment_of t accept_state 3).size Neither)

replicated : {A : Type 0} (n k : ℕ) (x y : A) → slice_get (replicate n x) k ≡ Some y → x ≡ y
replicated zero k x y h = cc
replicated (suc n) zero x y h = cc
replicated (suc n) (suc k) x y h = replicated n k x y h

is_accept : (n p : ℕ) → slice_get (Accept ∷ Reject ∷ Neither ∷ replicate n Neither) p ≡ Some Accept → p ≡ accept_state
is_accept n zero h = refl
is_accept n (suc zero) h = cc
is_accept n (suc (suc zero)) h = cc
is_accept n (suc (suc (suc k))) h = let e = replicated n k Neither Accept h in cc

is_reject : (n p : ℕ) → slice_get (Accept ∷ Reject ∷ Neither ∷ replicate n Neither) p ≡ Some Reject → p ≡ reject_state
is_reject n zero h = cc
is_reject n (suc zero) h = refl
is_reject n (suc (suc zero)) h = cc
is_reject n (suc (suc (suc k))) h = let e = replicated n k Neither Reject h in cc

-- what holds of the test edges of the tree's own states holds of all
all_tests : (t : Tree) → AreTestsWithin (IsCodeLabel t) (own t).tests → AreTestsWithin (IsCodeLabel t) (whole t).tests
all_tests t g = subst (AreTestsWithin (IsCodeLabel t)) (sym (append-nil (own t).tests)) g

pub compiled_length : (t : Tree) → IsValid t → fault t ≡ None → length (compiled t).kinds ≡ 3 + size t
compiled_length t s f = omega (arith, kinds_long t, fragment_size t s f accept_state 3)

pub compiled_is_compiled : (t : Tree) → IsValid t → fault t ≡ None → IsCompiled t (compiled t)
compiled_is_compiled t s f =
    let p : IsCompilableWithin (IsCodeLabel t) t = plain (IsCodeLabel t) t s f (λ r m l h. (m, l, h)) in
    let long = kinds_long t in
    let tests_within = all_tests t (fragment_tests (IsCodeLabel t) t p accept_state 3) in
    let n = (fragment_of t accept_state 3).size in
    record {
      reads = compiled_reads t (IsCodeLabel t) p;
      few = omega (arith, compiled_length t s f);
      start_in = omega (arith, long);
      accepting = λ p. (is_accept n p, λ e. rw e refl);
      rejecting = λ p. (is_reject n p, λ e. rw e refl);
      noops_in = λ x m. let w = (late_fits t).noops x m in (omega (arith, w.1, long), omega (arith, w.2.0, long), λ e. absurd (omega (arith, w.0)));
      tests_in = λ x m. let w = (late_fits t).tests x m in (omega (arith, w.1, long), omega (arith, w.2.0, long), λ e. absurd (omega (arith, w.0)), w.2.1);
      others_in = λ x m. let w = to_reject t x m in (omega (arith, w.0, long), w.1);
      labels = tests_within.labels;
      apart = places_apart (whole t).tests tests_within.apart;
    }

-- no edge of the list leaves q
filter_none : {L : Type 0} (q : ℕ) (es : List (Edge L)) → ((x : Edge L) → Contains es x → x.from ≢ q) → filter (leaves q) es ≡ []
filter_none q [] f = refl
filter_none q (x ∷ es) f = rw (ne_eqb x.from q (f x (contains_first x es))) (filter_none q es (λ y h. f y (contains_later x es y h)))

-- edges that leave other states are left out
rest : {L : Type 0} (q : ℕ) (es others : List (Edge L)) → ((x : Edge L) → Contains es x → x.from ≢ q) → filter (leaves q) (es ++ others) ≡ filter (leaves q) others
rest q es others f = filter-append (leaves q) es others ∙ ap (λ xs. xs ++ filter (leaves q) others) (filter_none q es f)

abbrev lists : List (Edge Noop) → List (Edge Range) → List (Edge Other) → Lists
lists a b c = record { noops = a; tests = b; others = c }

same_lists : (a d : List (Edge Noop)) (b e : List (Edge Range)) (c f : List (Edge Other)) → a ≡ d → b ≡ e → c ≡ f → lists a b c ≡ lists d e f
same_lists a d b e c f x y z = cc

-- beside edges of further states, ACCEPT and REJECT have their first edges, and START has the one to the entry
module _ (e : Lists) (entry end : ℕ) (w : Within 3 end e) where
  noops : (q : ℕ) → q < 3 → filter (leaves q) (e.noops ++ noop start_state entry ∷ []) ≡ filter (leaves q) (noop start_state entry ∷ [])
  noops q l = rest q e.noops (noop start_state entry ∷ []) (λ x m h. let k = w.noops x m in absurd (omega (arith, k.0, h)))

  tests : (q : ℕ) → q < 3 → filter (leaves q) (e.tests ++ []) ≡ []
  tests q l = rest q e.tests [] (λ x m h. let k = w.tests x m in absurd (omega (arith, k.0, h)))

  others : (q : ℕ) → q < 3 → filter (leaves q) (e.others ++ []) ≡ []
  others q l = rest q e.others [] (λ x m h. let k = w.others x m in absurd (omega (arith, k.0, h)))

  fixed_beside : HasFixedEdges (joined (joined fresh_graph.edges e) (noops_to start_state (entry ∷ [])))
  fixed_beside = record {
    accept = same_lists _ [] _ [] (other accept_state reject_state ∷ filter (leaves accept_state) (e.others ++ [])) _ (noops 0 (omega arith)) (tests 0 (omega arith)) (ap (λ xs. other accept_state reject_state ∷ xs) (others 0 (omega arith)));
    reject = same_lists _ [] _ [] (other reject_state reject_state ∷ filter (leaves reject_state) (e.others ++ [])) _ (noops 1 (omega arith)) (tests 1 (omega arith)) (ap (λ xs. other reject_state reject_state ∷ xs) (others 1 (omega arith)));
    start = (entry, same_lists _ _ _ _ _ _ (noops 2 (omega arith)) (tests 2 (omega arith)) (others 2 (omega arith)));
  }

pub compiled_fixed : (t : Tree) → HasFixedEdges (compiled t).edges
compiled_fixed t = fixed_beside (own t) (fragment_of t accept_state 3).entry (end t) (fragment_within t accept_state 3)
