-- What holds while the run of an automaton reads a text: the longest prefix so far that the pattern matches.
use Rattle.std.proofs.Common.{◌≡◌, ℕ, ◌+◌, ◌*◌, ◌≤◌, List, ◌++◌, length, take, refl, sym, ap, subst, ◌∙◌, arith}
use Rattle.std.specs.Prelude.{Option, Some, None, IfSome}
use Rattle.std.specs.Option.{option_map, option_or}
use Rattle.std.specs.Char.{encode_utf8}
use Rattle.std.specs.Str.{chars, IsUtf8, IsCharBoundary}
use Rattle.std.proofs.Math.Nat.{mul-le-mul_left}
use Rattle.std.proofs.lemmas.Str.{chars-nil, IsCharBoundary-from_take}
use Rattle.lalrpop_hir.specs.Tree.{Tree}
use Rattle.lalrpop_hir.specs.Language.{Matches}
use Rattle.lalrpop_nfa.specs.Graph.{Graph}
use Rattle.lalrpop_hir.specs.States.{start_state}
use Rattle.lalrpop_nfa.specs.Compiled.{IsCompiled}
use Rattle.lalrpop_hir.specs.Prefix.{IsPrefix}
use Rattle.lalrpop_nfa.specs.Internal.StateSets.{Visited, IsClosure, IsMove, IsIfAccepted, only}
use Rattle.lalrpop_nfa.proofs.StateSetLemmas.{IsAfterWord, after_none, after_next, matched_if, only_if_matched}
use Rattle.lalrpop_nfa.proofs.PrefixLemmas.{IsLongestOfUpTo, of_cut, of_accept, of_start, of_pass}
use Rattle.lalrpop_hir.proofs.Cuts.{IsCut, cut_start, cut_within, cut_more, count_more, count_within, word_after}

-- the run after the first `at` bytes of the text
pub record IsRun (g : Graph) (text : List ℕ) (at : ℕ) (rest : List ℕ) (v : Visited) : Type 0 where
  pub graph : v.graph ≡ g
  pub cut : IsCut text at rest
  pub after : IsAfterWord g (chars (take at text)) v.states

pub run_start : (g : Graph) (text : List ℕ) (v : Visited) → IsUtf8 text → v.graph ≡ g → IsClosure g.edges (only start_state (length g.kinds)) v.states → IsRun g text 0 text v
run_start g text v u same h = record {
  graph = same;
  cut = cut_start text u;
  after = subst (λ w. IsAfterWord g w v.states) (sym chars-nil) (after_none g v.states h);
}

-- one more character is read
module _ (g : Graph) (text rest rest2 : List ℕ) (at at2 c : ℕ) (v : Visited) (u : IsUtf8 text) (r : IsRun g text at rest v) (e : rest ≡ encode_utf8 c ++ rest2) (l : at2 ≡ at + length (encode_utf8 c)) where
  pub cut_next : IsCut text at2 rest2
  cut_next = cut_more text rest rest2 at at2 c u r.cut e l

  pub run_next : (w : Visited) → w.graph ≡ v.graph → IsMove v.graph.edges c v.states w.states → IsRun g text at2 rest2 w
  run_next w same move = record {
    graph = same ∙ r.graph;
    cut = cut_next;
    after =
        subst (λ x. IsAfterWord g x w.states) (sym (word_after text rest rest2 at at2 c r.cut e l))
        (after_next g (chars (take at text)) c v.states w.states r.after (subst (λ (h : Graph). IsMove h.edges c v.states w.states) r.graph move));
  }

  pub boundary_next : IsCharBoundary text at2
  boundary_next = let long = cut_within text rest2 at2 cut_next in IsCharBoundary-from_take text at2 u (omega arith) cut_next.seen_utf8

  -- this many steps were taken, and a run takes at most n for the character
  pub cost_next : (n old before after : ℕ) → before ≤ old + n * (length (chars (take at text)) + 1) → after ≤ before + n → after ≤ old + n * (length (chars (take at2 text)) + 1)
  cost_next n old before after i one =
      let more : n * (length (chars (take at2 text)) + 1) ≡ n * (length (chars (take at text)) + 1 + 1) = ap (λ k. n * (k + 1)) (count_more text rest rest2 at at2 c r.cut e l) in
      omega (arith, more, i, one)

  pub best_next : (t : Tree) (w : Visited) (found best : Option (List ℕ)) → IsCompiled t g → IsRun g text at2 rest2 w → IsIfAccepted w (take at2 text) found → IsLongestOfUpTo (Matches t) text at best
      → IsLongestOfUpTo (Matches t) text at2 (option_or found best)
  best_next t w None best h s never up =
      of_pass (Matches t) text rest rest2 at at2 c best r.cut e l
      (λ m. never (rw s.graph (only_if_matched t g (chars (take at2 text)) w.states h s.after m))) up
  best_next t w (Some found) best h s found_here up =
      of_accept (Matches t) text rest2 at2 found s.cut found_here.1 (matched_if t g (chars (take at2 text)) w.states h s.after (rw s.graph at found_here.0))

pub best_start : (g : Graph) (text : List ℕ) (t : Tree) (v : Visited) (found : Option (List ℕ)) → IsCompiled t g → IsRun g text 0 text v → IsIfAccepted v (take 0 text) found → IsLongestOfUpTo (Matches t) text 0 found
best_start g text t v None h s never =
    of_start (Matches t) text (λ m. never (rw s.graph (only_if_matched t g (chars (take 0 text)) v.states h s.after (subst (Matches t) (sym chars-nil) m))))
best_start g text t v (Some found) h s found_here =
    of_accept (Matches t) text text 0 found s.cut found_here.1 (matched_if t g (chars (take 0 text)) v.states h s.after (rw s.graph at found_here.0))

-- the prefix found here, or else the one found before
pub prefix_here : (g : Graph) (text rest : List ℕ) (at : ℕ) (v : Visited) (found : Option (List ℕ)) → IsRun g text at rest v → IsIfAccepted v (take at text) found → IfSome found (λ s. IsPrefix s text)
prefix_here g text rest at v None r is = tt
prefix_here g text rest at v (Some found) r is = of_cut text rest at found r.cut is.1

pub if_or : {X : Type 0} (P : X → Type 0) (a b : Option X) → IfSome a P → IfSome b P → IfSome (option_or a b) P
if_or P None b h k = k
if_or P (Some x) b h k = h

pub map_or : {X Y : Type 0} (f : X → Y) (a b : Option X) → option_map f (option_or a b) ≡ option_or (option_map f a) (option_map f b)
map_or f None b = refl
map_or f (Some x) b = refl

pub if_mapped : {X Y : Type 0} (f : X → Y) (P : Y → Type 0) (a : Option X) → IfSome (option_map f a) P → IfSome a (λ x. P (f x))
if_mapped f P None h = tt
if_mapped f P (Some x) h = h

-- no more steps than the bound for the whole text
pub cost_within : (text rest : List ℕ) (at n steps old : ℕ) → IsCut text at rest → steps ≤ old + n * (length (chars (take at text)) + 1) → steps ≤ old + n * (length (chars text) + 1)
cost_within text rest at n steps old cut h =
    let within = count_within text rest at cut in
    let few : length (chars (take at text)) + 1 ≤ length (chars text) + 1 = omega arith in
    let most : n * (length (chars (take at text)) + 1) ≤ n * (length (chars text) + 1) = mul-le-mul_left n few in
    omega (arith, most, h)
