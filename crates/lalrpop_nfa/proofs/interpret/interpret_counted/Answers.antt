use Rattle.std.proofs.Common.{◌≡◌, ◌+◌, ◌*◌, [], length, take, sym, ap, subst, ◌∙◌, arith}
use Rattle.std.specs.Prelude.{IfSome}
use Rattle.std.specs.Str.{chars, IsCharBoundary}
use Rattle.std.specs.Str.Iter.{char_indices_rest, char_indices_offset}
use Rattle.std.specs.Option.{option_map, option_or}
use Rattle.std.proofs.lemmas.Str.{chars-nil, IsCharBoundary-start}
use Rattle.lalrpop_hir.specs.Language.{Matches}
use Rattle.lalrpop_hir.specs.Prefix.{IsPrefix}
use Rattle.lalrpop_nfa.specs.Internal.StateSets.{IsMove, IsIfAccepted}
use Rattle.lalrpop_nfa.proofs.StateSetLemmas.{none_on}
use Rattle.lalrpop_nfa.proofs.PrefixLemmas.{IsLongestOfUpTo, of_end, of_stop}
use Rattle.lalrpop_nfa.proofs.Runs.{run_start, run_next, cut_next, boundary_next, cost_next, cost_within, best_start, best_next, prefix_here, if_or, map_or, if_mapped}
use Rattle.lalrpop_nfa.proofs.interpret.interpret_counted.Goals as goal
use Rattle.lalrpop_nfa.proofs.interpret.interpret_counted.Goals.{in-None, in-Some+then-rejects}

pub accepted-longest-requires : goal.accepted-longest-requires
accepted-longest-requires c = record { boundary = IsCharBoundary-start c.args.text.now c.utf8.text }

pub loop-offset-init : goal.loop-offset-init
loop-offset-init c =
    let i = c.into_iter-offset-iterator.ensures.into_iter_gives in
    let at = ap char_indices_offset i ∙ c.char_indices-offset-items.ensures.offset in
    let rest = ap char_indices_rest i ∙ c.char_indices-offset-items.ensures.rest in
    let g = c.args.nfa.now in
    let text = c.args.text.now in
    let v = c.in_ok-simulation.simulation in
    let o = c.in_ok-simulation.ensures in
    let run = run_start g text v c.utf8.text o.graph o.states in
    let one : length g.kinds * (length (chars []) + 1) ≡ length g.kinds * (0 + 1) = ap (λ k. length g.kinds * (k + 1)) (ap length chars-nil) in
    rw (at, rest) record {
      run = run;
      best = λ t h. best_start g text t v (option_map (λ s. s.now) c.accepted-longest.result) h run c.accepted-longest.ensures;
      prefix = prefix_here g text text 0 v (option_map (λ s. s.now) c.accepted-longest.result) run c.accepted-longest.ensures;
      never_falls = o.never_falls;
      cost = omega (arith, one, o.cost);
    }

pub returns-in_err-simulation-2-clause-cost : goal.returns-in_err-simulation-2-clause-cost
returns-in_err-simulation-2-clause-cost c =
    let text = c.args.text.now in
    let at = char_indices_offset c.loop-offset.offset-iterator in
    let at2 = char_indices_offset c.next.new.self in
    let rest = char_indices_rest c.loop-offset.offset-iterator in
    let rest2 = char_indices_rest c.next.new.self in
    let s = c.in-Some.ensures.steps in
    let i = c.loop-offset.invariant in
    let g = c.args.nfa.now in
    let one = rw i.run.graph at c.read.ensures.cost in
    cost_within text rest2 at2 (length g.kinds) c.read.new.steps c.args.steps.now (cut_next g text rest rest2 at at2 c.in-Some.c c.loop-offset.simulation c.utf8.text i.run s.1 s.2)
    (cost_next g text rest rest2 at at2 c.in-Some.c c.loop-offset.simulation c.utf8.text i.run s.1 s.2 (length g.kinds) c.args.steps.now c.loop-offset.steps c.read.new.steps i.cost one)

pub accepted-requires : goal.accepted-requires
accepted-requires c =
    let text = c.args.text.now in
    let at = char_indices_offset c.loop-offset.offset-iterator in
    let at2 = char_indices_offset c.next.new.self in
    let rest = char_indices_rest c.loop-offset.offset-iterator in
    let rest2 = char_indices_rest c.next.new.self in
    let s = c.in-Some.ensures.steps in
    let i = c.loop-offset.invariant in
    let g = c.args.nfa.now in
    let is : at2 ≡ c.in-Some.offset + c.len_utf8.result = omega (arith, s.0, s.2, c.len_utf8.ensures.len) in
    record { boundary = subst (IsCharBoundary text) is (boundary_next g text rest rest2 at at2 c.in-Some.c c.loop-offset.simulation c.utf8.text i.run s.1 s.2) }

pub loop-offset-preserved : goal.loop-offset-preserved
loop-offset-preserved c =
    let text = c.args.text.now in
    let at = char_indices_offset c.loop-offset.offset-iterator in
    let at2 = char_indices_offset c.next.new.self in
    let rest = char_indices_rest c.loop-offset.offset-iterator in
    let rest2 = char_indices_rest c.next.new.self in
    let s = c.in-Some.ensures.steps in
    let i = c.loop-offset.invariant in
    let g = c.args.nfa.now in
    let w = c.in_ok-simulation-2.simulation in
    let o = c.in_ok-simulation-2.ensures in
    let here = option_map (λ s. s.now) c.accepted.result in
    let longest = option_map (λ s. s.now) c.loop-offset.longest in
    let place : c.in-Some.offset + c.len_utf8.result ≡ at2 = omega (arith, s.0, s.2, c.len_utf8.ensures.len) in
    let found : IsIfAccepted w (take at2 text) here = subst (λ n. IsIfAccepted w (take n text) here) place c.accepted.ensures in
    let both : option_map (λ s. s.now) c.or-longest.result ≡ option_or here longest = ap (option_map (λ s. s.now)) c.or-longest.ensures ∙ map_or (λ s. s.now) c.accepted.result c.loop-offset.longest in
    let move = subst (λ v. IsMove c.loop-offset.simulation.graph.edges v c.loop-offset.simulation.states w.states) c.from.ensures o.states in
    let run = run_next g text rest rest2 at at2 c.in-Some.c c.loop-offset.simulation c.utf8.text i.run s.1 s.2 w o.graph move in
    let one = rw i.run.graph at c.read.ensures.cost in
    record {
      run = run;
      best = λ t h. subst (IsLongestOfUpTo (Matches t) text at2) (sym both) (best_next g text rest rest2 at at2 c.in-Some.c c.loop-offset.simulation c.utf8.text i.run s.1 s.2 t w here longest h run found (i.best t h));
      prefix = subst (λ o. IfSome o (λ s. IsPrefix s text)) (sym both) (if_or (λ s. IsPrefix s text) here longest (prefix_here g text rest2 at2 w here run found) i.prefix);
      never_falls = omega (arith, c.read.ensures.never_falls, i.never_falls);
      cost = cost_next g text rest rest2 at at2 c.in-Some.c c.loop-offset.simulation c.utf8.text i.run s.1 s.2 (length g.kinds) c.args.steps.now c.loop-offset.steps c.read.new.steps i.cost one;
    }

pub returns-clause-answer : goal.returns-clause-answer
returns-clause-answer c = λ t h.
    let text = c.args.text.now in
    let at = char_indices_offset c.loop-offset.offset-iterator in
    let rest = char_indices_rest c.loop-offset.offset-iterator in
    let longest = option_map (λ s. s.now) c.loop-offset.longest in
    let i = c.loop-offset.invariant in
    elim c.match-next.branch [
      | in-None w ↦ of_end (Matches t) text rest at longest i.run.cut w.in-None.ensures.steps.0 (i.best t h)
      | in-Some+then-rejects w ↦
          of_stop (Matches t) text rest at longest i.run.cut
          (none_on t c.args.nfa.now (chars (take at text)) c.loop-offset.simulation.states h i.run.after (rw i.run.graph at (w.rejects.ensures.0 w.if-rejects.true))) (i.best t h)
    ]

pub returns-clause-prefix : goal.returns-clause-prefix
returns-clause-prefix c = if_mapped (λ s. s.now) (λ s. IsPrefix s c.args.text.now) c.loop-offset.longest c.loop-offset.invariant.prefix

pub returns-clause-cost : goal.returns-clause-cost
returns-clause-cost c =
    let i = c.loop-offset.invariant in
    cost_within c.args.text.now (char_indices_rest c.loop-offset.offset-iterator) (char_indices_offset c.loop-offset.offset-iterator) (length c.args.nfa.now.kinds) c.loop-offset.steps c.args.steps.now i.run.cut i.cost
