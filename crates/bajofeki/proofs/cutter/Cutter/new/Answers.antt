use Rattle.std.proofs.Common.{◌≡◌, inl, inr, List, [], ◌∷◌, length, ◌+◌, sym, ap, subst, arith, length-append, ◌∙◌}
use Rattle.std.specs.Prelude.{slice_get, Some}
use Rattle.std.proofs.lemmas.Bool.{cases_order}
use Rattle.bajofeki.specs.Internal.Walking.{HasOnePlace, IsRight, IsWalkerOf}
use Rattle.lalrpop_dfa.specs.Dfa.{Row}
use Rattle.bajofeki.specs.declared.walker.Walker.{Walker}
use Rattle.bajofeki.proofs.Noting.{pushed, new_walk}
use Rattle.bajofeki.proofs.cutter.Cutter.new.Goals as goal

pub loop-mode-preserved : goal.loop-mode-preserved
loop-mode-preserved c =
    let inv = c.loop-mode.invariant in
    let items = c.in_ok-push.ensures.items in
    record {
      count = omega (arith, inv.count, ap length items, length-append c.loop-mode.walkers.items (c.of.result ∷ []));
      each = λ m w e. elim (pushed c.loop-mode.walkers.items c.of.result w m (subst (λ (xs : List Walker). slice_get xs m ≡ Some w) items e)) [
        | inl old ↦ inv.each m w old
        | inr new ↦ (
          subst IsRight (sym new.1) c.of.ensures.right,
          λ d there. new_walk (λ (d : List Row). IsWalkerOf w d × HasOnePlace w d) c.args.lexer.now.automata d c.dense.result.now c.lexer.result.now.automaton m c.loop-mode.mode
              (rw new.1 (c.of.ensures.same, c.of.ensures.one)) c.dense.ensures.same c.lexer.ensures.automaton (omega (arith, new.0, inv.count)) there,
        )
      ];
      automata = λ m below. elim (cases_order m c.loop-mode.mode) [
        | inl same ↦ (c.lexer.result.now.automaton, ap (slice_get c.args.lexer.now.automata) same ∙ c.lexer.ensures.automaton)
        | inr (inl less) ↦ inv.automata m less
        | inr (inr more) ↦ absurd (omega (arith, below, more))
      ];
    }

pub returns : goal.returns
returns c = record {
  ready = λ at text. record {
    count = omega (arith, c.loop-mode.invariant.count, c.loop-mode-test.false, c.loop-mode.auto.mode-end, c.modes-mode-end.ensures.count);
    right = λ m w e. (c.loop-mode.invariant.each m w e).0;
    same = λ m w d e there. ((c.loop-mode.invariant.each m w e).1 d there).0;
    one = λ m w d e there. ((c.loop-mode.invariant.each m w e).1 d there).1;
    sound = λ m w e p i n noted. absurd (c.new.ensures.nothing m p (at + i) n noted);
  };
  automata = λ m below.
      c.loop-mode.invariant.automata m (omega (arith, below, c.loop-mode-test.false, c.loop-mode.auto.mode-end, c.modes-mode-end.ensures.count));
}
