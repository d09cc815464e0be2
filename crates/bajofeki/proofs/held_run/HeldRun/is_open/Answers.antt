use Rattle.std.proofs.Common.{◌≡◌, false, sym, ap, subst, ◌∙◌}
use Rattle.std.specs.Prelude.{slice_get, Some}
use Rattle.std.proofs.lemmas.Bool.{not-true}
use Rattle.bajofeki.specs.Lexed.{BeginsLonger}
use Rattle.lalrpop_rules.specs.Found.{NoMatchBefore}
use Rattle.bajofeki.proofs.Held.{held_longer, held_met, held_none}
use Rattle.bajofeki.proofs.held_run.HeldRun.is_open.Goals as goal

pub is_last-requires-clause-met : goal.is_last-requires-clause-met
is_last-requires-clause-met c = held_met c.args.lexer.now c.args.mode c.args.text.now c.args.self.now c.requires.held

pub returns-then-self-text : goal.returns-then-self-text
returns-then-self-text c = record {
  «open» = λ yes.
      let lexer = c.lexer.result.now in
      let there : slice_get c.args.lexer.now.automata c.args.mode ≡ Some c.dense-dense.result.now = c.lexer.ensures.automaton ∙ ap (λ d. Some d) (sym c.dense-dense.ensures.same) in
      let on : c.is_last.result ≡ false = not-true c.is_last.result yes in
      subst (λ ts. BeginsLonger ts c.args.text.now) c.lexer.ensures.trees
      (held_longer c.args.lexer.now c.args.mode c.args.text.now c.args.self.now c.dense-dense.result.now lexer.trees lexer.precedences c.utf8.text c.requires.held there
      c.dense-dense.ensures.built.stands c.dense-dense.ensures.trim c.if-self-text.true (c.is_last.ensures.goes_on on));
  none = λ yes none.
      let lexer = c.lexer.result.now in
      let there : slice_get c.args.lexer.now.automata c.args.mode ≡ Some c.dense-dense.result.now = c.lexer.ensures.automaton ∙ ap (λ d. Some d) (sym c.dense-dense.ensures.same) in
      subst (λ ts. NoMatchBefore ts c.args.text.now 1) c.lexer.ensures.trees
      (held_none c.args.lexer.now c.args.mode c.args.text.now c.args.self.now c.dense-dense.result.now lexer.trees lexer.precedences c.utf8.text c.requires.held there
      c.dense-dense.ensures.built.stands c.if-self-text.true none);
}
