use Rattle.std.proofs.Common.{◌≡◌, sym, ap, subst, ◌∙◌, arith}
use Rattle.std.specs.Prelude.{Some}
use Rattle.std.proofs.lemmas.Str.{IsUtf8-nil, chars-nil}
use Rattle.bajofeki.specs.Internal.Walking.{IsWalkerOf, behind}
use Rattle.bajofeki.proofs.Held.{unmatched_none}
use Rattle.bajofeki.proofs.held_run.HeldRun.new.Goals as goal

pub returns : goal.returns
returns c = record {
  held = λ text. record {
    right = c.of-walker.ensures.right;
    same = λ d there.
        let both : Some d ≡ Some c.lexer.result.now.automaton = sym there ∙ c.lexer.ensures.automaton in
        let one : d ≡ c.lexer.result.now.automaton = cc (both) in
        subst (IsWalkerOf c.of-walker.result) (c.dense.ensures.same ∙ sym one) c.of-walker.ensures.same;
    within = omega arith;
    seen = IsUtf8-nil;
    reached = c.start.ensures ∙ ap (behind c.of-walker.result) (sym chars-nil);
    nothing = λ _. unmatched_none c.of-walker.result;
  };
}
