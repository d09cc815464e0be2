use Rattle.std.proofs.Common.{◌∙◌, sym, arith}
use Rattle.std.proofs.lemmas.Result.{err_from_is_err_and}
use Rattle.lalrpop_re.specs.Internal.Reading.{all_operators, operator}
use Rattle.lalrpop_re.specs.Internal.Views.{text}
use Rattle.lalrpop_re.specs.Internal.Parts.{part}
use Rattle.lalrpop_re.proofs.PatternLaws.{operators_end}
use Rattle.lalrpop_re.proofs.BracketLoops.{refuses_on}
use Rattle.lalrpop_re.proofs.ParserLoops.{operators_turn, operators_deep, operators_refused}
use Rattle.lalrpop_re.proofs.parser.parse_operators.Goals as goal

pub returns-then-piece-levels_left-clause-value : goal.returns-then-piece-levels_left-clause-value
returns-then-piece-levels_left-clause-value c =
    rw c.error.ensures (sym c.loop-cursor.invariant.value
    ∙ operators_deep c.args.parts.now c.args.levels_left c.loop-cursor.cursor.flags (part c.loop-cursor.piece (text c.loop-cursor.cursor)) (sym c.is_at_operator.ensures ∙ c.loop-cursor-test.true) c.if-piece-levels_left.true)

pub returns-in_err-operator-clause-value : goal.returns-in_err-operator-clause-value
returns-in_err-operator-clause-value c =
    let p = err_from_is_err_and c.from_residual.result c.from_residual.ensures.1 in
    rw (p.1, p.2) (refuses_on c.in_err-operator.field-0.0 (operator c.loop-cursor.cursor.flags (text c.loop-cursor.cursor)) (all_operators c.args.parts.now c.args.levels_left c.args.cursor.now.flags (part c.args.atom (text c.args.cursor.now))) c.in_err-operator.ensures.value
    (λ none. sym c.loop-cursor.invariant.value ∙ operators_refused c.args.parts.now c.args.levels_left c.loop-cursor.cursor.flags (part c.loop-cursor.piece (text c.loop-cursor.cursor)) (sym c.is_at_operator.ensures ∙ c.loop-cursor-test.true) none))

pub loop-cursor-preserved : goal.loop-cursor-preserved
loop-cursor-preserved c = record {
  value =
      rw (c.in_ok-piece.ensures.0, c.in_ok-piece.ensures.1, c.in_ok-operator.ensures.flags) (sym (operators_turn c.args.parts.now c.args.levels_left c.loop-cursor.cursor.flags (part c.loop-cursor.piece (text c.loop-cursor.cursor)) _
      (sym c.is_at_operator.ensures ∙ c.loop-cursor-test.true) c.in_ok-operator.ensures.value c.if-piece-levels_left.false) ∙ c.loop-cursor.invariant.value);
  flags = cc;
  moves = omega (arith, c.in_ok-operator.ensures.moves);
  deep = omega (arith, c.in_ok-piece.ensures.1);
}

pub returns-clause-value : goal.returns-clause-value
returns-clause-value c =
    sym c.loop-cursor.invariant.value ∙ operators_end c.args.parts.now c.args.levels_left c.loop-cursor.cursor.flags (part c.loop-cursor.piece (text c.loop-cursor.cursor)) (sym c.is_at_operator.ensures ∙ c.loop-cursor-test.false)
