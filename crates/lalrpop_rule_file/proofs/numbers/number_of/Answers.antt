use Rattle.std.proofs.Common.{sym, ap, ◌∙◌, Some}
use Rattle.std.specs.Cmp.Lexicographic.{same_text, other_text}
use Rattle.lalrpop_rule_file.specs.Internal.Lines.{names_in}
use Rattle.lalrpop_rule_file.proofs.ModeNumbers.{name_at, none_further, none_there, one_name}
use Rattle.lalrpop_rule_file.proofs.numbers.number_of.Goals as goal

pub returns-then-eq-clause-some : goal.returns-then-eq-clause-some
returns-then-eq-clause-some c =
    name_at c.args.modes.now c.loop-index.index _ c.loop-index-test.true ∙ ap Some (same_text _ _ c.if-eq.ensures)

pub loop-index-preserved : goal.loop-index-preserved
loop-index-preserved c =
    none_further (names_in c.args.modes.now) c.args.name.now c.loop-index.index c.loop-index.invariant
    (λ e. other_text _ _ c.if-eq.ensures (one_name _ _ (sym (name_at c.args.modes.now c.loop-index.index _ c.loop-index-test.true) ∙ e)))

pub returns-clause-none : goal.returns-clause-none
returns-clause-none c = none_there c.args.modes.now c.args.name.now c.loop-index.index c.loop-index-test.false c.loop-index.invariant
