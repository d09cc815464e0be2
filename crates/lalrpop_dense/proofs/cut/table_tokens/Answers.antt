use Rattle.std.proofs.Common.{◌∙◌, ap}
use Rattle.std.specs.Prelude.{None}
use Rattle.lalrpop_dense.specs.Matching.{Matching}
use Rattle.lalrpop_dense.specs.Cutting.{start_of}
use Rattle.lalrpop_dense.proofs.cut.table_tokens.Goals as goal

pub returns : goal.returns
returns c = record {
  start = c.new.ensures.start ∙ ap (λ (m : Matching). record (start_of m.automaton c.args.text.now None) { steps = m.spare }) c.new-plain.ensures.start;
}
