use Rattle.std.proofs.Common.{◌≡◌, ◌∙◌, ap}
use Rattle.std.specs.Prelude.{None}
use Rattle.lalrpop_dense.specs.Matching.{Matching}
use Rattle.lalrpop_dense.specs.Cutting.{start_of}
use Rattle.lalrpop_dense.proofs.Cuttings.{items_from_start, parts_from_start, count_from_start}
use Rattle.lalrpop_dense.proofs.cut.tokens.Goals as goal

begins : (c : goal.After-new) → c.new.result ≡ start_of c.args.dfa.now c.args.text.now None
begins c = c.new.ensures.start ∙ ap (λ (m : Matching). record (start_of m.automaton c.args.text.now None) { steps = m.spare }) c.new-matches.ensures.start

pub returns-clause-start : goal.returns-clause-start
returns-clause-start c = begins c

pub returns-clause-items : goal.returns-clause-items
returns-clause-items c = items_from_start _ _ _ None (begins c)

pub returns-clause-parts : goal.returns-clause-parts
returns-clause-parts c = parts_from_start _ _ _ None (begins c)

pub returns-clause-count : goal.returns-clause-count
returns-clause-count c = count_from_start _ _ _ None (begins c) c.utf8.text
