use Rattle.std.proofs.Common.{sym, arith, vec_len}
use Rattle.std.proofs.lemmas.Bool.{eqb-true}
use Rattle.lalrpop_rule_file.proofs.Sections.{no_modes}
use Rattle.lalrpop_rule_file.proofs.Stopping.{starred}
use Rattle.lalrpop_rule_file.proofs.section.modes_at.Goals as goal

pub returns-in-Some-clause-modes : goal.returns-in-Some-clause-modes
returns-in-Some-clause-modes c = starred _ _ _ _ c.in-Some.ensures.some c.split_front.ensures.span

pub returns-then-is_empty-clause-unread : goal.returns-then-is_empty-clause-unread
returns-then-is_empty-clause-unread c =
    let modes = c.in_ok-modes.modes in
    no_modes _ _ modes.items (omega (arith, modes.ok.0, eqb-true (vec_len modes) 0 (sym c.if-is_empty.ensures))) c.in_ok-modes.ensures.same c.in_ok-modes.ensures.no_blank c.in_ok-modes.ensures.none c.in_default.ensures.none
