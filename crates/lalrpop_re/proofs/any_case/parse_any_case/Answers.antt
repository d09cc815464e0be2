use Rattle.std.proofs.Common.{true, false, refl}
use Rattle.std.proofs.lemmas.Iterator.{YieldsList-from_chars}
use Rattle.std.proofs.lemmas.Iterator.Consumers.{YieldsList-end}
use Rattle.lalrpop_re.specs.declared.flags.Flags.{Flags}
use Rattle.lalrpop_re.proofs.AnyCaseLaws.{any_case_matches, any_case_faultless}
use Rattle.lalrpop_re.proofs.any_case.parse_any_case.Goals as goal

unfoldable any_case : Flags
any_case = record { case_insensitive = true; dot_matches_new_line = false; multi_line = false; swap_greed = false }

pub returns-clause-matches : goal.returns-clause-matches
unfolding any_case
returns-clause-matches c =
    let all = YieldsList-end (YieldsList-from_chars c.args.s.now c.utf8.s cc) c.loop-c.yielded _ c.loop-c.yielded_by _ _ c.in-None.is c.next.ensures.steps in
    any_case_matches any_case c.loop-c.trees.items c.loop-c.yielded c.args.s.now c.concat.result refl c.loop-c.invariant all.0 c.utf8.s c.concat.ensures.tree

pub returns-clause-no_fault : goal.returns-clause-no_fault
unfolding any_case
returns-clause-no_fault c = any_case_faultless any_case c.loop-c.trees.items c.loop-c.yielded c.concat.result refl c.loop-c.invariant c.concat.ensures.tree
