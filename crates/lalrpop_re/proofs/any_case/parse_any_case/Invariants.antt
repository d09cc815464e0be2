use Rattle.std.proofs.Common.{◌≡◌, map}
use Rattle.lalrpop_re.specs.Pattern.{literal_tree}
use Rattle.lalrpop_re.proofs.any_case.parse_any_case.Given as goal

abbrev pub invariant-loop-c : goal.invariant-loop-c
invariant-loop-c l = l.trees.items ≡ map (literal_tree l.flags) l.yielded
