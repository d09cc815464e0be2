use Rattle.std.proofs.Common.{◌≡◌, map, string_bytes, take}
use Rattle.lalrpop_rules.specs.ModeSet.{rules_of}
use Rattle.lalrpop_rules.specs.RuleSet.{names_of}
use Rattle.reports_lib.specs.RuleClashes.{clash_lines}
use Rattle.reports_lib.proofs.named_clashes.clash_lines.Given as goal

-- the lines of the modes so far
abbrev pub invariant-loop-mode : goal.invariant-loop-mode
invariant-loop-mode l =
    string_bytes l.lines ≡ clash_lines (map (λ m. m.now) l.modes) (names_of (rules_of l.rules)) 0 (map (λ cs. cs.items) (take l.mode l.found))
