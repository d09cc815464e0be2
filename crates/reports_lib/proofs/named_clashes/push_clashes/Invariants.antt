use Rattle.std.proofs.Common.{◌≡◌, ◌++◌, string_bytes, flat_map, take, option_map}
use Rattle.lalrpop_rules.specs.ModeSet.{rules_of}
use Rattle.lalrpop_rules.specs.RuleSet.{names_of}
use Rattle.reports_lib.specs.RuleClashes.{named_line}
use Rattle.reports_lib.proofs.named_clashes.push_clashes.Given as goal

-- the lines of the clashes so far
abbrev pub invariant-loop-clash : goal.invariant-loop-clash
invariant-loop-clash l =
    string_bytes l.lines ≡ string_bytes l.fn.lines ++ flat_map (named_line (names_of (rules_of l.rules)) (option_map (λ m. m.now) l.mode)) (take l.clash-index l.found)
