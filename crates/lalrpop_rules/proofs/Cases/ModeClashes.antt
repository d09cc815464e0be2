-- Cases of specs/ModeClashes.antt.
use Rattle.std.proofs.Common.{◌≡◌, ℕ, [], ◌∷◌, List, arith}
use Rattle.lalrpop_hir.specs.Clashes.{Entry}
use Rattle.lalrpop_rules.specs.ModeClashes.{AreModeClashes, IsModesFault}
use Rattle.lalrpop_rules.specs.Modes.{ModeRules}
use Rattle.bajofeki_rules.specs.declared.mode_rule.ModeRule.{ModeRule}
use Rattle.lalrpop_rules.specs.declared.error.RulesError.TheVariants.{OutOfMemory}

-- there is a list for each of two modes
one_list_too_few : (r : ModeRules) (cs : List Entry) → r.modes ≡ 2 → ¬ AreModeClashes r (cs ∷ [])
one_list_too_few r cs two are = omega (arith, two, are.count)

any_rules_want_memory : (rs : List ModeRule) (modes : ℕ) → IsModesFault rs modes OutOfMemory
any_rules_want_memory rs modes = tt
