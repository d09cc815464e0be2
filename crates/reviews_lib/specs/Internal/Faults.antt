-- Errors of rules.
use Rattle.std.specs.Prelude.{Bool, true, false}
use Rattle.lalrpop_rules.specs.declared.error.RulesError.{RulesError}
use Rattle.lalrpop_rules.specs.declared.error.RulesError.TheVariants.{Clash}

-- whether the error is a clash
abbrev pub is_clash : RulesError → Bool
is_clash (Clash m i j word) = true
is_clash error = false
