-- A text that is edited, as a tuple, which proofs use to tell one from another.
use Rattle.std.specs.Prelude.{ℕ, List, refl}
use Rattle.std.specs.Coded.{Coded, code_by, coded×, coded_list, coded_ℕ}
use Rattle.lalrpop_rules.specs.Modes.{ModeRules}
use Rattle.lalrpop_rules.specs.Internal.ModeCode.{modes_code}
use Rattle.bajofeki.specs.Lexed.{Lexed}

abbrev pub lexed_code : Coded Lexed
lexed_code = code_by (ModeRules × List ℕ) (coded× modes_code (coded_list coded_ℕ)) (λ l. (l.rules, l.text)) (λ p. record { rules = p.0; text = p.1 }) (λ _. refl)
