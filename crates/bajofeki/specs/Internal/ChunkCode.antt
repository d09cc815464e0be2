-- What has come of a text, as a tuple, which proofs use to tell one from another.
use Rattle.std.specs.Prelude.{ℕ, Bool, List, refl}
use Rattle.std.specs.Coded.{Coded, code_by, coded×, coded_list, coded_ℕ, coded_bool}
use Rattle.lalrpop_rules.specs.Internal.ModeCode.{modes_code, stack_code}
use Rattle.lalrpop_rules.specs.Modes.{ModeRules}
use Rattle.bajofeki_rules.specs.Stack.{Stack}
use Rattle.bajofeki.specs.Chunked.{Chunked}

abbrev pub chunked_code : Coded Chunked
chunked_code =
    code_by (ModeRules × (List ℕ × (List ℕ × (ℕ × (Stack × Bool)))))
    (coded× modes_code (coded× (coded_list coded_ℕ) (coded× (coded_list coded_ℕ) (coded× coded_ℕ (coded× stack_code coded_bool)))))
    (λ c. (c.rules, (c.last, (c.rest, (c.at, (c.stack, c.is_ended))))))
    (λ p. record { rules = p.0; last = p.1.0; rest = p.1.1.0; at = p.1.1.1.0; stack = p.1.1.1.1.0; is_ended = p.1.1.1.1.1 })
    (λ _. refl)
