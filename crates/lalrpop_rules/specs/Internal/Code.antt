-- A text that is cut to its end, as a tuple of lists and numbers, which proofs use to tell one from another.
use Rattle.std.specs.Prelude.{ℕ, Bool, List, refl}
use Rattle.std.specs.Coded.{Coded, code_by, coded×, coded_list, coded_ℕ, coded_bool}
use Rattle.lalrpop_lexer.specs.Internal.Code.{rules_code}
use Rattle.lalrpop_lexer.specs.Rules.{Rules}
use Rattle.lalrpop_rules.specs.Internal.CutToEnd.{CutToEnd, Memo}

abbrev pub memo_code : Coded Memo
memo_code = code_by (ℕ × ℕ) (coded× coded_ℕ coded_ℕ) (λ m. (m.unsought, m.spare)) (λ p. record { unsought = p.0; spare = p.1 }) (λ _. refl)

abbrev pub cut_code : Coded CutToEnd
cut_code =
    code_by (Rules × (List Bool × (List ℕ × (ℕ × (Memo × ℕ)))))
    (coded× rules_code (coded× (coded_list coded_bool) (coded× (coded_list coded_ℕ) (coded× coded_ℕ (coded× memo_code coded_ℕ)))))
    (λ w. (w.rules, (w.skips, (w.text, (w.at, (w.memo, w.steps))))))
    (λ p. record { rules = p.0; skips = p.1.0; text = p.1.1.0; at = p.1.1.1.0; memo = p.1.1.1.1.0; steps = p.1.1.1.1.1 }) (λ _. refl)
