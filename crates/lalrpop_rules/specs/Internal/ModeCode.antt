-- A stack, rules with modes and a text that is cut, as tuples, which proofs use to tell one from another.
use Rattle.std.specs.Prelude.{◌≡◌, ℕ, ◌⊎◌, Bool, List, Option, Some, None, refl}
use Rattle.std.proofs.Common.{inl, inr}
use Rattle.std.specs.Coded.{Coded, code_by, coded×, coded⊎, coded_list, coded_option, coded_ℕ, coded_bool}
use Rattle.lalrpop_hir.specs.Internal.Code.{tree_code}
use Rattle.lalrpop_lexer.specs.Internal.Code.{row_code}
use Rattle.lalrpop_lexer.specs.Dfa.{Row}
use Rattle.lalrpop_rules.specs.Internal.Code.{memo_code}
use Rattle.lalrpop_rules.specs.Internal.CutToEnd.{Memo}
use Rattle.lalrpop_hir.specs.Tree.{Tree}
use Rattle.bajofeki_rules.specs.declared.action.Action.{Action}
use Rattle.bajofeki_rules.specs.declared.action.Action.TheVariants.{Mode, Push, Pop}
use Rattle.bajofeki_rules.specs.Stack.{Stack}
use Rattle.lalrpop_rules.specs.Modes.{ModeRules}
use Rattle.lalrpop_rules.specs.ModeCut.{ModeCut}
use Rattle.lalrpop_rules.specs.Internal.Cutting.{Cutting}

abbrev pub stack_code : Coded Stack
stack_code = code_by (ℕ × List ℕ) (coded× coded_ℕ (coded_list coded_ℕ)) (λ s. (s.mode, s.below)) (λ p. record { mode = p.0; below = p.1 }) (λ _. refl)

abbrev of_action : Action → Option (ℕ ⊎ ℕ)
of_action (Mode m) = Some (inl m)
of_action (Push m) = Some (inr m)
of_action Pop = None

abbrev to_action : Option (ℕ ⊎ ℕ) → Action
to_action (Some (inl m)) = Mode m
to_action (Some (inr m)) = Push m
to_action None = Pop

pub to_action_of_action : (a : Action) → to_action (of_action a) ≡ a
to_action_of_action (Mode m) = refl
to_action_of_action (Push m) = refl
to_action_of_action Pop = refl

abbrev action_code : Coded Action
action_code = code_by (Option (ℕ ⊎ ℕ)) (coded_option (coded⊎ coded_ℕ coded_ℕ)) of_action to_action to_action_of_action

abbrev pub modes_code : Coded ModeRules
modes_code =
    code_by (List (List ℕ) × (List Tree × (List ℕ × (List Bool × (List (List Action) × (List (List ℕ) × (List ℕ × (ℕ × (List (List ℕ) × List (List Row))))))))))
    (coded× (coded_list (coded_list coded_ℕ)) (coded× (coded_list tree_code) (coded× (coded_list coded_ℕ) (coded× (coded_list coded_bool)
    (coded× (coded_list (coded_list action_code)) (coded× (coded_list (coded_list coded_ℕ)) (coded× (coded_list coded_ℕ)
    (coded× coded_ℕ (coded× (coded_list (coded_list coded_ℕ)) (coded_list (coded_list row_code)))))))))))
    (λ r. (r.names, (r.trees, (r.precedences, (r.skips, (r.actions, (r.members, (r.kinds, (r.modes, (r.mode_names, r.automata))))))))))
    (λ p. record { names = p.0; trees = p.1.0; precedences = p.1.1.0; skips = p.1.1.1.0; actions = p.1.1.1.1.0; members = p.1.1.1.1.1.0; kinds = p.1.1.1.1.1.1.0; modes = p.1.1.1.1.1.1.1.0; mode_names = p.1.1.1.1.1.1.1.1.0; automata = p.1.1.1.1.1.1.1.1.1 })
    (λ _. refl)

abbrev pub cut_code : Coded ModeCut
cut_code =
    code_by (ModeRules × (List ℕ × (ℕ × (Stack × (ℕ × (ℕ × Bool))))))
    (coded× modes_code (coded× (coded_list coded_ℕ) (coded× coded_ℕ (coded× stack_code (coded× coded_ℕ (coded× coded_ℕ coded_bool))))))
    (λ c. (c.rules, (c.text, (c.at, (c.stack, (c.steps, (c.steps_left, c.is_over)))))))
    (λ p. record { rules = p.0; text = p.1.0; at = p.1.1.0; stack = p.1.1.1.0; steps = p.1.1.1.1.0; steps_left = p.1.1.1.1.1.0; is_over = p.1.1.1.1.1.1 })
    (λ _. refl)

abbrev pub cutting_code : Coded Cutting
cutting_code =
    code_by (ModeRules × (List ℕ × (ℕ × (ℕ × (Memo × ℕ)))))
    (coded× modes_code (coded× (coded_list coded_ℕ) (coded× coded_ℕ (coded× coded_ℕ (coded× memo_code coded_ℕ)))))
    (λ c. (c.rules, (c.text, (c.at, (c.mode, (c.memo, c.steps))))))
    (λ p. record { rules = p.0; text = p.1.0; at = p.1.1.0; mode = p.1.1.1.0; memo = p.1.1.1.1.0; steps = p.1.1.1.1.1 }) (λ _. refl)
