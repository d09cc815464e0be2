use Rattle.std.proofs.Common.{◌≡◌, Bool, true, false, refl, ap}
use Rattle.std.specs.Bool.{Decides, MatchBool}
use Rattle.std.proofs.lemmas.Bool.{false≢true}
use Rattle.std.proofs.lemmas.Bool.Decides.{Decides-eqb}
use Rattle.std.proofs.lemmas.Slice.Eq.{slice_eq-Decides}
use Rattle.lalrpop_rules.specs.Kinds.{AreOneKind}
use Rattle.bajofeki_rules.specs.declared.action.Action.{Action}
use Rattle.bajofeki_rules.specs.declared.action.Action.TheVariants.{Mode, Push, Pop}
use Rattle.bajofeki_rules.specs.declared.mode_rule.ModeRule.{ModeRule}
use Rattle.bajofeki_rules.specs.contracts.action.ActionPartialEq.TheImpl.{eq-value}
use Rattle.lalrpop_rules.specs.ModeSet.{AreOneModeKind}
use Rattle.lalrpop_rules.proofs.mode_kinds.are_one_mode_kind.Goals as goal

-- two actions are equal exactly if `==` says so
decides : (a b : Action) → Decides (eq-value.it a b) (a ≡ b)
decides (Mode m) (Mode n) = let d = Decides-eqb m n in (λ is. ap Mode (d.0 is), λ e. d.1 (cc e))
decides (Mode m) (Push n) = (λ is. absurd (false≢true is), λ e. absurd (cc))
decides (Mode m) Pop = (λ is. absurd (false≢true is), λ e. absurd (cc))
decides (Push m) (Mode n) = (λ is. absurd (false≢true is), λ e. absurd (cc))
decides (Push m) (Push n) = let d = Decides-eqb m n in (λ is. ap Push (d.0 is), λ e. d.1 (cc e))
decides (Push m) Pop = (λ is. absurd (false≢true is), λ e. absurd (cc))
decides Pop (Mode n) = (λ is. absurd (false≢true is), λ e. absurd (cc))
decides Pop (Push n) = (λ is. absurd (false≢true is), λ e. absurd (cc))
decides Pop Pop = (λ is. refl, λ e. refl)

by_actions : (r : Bool) (p q : ModeRule) → AreOneKind p.rule q.rule → Decides r (p.actions.now ≡ q.actions.now)
    → MatchBool r (AreOneModeKind p q) (¬ AreOneModeKind p q)
by_actions true p q kind d = record { kind = kind; actions = d.0 refl }
by_actions false p q kind d = λ one. false≢true (d.1 one.actions)

pub returns-then-are_one_kind : goal.returns-then-are_one_kind
returns-then-are_one_kind c =
    by_actions c.eq.result c.args.rule.now c.args.other.now c.if-are_one_kind.ensures
    (slice_eq-Decides decides c.args.rule.now.actions.now c.args.other.now.actions.now c.eq.result c.eq.ensures)
