use Rattle.std.proofs.Common.{◌≡◌, ◌≢◌, Bool, true, false, refl, sym, ap, ◌∙◌}
use Rattle.std.specs.Bool.{Decides, MatchBool}
use Rattle.std.specs.Cmp.{booleans_Decides}
use Rattle.std.proofs.lemmas.Bool.{false≢true}
use Rattle.std.proofs.lemmas.Bool.Decides.{Decides-eqb}
use Rattle.std.proofs.lemmas.Slice.Eq.{bytes_eq-Decides, slice_eq-Decides}
use Rattle.bajofeki_rules.specs.declared.action.Action.{Action}
use Rattle.bajofeki_rules.specs.declared.action.Action.TheVariants.{Mode, Push, Pop}
use Rattle.bajofeki_rules.specs.contracts.action.ActionPartialEq.TheImpl.{eq-value}
use Rattle.lalrpop_review.specs.Apart.{Told}
use Rattle.lalrpop_review.specs.Internal.Meanings.{meant}
use Rattle.lalrpop_review.specs.declared.apart.Meaning.{Meaning}
use Rattle.lalrpop_review.proofs.apart.is_same.Goals as goal
use Rattle.lalrpop_review.proofs.apart.is_same.Goals.{then-eq, else-eq}

-- two actions are equal exactly if `==` says so
decides : (a b : Action) → Decides (eq-value.it a b) (a ≡ b)
decides (Mode m) (Mode n) = let d = Decides-eqb m n in (λ is. ap Mode (d.0 is), λ e. d.1 (cc e))
decides (Mode m) (Push n) = (λ is. absurd (false≢true is), λ e. absurd (cc))
decides (Mode m) Pop = (λ is. absurd (false≢true is), λ e. absurd (cc))
decides (Push m) (Mode n) = (λ is. absurd (false≢true is), λ e. absurd (cc))
decides (Push m) (Push n) = let d = Decides-eqb m n in (λ is. ap Push (d.0 is), λ e. d.1 (cc e))
decides (Push m) Pop = (λ is. absurd (false≢true is), λ e. absurd (cc))
decides Pop (Mode n) = (λ is. absurd (false≢true is), λ e. absurd (cc))
decides Pop (Push n) = (λ is. absurd (false≢true is), λ e. absurd (cc))
decides Pop Pop = (λ is. refl, λ e. refl)

by_actions : (r : Bool) (m o : Meaning) → m.name.now ≡ o.name.now → m.is_skipped ≡ o.is_skipped → Decides r (m.actions.now ≡ o.actions.now)
    → MatchBool r (meant m ≡ meant o) (meant m ≢ meant o)
by_actions true m o name skipped d = let actions = d.0 refl in cc
by_actions false m o name skipped d = λ same. false≢true (d.1 (ap (λ (t : Told). t.actions) same))

pub returns-then-one-other : goal.returns-then-one-other
returns-then-one-other c = elim c.if-eq.branch [
  | then-eq w ↦
      by_actions c.eq-then-one-other.result c.args.one.now c.args.other.now
      ((bytes_eq-Decides c.args.one.now.name.now c.args.other.now.name.now).0 (sym c.eq.ensures ∙ w.if-eq.true))
      ((booleans_Decides c.args.one.now.is_skipped c.args.other.now.is_skipped).0 (sym w.value-is ∙ c.if-one-other.true))
      (slice_eq-Decides decides c.args.one.now.actions.now c.args.other.now.actions.now c.eq-then-one-other.result c.eq-then-one-other.ensures)
  | else-eq w ↦ absurd (false≢true (sym w.if-eq.false ∙ sym w.value-is ∙ c.if-one-other.true))
]
