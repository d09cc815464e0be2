use Rattle.std.proofs.Common.{◌∙◌, sym}
use Rattle.std.proofs.lemmas.Bool.{false≢true}
use Rattle.std.proofs.lemmas.Bool.Decides.{Decides-ltb}
use Rattle.lalrpop_rule_file.proofs.file.RuleFile.is_never_left.Goals as goal

pub returns-then-can_be_left : goal.returns-then-can_be_left
returns-then-can_be_left c =
    let left = rw c.deref.ensures.value at c.can_be_left.ensures in
    (λ e. absurd (false≢true e), λ so. absurd (so.1.1 (left.0 c.if-can_be_left.true)))

pub returns : goal.returns
returns c =
    let left = rw c.deref.ensures.value at c.can_be_left.ensures in (
      λ holds. ((Decides-ltb 0 c.args.mode).0 holds, (c.if-not-is_entered.false, λ can. false≢true (sym c.if-can_be_left.false ∙ left.1 can))),
      λ so. (Decides-ltb 0 c.args.mode).1 so.0,
    )
