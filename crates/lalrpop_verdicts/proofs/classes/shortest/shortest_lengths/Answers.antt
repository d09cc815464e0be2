use Rattle.std.proofs.Common.{subst, sym}
use Rattle.std.proofs.lemmas.Result.{IfOk-weaker}
use Rattle.lalrpop_verdicts.specs.Internal.Classes.{AreWithin}
use Rattle.lalrpop_verdicts.proofs.RoundLaws.{leads_within}
use Rattle.lalrpop_verdicts.proofs.ShortestLaws.{lengths_kept, starts_kept}
use Rattle.lalrpop_verdicts.proofs.classes.shortest.shortest_lengths.Goals as goal

pub shortest-requires-clause-within : goal.shortest-requires-clause-within
shortest-requires-clause-within c =
    let d = c.args.dfa.now in
    let leads = c.requires.leads in
    let kept = starts_kept d c.in_ok-starts.field-0.items c.in_ok-starts.ensures in
    λ v m. subst (AreWithin v.items) (sym kept.same_length) (leads_within d leads.values c.args.table.now c.requires.well_formed leads.tried leads.leads v m)

pub returns : goal.returns
returns c =
    let d = c.args.dfa.now in
    let leads = c.requires.leads in
    let starts = c.in_ok-starts.field-0.items in
    let kept = starts_kept d starts c.in_ok-starts.ensures in
    IfOk-weaker c.shortest.result _ _ (λ lengths s. lengths_kept d leads.values c.args.table.now starts lengths.items c.requires.well_formed leads.tried leads.leads kept s) c.shortest.ensures
