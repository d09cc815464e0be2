use Rattle.std.proofs.Common.{◌≡◌, ◌∙◌, ap, length, subst, sym}
use Rattle.std.proofs.lemmas.List.{length-map}
use Rattle.std.proofs.lemmas.Result.{IfOk-weaker}
use Rattle.lalrpop_verdicts.specs.Internal.Classes.{AreWithin}
use Rattle.lalrpop_verdicts.specs.Internal.Longest.{stop_at}
use Rattle.lalrpop_verdicts.proofs.LongestLaws.{bounds_kept, stops_kept}
use Rattle.lalrpop_verdicts.proofs.classes.longest.longest_lengths.Goals as goal

pub longest-requires-clause-within : goal.longest-requires-clause-within
longest-requires-clause-within c =
    let long : length c.args.shortest.now ≡ length c.in_ok-stops.field-0.items = sym (ap length c.in_ok-stops.ensures ∙ length-map c.args.shortest.now stop_at) in
    λ v m. subst (AreWithin v.items) long (c.requires.within v m)

pub returns : goal.returns
returns c =
    let table = c.args.table.now in
    let stops = c.in_ok-stops.field-0.items in
    IfOk-weaker c.longest.result _ _
    (λ lengths s d leads formed same. bounds_kept d leads.values table stops lengths.items formed leads.tried leads.leads (stops_kept d c.args.shortest.now stops same c.in_ok-stops.ensures) s)
    c.longest.ensures
