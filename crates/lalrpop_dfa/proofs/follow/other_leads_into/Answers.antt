use Rattle.std.proofs.Common.{◌≡◌, ◌<◌, ◌∙◌, length, sym, subst, arith}
use Rattle.lalrpop_dfa.specs.Internal.Marks.{Marked}
use Rattle.lalrpop_dfa.proofs.EdgeTargets.{the_some}
use Rattle.lalrpop_dfa.proofs.Following.{other_read}
use Rattle.lalrpop_dfa.proofs.Marking.{marked_read, read_marked}
use Rattle.lalrpop_dfa.proofs.follow.other_leads_into.Goals as goal

pub returns : goal.returns
returns c =
    let d = c.args.dfa.now in
    let marks = c.args.marks.now in
    let r = the_some _ _ c.state.ensures.at in
    let o : c.index.result ≡ r.0.other = c.index.ensures.value ∙ c.other_edge.ensures.other ∙ r.1.1.other in
    let within : c.index.result < length marks = omega (arith, o, c.requires.same_length, c.state.ensures.well_formed.others_in c.args.state r.0 r.1.0) in
    other_read d marks c.args.state r.0 _ r.1.0 (
      λ t. subst (Marked marks) o (marked_read marks c.index.result within t),
      λ h. read_marked marks c.index.result (subst (Marked marks) (sym o) h),
    )
