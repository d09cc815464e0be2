use Rattle.std.proofs.Common.{◌≡◌, ◌∙◌, ap, length, subst, sym, arith}
use Rattle.lalrpop_dfa.proofs.Ranked.{written}
use Rattle.lalrpop_verdicts.specs.Internal.Classes.{AreSplit, AreWithin}
use Rattle.lalrpop_verdicts.specs.Internal.Rounds.{IsRound}
use Rattle.lalrpop_verdicts.specs.Internal.Shortest.{AreKept}
use Rattle.lalrpop_verdicts.proofs.RoundLaws.{first_round, leads_within}
use Rattle.lalrpop_verdicts.proofs.ShortestLaws.{split_round}
use Rattle.lalrpop_verdicts.proofs.classes.first_classes.Goals as goal

pub longest_lengths-requires-clause-within : goal.longest_lengths-requires-clause-within
longest_lengths-requires-clause-within c =
    let d = c.args.dfa.now in
    let leads = c.requires.leads in
    let long : length d ≡ length c.deref-2.result.now = sym (ap length c.deref-2.ensures.value ∙ c.in_ok-shortest.ensures.same_length) in
    λ v m. subst (AreWithin v.items) long (leads_within d leads.values c.args.table.now c.requires.well_formed leads.tried leads.leads v m)

pub returns : goal.returns
returns c =
    let d = c.args.dfa.now in
    let old = c.in_ok-classes.classes.items in
    let len = c.in_ok-classes.classes.len in
    let one = c.split.new.firsts in
    let two = c.split-2.new.firsts in
    let short = c.in_ok-shortest.shortest.items in
    let long = c.in_ok-longest_lengths.field-0.items in
    let on : AreSplit old short one = subst (λ m. AreSplit m short one) c.deref_mut.ensures.value (subst (λ ks. AreSplit c.deref_mut.result.now ks one) c.deref.ensures.value c.in_ok-split.ensures) in
    let count : len ≡ length old = omega (arith, c.deref_mut.ensures.len, ap length c.deref_mut.ensures.value) in
    let is = written one old len on.same_length count in
    let first : IsRound d one = split_round d old short one (first_round d old c.in_ok-classes.ensures) c.in_ok-shortest.ensures on in
    let kept : AreKept d long = c.in_ok-longest_lengths.ensures d c.requires.leads c.requires.well_formed (subst (AreKept d) (sym c.deref-2.ensures.value) c.in_ok-shortest.ensures) in
    let more : AreSplit one long two = subst (λ m. AreSplit m long two) (c.deref_mut-2.ensures.value ∙ is) (subst (λ ks. AreSplit c.deref_mut-2.result.now ks two) c.deref-3.ensures.value c.in_ok-split-2.ensures) in
    let next : len ≡ length one = omega (arith, count, on.same_length) in
    rw (is, written two one len more.same_length next) (split_round d one long two first kept more)
