use Rattle.std.proofs.Common.{◌≡◌, List, ℕ, ◌∙◌, ap, length, map, subst, sym}
use Rattle.lalrpop_verdicts.specs.Internal.Classes.{AreClassesOf, AreWithin, leads_row}
use Rattle.lalrpop_verdicts.specs.Internal.Rounds.{AreOwnRows}
use Rattle.lalrpop_verdicts.proofs.RoundLaws.{last_round, leads_within, next_round, own_rows, room_shrinks}
use Rattle.lalrpop_dfa.proofs.Totals.{told_apart, told_same}
use Rattle.lalrpop_verdicts.proofs.classes.classes_by.Goals as goal

pub loop-classes-init : goal.loop-classes-init
loop-classes-init c = c.in_ok-classes.ensures

pub round-requires-clause-own : goal.round-requires-clause-own
round-requires-clause-own c =
    let table = c.args.table.now in
    let own = own_rows c.args.dfa.now c.requires.leads.values table c.loop-classes.classes.items c.requires.leads.leads c.loop-classes.invariant in
    subst (λ (cs : List ℕ). AreOwnRows (map (leads_row cs) table) cs) (sym c.deref.ensures.value) own

pub round-requires-clause-within : goal.round-requires-clause-within
round-requires-clause-within c =
    let d = c.args.dfa.now in
    let values = c.requires.leads.values in
    let tried = c.requires.leads.tried in
    let leads = c.requires.leads.leads in
    let table = c.args.table.now in
    let long : length d ≡ length c.deref.result.now = sym (ap length c.deref.ensures.value ∙ c.loop-classes.invariant.same_length) in
    λ v m. subst (λ n. AreWithin v.items n) long
    (leads_within d values table c.requires.well_formed tried leads v m)

pub returns-then-eq : goal.returns-then-eq
returns-then-eq c =
    let d = c.args.dfa.now in
    let values = c.requires.leads.values in
    let tried = c.requires.leads.tried in
    let leads = c.requires.leads.leads in
    let table = c.args.table.now in
    let classes = c.loop-classes.classes.items in
    let next = c.in_ok-next.next.items in
    let on = subst (λ (cs : List ℕ). AreClassesOf (map (leads_row cs) table) next) c.deref.ensures.value c.in_ok-next.ensures in
    let same : next ≡ classes = told_same next classes c.eq.result c.eq.ensures c.if-eq.true in
    record {
      classes = last_round d values table classes c.requires.well_formed tried leads c.loop-classes.invariant
          (subst (λ (xs : List ℕ). AreClassesOf (map (leads_row classes) table) xs) same on);
    }

pub loop-classes-smaller : goal.loop-classes-smaller
loop-classes-smaller c =
    let d = c.args.dfa.now in
    let values = c.requires.leads.values in
    let tried = c.requires.leads.tried in
    let leads = c.requires.leads.leads in
    let table = c.args.table.now in
    let classes = c.loop-classes.classes.items in
    let next = c.in_ok-next.next.items in
    let on = subst (λ (cs : List ℕ). AreClassesOf (map (leads_row cs) table) next) c.deref.ensures.value c.in_ok-next.ensures in
    room_shrinks d values table classes next c.requires.well_formed tried leads c.loop-classes.invariant on (told_apart next classes c.eq.result c.eq.ensures c.if-eq.false)

pub loop-classes-preserved : goal.loop-classes-preserved
loop-classes-preserved c =
    let d = c.args.dfa.now in
    let values = c.requires.leads.values in
    let tried = c.requires.leads.tried in
    let leads = c.requires.leads.leads in
    let table = c.args.table.now in
    let classes = c.loop-classes.classes.items in
    let next = c.in_ok-next.next.items in
    let on = subst (λ (cs : List ℕ). AreClassesOf (map (leads_row cs) table) next) c.deref.ensures.value c.in_ok-next.ensures in
    next_round d values table classes next c.requires.well_formed tried leads c.loop-classes.invariant on
