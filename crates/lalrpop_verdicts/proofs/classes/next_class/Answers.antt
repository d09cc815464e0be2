use Rattle.std.proofs.Common.{◌≡◌, ◌≢◌, ℕ, ◌∙◌, ◌<◌, ap, length, map, get_or, refl, sym, true, None, arith}
use Rattle.std.specs.HashMap.{get}
use Rattle.std.specs.Option.{option_copied}
use Rattle.std.proofs.lemmas.List.{length-map}
use Rattle.lalrpop_verdicts.specs.Internal.Classes.{leads_row, list_eq, row_at}
use Rattle.lalrpop_verdicts.specs.Internal.Rounds.IsNextClass.{known, added}
use Rattle.lalrpop_verdicts.proofs.NextClasses.{row_of_state}
use Rattle.lalrpop_verdicts.proofs.classes.next_class.Goals as goal

pub lead_alike-requires-clause-one : goal.lead_alike-requires-clause-one
lead_alike-requires-clause-one c =
    let classes = c.args.classes.now in
    let table = c.args.table.now in
    let first = get_or classes c.args.state 0 in
    let low : first < length table = omega (arith, c.requires.own.least c.args.state (omega (arith, length-map table (leads_row classes)))) in
    let within = c.requires.within c.index-table-first.result (first, low, sym c.index-table-first.is) in
    rw c.deref.ensures.value within

pub lead_alike-requires-clause-other : goal.lead_alike-requires-clause-other
lead_alike-requires-clause-other c =
    let within = c.requires.within c.index-table-state.result (c.args.state, c.requires.state, sym c.index-table-state.is) in
    rw c.deref-else-first-state.ensures.value within

pub row_of-requires : goal.row_of-requires
row_of-requires c =
    let within = c.requires.within c.index-table-state-2.result (c.args.state, c.requires.state, sym c.index-table-state-2.is) in
    rw c.deref-2.ensures.value within

pub returns-in-Some : goal.returns-in-Some
returns-in-Some c =
    let classes = c.args.classes.now in
    let row = c.in_ok-row.row in
    let is : row.items ≡ row_at (map (leads_row classes) c.args.table.now) c.args.state =
    c.in_ok-row.ensures ∙ ap (map (λ t. get_or classes t 0)) c.deref-2.ensures.value ∙ sym (row_of_state classes c.args.table.now c.args.state c.index-table-state-2.result c.requires.state c.index-table-state-2.is) in
    known row is (sym c.in-Some.ensures.value) refl

pub returns : goal.returns
returns c =
    let classes = c.args.classes.now in
    let table = c.args.table.now in
    let state = c.args.state in
    let first = get_or classes state 0 in
    let f = λ (t : ℕ). get_or classes t 0 in
    let rows = map (leads_row classes) table in
    let row = c.in_ok-row.row in
    let low : first < length table = omega (arith, c.requires.own.least state (omega (arith, length-map table (leads_row classes)))) in
    let at_first = row_of_state classes table first c.index-table-first.result low c.index-table-first.is in
    let at_state = row_of_state classes table state c.index-table-state.result c.requires.state c.index-table-state.is in
    let is : row.items ≡ row_at rows state =
    c.in_ok-row.ensures ∙ ap (map f) c.deref-2.ensures.value ∙ sym (row_of_state classes table state c.index-table-state-2.result c.requires.state c.index-table-state-2.is) in
    let apart : row_at rows first ≢ row_at rows state = λ e.
    (let alike : c.lead_alike.result ≡ true = c.lead_alike.ensures.1 (ap (map f) c.deref.ensures.value ∙ sym at_first ∙ e ∙ at_state ∙ sym (ap (map f) c.deref-else-first-state.ensures.value)) in
    let not_alike = c.if-lead_alike.false in
    cc) in
    let none : get list_eq c.args.moved.now row ≡ None = sym c.get.ensures.value ∙ ap option_copied c.in_default.is in
    added apart row is none refl c.in_ok-insert.ensures.updates
