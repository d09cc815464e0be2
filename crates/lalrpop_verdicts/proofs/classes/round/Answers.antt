use Rattle.std.proofs.Common.{◌<◌, length, map, arith}
use Rattle.std.proofs.lemmas.List.{length-map}
use Rattle.lalrpop_verdicts.specs.Internal.Classes.{leads_row}
use Rattle.lalrpop_verdicts.proofs.NextClasses.{next_push}
use Rattle.lalrpop_verdicts.proofs.classes.round.Goals as goal

pub loop-state-preserved : goal.loop-state-preserved
loop-state-preserved c =
    let classes = c.args.classes.now in
    let table = c.args.table.now in
    let l = c.loop-state in
    let within : l.state < length (map (leads_row classes) table) = omega (arith, length-map table (leads_row classes)) in
    let next = next_push (map (leads_row classes) table) classes c.requires.own l.state within l.moved l.next.items l.invariant c.in_ok-next_class.field-0 c.next_class.new.moved c.in_ok-next_class.ensures in
    rw c.in_ok-push.ensures.items next
