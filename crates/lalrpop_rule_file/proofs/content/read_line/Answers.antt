use Rattle.std.proofs.Common.{refl}
use Rattle.lalrpop_rule_file.proofs.Stopping.{ends_reads}
use Rattle.lalrpop_rule_file.proofs.StoppingLaws.{fault_of_line, says_nothing_else}
use Rattle.lalrpop_rule_file.proofs.content.read_line.Goals as goal

pub column_of-requires : goal.column_of-requires
column_of-requires c =
    let stops = rw c.in-Err-Stopped.field-0-is at c.in-Err-Stopped.ensures.unread in ends_reads stops.reads

pub returns-in-Err-Stopped-clause-error : goal.returns-in-Err-Stopped-clause-error
returns-in-Err-Stopped-clause-error c =
    let content = c.in_ok-content in
    let stop = c.in-Err-Stopped in
    let none = rw stop.field-0-is at stop.ensures.none in
    let stops = rw stop.field-0-is at stop.ensures.unread in (
      refl,
      says_nothing_else c.args.line.now content.content.now content.ensures.content (none tt),
      fault_of_line c.args.line.now stop.stop.rest.now content.content.now c.column_of.result stop.stop.fault content.ensures.text content.ensures.content stops c.column_of.ensures,
    )
