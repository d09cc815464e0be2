use Rattle.bajofeki_rules.proofs.ByteRuns.{plain_lanes}
use Rattle.bajofeki_rules.proofs.runs.plain_run.Goals as goal

pub returns : goal.returns
returns c =
    let found = plain_lanes c.args.bytes.now c.args.at c.first_set.result c.requires c.first_set.ensures in
    record { short = found.0; plain = found.1 }
