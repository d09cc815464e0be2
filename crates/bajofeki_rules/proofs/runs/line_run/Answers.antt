use Rattle.bajofeki_rules.proofs.ByteRuns.{line_lanes}
use Rattle.bajofeki_rules.proofs.runs.line_run.Goals as goal

pub returns : goal.returns
returns c =
    let found = line_lanes c.args.bytes.now c.args.at c.first_set.result c.requires c.first_set.ensures in
    record { short = found.0; line = found.1 }
