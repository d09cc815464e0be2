use Rattle.std.proofs.Common.{string_bytes}
use Rattle.lalrpop_verdicts.proofs.Turns.{edges_turn}
use Rattle.lalrpop_verdicts.proofs.picture.push_all_edges.Goals as goal

pub loop-number-preserved : goal.loop-number-preserved
loop-number-preserved c =
    let l = c.loop-number in
    edges_turn c.args.dfa.now l.number (string_bytes l.text) (string_bytes c.push_row_edges.new.text) _ c.in_ok-push_row_edges.ensures l.invariant
