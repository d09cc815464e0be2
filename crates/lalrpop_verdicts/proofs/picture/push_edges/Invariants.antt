use Rattle.std.proofs.Common.{◌≡◌, ◌++◌, string_bytes, drop, flat_map, filter}
use Rattle.lalrpop_verdicts.specs.Picture.{edge_line, is_live_at}
use Rattle.lalrpop_verdicts.proofs.picture.push_edges.Given as goal

-- with what is left the text is complete
abbrev pub invariant-loop-to : goal.invariant-loop-to
invariant-loop-to l =
    string_bytes l.text ++ flat_map (edge_line l.from l.tests l.other) (filter (is_live_at l.dfa) (drop l.to-index l.to-items))
    ≡ string_bytes l.initial.text ++ flat_map (edge_line l.from l.tests l.other) (filter (is_live_at l.dfa) l.to-items)
