use Rattle.std.proofs.Common.{◌≡◌, ◌++◌, string_bytes, drop}
use Rattle.lalrpop_verdicts.specs.Picture.{edges_from}
use Rattle.lalrpop_verdicts.proofs.picture.push_all_edges.Given as goal

-- with what is left the text is complete
abbrev pub invariant-loop-number : goal.invariant-loop-number
invariant-loop-number l =
    string_bytes l.text ++ edges_from l.dfa l.number (drop l.number l.dfa)
    ≡ string_bytes l.initial.text ++ edges_from l.dfa 0 l.dfa
