use Rattle.std.proofs.Common.{◌≡◌, ◌++◌, string_bytes, drop, map}
use Rattle.lalrpop_verdicts.specs.Picture.{states_from}
use Rattle.lalrpop_verdicts.proofs.picture.push_states.Given as goal

-- with what is left the text is complete
abbrev pub invariant-loop-number : goal.invariant-loop-number
invariant-loop-number l =
    string_bytes l.text ++ states_from (map string_bytes l.names) l.number (drop l.number l.dfa)
    ≡ string_bytes l.initial.text ++ states_from (map string_bytes l.names) 0 l.dfa
