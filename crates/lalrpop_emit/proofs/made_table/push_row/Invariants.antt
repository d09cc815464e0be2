use Rattle.std.proofs.Common.{◌≡◌, ◌++◌, ◌*◌, ◌+◌, length, map, take}
use Rattle.lalrpop_dfa.specs.Dfa.{step}
use Rattle.lalrpop_emit.specs.Internal.MadeRows.{row_number}
use Rattle.lalrpop_emit.proofs.made_table.push_row.Given as goal

-- where the characters so far lead
abbrev pub invariant-loop-first : goal.invariant-loop-first
invariant-loop-first l =
    l.cells.items ≡ l.initial.cells.items ++ map (λ c. row_number l.dfa (step l.dfa l.state c) * (length l.firsts + 1)) (take l.first-index l.firsts)
