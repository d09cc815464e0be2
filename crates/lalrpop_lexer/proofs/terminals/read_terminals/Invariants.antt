use Rattle.std.proofs.Common.{◌≡◌, ℕ, List, ◌++◌, length, map}
use Rattle.bajofeki_rules.specs.Lines.{lines}
use Rattle.lalrpop_lexer.specs.Terminals.{AreTerminals}
use Rattle.lalrpop_lexer.proofs.terminals.read_terminals.Given as goal

-- the lines so far are terminals
abbrev pub invariant-loop-line : goal.invariant-loop-line
invariant-loop-line l =
    (done : List (List ℕ)) × ((lines l.bytes ≡ done ++ lines l.rest)
    × AreTerminals done l.regexs.items (map (λ p. p.0) l.precedences.items))

abbrev pub decreases-loop-line : goal.decreases-loop-line
decreases-loop-line l = length l.rest
