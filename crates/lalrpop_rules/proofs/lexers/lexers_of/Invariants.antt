use Rattle.std.proofs.Common.{◌≡◌, length, map}
use Rattle.lalrpop_rules.proofs.ModeByMode.{NoClashBefore}
use Rattle.lalrpop_rules.specs.Internal.Lexers.{AreLexers, seen}
use Rattle.lalrpop_rules.proofs.lexers.lexers_of.Given as goal

abbrev pub invariant-loop-mode : goal.invariant-loop-mode
invariant-loop-mode l =
    let r = seen l.regexs (map (λ p. p.0) l.precedences) (map (λ k. k.modes.items) l.known) l.kinds l.modes in
    AreLexers r l.all.items × (length l.all.items ≡ l.mode) × NoClashBefore r l.mode
