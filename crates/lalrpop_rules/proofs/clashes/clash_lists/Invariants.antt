use Rattle.std.proofs.Common.{◌≡◌, length, map}
use Rattle.lalrpop_rules.specs.Internal.Lexers.{seen}
use Rattle.lalrpop_rules.proofs.ClashLists.{AreListsOf}
use Rattle.lalrpop_rules.proofs.clashes.clash_lists.Given as goal

abbrev pub invariant-loop-mode : goal.invariant-loop-mode
invariant-loop-mode l =
    let r = seen l.regexs (map (λ p. p.0) l.precedences) (map (λ k. k.modes.items) l.known) l.kinds l.modes in
    AreListsOf r (map (λ cs. cs.items) l.all.items) × (length (map (λ cs. cs.items) l.all.items) ≡ l.mode)
