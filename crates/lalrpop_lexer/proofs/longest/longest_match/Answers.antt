use Rattle.lalrpop_hir.proofs.Strongest.{IsOnlyStrongest-from_longest}
use Rattle.lalrpop_lexer.proofs.longest.longest_match.Goals as goal

pub returns-clause-strongest : goal.returns-clause-strongest
returns-clause-strongest c =
    let built = c.in_ok-dfa.ensures.ok in
    IsOnlyStrongest-from_longest (λ s. s.now) _ _ c.args.text.now c.interpret.result built.1 (c.interpret.ensures.answer _ _ built.2)
