use Rattle.std.proofs.Common.{refl, Some}
use Rattle.lalrpop_hir.proofs.Strongest.{IsOnlyStrongest-from_longest}
use Rattle.lalrpop_dfa.proofs.Recognized.{on_words}
use Rattle.lalrpop_lexer.proofs.lexer.Lexer.token.Goals as goal

pub returns-in-Some-clause-token : goal.returns-in-Some-clause-token
returns-in-Some-clause-token c =
    let built = c.self.invariant.0 in
    let longest = c.in-Some.ensures.answer _ _ (on_words _ _ _ built.stands) in
    rw (← c.self.view_is) (refl, longest, IsOnlyStrongest-from_longest (λ s. s.now) _ _ c.args.text.now (Some c.in-Some.found) built.no_clash longest)

pub returns-in-None-clause-none : goal.returns-in-None-clause-none
returns-in-None-clause-none c = rw (← c.self.view_is) (c.in-None.ensures.answer _ _ (on_words _ _ _ c.self.invariant.0.stands))
