use Rattle.lalrpop_review.proofs.ApartLaws.{mode_automaton}
use Rattle.lalrpop_review.proofs.automaton.automaton.Goals as goal

pub returns : goal.returns
returns c =
    record { recognizes = mode_automaton c.args.lexer.now c.args.mode _ _ _ _ c.lexer.ensures.trees c.lexer.ensures.precedences c.dense.ensures.built c.dfa.ensures.same }
