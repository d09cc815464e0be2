use Rattle.lalrpop_dense.specs.Rules.{IsBuiltFrom}
use Rattle.lalrpop_lexer.proofs.lexer.Lexer.matches.Goals as goal

pub returns-clause-no_clash : goal.returns-clause-no_clash
returns-clause-no_clash c =
    let built : IsBuiltFrom c.args.self.now.trees c.args.self.now.precedences c.args.self.now.automaton = rw (← c.self.view_is) c.self.invariant.0 in
    built.no_clash
