use Rattle.std.proofs.Common.{map}
use Rattle.std.proofs.lemmas.Result.{IfOk-weaker}
use Rattle.lalrpop_lexer.specs.Joined.{plain}
use Rattle.lalrpop_lexer.proofs.NeighbourLaws.{parted_without}
use Rattle.uses_lexer.proofs.join_tokens.written.Goals as goal

pub returns-clause-cut_back : goal.returns-clause-cut_back
returns-clause-cut_back c =
    let lexer = c.args.lexer.now in
    let separator = plain c.args.separator.now in
    let tokens = map plain c.args.tokens.now in
    IfOk-weaker c.joined.result _ _
    (λ text joined. (joined.written, (joined.tokens, parted_without lexer.trees lexer.precedences separator tokens joined.written joined.parted)))
    (rw c.in_ok-neighbours.ensures.lexer at c.joined.ensures.text)

pub returns-clause-error : goal.returns-clause-error
returns-clause-error c = rw c.in_ok-neighbours.ensures.lexer at c.joined.ensures.error
