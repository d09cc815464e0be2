use Rattle.std.proofs.lemmas.Result.{IfOk-weaker}
use Rattle.bajofeki_rules.specs.Stack.{start}
use Rattle.lalrpop_emit.proofs.BytePieceLaws.{AreNumbered, byte_pieces-unique, pieces_numbered}
use Rattle.lalrpop_emit.proofs.numbers.LexerNumbers.pieces.Goals as goal

pub returns-clause-only : goal.returns-clause-only
returns-clause-only c =
    let n = c.args.self.now in
    IfOk-weaker c.all_pieces.result _ _
    (λ all are r is others is_whole too. byte_pieces-unique r n.kinds 1024 c.args.text.now is_whole all.is_whole 0 start others all.pieces.items too (are r is)) c.all_pieces.ensures.pieces

pub returns-clause-of_rules : goal.returns-clause-of_rules
returns-clause-of_rules c =
    let n = c.args.self.now in
    IfOk-weaker c.all_pieces.result _ _
    (λ all are r is items end too.
    let same : AreNumbered n.kinds all.is_whole all.pieces.items items = pieces_numbered r n.kinds 1024 c.args.text.now all.is_whole 0 start all.pieces.items items end (are r is) too in
    same.same)
    c.all_pieces.ensures.pieces

pub returns-clause-whole : goal.returns-clause-whole
returns-clause-whole c =
    let n = c.args.self.now in
    IfOk-weaker c.all_pieces.result _ _
    (λ all are r is items end too whole.
    let same : AreNumbered n.kinds all.is_whole all.pieces.items items = pieces_numbered r n.kinds 1024 c.args.text.now all.is_whole 0 start all.pieces.items items end (are r is) too in
    same.whole whole)
    c.all_pieces.ensures.pieces
