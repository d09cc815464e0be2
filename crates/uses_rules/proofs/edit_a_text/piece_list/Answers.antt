use Rattle.std.proofs.Common.{length, ap, arith}
use Rattle.std.proofs.lemmas.Result.{IfOk-weaker}
use Rattle.bajofeki.proofs.Holding.{whole_pieces}
use Rattle.uses_rules.proofs.edit_a_text.piece_list.Goals as goal

pub returns-clause-all : goal.returns-clause-all
returns-clause-all c =
    let text = c.text.result.now in
    IfOk-weaker c.pieces.result _ _ (λ ys are. whole_pieces c.args.lexed.now (length text) ys.items (omega (arith, ap length c.text.ensures.text)) are)
    c.pieces.ensures.pieces
