use Rattle.bajofeki_c.proofs.look.lookahead_in.Goals as goal

pub returns : goal.returns
returns c = record { answer = rw c.lexer.ensures.trees at c.lookahead.ensures.answer }
