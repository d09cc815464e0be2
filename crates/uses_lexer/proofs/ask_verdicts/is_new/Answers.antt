use Rattle.std.proofs.Common.{◌≡◌, length, true, rules, arith}
use Rattle.uses_lexer.proofs.ask_verdicts.is_new.Goals as goal

pub returns-clause-new : goal.returns-clause-new
returns-clause-new c = λ e ts ps recognizes j w won. (
    let (x, ((k, l, at), by)) = (c.in_ok-winners.ensures.winners ts ps recognizes).all j w won in
    let yes : c.is_empty.result ≡ true = cc in
    let none : length c.in_ok-winners.field-0.items ≡ 0 = search (rules, yes) in
    absurd (omega (arith, l, none)))
