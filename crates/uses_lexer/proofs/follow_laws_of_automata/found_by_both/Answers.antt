use Rattle.std.proofs.Common.{[], ◌∷◌}
use Rattle.lalrpop_build.proofs.Agreeing.{agree}
use Rattle.uses_lexer.proofs.follow_laws_of_automata.found_by_both.Goals as goal

pub returns : goal.returns
returns c = record { agree = λ t ps compiled stands. agree t ps c.args.text.now _ _ (c.in_ok-alone.ensures.answer t compiled) (c.interpret-of_list.ensures.answer (t ∷ []) ps stands) }
