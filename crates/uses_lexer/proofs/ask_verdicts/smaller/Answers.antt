use Rattle.std.proofs.Common.{◌≤◌, List, length, Ok, Err, sym}
use Rattle.std.specs.Prelude.{Result, IfOk}
use Rattle.lalrpop_dfa.specs.Dfa.{Row, IsWellFormed}
use Rattle.lalrpop_verdicts.specs.Smallest.{AnswerAlike, IsSmallest}
use Rattle.uses_lexer.proofs.ask_verdicts.smaller.Goals as goal

fewer : {E : Type 0} (d : List Row) (r : Result (List Row) E) → IfOk r (AnswerAlike d) → IfOk r IsSmallest → IfOk r (λ least. IsWellFormed d → length least ≤ length d)
fewer d (Ok least) alike smallest = λ h. smallest d h (λ w. sym (alike w))
fewer d (Err e) alike smallest = tt

pub returns-clause-fewer : goal.returns-clause-fewer
returns-clause-fewer c = fewer c.args.dfa.now c.minimized.result c.minimized.ensures.alike c.minimized.ensures.smallest
