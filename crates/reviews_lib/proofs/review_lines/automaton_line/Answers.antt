use Rattle.std.proofs.lemmas.Result.{IfOk-weaker}
use Rattle.reviews_lib.proofs.review_lines.automaton_line.Goals as goal

pub returns : goal.returns
returns c =
    IfOk-weaker c.format.result _ _ (λ line e. simp (c.file-file.ensures, c.in_ok-mode.ensures, c.in_ok-states.ensures, c.in_ok-look.ensures) at e) c.format.ensures.ok
