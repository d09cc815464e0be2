use Rattle.std.proofs.Common.{ℕ, subst}
use Rattle.std.proofs.lemmas.List.{map-append}
use Rattle.lalrpop_lexer.specs.Internal.RunningOn.{AreRunningOn}
use Rattle.lalrpop_lexer.proofs.RunningOn.{one_list_more}
use Rattle.lalrpop_lexer.proofs.neighbours.Neighbours.new.Goals as goal

pub loop-second-preserved : goal.loop-second-preserved
loop-second-preserved c =
    let marks : AreRunningOn c.args.lexer.now c.loop-second.second c.in_ok-marks.marks.items =
    subst (λ (n : ℕ). AreRunningOn c.args.lexer.now n c.in_ok-marks.marks.items) c.new.ensures.value c.in_ok-marks.ensures.marks in
    rw c.in_ok-push.ensures.items (simp map-append (one_list_more c.args.lexer.now c.loop-second.second _ c.in_ok-marks.marks.items c.loop-second.invariant marks))
