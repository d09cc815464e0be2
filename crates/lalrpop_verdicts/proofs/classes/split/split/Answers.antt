use Rattle.std.proofs.Common.{◌≢◌, ◌∙◌, ◌+◌, ◌<◌, List, ℕ, length, refl, subst, sym, arith, get_or-set_other}
use Rattle.std.proofs.Math.ListN.{length-set}
use Rattle.std.proofs.lemmas.Grind.{take-set_at}
use Rattle.lalrpop_verdicts.specs.Internal.Classes.{IsPart}
use Rattle.lalrpop_verdicts.proofs.SplitLaws.{AreMoved, moved_push}
use Rattle.lalrpop_verdicts.proofs.classes.split.split.Goals as goal

pub loop-place-preserved : goal.loop-place-preserved
loop-place-preserved c =
    let firsts = c.args.firsts.now in
    let keys = c.args.keys.now in
    let now = c.loop-place.firsts in
    let place = c.loop-place.place in
    let x = c.in_ok-firsts.field-0 in
    let moved = c.loop-place.moved in
    let moved2 = c.part_of.new.moved in
    let inv = c.loop-place.invariant in
    let within : place < length firsts = omega (arith, c.loop-place-test.true, inv.same_length) in
    let part = subst (λ (f : ℕ). IsPart keys f place x moved moved2) (inv.behind place (omega arith)) c.in_ok-firsts.ensures in
    record {
      same_length = length-set now place x ∙ inv.same_length;
      parts = subst (λ (xs : List ℕ). AreMoved firsts keys (place + 1) moved2 xs) (sym (take-set_at now place (place + 1) x refl (omega (arith, within, inv.same_length))))
          (moved_push firsts keys place moved _ inv.parts c.requires.firsts within x moved2 part);
      behind = λ p l. (let apart : p ≢ place = omega arith in get_or-set_other now place p x 0 apart ∙ inv.behind p (omega arith));
    }
