use Rattle.std.proofs.Common.{◌≡◌, ◌+◌, ◌∙◌, List, ℕ, ap, length, map, refl, subst, sym, arith}
use Rattle.std.proofs.lemmas.List.{length-map, length-replicate}
use Rattle.lalrpop_dfa.specs.Dfa.{step}
use Rattle.lalrpop_dfa.proofs.Ranked.{written}
use Rattle.lalrpop_verdicts.specs.Internal.Classes.{AreColumns}
use Rattle.lalrpop_verdicts.proofs.StretchLaws.{columns_more, columns_none}
use Rattle.lalrpop_verdicts.proofs.classes.stretches.alike.Goals as goal

pub loop-number-init : goal.loop-number-init
loop-number-init c = record {
  columns = columns_none c.args.dfa.now c.args.values.now c.in_ok-firsts.firsts.items (length c.args.values.now) refl (c.in_ok-firsts.ensures.items_if_clones_equal (λ y e. e));
  room = ap length (c.in_ok-targets.ensures.items_if_clones_equal (λ y e. e)) ∙ length-replicate (length c.args.values.now) 0;
}

pub loop-number-preserved : goal.loop-number-preserved
loop-number-preserved c =
    let d = c.args.dfa.now in
    let values = c.args.values.now in
    let firsts = c.loop-number.firsts in
    let parts = c.split.new.firsts in
    let targets = c.loop-number.targets in
    let keys = c.write_targets.new.targets in
    let inv = c.loop-number.invariant in
    let leads : keys ≡ map (step d c.loop-number.number) values = subst (λ n. keys ≡ map (step d n) values) c.new.ensures.value c.write_targets.ensures in
    let long : length keys ≡ length values = ap length leads ∙ length-map values (step d c.loop-number.number) in
    let keys_back = written keys targets.items targets.len (long ∙ sym inv.room) targets.ok.0 in
    let many : length parts ≡ length firsts.items = c.in_ok-split.ensures.same_length ∙ ap length c.deref_mut-in-loop-number.ensures.value in
    let parts_back = written parts firsts.items firsts.len many firsts.ok.0 in
    record {
      columns = subst (λ (xs : List ℕ). AreColumns d (c.loop-number.number + 1) values xs) (sym parts_back)
          (columns_more d c.loop-number.number values firsts.items keys parts c.deref_mut-in-loop-number.result.now c.deref.result.now
          inv.columns leads c.deref_mut-in-loop-number.ensures.value (c.deref.ensures.value ∙ keys_back) c.in_ok-split.ensures);
      room = ap length keys_back ∙ long;
    }

pub returns : goal.returns
returns c =
    let d = c.args.dfa.now in
    let all : c.loop-number.number ≡ length d = omega (arith, c.loop-number-test.false, c.states-number-end.ensures.states.same_length) in
    subst (λ n. AreColumns d n c.args.values.now c.loop-number.firsts.items) all c.loop-number.invariant.columns
