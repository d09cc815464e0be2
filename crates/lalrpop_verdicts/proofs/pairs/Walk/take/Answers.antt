use Rattle.std.proofs.Common.{◌≡◌, ◌≤◌, true, false, refl, arith}
use Rattle.lalrpop_verdicts.specs.declared.pairs.Pair.{Pair}
use Rattle.lalrpop_verdicts.specs.Internal.Pairs.{ends_at, number_of}
use Rattle.lalrpop_verdicts.proofs.MetPairs.{not_false, not_true}
use Rattle.lalrpop_verdicts.proofs.PairTurns.{turn_skip, turn_add, turn_next, turn_over}
use Rattle.lalrpop_verdicts.proofs.Stretches.{edge_within, edges_lead}
use Rattle.lalrpop_verdicts.proofs.pairs.Walk.take.Goals as goal

pub goes_on-requires : goal.goes_on-requires
goes_on-requires c =
    let turn = c.args.turn.now in
    edge_within c.args.self.left.now turn.left.state turn.left.tests.now turn.left.other c.args.value c.stretch_at-left.result.last c.stretch_at-left.result.target c.requires.left_edges c.stretch_at-left.ensures.some c.stretch_at-left.ensures.leads

pub returns-then-not-goes_on-clause-turn : goal.returns-then-not-goes_on-clause-turn
returns-then-not-goes_on-clause-turn c =
    let follow = c.args.self.follow in
    let l = c.args.self.left.now in
    let r = c.args.self.right.now in
    let turn = c.args.turn.now in
    let n = number_of turn.from in
    let last = c.stretch_at-left.result.last in
    let target = c.stretch_at-left.result.target in
    let ends : ends_at follow l target ≡ true = not_false (ends_at follow l target) c.if-not-goes_on.ensures in
    let leads = edges_lead l turn.left.state turn.left.tests.now turn.left.other c.args.value c.stretch_at-left.result.last c.stretch_at-left.result.target c.requires.left_edges c.stretch_at-left.ensures.leads in
    let skipped = turn_skip follow l r c.args.met.now.pairs.items n turn.left.state turn.right.state c.args.value c.requires.turn target last c.stretch_at-left.ensures.some leads ends in
    turn_next follow l r c.args.met.now.pairs.items n turn.left.state turn.right.state last skipped c.next_character.result c.next_character.ensures

pub returns-then-not-goes_on-clause-done : goal.returns-then-not-goes_on-clause-done
returns-then-not-goes_on-clause-done c =
    let follow = c.args.self.follow in
    let l = c.args.self.left.now in
    let r = c.args.self.right.now in
    let turn = c.args.turn.now in
    let n = number_of turn.from in
    let last = c.stretch_at-left.result.last in
    let target = c.stretch_at-left.result.target in
    let ends : ends_at follow l target ≡ true = not_false (ends_at follow l target) c.if-not-goes_on.ensures in
    let leads = edges_lead l turn.left.state turn.left.tests.now turn.left.other c.args.value c.stretch_at-left.result.last c.stretch_at-left.result.target c.requires.left_edges c.stretch_at-left.ensures.leads in
    let skipped = turn_skip follow l r c.args.met.now.pairs.items n turn.left.state turn.right.state c.args.value c.requires.turn target last c.stretch_at-left.ensures.some leads ends in
    turn_over follow l r c.args.met.now.pairs.items n turn.left.state turn.right.state last skipped c.next_character.result c.next_character.ensures

pub returns-clause-turn : goal.returns-clause-turn
returns-clause-turn c =
    let follow = c.args.self.follow in
    let l = c.args.self.left.now in
    let r = c.args.self.right.now in
    let turn = c.args.turn.now in
    let n = number_of turn.from in
    let last = c.min.result in
    let x : Pair = record { left = c.stretch_at-left.result.target; right = c.stretch_at-right.result.target; from = turn.from; value = c.args.value } in
    let on : ends_at follow l x.left ≡ false = not_true (ends_at follow l x.left) c.if-not-goes_on.ensures in
    let left_last : last ≤ c.stretch_at-left.result.last = omega (arith, c.min.ensures) in
    let right_last : last ≤ c.stretch_at-right.result.last = omega (arith, c.min.ensures) in
    let some : c.args.value ≤ last = omega (arith, c.min.ensures, c.stretch_at-left.ensures.some, c.stretch_at-right.ensures.some) in
    let leads_left = edges_lead l turn.left.state turn.left.tests.now turn.left.other c.args.value c.stretch_at-left.result.last c.stretch_at-left.result.target c.requires.left_edges c.stretch_at-left.ensures.leads in
    let leads_right = edges_lead r turn.right.state turn.right.tests.now turn.right.other c.args.value c.stretch_at-right.result.last c.stretch_at-right.result.target c.requires.right_edges c.stretch_at-right.ensures.leads in
    let added = turn_add follow l r c.args.met.now.pairs.items n turn.left.state turn.right.state c.args.value c.requires.turn x refl refl c.requires.character on last some
    (λ k a b. leads_left k a (omega arith)) (λ k a b. leads_right k a (omega arith)) c.add.new.self.pairs.items c.in_ok-add.ensures.added in
    turn_next follow l r c.add.new.self.pairs.items n turn.left.state turn.right.state last added c.next_character-2.result c.next_character-2.ensures

pub returns-clause-done : goal.returns-clause-done
returns-clause-done c =
    let follow = c.args.self.follow in
    let l = c.args.self.left.now in
    let r = c.args.self.right.now in
    let turn = c.args.turn.now in
    let n = number_of turn.from in
    let last = c.min.result in
    let x : Pair = record { left = c.stretch_at-left.result.target; right = c.stretch_at-right.result.target; from = turn.from; value = c.args.value } in
    let on : ends_at follow l x.left ≡ false = not_true (ends_at follow l x.left) c.if-not-goes_on.ensures in
    let left_last : last ≤ c.stretch_at-left.result.last = omega (arith, c.min.ensures) in
    let right_last : last ≤ c.stretch_at-right.result.last = omega (arith, c.min.ensures) in
    let some : c.args.value ≤ last = omega (arith, c.min.ensures, c.stretch_at-left.ensures.some, c.stretch_at-right.ensures.some) in
    let leads_left = edges_lead l turn.left.state turn.left.tests.now turn.left.other c.args.value c.stretch_at-left.result.last c.stretch_at-left.result.target c.requires.left_edges c.stretch_at-left.ensures.leads in
    let leads_right = edges_lead r turn.right.state turn.right.tests.now turn.right.other c.args.value c.stretch_at-right.result.last c.stretch_at-right.result.target c.requires.right_edges c.stretch_at-right.ensures.leads in
    let added = turn_add follow l r c.args.met.now.pairs.items n turn.left.state turn.right.state c.args.value c.requires.turn x refl refl c.requires.character on last some
    (λ k a b. leads_left k a (omega arith)) (λ k a b. leads_right k a (omega arith)) c.add.new.self.pairs.items c.in_ok-add.ensures.added in
    turn_over follow l r c.add.new.self.pairs.items n turn.left.state turn.right.state last added c.next_character-2.result c.next_character-2.ensures
