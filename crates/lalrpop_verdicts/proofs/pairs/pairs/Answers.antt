use Rattle.std.proofs.Common.{◌≡◌, ◌∙◌, ◌+◌, ◌<◌, ◌≤◌, ◌*◌, List, length, Some, sym, ap, subst, arith}
use Rattle.std.specs.Prelude.{slice_get}
use Rattle.std.proofs.lemmas.Option.{slice_get-get_or}
use Rattle.lalrpop_verdicts.specs.declared.pairs.Pair.{Pair}
use Rattle.lalrpop_verdicts.specs.Internal.Pairs.{IsTurn}
use Rattle.lalrpop_verdicts.proofs.PairWalks.{states_within}
use Rattle.lalrpop_verdicts.proofs.PairTurns.{first_turn, pair_turn, few_pairs, walk_done}
use Rattle.lalrpop_verdicts.proofs.pairs.pairs.Goals as goal

pub expand-requires-clause-left_within : goal.expand-requires-clause-left_within
expand-requires-clause-left_within c = c.states.ensures.well_formed.some

pub expand-requires-clause-right_within : goal.expand-requires-clause-right_within
expand-requires-clause-right_within c = c.states-2.ensures.well_formed.some

pub expand-requires-clause-turn : goal.expand-requires-clause-turn
expand-requires-clause-turn c =
    subst (λ (ps : List Pair). IsTurn c.args.follow c.args.left.now c.args.right.now ps 0 0 0 0) (sym c.in_ok-met.ensures.pairs) (first_turn c.args.follow c.args.left.now c.args.right.now)

pub expand-requires-in-loop-number-clause-left_within : goal.expand-requires-in-loop-number-clause-left_within
expand-requires-in-loop-number-clause-left_within c =
    let pairs = c.loop-number.met.pairs.items in
    let number = c.loop-number.number in
    let x = c.index-pair.result.now in
    let within : number < length pairs = omega arith in
    let at : slice_get pairs number ≡ Some x = slice_get-get_or pairs number x within ∙ ap (λ y. Some y) (sym c.index-pair.ensures) in
    (states_within c.args.follow c.args.left.now c.args.right.now pairs (number + 1) 0 c.loop-number.invariant.taken c.states.ensures.well_formed c.states-2.ensures.well_formed number x at).0

pub expand-requires-in-loop-number-clause-right_within : goal.expand-requires-in-loop-number-clause-right_within
expand-requires-in-loop-number-clause-right_within c =
    let pairs = c.loop-number.met.pairs.items in
    let number = c.loop-number.number in
    let x = c.index-pair.result.now in
    let within : number < length pairs = omega arith in
    let at : slice_get pairs number ≡ Some x = slice_get-get_or pairs number x within ∙ ap (λ y. Some y) (sym c.index-pair.ensures) in
    (states_within c.args.follow c.args.left.now c.args.right.now pairs (number + 1) 0 c.loop-number.invariant.taken c.states.ensures.well_formed c.states-2.ensures.well_formed number x at).1

pub expand-requires-in-loop-number-clause-turn : goal.expand-requires-in-loop-number-clause-turn
expand-requires-in-loop-number-clause-turn c =
    let pairs = c.loop-number.met.pairs.items in
    let number = c.loop-number.number in
    let x = c.index-pair.result.now in
    let within : number < length pairs = omega arith in
    let at : slice_get pairs number ≡ Some x = slice_get-get_or pairs number x within ∙ ap (λ y. Some y) (sym c.index-pair.ensures) in
    pair_turn c.args.follow c.args.left.now c.args.right.now pairs number x c.loop-number.invariant.taken at

pub loop-number-smaller : goal.loop-number-smaller
loop-number-smaller c =
    let pairs = c.loop-number.met.pairs.items in
    let number = c.loop-number.number in
    let within : number < length pairs = omega arith in
    let few : length pairs ≤ length c.args.right.now * length c.args.left.now =
    few_pairs c.args.follow c.args.left.now c.args.right.now pairs (number + 1) 0 c.loop-number.invariant.taken c.states.ensures.well_formed c.states-2.ensures.well_formed in
    omega arith

pub returns : goal.returns
returns c =
    record { pairs = walk_done c.args.follow c.args.left.now c.args.right.now c.loop-number.met.pairs.items c.loop-number.number c.loop-number.invariant.taken (omega arith) }
