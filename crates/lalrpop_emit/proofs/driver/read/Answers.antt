use Rattle.std.proofs.Common.{◌+◌, arith}
use Rattle.lalrpop_emit.specs.Internal.Characters.{IsFollowing}
use Rattle.lalrpop_emit.proofs.CharacterBytes.{none_first, none_second, none_third, none_fourth, none_above, does_follow, none_follows, read_one, read_two, read_three, read_four}
use Rattle.lalrpop_emit.proofs.driver.read.Goals.{then-first-lt192-via-then-first-lt192, then-first-lt192-via-else-first-lt192+then-not-follows, then-first-ge248-via-then-first-ge248, then-first-ge248-via-else-first-ge248+then-not-follows-3}
use Rattle.lalrpop_emit.proofs.driver.read.Goals as goal

pub returns-then-first-lt128 : goal.returns-then-first-lt128
returns-then-first-lt128 c =
    read_one c.args.text.now c.args.at c.requires c.sized_character.result c.from-first.result c.from-first.ensures c.if-first-lt128.true c.sized_character.ensures

pub returns-then-first-lt192 : goal.returns-then-first-lt192
returns-then-first-lt192 c =
    elim c.then-first-lt192.branch [
      | then-first-lt192-via-then-first-lt192 w ↦ none_first c.args.text.now c.args.at c.requires (omega arith) (omega arith)
      | then-first-lt192-via-else-first-lt192+then-not-follows w ↦
          none_second c.args.text.now c.args.at c.requires (omega arith) (none_follows c.args.text.now (c.args.at + 1) w.follows.result w.follows.ensures w.if-not-follows.true)
    ]

pub returns-then-first-lt224 : goal.returns-then-first-lt224
returns-then-first-lt224 c =
    let text = c.args.text.now in
    let at = c.args.at in
    let follows1 : IsFollowing text (at + 1) = does_follow text (at + 1) c.follows.result c.follows.ensures c.if-not-follows.false in
    read_two text at c.requires c.sized_character-then-first-lt224.result c.from-first.result _ c.from-first.ensures (omega arith) (omega arith) follows1 (omega arith)
    c.sized_character-then-first-lt224.ensures

pub returns-then-not-follows-2 : goal.returns-then-not-follows-2
returns-then-not-follows-2 c =
    none_third c.args.text.now c.args.at c.requires (omega arith)
    (none_follows c.args.text.now (c.args.at + 2) c.follows-2.result c.follows-2.ensures c.if-not-follows-2.true)

pub returns-then-first-lt240 : goal.returns-then-first-lt240
returns-then-first-lt240 c =
    let text = c.args.text.now in
    let at = c.args.at in
    let follows1 : IsFollowing text (at + 1) = does_follow text (at + 1) c.follows.result c.follows.ensures c.if-not-follows.false in
    let follows2 : IsFollowing text (at + 2) = does_follow text (at + 2) c.follows-2.result c.follows-2.ensures c.if-not-follows-2.false in
    read_three text at c.requires c.sized_character-then-first-lt240.result c.from-first.result _ _ c.from-first.ensures (omega arith) (omega arith) follows1 (omega arith)
    follows2 (omega arith) c.sized_character-then-first-lt240.ensures

pub returns-then-first-ge248 : goal.returns-then-first-ge248
returns-then-first-ge248 c =
    elim c.then-first-ge248.branch [
      | then-first-ge248-via-then-first-ge248 w ↦ none_above c.args.text.now c.args.at c.requires (omega arith)
      | then-first-ge248-via-else-first-ge248+then-not-follows-3 w ↦
          none_fourth c.args.text.now c.args.at c.requires (omega arith)
          (none_follows c.args.text.now (c.args.at + 3) w.follows-else-first-ge248.result w.follows-else-first-ge248.ensures w.if-not-follows-3.true)
    ]

pub returns : goal.returns
returns c =
    let text = c.args.text.now in
    let at = c.args.at in
    let follows1 : IsFollowing text (at + 1) = does_follow text (at + 1) c.follows.result c.follows.ensures c.if-not-follows.false in
    let follows2 : IsFollowing text (at + 2) = does_follow text (at + 2) c.follows-2.result c.follows-2.ensures c.if-not-follows-2.false in
    let follows3 : IsFollowing text (at + 3) = does_follow text (at + 3) c.follows-else-first-ge248.result c.follows-else-first-ge248.ensures c.if-not-follows-3.false in
    read_four text at c.requires c.sized_character-2.result c.from-first.result _ _ _ c.from-first.ensures (omega arith) (omega arith) follows1 (omega arith) follows2 (omega arith)
    follows3 (omega arith) c.sized_character-2.ensures
