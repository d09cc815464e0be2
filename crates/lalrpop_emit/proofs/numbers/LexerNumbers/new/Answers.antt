use Rattle.std.proofs.Common.{◌≡◌, length, map, string_bytes, arith}
use Rattle.std.proofs.lemmas.List.{length-map}
use Rattle.lalrpop_emit.specs.Internal.Lists.{ahead_numbers, list_numbers}
use Rattle.lalrpop_emit.specs.NumberedRules.{NumberedRules}
use Rattle.lalrpop_emit.proofs.ExactErrors.{can_be_numbered}
use Rattle.lalrpop_emit.proofs.Storable.{AreMade, drivable, storable}
use Rattle.lalrpop_emit.proofs.numbers.LexerNumbers.new.Goals as goal

pub invariant_of-result : goal.invariant_of-result
invariant_of-result c =
    let lists = c.in_ok-lists in
    let n : NumberedRules = record {
      names = map (λ s. string_bytes s) c.in_ok-names.names.items;
      kinds = c.in_ok-kinds.kinds.items;
      skips = c.in_ok-skips.skips.items;
      first_actions = lists.lists.first_places.items;
      actions = lists.lists.numbers.items;
      tables = map list_numbers c.in_ok-made.made.tables.items;
      ahead = map ahead_numbers c.in_ok-made.made.aheads.items;
    } in
    let tables = c.in_ok-made.made.tables.items in
    let modes : length n.tables ≡ c.args.rules.now.modes = omega (arith, length-map c.in_ok-made.made.tables.items list_numbers, c.in_ok-made.ensures.modes) in
    let made : AreMade c.args.rules.now n = record {
      names = rw c.names.ensures.names at c.in_ok-names.ensures;
      good_names = c.in_ok-check_rules.ensures.names;
      few_names = c.in_ok-check_rules.ensures.few;
      kinds = rw c.names-2.ensures.names at c.in_ok-kinds.ensures.kinds;
      small_kinds = c.in_ok-kinds.ensures.small;
      all_skips = omega (arith, c.in_ok-skips.skips.small);
      first_actions = lists.ensures.first;
      small_places = lists.ensures.small.0;
      actions = lists.ensures.numbers;
      small_actions = lists.ensures.small.1;
      all_actions = omega (arith, lists.lists.numbers.small);
      below = lists.ensures.below;
      modes = modes;
      some_mode = c.in_ok-check_rules.ensures.modes.0;
      few_modes = c.in_ok-check_rules.ensures.modes.1;
      tables = c.in_ok-made.ensures.tables;
      all_ahead = omega (arith, length-map c.in_ok-made.made.aheads.items ahead_numbers, length-map tables list_numbers, c.in_ok-made.ensures.all, c.in_ok-made.ensures.modes);
      counted = c.in_ok-made.ensures.counted;
      run_ahead = c.in_ok-made.ensures.ahead;
      ahead = c.in_ok-made.ensures.storable;
    } in
    (storable c.args.rules.now n made, drivable c.args.rules.now n made)

pub returns-clause-storable : goal.returns-clause-storable
returns-clause-storable c = (invariant_of-result c).0

pub returns-clause-exact : goal.returns-clause-exact
returns-clause-exact c =
    let checked = c.in_ok-check_rules.ensures in
    can_be_numbered c.args.rules.now (record {
      some = checked.some;
      names = checked.names;
      skips = checked.skips;
      few = checked.few;
      few_modes = checked.modes.1;
      few_actions = c.in_ok-lists.ensures.few;
      fit = c.in_ok-made.ensures.fit;
    })
