use Rattle.std.proofs.Common.{◌<◌, ◌^◌, ◌∙◌, arith, ap, length, length-append, [], ◌∷◌}
use Rattle.lalrpop_emit.specs.Internal.Lists.{list_numbers}
use Rattle.lalrpop_emit.proofs.AheadLists.{IsPlaced, both_more, counted_more, placed_runs, placed_stored, storable_more, waiting_more}
use Rattle.lalrpop_emit.proofs.ExactErrors.{fit_more}
use Rattle.lalrpop_emit.proofs.ModeTables.{lists_more}
use Rattle.lalrpop_emit.proofs.table_lists.mode_tables.Goals as goal

pub loop-mode-preserved : goal.loop-mode-preserved
loop-mode-preserved c =
    let tables = c.loop-mode.tables.items in
    let aheads = c.loop-mode.aheads.items in
    let mode = c.loop-mode.mode in
    let made = c.in_ok-made in
    let so_far = c.loop-mode.invariant in
    let ahead = c.placed-ahead.result in
    let more = c.push-in-loop-mode.new.self.items in
    let grown = c.in_ok-push-2.ensures.items in
    let before = c.loop-mode.waiting in
    let small : before < 2 ^ 64 = omega (arith, so_far.few, c.loop-mode-test.true, c.loop-mode.auto.mode-end, c.requires.few_modes) in
    let placed : IsPlaced made.made.ahead ahead before =
    record {
      start = c.placed-ahead.ensures.numbers.0;
      width = c.placed-ahead.ensures.numbers.1;
      ends = c.placed-ahead.ensures.numbers.2;
      waiting = c.placed-ahead.ensures.numbers.3;
      before_is = c.placed-ahead.ensures.before;
      cells = c.placed-ahead.ensures.numbers.4;
    } in
    record {
      modes = omega (arith, ap length c.in_ok-push.ensures.items, length-append tables (made.made.table ∷ []), so_far.modes);
      tables = lists_more c.args.rules.now tables c.push.new.self.items made.made.table mode c.in_ok-push.ensures.items so_far.modes so_far.tables made.ensures.table;
      all = omega (arith, ap length grown, length-append aheads (ahead ∷ []), so_far.all);
      ahead =
          both_more tables c.push.new.self.items made.made.table aheads more ahead mode c.in_ok-push.ensures.items grown so_far.modes so_far.all so_far.ahead
          (placed_runs made.made.ahead ahead before placed (list_numbers made.made.table) made.ensures.ahead);
      storable = storable_more aheads more ahead grown so_far.storable (placed_stored made.made.ahead ahead before placed made.ensures.storable small);
      counted = counted_more aheads more ahead grown so_far.counted (placed.before_is ∙ so_far.waiting);
      waiting = omega (arith, waiting_more aheads more ahead grown, so_far.waiting);
      few = omega (arith, so_far.few, placed.waiting, made.ensures.storable.waiting);
      fit = λ m below. fit_more c.args.rules.now mode m so_far.fit made.ensures.fits below;
    }
