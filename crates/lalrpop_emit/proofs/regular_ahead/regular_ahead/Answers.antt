use Rattle.std.proofs.Common.{◌<◌, ◌≤◌, arith, refl, ◌+◌, ◌*◌}
use Rattle.std.proofs.Math.Nat.{le-mul_of_pos_right, mul-le-mul_right}
use Rattle.lalrpop_emit.specs.Internal.Lists.{list_numbers}
use Rattle.lalrpop_emit.proofs.RegularAhead.{ahead_right}
use Rattle.lalrpop_emit.proofs.regular_ahead.regular_ahead.Goals as goal

pub returns-clause-right : goal.returns-clause-right
returns-clause-right c =
    let width = c.args.table.now.width + 130 in
    record {
      right = ahead_right (list_numbers c.args.table.now) c.args.shape c.requires.regular c.requires.stride width refl c.in_ok-cells.cells.items c.in_ok-cells.ensures.cells c.requires.waiting c.requires.accept;
      few = omega (arith, c.requires.narrow);
    }

pub returns-clause-storable : goal.returns-clause-storable
returns-clause-storable c = record {
  start = (
      let width = c.args.table.now.width + 130 in
      let less : (c.args.shape.live + 1) * (width + 1) ≤ (2 * c.args.shape.live + 3) * (width + 1) = mul-le-mul_right (width + 1) (omega arith) in
      omega (arith, less, c.requires.few)
      );
  width = omega (arith, c.requires.narrow);
  ends = (
      let width = c.args.table.now.width + 130 in
      let less : (c.args.shape.live + 2) * (width + 1) ≤ (2 * c.args.shape.live + 3) * (width + 1) = mul-le-mul_right (width + 1) (omega arith) in
      omega (arith, less, c.requires.few)
      );
  waiting = (
      let rows = 2 * c.args.shape.live + 3 in
      let some : 0 < c.args.table.now.width + 131 = omega arith in
      omega (arith, le-mul_of_pos_right rows some, c.requires.few, c.requires.waiting)
      );
  before = omega arith;
  cells = c.in_ok-cells.ensures.small;
  all_cells = omega (arith, c.in_ok-cells.cells.small, c.in_ok-cells.cells.ok.0);
}
