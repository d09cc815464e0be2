use Rattle.std.proofs.Common.{rules, ◌≤◌, ◌<◌, length, arith}
use Rattle.lalrpop_build.proofs.Marking.{marked_none, marked_more, marked_all}
use Rattle.lalrpop_build.proofs.alphabet.signatures.mark_cells.Goals as goal

pub loop-cell-init : goal.loop-cell-init
loop-cell-init c = record {
  marked = marked_none c.args.from c.args.from c.args.number c.args.signatures.now.items (omega arith);
  within = λ l. absurd (omega (arith, l));
}

pub loop-cell-preserved : goal.loop-cell-preserved
loop-cell-preserved c =
    let after : c.args.from ≤ c.loop-cell.cell = search rules in
    let within : c.loop-cell.cell < length c.loop-cell.signatures.items = search rules in
    record {
      marked = marked_more c.args.from c.loop-cell.cell c.args.number c.args.signatures.now.items c.loop-cell.signatures.items c.index_mut.result.now (record { lists = c.add.new.numbers }) c.loop-cell.invariant.marked after within c.index_mut.ensures.value c.in_ok-add.ensures;
      within = λ l. omega (arith, c.loop-cell-test.true);
    }

pub returns : goal.returns
returns c = marked_all c.args.from c.args.until c.loop-cell.cell c.args.number c.args.signatures.now.items c.loop-cell.signatures.items c.loop-cell.invariant.marked (omega arith) c.loop-cell.invariant.within
