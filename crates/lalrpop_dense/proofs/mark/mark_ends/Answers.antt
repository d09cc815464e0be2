use Rattle.std.proofs.Common.{◌≡◌, ℕ, ◌+◌, ◌-◌, ◌<◌, List, length, take, get_or, add-zero, arith, refl, sym, ap, subst, ◌∙◌}
use Rattle.std.proofs.lemmas.List.{length-set}
use Rattle.lalrpop_dense.specs.Internal.Fused.{StaysOn}
use Rattle.lalrpop_dense.specs.Internal.Table.{numbers_of}
use Rattle.lalrpop_dense.proofs.Walks.{walked_on}
use Rattle.lalrpop_dense.proofs.Marking.{IsMarked, marked_start, in_fused_row, marked_boundary, marked_next, marked_byte, byte_in_row, marked_stays, kept_few}
use Rattle.lalrpop_dense.proofs.mark.mark_ends.Goals as goal

pub marking-init : goal.marking-init
marking-init g c =
    let e = c.args.engine.now in
    record {
      marked = marked_start e.fused.now e.layout.now (numbers_of e.cells.now) e.dfa.now c.args.text.now c.args.from e.fused.now.first
          c.requires.table c.requires.fused c.utf8.text c.states-states.ensures.well_formed.some c.requires.boundary refl;
      kept = omega arith;
      read = omega arith;
      cost = omega arith;
      limit = omega (arith, c.min-end.ensures, c.requires.boundary.0);
      room = refl;
    }

pub cell-next-requires : goal.cell-next-requires
cell-next-requires g c =
    let e = c.args.engine.now in
    let text = c.args.text.now in
    let place = c.eights.at + c.eight.step in
    let ascii = c.are_ascii.ensures c.if-are_ascii.true in
    let low : get_or c.as_bytes-bytes.result.now place 0 < 128 = ascii.1 place (omega arith) (omega (arith, c.eight-test.true)) in
    byte_in_row e.fused.now e.layout.now (numbers_of e.cells.now) e.dfa.now text c.args.from place c.eight.row (take c.eight.count c.eight.marks) c.as_bytes-bytes.result.now c.as_slice-blocks.result.now (g.R.Rows.numbers c.args.cells)
    c.requires.table c.requires.fused c.as_bytes-bytes.ensures.value c.as_slice-blocks.ensures.value c.requires.cells c.eight.invariant.marked low

pub eight-init : goal.eight-init
eight-init g c =
    let e = c.args.engine.now in
    let m = c.eights.invariant in
    record {
      marked = subst (λ (n : ℕ). IsMarked e.fused.now e.layout.now e.dfa.now c.args.text.now c.args.from n c.eights.row (take c.eights.count c.eights.marks)) (sym (add-zero c.eights.at)) m.marked;
      kept = m.kept;
      few = omega arith;
      read = m.read;
      cost = omega (arith, m.cost);
      room = m.room;
    }

pub eight-preserved : goal.eight-preserved
eight-preserved g c =
    let e = c.args.engine.now in
    let text = c.args.text.now in
    let place = c.eights.at + c.eight.step in
    let i = c.eight.invariant in
    let ascii = c.are_ascii.ensures c.if-are_ascii.true in
    let low : get_or c.as_bytes-bytes.result.now place 0 < 128 = ascii.1 place (omega arith) (omega (arith, c.eight-test.true)) in
    let room : c.eight.count < length c.eight.marks = omega (arith, c.eights-test.true, c.eight-test.true, i.few, i.room, c.eights.invariant.room) in
    let there : c.args.from + (place - c.args.from) ≡ place = omega (arith, i.read, i.cost) in
    let one = kept_few _ _ _ c.kept-count.ensures in
    record {
      marked = marked_byte e.fused.now e.layout.now (numbers_of e.cells.now) e.dfa.now text c.args.from place (c.eights.at + (c.eight.step + 1)) (place - c.args.from) c.eight.row c.cell-next.result c.eight.count c.kept-count.result c.eight.marks _
          c.as_bytes-bytes.result.now c.as_slice-blocks.result.now (g.R.Rows.numbers c.args.cells) c.requires.table c.requires.fused c.states-states.ensures.well_formed c.utf8.text
          c.as_bytes-bytes.ensures.value c.as_slice-blocks.ensures.value c.requires.cells i.marked (omega (arith, ascii.0, c.eight-test.true, c.min-end.ensures)) low (omega arith)
          c.cell-next.ensures c.if-next-eq0.false there room refl c.kept-count.ensures;
      kept = omega (arith, room, length-set c.eight.marks c.eight.count (record { place = place - c.args.from; number = c.eight.row }), one);
      few = omega (arith, i.few, one);
      read = omega (arith, i.read, one, c.tick.ensures.counted);
      cost = omega (arith, i.cost, c.tick.ensures.counted);
      room = length-set c.eight.marks c.eight.count _ ∙ i.room;
    }

pub eights-preserved : goal.eights-preserved
eights-preserved g c =
    let e = c.args.engine.now in
    let f = e.fused.now in
    let text = c.args.text.now in
    let to = c.stay_end-to.result in
    let i = c.eight.invariant in
    let ascii = c.are_ascii.ensures c.if-are_ascii.true in
    let all : c.eight.step ≡ 8 = omega (arith, c.eight-test.false, c.eight.auto.step-end) in
    let marked : IsMarked f e.layout.now e.dfa.now text c.args.from (c.eights.at + 8) c.eight.row (take c.eight.count c.eight.marks) =
    subst (λ (n : ℕ). IsMarked f e.layout.now e.dfa.now text c.args.from (c.eights.at + n) c.eight.row (take c.eight.count c.eight.marks)) all i.marked in
    let stays : StaysOn f c.eight.row text (c.eights.at + 8) to =
    subst (λ (xs : List ℕ). StaysOn f c.eight.row xs (c.eights.at + 8) to) c.as_bytes-bytes.ensures.value c.stay_end-to.ensures.stays in
    let on = c.stay_end-to.ensures.on in
    record {
      marked = marked_stays f e.layout.now (numbers_of e.cells.now) e.dfa.now text c.args.from (c.eights.at + 8) to c.eight.row (take c.eight.count c.eight.marks)
          c.requires.table c.requires.fused c.states-states.ensures.well_formed c.utf8.text marked on (omega (arith, c.stay_end-to.ensures.within, c.min-end.ensures)) stays;
      kept = i.kept;
      read = omega (arith, i.read, c.add_steps.ensures);
      cost = omega (arith, i.cost, all, on, c.add_steps.ensures);
      room = i.room;
      on = omega (arith, c.eights.invariant.on, on);
      within = c.stay_end-to.ensures.within;
    }

pub read_class-class-requires-clause-boundary : goal.read_class-class-requires-clause-boundary
read_class-class-requires-clause-boundary g c =
    let e = c.args.engine.now in
    marked_boundary e.fused.now e.layout.now e.dfa.now c.args.text.now c.args.from c.eights.at c.eights.row (take c.eights.count c.eights.marks) c.utf8.text c.eights.invariant.marked

pub cell-next-requires-in-marking : goal.cell-next-requires-in-marking
cell-next-requires-in-marking g c =
    let e = c.args.engine.now in
    let text = c.args.text.now in
    let read = c.read_class-class.ensures in
    let cells : g.R.Rows.numbers c.args.cells ≡ numbers_of e.fused.now.cells = c.requires.cells in
    let inside = in_fused_row e.fused.now e.layout.now (numbers_of e.cells.now) e.dfa.now text c.args.from c.eights.at c.eights.row c.read_class-class.result read.0 (take c.eights.count c.eights.marks)
    c.requires.table c.requires.fused c.eights.invariant.marked read.1.1 in
    omega (arith, inside, ap (length {A = ℕ}) cells)

pub returns-then-next-eq0-2-clause-cost : goal.returns-then-next-eq0-2-clause-cost
returns-then-next-eq0-2-clause-cost g c =
    let read = c.read_class-class.ensures in
    omega (arith, c.eights.invariant.cost, c.tick-in-marking.ensures.counted, walked_on c.args.text.now c.eights.at c.read_class-class.new.at read.0 read.1.0)

pub marking-smaller : goal.marking-smaller
marking-smaller g c =
    let read = c.read_class-class.ensures in
    omega (arith, c.if-at-end.false, c.min-end.ensures, c.eights.invariant.on, walked_on c.args.text.now c.eights.at c.read_class-class.new.at read.0 read.1.0)

pub marking-preserved : goal.marking-preserved
marking-preserved g c =
    let e = c.args.engine.now in
    let text = c.args.text.now in
    let i = c.eights.invariant in
    let read = c.read_class-class.ensures in
    let place = c.eights.at - c.args.from in
    let cells : g.R.Rows.numbers c.args.cells ≡ numbers_of e.fused.now.cells = c.requires.cells in
    let on : c.eights.at < c.read_class-class.new.at = walked_on text c.eights.at c.read_class-class.new.at read.0 read.1.0 in
    let room : c.eights.count < length c.eights.marks = omega (arith, c.if-marks-count-lt-EIGHT.false) in
    let there : c.args.from + place ≡ c.eights.at = omega (arith, i.read, i.cost) in
    let one = kept_few _ _ _ c.kept-count-in-marking.ensures in
    record {
      marked = marked_next e.fused.now e.layout.now (numbers_of e.cells.now) e.dfa.now text c.args.from c.eights.at c.read_class-class.new.at place c.eights.row c.cell-next-in-marking.result c.read_class-class.result read.0 c.eights.count
          c.kept-count-in-marking.result c.eights.marks _ c.requires.table c.requires.fused c.states-states.ensures.well_formed c.utf8.text i.marked read.1.0 read.1.1
          (c.cell-next-in-marking.ensures ∙ ap (λ (xs : List ℕ). get_or xs (c.eights.row + c.read_class-class.result) 0) cells) c.if-next-eq0-2.false there room refl c.kept-count-in-marking.ensures;
      kept = omega (arith, room, length-set c.eights.marks c.eights.count (record { place = place; number = c.eights.row }), one);
      read = omega (arith, i.read, one, c.tick-in-marking.ensures.counted);
      cost = omega (arith, i.cost, on, c.tick-in-marking.ensures.counted);
      limit = omega (arith, i.cost, c.if-at-end.false, c.tick-in-marking.ensures.counted);
      room = length-set c.eights.marks c.eights.count _ ∙ i.room;
    }
