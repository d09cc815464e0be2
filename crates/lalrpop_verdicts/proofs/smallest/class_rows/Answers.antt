use Rattle.std.proofs.Common.{◌≡◌, ◌<◌, ◌≤◌, ◌+◌, ◌∙◌, ◌∷◌, [], List, ℕ, length, slice_index, ap, subst, arith}
use Rattle.lalrpop_verdicts.specs.Internal.ClassRows.{AreMet, AreMetInTurn, AreNumbered, IsClassRow, IsNumberOf}
use Rattle.lalrpop_verdicts.proofs.ClassWalks.{reached_few, read_index, walk_more, walk_start}
use Rattle.lalrpop_verdicts.proofs.PushedNumbers.{pushed_length}
use Rattle.lalrpop_verdicts.proofs.smallest.class_rows.Goals as goal

pub loop-alloc-init : goal.loop-alloc-init
loop-alloc-init c =
    let classes = c.args.classes.items in
    let numbers = c.number.new.self.numbers.items in
    let states = c.number.new.self.states.items in
    let n = c.in_ok-number.field-0 in
    let none = c.in_ok-met.ensures.none in
    let same_classes = c.in_ok-number.ensures.classes ∙ c.in_ok-met.ensures.classes in
    let numbered = subst (λ (cs : List ℕ). AreNumbered cs numbers states) same_classes c.in_ok-number.ensures.numbered in
    let met : AreMet (λ q. q ≡ 0) [] states = subst (λ (old : List ℕ). AreMet (λ q. q ≡ 0) old states) none c.in_ok-number.ensures.met in
    let first : IsNumberOf classes states 0 n = subst (λ (cs : List ℕ). IsNumberOf cs states 0 n) same_classes c.in_ok-number.ensures.number in
    let turn : AreMetInTurn [] (n ∷ []) states = subst (λ (old : List ℕ). AreMetInTurn old (n ∷ []) states) none c.in_ok-number.ensures.turn in
    record {
      classes = same_classes;
      numbered = numbered;
      walk = rw c.new-writer.ensures.rows (walk_start c.args.dfa.now classes numbers states c.requires.classes numbered met n first turn);
      empty = c.new-writer.ensures.tests;
    }

pub loop-alloc-smaller : goal.loop-alloc-smaller
loop-alloc-smaller c =
    let d = c.args.dfa.now in
    let rows = c.loop-alloc.writer.rows in
    let states = c.loop-alloc.met.states.items in
    let row = c.in_ok-write_row.ensures.row in
    let l : length rows < length states = omega (arith, c.loop-alloc-test.true, c.len.ensures, c.len-in-loop-alloc.ensures, c.loop-alloc.met.states.ok.0) in
    let few : length states ≤ length d = reached_few d c.args.classes.items states c.loop-alloc.invariant.walk.reached in
    let more : length c.write_row.new.writer.rows ≡ length rows + 1 = ap length row.1 ∙ pushed_length rows row.0 in
    omega (arith, l, few, more)

pub loop-alloc-preserved : goal.loop-alloc-preserved
loop-alloc-preserved c =
    let d = c.args.dfa.now in
    let classes = c.args.classes.items in
    let rows = c.loop-alloc.writer.rows in
    let old = c.loop-alloc.met.states.items in
    let new = c.write_row.new.met.states.items in
    let numbers = c.write_row.new.met.numbers.items in
    let p = c.index-state.result.now in
    let i = c.loop-alloc.invariant in
    let row = c.in_ok-write_row.ensures.row in
    let l : length rows < length old = omega (arith, c.loop-alloc-test.true, c.len.ensures, c.len-in-loop-alloc.ensures, c.loop-alloc.met.states.ok.0) in
    let is : p ≡ slice_index old (length rows) = read_index old c.len-in-loop-alloc-2.result (length rows) p c.len-in-loop-alloc-2.ensures l c.index-state.ensures in
    let same_classes = c.in_ok-write_row.ensures.classes ∙ i.classes in
    let numbered = subst (λ (cs : List ℕ). AreNumbered cs numbers new) same_classes c.in_ok-write_row.ensures.numbered in
    let here : IsClassRow d classes new p row.0 = subst (λ (cs : List ℕ). IsClassRow d cs new p row.0) i.classes row.2 in
    record {
      classes = same_classes;
      numbered = numbered;
      walk = rw row.1 (walk_more d classes numbers old new rows p row.0 c.requires.classes i.walk numbered l is c.in_ok-write_row.ensures.met here row.3);
      empty = c.in_ok-write_row.ensures.empty;
    }
