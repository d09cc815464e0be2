use Rattle.std.proofs.Common.{◌≡◌, ℕ, ◌-◌, ◌<◌, ◌≤◌, ◌⊎◌, ◌++◌, List, length, take, drop, inl, inr, arith, refl, sym, ap, subst, ◌∙◌}
use Rattle.bajofeki.specs.declared.kept.Kept.{Kept}
use Rattle.bajofeki.specs.declared.block.Block.{Block}
use Rattle.bajofeki_rules.specs.Stack.{Stack, start}
use Rattle.lalrpop_rules.specs.Modes.{EachMode, ModeRules}
use Rattle.std.specs.Str.{IsCharBoundary}
use Rattle.bajofeki.specs.Internal.Kept.{KeptUpTo}
use Rattle.bajofeki.specs.declared.place.Place.{Place}
use Rattle.bajofeki.specs.Internal.Blocks.{pieces_in, sizes, after_pieces, AreMarked}
use Rattle.bajofeki.specs.Internal.Meeting.{AreOld, IsOldPlace, AreMetAfter}
use Rattle.bajofeki.specs.Internal.Cutting.{moved_place}
use Rattle.bajofeki.specs.Internal.Starting.{IsStart}
use Rattle.bajofeki.proofs.BlockLaws.{spot_within}
use Rattle.bajofeki.specs.declared.meet.Edit.{Edit}
use Rattle.bajofeki.specs.declared.change.Change.{Change}
use Rattle.bajofeki.specs.declared.edit.Start.{Start}
use Rattle.std.proofs.lemmas.List.{length-take-le}
use Rattle.bajofeki.proofs.LeastChanges.{least}
use Rattle.bajofeki.proofs.Paying.{all_paid}
use Rattle.bajofeki.specs.Internal.BlockPlaces.{AreSameAround}
use Rattle.bajofeki.proofs.LineLaws.{kept_boundaries}
use Rattle.bajofeki.proofs.Relexing.{all_kept, same_around, each_there, old_marked, old_fits, old_count, old_pieces, start_boundary, all_sizes, stacks_meet, new_blocks, changed}
use Rattle.bajofeki.proofs.edit.cut_anew.Goals as goal

-- where the cut begins, and what was cut from there on
record Begun (r : ModeRules) (text : List ℕ) (bs : List Block) (from : ℕ) (first : Start) (from_there : Place) : Type 0 where
  is_start : IsStart r bs from first
  at : from_there.at ≡ sizes (take first.spot.count (pieces_in bs))
  stack : from_there.stack ≡ after_pieces r (take first.spot.count (pieces_in bs)) start
  cut : (ks : List Kept) (to : ℕ) (t : Stack) → KeptUpTo r text from_there.at from_there.stack ks to t
      → KeptUpTo r text (sizes (take first.spot.count (pieces_in bs))) (after_pieces r (take first.spot.count (pieces_in bs)) start) ks to t

begun : (r : ModeRules) (text : List ℕ) (bs cs : List Block) (from : ℕ) (first : Start) (from_there : Place) → cs ≡ bs → IsStart r cs from first
    → from_there ≡ first.place → Begun r text bs from first from_there
begun r text bs cs from first from_there same is e =
    let s : IsStart r bs from first = subst (λ (xs : List Block). IsStart r xs from first) same is in
    let at : from_there.at ≡ sizes (take first.spot.count (pieces_in bs)) = ap (λ (p : Place). p.at) e ∙ s.place_at in
    let stack : from_there.stack ≡ after_pieces r (take first.spot.count (pieces_in bs)) start = ap (λ (p : Place). p.stack) e ∙ s.place_stack in
    record { is_start = s; at = at; stack = stack; cut = λ ks to t are. rw (← at, ← stack) are }

pub start_of-requires-clause-marked : goal.start_of-requires-clause-marked
start_of-requires-clause-marked c =
    let o = c.requires.old in
    subst (AreMarked c.args.lexer.now start) (sym c.deref.ensures.value)
    (old_marked c.args.lexer.now c.args.blocks.now.items c.args.text.now c.args.from c.args.to c.args.size o.0 o.1.0 o.1.1)

pub start_of-requires-clause-count : goal.start_of-requires-clause-count
start_of-requires-clause-count c =
    let o = c.requires.old in
    omega (
      arith,
      ap (λ (xs : List Block). length (pieces_in xs)) c.deref.ensures.value,
      old_count c.args.lexer.now c.args.blocks.now.items c.args.text.now c.args.from c.args.to c.args.size o.0 o.1.0 o.1.1,
    )

pub start_of-requires-clause-size : goal.start_of-requires-clause-size
start_of-requires-clause-size c =
    let o = c.requires.old in
    omega (
      arith,
      ap (λ (xs : List Block). sizes (pieces_in xs)) c.deref.ensures.value,
      old_fits c.args.lexer.now c.args.blocks.now.items c.args.text.now c.args.from c.args.to c.args.size o.0 o.1.0 o.1.1,
    )

pub cut_to_meet-requires-clause-pieces : goal.cut_to_meet-requires-clause-pieces
cut_to_meet-requires-clause-pieces c =
    let o = c.requires.old in
    subst (λ (xs : List Block). AreOld c.args.lexer.now c.args.text.now (record { from = c.args.from; to = c.args.to; size = c.args.size }) (pieces_in xs)) (sym c.deref-2.ensures.value)
    (old_pieces c.args.lexer.now c.args.blocks.now.items c.args.text.now c.args.from c.args.to c.args.size o.0 o.1.0 o.1.1)

pub cut_to_meet-requires-clause-count : goal.cut_to_meet-requires-clause-count
cut_to_meet-requires-clause-count c =
    let o = c.requires.old in
    omega (
      arith,
      ap (λ (xs : List Block). length (pieces_in xs)) c.deref-2.ensures.value,
      old_count c.args.lexer.now c.args.blocks.now.items c.args.text.now c.args.from c.args.to c.args.size o.0 o.1.0 o.1.1,
    )

pub cut_to_meet-requires-clause-size : goal.cut_to_meet-requires-clause-size
cut_to_meet-requires-clause-size c =
    let o = c.requires.old in
    omega (
      arith,
      ap (λ (xs : List Block). sizes (pieces_in xs)) c.deref-2.ensures.value,
      old_fits c.args.lexer.now c.args.blocks.now.items c.args.text.now c.args.from c.args.to c.args.size o.0 o.1.0 o.1.1,
    )

pub cut_to_meet-requires-clause-boundary : goal.cut_to_meet-requires-clause-boundary
cut_to_meet-requires-clause-boundary c =
    let text = c.args.text.now in
    let bs = c.args.blocks.now.items in
    let o = c.requires.old in
    let b = begun c.args.lexer.now text bs c.deref.result.now c.args.from c.in_ok-first.first c.in_ok-clone-2.field-0 c.deref.ensures.value c.in_ok-first.ensures.start
    c.in_ok-clone-2.ensures.cases in
    subst (IsCharBoundary text) (sym b.at)
    (start_boundary c.args.lexer.now bs text c.args.from c.args.to c.args.size o.0 o.1.0 o.1.1 c.utf8.text c.in_ok-first.first.spot.count b.is_start.within)

pub cut_to_meet-requires-clause-there : goal.cut_to_meet-requires-clause-there
cut_to_meet-requires-clause-there c =
    let r = c.args.lexer.now in
    let bs = c.args.blocks.now.items in
    let b = begun r c.args.text.now bs c.deref.result.now c.args.from c.in_ok-first.first c.in_ok-clone-2.field-0 c.deref.ensures.value c.in_ok-first.ensures.start
    c.in_ok-clone-2.ensures.cases in
    subst (EachMode (λ m. m < r.modes)) (sym b.stack)
    (each_there r (take c.in_ok-first.first.spot.count (pieces_in bs)) start c.modes-modes.ensures.within (omega (arith, c.modes-modes.ensures.count, c.modes-modes.ensures.some), tt))

pub cut_to_meet-requires-clause-cutter : goal.cut_to_meet-requires-clause-cutter
cut_to_meet-requires-clause-cutter c =
    let at = c.in_ok-clone-2.field-0.at in
    c.in_ok-cutter.ensures.ready at (drop at c.args.text.now)

pub put_pieces-requires-clause-marked : goal.put_pieces-requires-clause-marked
put_pieces-requires-clause-marked c =
    let o = c.requires.old in old_marked c.args.lexer.now c.args.blocks.now.items c.args.text.now c.args.from c.args.to c.args.size o.0 o.1.0 o.1.1

pub put_pieces-requires-clause-fits : goal.put_pieces-requires-clause-fits
put_pieces-requires-clause-fits c =
    let r = c.args.lexer.now in
    let text = c.args.text.now in
    let bs = c.args.blocks.now.items in
    let from = c.args.from in
    let o = c.requires.old in
    let n = c.in_ok-first.first.spot.count in
    let d = c.cut_to_meet.new.old.spot.count in
    let cut = c.cut_to_meet.new.cut.pieces.items in
    let there = c.cut_to_meet.new.cut.place in
    let met = c.in_ok-cut_to_meet.ensures in
    let b = begun r text bs c.deref.result.now from c.in_ok-first.first c.in_ok-clone-2.field-0 c.deref.ensures.value c.in_ok-first.ensures.start
    c.in_ok-clone-2.ensures.cases in
    let are = b.cut cut there.at there.stack met.cut in
    let behind : KeptUpTo r text there.at there.stack (drop d (pieces_in bs)) (length text) met.behind.0 =
    subst (λ (xs : List Block). KeptUpTo r text there.at there.stack (drop d (pieces_in xs)) (length text) met.behind.0) c.deref-2.ensures.value met.behind.1 in
    let all = all_sizes r bs text from c.args.to c.args.size o.0 o.1.0 o.1.1 n d cut there.at there.stack b.is_start.within are met.behind.0 behind in
    omega (arith, ap (λ (ls : List Kept). sizes (take n (pieces_in bs) ++ (ls ++ drop d (pieces_in bs)))) c.deref-3.ensures.value, all, o.1.1.fits_now)

pub put_pieces-requires-clause-boundaries : goal.put_pieces-requires-clause-boundaries
put_pieces-requires-clause-boundaries c =
    let r = c.args.lexer.now in
    let text = c.args.text.now in
    let bs = c.args.blocks.now.items in
    let from = c.args.from in
    let o = c.requires.old in
    let n = c.in_ok-first.first.spot.count in
    let d = c.cut_to_meet.new.old.spot.count in
    let cut = c.cut_to_meet.new.cut.pieces.items in
    let there = c.cut_to_meet.new.cut.place in
    let met = c.in_ok-cut_to_meet.ensures in
    let b = begun r text bs c.deref.result.now from c.in_ok-first.first c.in_ok-clone-2.field-0 c.deref.ensures.value c.in_ok-first.ensures.start
    c.in_ok-clone-2.ensures.cases in
    let are = b.cut cut there.at there.stack met.cut in
    let behind : KeptUpTo r text there.at there.stack (drop d (pieces_in bs)) (length text) met.behind.0 =
    subst (λ (xs : List Block). KeptUpTo r text there.at there.stack (drop d (pieces_in xs)) (length text) met.behind.0) c.deref-2.ensures.value met.behind.1 in
    subst (λ (ls : List Kept). (m : ℕ) → IsCharBoundary text (sizes (take m (take n (pieces_in bs) ++ (ls ++ drop d (pieces_in bs)))))) (sym c.deref-3.ensures.value)
    (kept_boundaries r text (take n (pieces_in bs) ++ (cut ++ drop d (pieces_in bs))) (length text) met.behind.0 c.utf8.text
    (all_kept r bs text from c.args.to c.args.size o.0 o.1.0 o.1.1 n d cut there.at there.stack b.is_start.within are met.behind.0 behind))

pub put_pieces-requires-clause-met : goal.put_pieces-requires-clause-met
put_pieces-requires-clause-met c =
    let r = c.args.lexer.now in
    let text = c.args.text.now in
    let bs = c.args.blocks.now.items in
    let from = c.args.from in
    let o = c.requires.old in
    let n = c.in_ok-first.first.spot.count in
    let d = c.cut_to_meet.new.old.spot.count in
    let cut = c.cut_to_meet.new.cut.pieces.items in
    let there = c.cut_to_meet.new.cut.place in
    let met = c.in_ok-cut_to_meet.ensures in
    let b = begun r text bs c.deref.result.now from c.in_ok-first.first c.in_ok-clone-2.field-0 c.deref.ensures.value c.in_ok-first.ensures.start
    c.in_ok-clone-2.ensures.cases in
    let are = b.cut cut there.at there.stack met.cut in
    let old : IsOldPlace r bs c.cut_to_meet.new.old = subst (λ (xs : List Block). IsOldPlace r xs c.cut_to_meet.new.old) c.deref-2.ensures.value met.old in
    subst (λ (ls : List Kept). (c.cut_to_meet.new.old.spot.block ≡ length bs)
    ⊎ (after_pieces r (take n (pieces_in bs) ++ ls) start ≡ after_pieces r (take d (pieces_in bs)) start)) (sym c.deref-3.ensures.value)
    (elim met.met [
      | inl last ↦ inl (last ∙ ap length c.deref-2.ensures.value)
      | inr same ↦ inr (stacks_meet r bs text from c.args.to c.args.size o.0 o.1.0 o.1.1 n d cut there.at there.stack b.is_start.within are c.cut_to_meet.new.old.place.stack old.stack same)
    ])

pub returns-clause-blocks : goal.returns-clause-blocks
returns-clause-blocks c =
    let r = c.args.lexer.now in
    let text = c.args.text.now in
    let bs = c.args.blocks.now.items in
    let from = c.args.from in
    let o = c.requires.old in
    let n = c.in_ok-first.first.spot.count in
    let d = c.cut_to_meet.new.old.spot.count in
    let cut = c.cut_to_meet.new.cut.pieces.items in
    let there = c.cut_to_meet.new.cut.place in
    let met = c.in_ok-cut_to_meet.ensures in
    let b = begun r text bs c.deref.result.now from c.in_ok-first.first c.in_ok-clone-2.field-0 c.deref.ensures.value c.in_ok-first.ensures.start
    c.in_ok-clone-2.ensures.cases in
    let are = b.cut cut there.at there.stack met.cut in
    let behind : KeptUpTo r text there.at there.stack (drop d (pieces_in bs)) (length text) met.behind.0 =
    subst (λ (xs : List Block). KeptUpTo r text there.at there.stack (drop d (pieces_in xs)) (length text) met.behind.0) c.deref-2.ensures.value met.behind.1 in
    let is : pieces_in c.put_pieces.new.blocks.items ≡ take n (pieces_in bs) ++ (cut ++ drop d (pieces_in bs)) =
    c.in_ok-put_pieces.ensures.pieces ∙ ap (λ (ls : List Kept). take n (pieces_in bs) ++ (ls ++ drop d (pieces_in bs))) c.deref-3.ensures.value in (
      met.behind.0,
      new_blocks r bs text from c.args.to c.args.size o.0 o.1.0 o.1.1 n d cut there.at there.stack b.is_start.within are c.put_pieces.new.blocks.items is met.behind.0
          c.in_ok-put_pieces.ensures.marked behind,
    )

pub returns-clause-counted : goal.returns-clause-counted
returns-clause-counted c =
    let r = c.args.lexer.now in
    let text = c.args.text.now in
    let bs = c.args.blocks.now.items in
    let from = c.args.from in
    let o = c.requires.old in
    let n = c.in_ok-first.first.spot.count in
    let d = c.cut_to_meet.new.old.spot.count in
    let cut = c.cut_to_meet.new.cut.pieces.items in
    let there = c.cut_to_meet.new.cut.place in
    let met = c.in_ok-cut_to_meet.ensures in
    let b = begun r text bs c.deref.result.now from c.in_ok-first.first c.in_ok-clone-2.field-0 c.deref.ensures.value c.in_ok-first.ensures.start
    c.in_ok-clone-2.ensures.cases in
    let are = b.cut cut there.at there.stack met.cut in
    let old : IsOldPlace r bs c.cut_to_meet.new.old = subst (λ (xs : List Block). IsOldPlace r xs c.cut_to_meet.new.old) c.deref-2.ensures.value met.old in
    let same : AreSameAround o.0 text (sizes (take n (pieces_in bs))) (sizes (take d (pieces_in bs))) (sizes (take n (pieces_in bs) ++ cut)) =
    same_around r bs text from c.args.to c.args.size o.0 o.1.0 o.1.1 n d cut there.at there.stack b.is_start.within are (omega (arith, met.replaced, old.at))
    (ap (moved_place from c.args.to c.args.size) (sym old.at) ∙ met.place) in
    c.in_ok-put_pieces.ensures.counted o.0 o.1.1.counted
    (subst (λ (ls : List Kept). AreSameAround o.0 text (sizes (take n (pieces_in bs))) (sizes (take d (pieces_in bs))) (sizes (take n (pieces_in bs) ++ ls))) (sym c.deref-3.ensures.value) same)

pub returns-clause-change : goal.returns-clause-change
returns-clause-change c = λ before t known.
    let r = c.args.lexer.now in
    let text = c.args.text.now in
    let bs = c.args.blocks.now.items in
    let from = c.args.from in
    let n = c.in_ok-first.first.spot.count in
    let d = c.cut_to_meet.new.old.spot.count in
    let cut = c.cut_to_meet.new.cut.pieces.items in
    let there = c.cut_to_meet.new.cut.place in
    let met = c.in_ok-cut_to_meet.ensures in
    let b = begun r text bs c.deref.result.now from c.in_ok-first.first c.in_ok-clone-2.field-0 c.deref.ensures.value c.in_ok-first.ensures.start
    c.in_ok-clone-2.ensures.cases in
    let are = b.cut cut there.at there.stack met.cut in
    let old : IsOldPlace r bs c.cut_to_meet.new.old = subst (λ (xs : List Block). IsOldPlace r xs c.cut_to_meet.new.old) c.deref-2.ensures.value met.old in
    let is : pieces_in c.put_pieces.new.blocks.items ≡ take n (pieces_in bs) ++ (cut ++ drop d (pieces_in bs)) =
    c.in_ok-put_pieces.ensures.pieces ∙ ap (λ (ls : List Kept). take n (pieces_in bs) ++ (ls ++ drop d (pieces_in bs))) c.deref-3.ensures.value in
    changed r bs text from c.args.to c.args.size before t known n d cut there.at there.stack b.is_start.within are c.put_pieces.new.blocks.items is met.count
    (spot_within bs c.cut_to_meet.new.old.spot.block c.cut_to_meet.new.old.spot.piece d old.spot)
    (omega (arith, met.replaced, old.at)) (ap (moved_place from c.args.to c.args.size) (sym old.at) ∙ met.place)
    (record { first = n; removed = d - n; inserted = c.len.result; start = c.in_ok-first.first.place.at; old_end = c.cut_to_meet.new.old.place.at; new_end = there.at })
    refl refl (omega (arith, c.len.ensures, c.cut_to_meet.new.cut.pieces.ok.0)) b.is_start.place_at old.at refl

pub returns-clause-least : goal.returns-clause-least
returns-clause-least c =
    let r = c.args.lexer.now in
    let text = c.args.text.now in
    let bs = c.args.blocks.now.items in
    let from = c.args.from in
    let n = c.in_ok-first.first.spot.count in
    let d = c.cut_to_meet.new.old.spot.count in
    let cut = c.cut_to_meet.new.cut.pieces.items in
    let there = c.cut_to_meet.new.cut.place in
    let met = c.in_ok-cut_to_meet.ensures in
    let b = begun r text bs c.deref.result.now from c.in_ok-first.first c.in_ok-clone-2.field-0 c.deref.ensures.value c.in_ok-first.ensures.start
    c.in_ok-clone-2.ensures.cases in
    let is : pieces_in c.put_pieces.new.blocks.items ≡ take n (pieces_in bs) ++ (cut ++ drop d (pieces_in bs)) =
    c.in_ok-put_pieces.ensures.pieces ∙ ap (λ (ls : List Kept). take n (pieces_in bs) ++ (ls ++ drop d (pieces_in bs))) c.deref-3.ensures.value in
    let e : Edit = record { from = from; to = c.args.to; size = c.args.size } in
    let first_met : (i j : ℕ) → n ≤ i → i ≤ d → j ≤ length cut → AreMetAfter r e (pieces_in bs) c.in_ok-clone-2.field-0.at c.in_ok-clone-2.field-0.stack cut i j
    → (i ≡ d) × (j ≡ length cut) =
    subst
    (λ (xs : List Block). (i j : ℕ) → n ≤ i → i ≤ d → j ≤ length cut → AreMetAfter r e (pieces_in xs) c.in_ok-clone-2.field-0.at c.in_ok-clone-2.field-0.stack cut i j
    → (i ≡ d) × (j ≡ length cut)) c.deref-2.ensures.value met.first in
    let count : length (take n (pieces_in bs)) ≡ n =
    length-take-le n (pieces_in bs) (spot_within bs c.in_ok-first.first.spot.block c.in_ok-first.first.spot.piece n b.is_start.spot) in
    least r e (pieces_in bs) (pieces_in c.put_pieces.new.blocks.items) cut (drop d (pieces_in bs)) n d c.in_ok-clone-2.field-0.at c.in_ok-clone-2.field-0.stack is count b.at b.stack first_met
    b.is_start.within met.count
    (record { first = n; removed = d - n; inserted = c.len.result; start = c.in_ok-first.first.place.at; old_end = c.cut_to_meet.new.old.place.at; new_end = there.at })
    refl refl (omega (arith, c.len.ensures, c.cut_to_meet.new.cut.pieces.ok.0)) b.is_start.first

pub returns-clause-cost : goal.returns-clause-cost
returns-clause-cost c =
    let r = c.args.lexer.now in
    let text = c.args.text.now in
    let from = c.in_ok-clone-2.field-0 in
    let to = c.cut_to_meet.new.cut.place in
    let met = c.in_ok-cut_to_meet.ensures in
    let paid = met.paid c.if-not-cutter.false in
    let change : Change = record {
      first = c.in_ok-first.first.spot.count;
      removed = c.cut_to_meet.new.old.spot.count - c.in_ok-first.first.spot.count;
      inserted = c.len.result;
      start = c.in_ok-first.first.place.at;
      old_end = c.cut_to_meet.new.old.place.at;
      new_end = to.at;
    } in
    all_paid r c.in_ok-cutter.cutter c.cut_to_meet.new.cutter text (drop from.at text) from to from.at c.args.steps.now c.cut_to_meet.new.steps paid.0 paid.1.0 change
    (c.in_ok-cutter.ensures.ready from.at (drop from.at text)) met.walkers c.in_ok-cutter.ensures.automata paid.1.1 (sym (ap (λ (p : Place). p.at) c.in_ok-clone-2.ensures.cases)) refl
