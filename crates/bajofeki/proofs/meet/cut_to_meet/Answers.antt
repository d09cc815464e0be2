use Rattle.std.proofs.Common.{rules, ◌≡◌, ℕ, ◌+◌, ◌≤◌, ◌++◌, [], ◌∷◌, List, length, take, arith, refl, sym, ap, subst, ◌∙◌}
use Rattle.bajofeki.specs.declared.kept.Kept.{Kept}
use Rattle.std.proofs.lemmas.List.{take_all, drop_all}
use Rattle.bajofeki_rules.specs.Stack.{Stack}
use Rattle.bajofeki.specs.Internal.Kept.{KeptUpTo}
use Rattle.bajofeki.specs.Internal.Blocks.{pieces_in, sizes}
use Rattle.bajofeki.proofs.KeptLaws.{kept_more}
use Rattle.bajofeki.specs.Internal.Meeting.{new_place, AreMet, AreMetAfter, NoneMet}
use Rattle.bajofeki.proofs.BlockLaws.{sizes_front, spot_end, kept_sizes}
use Rattle.bajofeki.proofs.Paying.{none_paid, more_paid}
use Rattle.bajofeki.proofs.FirstMeeting.{none_cut, none_passed, met_here, next_some}
use Rattle.bajofeki.proofs.meet.cut_to_meet.Goals as goal

pub next_turn-requires : goal.next_turn-requires
next_turn-requires c = record {
  fits = λ behind.
      omega (arith, behind, c.cut.invariant.old.at, sizes_front c.cut.old.spot.count (pieces_in c.args.blocks.now), c.requires.pieces.within, c.requires.pieces.ends);
}

pub cut-init : goal.cut-init
cut-init c =
    let r = c.args.lexer.now in
    let text = c.args.text.now in
    let p = c.args.cut.now.place in
    let none = c.requires.none in
    record {
      old = c.requires.old;
      block = omega arith;
      count = omega arith;
      cut = subst (λ (ks : List Kept). KeptUpTo r text p.at p.stack ks p.at p.stack) (sym none) (refl, refl);
      boundary = c.requires.boundary;
      none = record {
        none = λ i j first last within met. (omega (arith, first, last), omega (arith, within, ap length none));
        passed = λ i first less behind. absurd (omega (arith, first, less));
        cut = λ j less. absurd (omega (arith, less, ap length none));
      };
      there = c.requires.there;
      cutter = c.requires.cutter;
      walkers = refl;
      paid = λ whole. ([], (p.at, none_paid r c.args.cutter.now text p c.args.steps.now c.requires.boundary));
      never_falls = omega arith;
    }

pub cut-preserved-in_ok-push-in-CutOn : goal.cut-preserved-in_ok-push-in-CutOn
cut-preserved-in_ok-push-in-CutOn c =
    let r = c.args.lexer.now in
    let text = c.args.text.now in
    let start = c.args.cut.now.place in
    let here = c.cut.cut.place in
    let k = c.in_ok-piece-in-CutOn.piece in
    let cut = c.in_ok-piece-in-CutOn.ensures in
    let inv = c.cut.invariant in
    let turn = c.in-CutOn.ensures.turn in
    let ends = kept_sizes r text start.at start.stack c.cut.cut.pieces.items here.at here.stack inv.cut in
    let to_met : AreMetAfter r c.args.edit.now (pieces_in c.args.blocks.now) start.at start.stack c.cut.cut.pieces.items c.cut.old.spot.count (length c.cut.cut.pieces.items)
    → AreMet c.args.edit.now c.cut.old.place here =
    met_here r c.args.edit.now (pieces_in c.args.blocks.now) start.at start.stack c.cut.cut.pieces.items c.cut.old.spot.count c.cut.old.place here inv.old.at inv.old.stack ends.0 ends.1 in
    record {
      old = inv.old;
      block = inv.block;
      count = inv.count;
      cut =
          subst (λ (ks : List Kept). KeptUpTo r text start.at start.stack ks c.cut_piece.new.place.at c.cut_piece.new.place.stack) (sym c.in_ok-push-in-CutOn.ensures.items)
          (subst (λ (a : ℕ). KeptUpTo r text start.at start.stack (c.cut.cut.pieces.items ++ k ∷ []) a c.cut_piece.new.place.stack) (sym cut.at)
          (subst (λ (s : Stack). KeptUpTo r text start.at start.stack (c.cut.cut.pieces.items ++ k ∷ []) (here.at + k.size) s) (sym cut.stack)
          (kept_more r text start.at start.stack c.cut.cut.pieces.items here.at here.stack k inv.cut cut.kept)));
      none =
          subst (λ (ks : List Kept). NoneMet r c.args.edit.now (pieces_in c.args.blocks.now) c.args.old.now.spot.count c.cut.old.spot.count start.at start.stack ks)
          (sym c.in_ok-push-in-CutOn.ensures.items)
          (none_cut r c.args.edit.now (pieces_in c.args.blocks.now) c.args.old.now.spot.count c.cut.old.spot.count start.at start.stack c.cut.cut.pieces.items k inv.none cut.some
          (omega (arith, turn.1, inv.old.at)) (omega (arith, turn.2, ends.0, ap (new_place c.args.edit.now) inv.old.at)) (λ met. turn.3 (to_met met)));
      boundary = cut.boundary;
      there = cut.there;
      cutter = cut.cutter;
      walkers = cut.walkers ∙ inv.walkers;
      paid = λ whole.
          let old = inv.paid (cut.whole whole) in
          let piece = cut.paid whole in (
            piece.0 ++ old.0,
            more_paid r c.cut.cutter c.cut_piece.new.cutter text start here c.cut_piece.new.place k c.args.steps.now c.cut.steps c.cut_piece.new.steps old.0 piece.0 old.1.0 piece.1.0
                cut.walkers cut.stays cut.kept cut.at old.1.1 piece.1.1,
          );
      never_falls = omega (arith, inv.never_falls, cut.never_falls);
    }

pub cut-preserved : goal.cut-preserved
cut-preserved c =
    let r = c.args.lexer.now in
    let e = c.args.edit.now in
    let text = c.args.text.now in
    let ks = pieces_in c.args.blocks.now in
    let start = c.args.cut.now.place in
    let here = c.cut.cut.place in
    let cs = c.cut.cut.pieces.items in
    let inv = c.cut.invariant in
    let n = c.cut.old.spot.count in
    let d : Kept = record { rule = 0; size = 0; past = 0 } in
    let turn = c.in-PassOn.ensures.turn in
    let passed = c.in_ok-pass_next-in-PassOn.ensures in
    let next = passed.some (first_of (cc, search rules)) in
    let ends = kept_sizes r text start.at start.stack cs here.at here.stack inv.cut in
    let unmet : ¬ AreMetAfter r e ks start.at start.stack cs n (length cs) =
    λ met. turn.1 (met_here r e ks start.at start.stack cs n c.cut.old.place here inv.old.at inv.old.stack ends.0 ends.1 met) in
    let none : NoneMet r e ks c.args.old.now.spot.count (n + 1) start.at start.stack cs =
    none_passed r e ks c.args.old.now.spot.count n start.at start.stack cs (length text) d inv.none next.1
    (λ behind. next_some r text _ _ ks n _ _ d next.1 (c.requires.pieces.behind n behind))
    (λ behind. omega (arith, behind, c.requires.pieces.ends, c.requires.pieces.within, sizes_front (n + 1) ks))
    (λ behind le. let last = turn.0 (omega (arith, behind, inv.old.at)) (omega (arith, le, ends.0, ap (new_place e) inv.old.at)) in omega (arith, last, ends.0))
    unmet in
    record {
      old = passed.old;
      block = omega (arith, inv.block, passed.block);
      count = omega (arith, inv.count, next.0);
      cut = inv.cut;
      boundary = inv.boundary;
      none = subst (λ (m : ℕ). NoneMet r e ks c.args.old.now.spot.count m start.at start.stack cs) (sym next.0) none;
      there = inv.there;
      cutter = inv.cutter;
      walkers = inv.walkers;
      paid = inv.paid;
      never_falls = inv.never_falls;
    }

pub returns-then-not-branch-clause-behind : goal.returns-then-not-branch-clause-behind
returns-then-not-branch-clause-behind c =
    let r = c.args.lexer.now in
    let text = c.args.text.now in
    let bs = c.args.blocks.now in
    let old = c.pass_next.new.old in
    let here = c.cut.cut.place in
    let inv = c.cut.invariant in
    let passed = c.in_ok-pass_next-in-PassOn.ensures in
    let last = passed.none (first_of (cc, search rules)) in
    let all : old.spot.count ≡ length (pieces_in bs) = spot_end bs old.spot.block old.spot.piece old.spot.count passed.old.spot (omega (arith, last.1)) in
    let all_before : c.cut.old.spot.count ≡ length (pieces_in bs) = omega (arith, all, last.0) in
    let whole : sizes (take c.cut.old.spot.count (pieces_in bs)) ≡ sizes (pieces_in bs) =
    ap sizes (take_all c.cut.old.spot.count (pieces_in bs) (omega (arith, all_before))) in
    let at : c.cut.old.place.at ≡ sizes (pieces_in bs) = inv.old.at ∙ whole in
    let ended : length text ≤ here.at =
    c.in-PassOn.ensures.turn.0 (omega (arith, at, c.requires.pieces.within)) (omega (arith, at, c.requires.pieces.ends, inv.boundary.0)) in (
      here.stack,
      subst (λ (ks : List Kept). KeptUpTo r text here.at here.stack ks (length text) here.stack) (sym (drop_all old.spot.count (pieces_in bs) (omega (arith, all))))
          (omega (arith, ended, inv.boundary.0), refl),
    )

pub returns-then-not-branch-clause-replaced : goal.returns-then-not-branch-clause-replaced
returns-then-not-branch-clause-replaced c =
    let r = c.args.lexer.now in
    let text = c.args.text.now in
    let bs = c.args.blocks.now in
    let old = c.pass_next.new.old in
    let here = c.cut.cut.place in
    let inv = c.cut.invariant in
    let passed = c.in_ok-pass_next-in-PassOn.ensures in
    let last = passed.none (first_of (cc, search rules)) in
    let all : old.spot.count ≡ length (pieces_in bs) = spot_end bs old.spot.block old.spot.piece old.spot.count passed.old.spot (omega (arith, last.1)) in
    let all_before : c.cut.old.spot.count ≡ length (pieces_in bs) = omega (arith, all, last.0) in
    let whole : sizes (take c.cut.old.spot.count (pieces_in bs)) ≡ sizes (pieces_in bs) =
    ap sizes (take_all c.cut.old.spot.count (pieces_in bs) (omega (arith, all_before))) in
    let at : c.cut.old.place.at ≡ sizes (pieces_in bs) = inv.old.at ∙ whole in
    let ended : length text ≤ here.at =
    c.in-PassOn.ensures.turn.0 (omega (arith, at, c.requires.pieces.within)) (omega (arith, at, c.requires.pieces.ends, inv.boundary.0)) in
    let now : old.place.at ≡ sizes (pieces_in bs) = passed.old.at ∙ ap sizes (take_all old.spot.count (pieces_in bs) (omega (arith, all))) in
    omega (arith, now, c.requires.pieces.within)

pub returns-then-not-branch-clause-place : goal.returns-then-not-branch-clause-place
returns-then-not-branch-clause-place c =
    let r = c.args.lexer.now in
    let text = c.args.text.now in
    let bs = c.args.blocks.now in
    let old = c.pass_next.new.old in
    let here = c.cut.cut.place in
    let inv = c.cut.invariant in
    let passed = c.in_ok-pass_next-in-PassOn.ensures in
    let last = passed.none (first_of (cc, search rules)) in
    let all : old.spot.count ≡ length (pieces_in bs) = spot_end bs old.spot.block old.spot.piece old.spot.count passed.old.spot (omega (arith, last.1)) in
    let all_before : c.cut.old.spot.count ≡ length (pieces_in bs) = omega (arith, all, last.0) in
    let whole : sizes (take c.cut.old.spot.count (pieces_in bs)) ≡ sizes (pieces_in bs) =
    ap sizes (take_all c.cut.old.spot.count (pieces_in bs) (omega (arith, all_before))) in
    let at : c.cut.old.place.at ≡ sizes (pieces_in bs) = inv.old.at ∙ whole in
    let ended : length text ≤ here.at =
    c.in-PassOn.ensures.turn.0 (omega (arith, at, c.requires.pieces.within)) (omega (arith, at, c.requires.pieces.ends, inv.boundary.0)) in
    let now : old.place.at ≡ sizes (pieces_in bs) = passed.old.at ∙ ap sizes (take_all old.spot.count (pieces_in bs) (omega (arith, all))) in
    ap (new_place c.args.edit.now) now ∙ c.requires.pieces.ends ∙ (let same : length text ≡ here.at = omega (arith, ended, inv.boundary.0) in same)
