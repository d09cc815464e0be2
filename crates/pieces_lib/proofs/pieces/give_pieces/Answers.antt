use Rattle.std.proofs.Common.{◌≡◌, true, false, List, ℕ, [], ◌∷◌, ◌++◌, refl, sym, ap, subst, ◌∙◌}
use Rattle.std.specs.Prelude.{not}
use Rattle.lexdfa_lib.specs.declared.error.RunError.TheVariants.{OutOfMemory}
use Rattle.lalrpop_rules.proofs.Results.{handed_on}
use Rattle.bajofeki.specs.Given.{piece_of}
use Rattle.lalrpop_rules.specs.Pieces.{slice_of}
use Rattle.pieces_lib.specs.Console.{WritesPart}
use Rattle.pieces_lib.specs.CutEnds.{IsFound}
use Rattle.pieces_lib.specs.Internal.CutTexts.{GivesCut, goes_on, is_fault}
use Rattle.pieces_lib.proofs.CutLaws.{fault_by, slice_by}
use Rattle.pieces_lib.proofs.GivingLaws.{GivesSome, as_more, in_part_more, in_part_now, less_left, one_more, same_piece, some_slice, stops_at, waits_now, waits_or_stops}
use Rattle.pieces_lib.proofs.pieces.give_pieces.Goals as goal
use Rattle.pieces_lib.proofs.pieces.give_pieces.Goals.{else-is_none-via-then-is_none+else-not-goes_on, else-is_none-via-else-is_none}

pub returns-in_err-cut-clause-part : goal.returns-in_err-cut-clause-part
returns-in_err-cut-clause-part g c =
    handed_on (GivesSome c.args.sheet.now.form c.args.sheet.now.lexer.now c.args.cutter.now c.args.sheet.now.waiting.items c.args.console.now c.giving.console)
    c.from_residual.result OutOfMemory c.from_residual.ensures.1
    (λ begun text xs is.
    let ys = c.giving.invariant.given begun text xs is in
    (ys.0, (c.giving.cutter.incoming.chunks, (in_part_now _ _ text ys.0 c.giving.cutter _ begun _ ys.1 OutOfMemory refl, c.giving.invariant.same.ended))))

pub stopped-requires : goal.stopped-requires
stopped-requires g c =
    let piece = c.in-Some.cut.piece in
    let slice = c.slice-slice.result in
    let gives : GivesCut c.giving.cutter (piece_of piece slice) c.in-Some.cut.place c.in-Some.cut.mode c.next_piece.new.self =
    (rw c.in-Some.is at c.in_ok-cut.ensures.gives) slice c.slice-slice.ensures.slice in
    record {
      some = λ none. some_slice c.giving.cutter c.next_piece.new.self (piece_of piece slice) _ _ gives (slice_by piece.rule piece.is_skipped piece.start slice ∙ none);
    }

pub returns-then-not-goes_on-clause-given : goal.returns-then-not-goes_on-clause-given
returns-then-not-goes_on-clause-given g c begun text xs is =
    let piece = c.in-Some.cut.piece in
    let slice = c.slice-slice.result in
    let gives : GivesCut c.giving.cutter (piece_of piece slice) c.in-Some.cut.place c.in-Some.cut.mode c.next_piece.new.self =
    (rw c.in-Some.is at c.in_ok-cut.ensures.gives) slice c.slice-slice.ensures.slice in
    let ends : goes_on c.args.sheet.now.form ≡ false = ap goes_on (sym c.giving.invariant.form) ∙ sym c.goes_on.ensures.goes ∙ c.if-not-goes_on.true in
    let fault : is_fault (piece_of piece slice) ≡ true = fault_by piece.rule piece.is_skipped piece.start slice ∙ ap not (c.is_none.ensures ∙ ap not c.if-is_none.true) in
    let shows : IsFound (slice_of (piece_of piece slice)) c.stopped.ensures.stopped.0 =
    subst (λ (t : List ℕ). IsFound t c.stopped.ensures.stopped.0) (sym (slice_by piece.rule piece.is_skipped piece.start slice)) c.stopped.ensures.stopped.1.1 in
    let ys = c.giving.invariant.given begun text xs is in (
      ys.0,
      (
        c.giving.cutter.incoming.chunks,
        (
          stops_at _ _ text ys.0 c.giving.cutter _ begun _ ys.1 c.next_piece.new.self (piece_of piece slice) _ _ gives ends fault c.stopped.ensures.stopped.0 c.stopped.result
              c.stopped.ensures.stopped.1.0 shows,
          (ys.1.written, c.giving.invariant.same.ended),
        ),
      ),
    )

pub giving-smaller : goal.giving-smaller
giving-smaller g c =
    let piece = c.in-Some.cut.piece in
    let slice = c.slice-slice.result in
    let gives : GivesCut c.giving.cutter (piece_of piece slice) c.in-Some.cut.place c.in-Some.cut.mode c.next_piece.new.self =
    (rw c.in-Some.is at c.in_ok-cut.ensures.gives) slice c.slice-slice.ensures.slice in
    less_left c.giving.cutter c.next_piece.new.self (piece_of piece slice) _ _ gives

pub giving-preserved : goal.giving-preserved
giving-preserved g c =
    let piece = c.in-Some.cut.piece in
    let slice = c.slice-slice.result in
    let item = piece_of piece slice in
    let place = c.in-Some.cut.place in
    let mode = c.in-Some.cut.mode in
    let i = c.giving.invariant in
    let gives : GivesCut c.giving.cutter (piece_of piece slice) c.in-Some.cut.place c.in-Some.cut.mode c.next_piece.new.self =
    (rw c.in-Some.is at c.in_ok-cut.ensures.gives) slice c.slice-slice.ensures.slice in
    let other : goes_on c.args.sheet.now.form ≡ false → is_fault (piece_of piece slice) ≡ false =
    elim c.else-is_none.branch [
      | else-is_none-via-then-is_none+else-not-goes_on w ↦ (
          λ ends. absurd (cc (w.goes_on.ensures.goes, w.if-not-goes_on.false, ends))
          )
      | else-is_none-via-else-is_none w ↦ (λ ends. fault_by piece.rule piece.is_skipped piece.start slice ∙ ap not (c.is_none.ensures ∙ ap not w.if-is_none.false))
    ] in
    let put = c.in_ok-put_piece.ensures.put in
    let split = ap (λ (t : List ℕ). c.giving.sheet.waiting.items ++ t) (same_piece c.giving.sheet.form c.args.sheet.now.form c.giving.sheet.lexer c.args.sheet.now.lexer place mode item i.form i.lexer)
    ∙ put.1.1 in
    record {
      given = λ begun text xs is.
          let ys = i.given begun text xs is in
          (ys.0 ++ item ∷ [], one_more _ _ text ys.0 c.giving.cutter _ begun _ ys.1 c.next_piece.new.self item place mode gives other _ put.0 _ put.1.0 split);
      same = as_more c.args.cutter.now c.giving.cutter c.next_piece.new.self item place mode i.same gives;
      form = c.in_ok-put_piece.ensures.form ∙ i.form;
      lexer = c.in_ok-put_piece.ensures.lexer ∙ i.lexer;
    }

pub returns-in_err-put_piece-clause-part : goal.returns-in_err-put_piece-clause-part
returns-in_err-put_piece-clause-part g c =
    let piece = c.in-Some.cut.piece in
    let slice = c.slice-slice.result in
    let item = piece_of piece slice in
    let place = c.in-Some.cut.place in
    let mode = c.in-Some.cut.mode in
    let i = c.giving.invariant in
    let gives : GivesCut c.giving.cutter (piece_of piece slice) c.in-Some.cut.place c.in-Some.cut.mode c.next_piece.new.self =
    (rw c.in-Some.is at c.in_ok-cut.ensures.gives) slice c.slice-slice.ensures.slice in
    let other : goes_on c.args.sheet.now.form ≡ false → is_fault (piece_of piece slice) ≡ false =
    elim c.else-is_none.branch [
      | else-is_none-via-then-is_none+else-not-goes_on w ↦ (
          λ ends. absurd (cc (w.goes_on.ensures.goes, w.if-not-goes_on.false, ends))
          )
      | else-is_none-via-else-is_none w ↦ (λ ends. fault_by piece.rule piece.is_skipped piece.start slice ∙ ap not (c.is_none.ensures ∙ ap not w.if-is_none.false))
    ] in
    let same = same_piece c.giving.sheet.form c.args.sheet.now.form c.giving.sheet.lexer c.args.sheet.now.lexer place mode item i.form i.lexer in
    handed_on (GivesSome c.args.sheet.now.form c.args.sheet.now.lexer.now c.args.cutter.now c.args.sheet.now.waiting.items c.args.console.now c.put_piece.new.console)
    c.from_residual-in_err-put_piece.result c.in_err-put_piece.field-0.0 c.from_residual-in_err-put_piece.ensures.1
    (λ begun text xs is.
    let ys = i.given begun text xs is in (
      ys.0 ++ item ∷ [],
      (
        c.next_piece.new.self.incoming.chunks,
        (
          in_part_more _ _ text ys.0 c.giving.cutter _ begun _ ys.1 c.next_piece.new.self item place mode gives other _ _
              (subst (λ (t : List ℕ). WritesPart c.giving.console (c.giving.sheet.waiting.items ++ t) c.in_err-put_piece.field-0.0 c.put_piece.new.console) (sym same) c.in_err-put_piece.ensures.part),
          (as_more c.args.cutter.now c.giving.cutter c.next_piece.new.self item place mode i.same gives).ended,
        ),
      ),
    ))

pub returns-then-goes_on-clause-given : goal.returns-then-goes_on-clause-given
returns-then-goes_on-clause-given g c begun text xs is =
    let i = c.giving.invariant in
    let ys = i.given begun text xs is in
    let none = rw c.in_default.is at c.in_ok-cut.ensures.none in
    waits_now _ _ text ys.0 c.args.cutter.now c.giving.cutter c.next_piece.new.self _ begun _ ys.1 none.0 none.1 i.same
    (λ ends. absurd (cc (c.goes_on-2.ensures.goes, c.if-goes_on.true, ends)))

pub returns-clause-given : goal.returns-clause-given
returns-clause-given g c begun text xs is =
    let i = c.giving.invariant in
    let ys = i.given begun text xs is in
    let none = rw c.in_default.is at c.in_ok-cut.ensures.none in
    waits_or_stops _ _ text ys.0 c.args.cutter.now c.giving.cutter c.next_piece.new.self _ begun _ ys.1 none.0 none.1 i.same
    (ap goes_on (sym i.form) ∙ sym c.goes_on-2.ensures.goes ∙ c.if-goes_on.false) c.stopped_next.result c.stopped_next.ensures.fault c.stopped_next.ensures.none
