use Rattle.std.proofs.Common.{◌≡◌, ◌<◌, ◌∙◌, [], length, drop, slice_set, arith, refl, ap}
use Rattle.std.specs.Prelude.{Some, slice_get}
use Rattle.std.proofs.lemmas.Option.{slice_get_read}
use Rattle.lalrpop_rules.specs.Pieces.{IsPiece}
use Rattle.lalrpop_rules.specs.Modes.{trees_in}
use Rattle.lalrpop_rules.specs.Internal.Cutting.{Cutting, memo_in, steps_in}
use Rattle.lalrpop_rules.proofs.Cuts.{set_same, own_piece, cuts_on, piece_paid, piece_sought}
use Rattle.lalrpop_rules.proofs.ModeRuns.{cut-behind}
use Rattle.lalrpop_rules.proofs.cutter.Cutter.next_piece.Goals as goal

pub index_mut-requires : goal.index_mut-requires
index_mut-requires c = omega (arith, c.self.invariant.cuts.all, c.self.invariant.there)

pub invariant_of-self : goal.invariant_of-self
invariant_of-self c =
    let i = c.self.inside in
    let h = c.self.invariant in
    let old = c.index_mut.result.now in
    let new = c.next_piece.new.self in
    let x = c.in-Some.piece in
    let is : slice_get i.cuts.items i.mode ≡ Some old = slice_get_read i.cuts.items (length i.cuts.items) i.mode old refl (omega (arith, h.cuts.all, h.there)) c.index_mut.ensures.value in
    let within : i.mode < length i.cuts.items = omega (arith, h.cuts.all, h.there) in
    let piece : IsPiece (trees_in i.lexer.now i.mode) i.lexer.now.precedences i.lexer.now.skips i.text.now i.at x =
    own_piece i.lexer.now i.text.now i.at i.mode old x (h.cuts.each i.mode old is) (h.cuts.here old is) c.in-Some.ensures.gives.0 in
    rw c.slice.ensures.slice
    record {
      utf8 = h.utf8;
      boundary = cut-behind _ _ _ _ _ x h.utf8 h.boundary piece;
      there = h.there;
      cuts = cuts_on i.lexer.now i.text.now i.at i.mode i.cuts.items old new x h.utf8 h.boundary h.cuts is within c.in-Some.ensures.gives;
    }

pub returns-in-Some-clause-cuts : goal.returns-in-Some-clause-cuts
returns-in-Some-clause-cuts c =
    let i = c.self.inside in
    let h = c.self.invariant in
    let old = c.index_mut.result.now in
    let new = c.next_piece.new.self in
    let x = c.in-Some.piece in
    let is : slice_get i.cuts.items i.mode ≡ Some old = slice_get_read i.cuts.items (length i.cuts.items) i.mode old refl (omega (arith, h.cuts.all, h.there)) c.index_mut.ensures.value in
    let within : i.mode < length i.cuts.items = omega (arith, h.cuts.all, h.there) in
    let piece : IsPiece (trees_in i.lexer.now i.mode) i.lexer.now.precedences i.lexer.now.skips i.text.now i.at x =
    own_piece i.lexer.now i.text.now i.at i.mode old x (h.cuts.each i.mode old is) (h.cuts.here old is) c.in-Some.ensures.gives.0 in
    rw (← c.self.view_is)
    record { piece = piece; goes_on = rw c.slice.ensures.slice refl; paid = piece_paid i.mode i.cuts.items old new is within c.in-Some.ensures.gives.2 }

pub returns-in-Some-clause-sought : goal.returns-in-Some-clause-sought
returns-in-Some-clause-sought c =
    let i = c.self.inside in
    let h = c.self.invariant in
    let old = c.index_mut.result.now in
    let new = c.next_piece.new.self in
    let x = c.in-Some.piece in
    let is : slice_get i.cuts.items i.mode ≡ Some old = slice_get_read i.cuts.items (length i.cuts.items) i.mode old refl (omega (arith, h.cuts.all, h.there)) c.index_mut.ensures.value in
    let within : i.mode < length i.cuts.items = omega (arith, h.cuts.all, h.there) in
    rw c.slice.ensures.slice
    (piece_sought i.lexer.now i.text.now i.at i.mode i.cuts.items old new x (h.cuts.each i.mode old is) (h.cuts.here old is) within c.in-Some.ensures.gives c.in-Some.ensures.sought)

pub returns-in-None-clause-cuts : goal.returns-in-None-clause-cuts
returns-in-None-clause-cuts c =
    let i = c.self.inside in
    let h = c.self.invariant in
    let old = c.index_mut.result.now in
    let is : slice_get i.cuts.items i.mode ≡ Some old =
    slice_get_read i.cuts.items (length i.cuts.items) i.mode old refl (omega (arith, h.cuts.all, h.there)) c.index_mut.ensures.value in
    let same : slice_set i.cuts.items i.mode c.next_piece.new.self ≡ i.cuts.items =
    ap (λ d. slice_set i.cuts.items i.mode d) c.in-None.ensures.gives.0 ∙ set_same i.cuts.items i.mode old is in
    let there : Cutting = record { rules = i.lexer.now; text = i.text.now; at = i.at; mode = i.mode; memo = memo_in i.mode i.cuts.items; steps = 0 } in
    let end : drop i.at i.text.now ≡ [] = rw ((h.cuts.each i.mode old is).same_text, h.cuts.here old is) at c.in-None.ensures.gives.1 in
    rw (← c.self.view_is) (ap (λ cs. record there { memo = memo_in i.mode cs; steps = steps_in cs }) same, end)
