use Rattle.std.proofs.Common.{◌≡◌, ℕ, ◌+◌, ◌<◌, List, length, take, arith, refl, ap, subst, ◌∙◌}
use Rattle.bajofeki.specs.declared.kept.Kept.{Kept}
use Rattle.bajofeki.specs.declared.place.Place.{Place}
use Rattle.std.proofs.lemmas.Option.{slice_get_read}
use Rattle.std.specs.Prelude.{slice_get}
use Rattle.bajofeki.specs.Internal.Kept.{AreWithin}
use Rattle.bajofeki.specs.Internal.Blocks.{sizes, after_pieces}
use Rattle.bajofeki.proofs.Starting.{sizes_to, counts_to, sizes_within, counts_within, is_start}
use Rattle.bajofeki.proofs.edit.start_of.Goals as goal

pub keep_front-requires : goal.keep_front-requires
keep_front-requires c =
    let bs = c.args.blocks.now in
    let first = c.first_reaching-at.ensures.first in
    let n = c.first_reaching-at.result.0.block in
    let b = c.index-blocks-spot.result in
    record {
      fits =
          omega (
            arith,
            ap (λ (p : Place). p.at) c.in_ok-place-2.ensures.cases,
            first.at,
            ap sizes c.deref.ensures.value,
            sizes_to bs n b c.index-blocks-spot.is c.if-spot-blocks.false,
            sizes_within bs (n + 1),
            c.requires.size,
          );
    }

pub overflow_add-spot : goal.overflow_add-spot
overflow_add-spot c =
    let bs = c.args.blocks.now in
    let first = c.first_reaching-at.ensures.first in
    let n = c.first_reaching-at.result.0.block in
    let b = c.index-blocks-spot.result in
    let lt : n < length bs = omega (arith, c.if-spot-blocks.false) in
    omega (
      arith,
      first.spot.count_is,
      first.begins,
      counts_to bs n b c.index-blocks-spot.is lt,
      counts_within bs (n + 1),
      c.requires.count,
      c.in_ok-piece.ensures.count,
      ap length c.deref.ensures.value,
    )

pub returns : goal.returns
returns c =
    let r = c.args.lexer.now in
    let bs = c.args.blocks.now in
    let from = c.args.from in
    let b = c.index-blocks-spot.result in
    let n = c.in_ok-piece.piece in
    let kept = c.in_ok-piece.ensures in
    let front = c.keep_front.new.place in
    let same : c.deref.result.now ≡ b.pieces.items = c.deref.ensures.value in
    let begins : c.in_ok-place-2.place.at ≡ c.first_reaching-at.result.1 = ap (λ (p : Place). p.at) c.in_ok-place-2.ensures.cases in
    let stacks : c.in_ok-place-2.place.stack ≡ b.stack = ap (λ (p : Place). p.stack) c.in_ok-place-2.ensures.cases ∙ c.in_ok-clone.ensures.cases in
    record {
      start =
          is_start r bs from c.first_reaching-at.result.0 c.first_reaching-at.result.1 n b (record { at = c.first_reaching-at.result.1; stack = c.in_ok-clone.field-0 }) front
          c.first_reaching-at.ensures.first c.index-blocks-spot.is c.if-spot-blocks.false c.requires.marked (omega (arith, kept.count, ap length same)) refl c.in_ok-clone.ensures.cases
          (omega (arith, kept.at, begins, ap (λ (ks : List Kept). sizes (take n ks)) same))
          (kept.stack ∙ ap (λ (ks : List Kept). after_pieces r (take n ks) c.in_ok-place-2.place.stack) same ∙ ap (after_pieces r (take n b.pieces.items)) stacks)
          (subst (λ (ks : List Kept). AreWithin from c.first_reaching-at.result.1 (take n ks)) same (subst (λ (a : ℕ). AreWithin from a (take n c.deref.result.now)) begins kept.within))
          (λ k found. kept.first k (ap (λ (ks : List Kept). slice_get ks n) same ∙ found))
          (c.first_reaching-at.ensures.stops b
          (slice_get_read bs (length bs) c.first_reaching-at.result.0.block b refl c.if-spot-blocks.false c.index-blocks-spot.is));
    }
