use Rattle.std.proofs.Common.{◌++◌, ◌∷◌, [], ap, ◌∙◌, refl}
use Rattle.std.specs.Prelude.{Ok}
use Rattle.bajofeki.specs.Chunked.{Chunked}
use Rattle.bajofeki.specs.Given.{piece_of}
use Rattle.bajofeki.proofs.ChunkLaws.{came_given, came_held, given_less, gives_some, gives_none, held_after}
use Rattle.uses_rules.proofs.Joining.{bytes_on}
use Rattle.uses_rules.proofs.feed_chunks.take_pieces.Goals as goal

pub pieces-init : goal.pieces-init
pieces-init c = (λ r text xs came is. (xs, (came, is)), refl)

pub pieces-smaller : goal.pieces-smaller
pieces-smaller c =
    let slice = c.slice.result in
    given_less c.pieces.chunks c.next_piece.new.self (piece_of c.in-Some.field-0 slice)
    (gives_some c.pieces.chunks c.next_piece.new.self c.next_piece.result c.in-Some.field-0 slice (c.in_ok-next_piece.was ∙ ap Ok c.in-Some.is) c.next_piece.ensures.gives c.slice.ensures.slice)

pub pieces-preserved : goal.pieces-preserved
pieces-preserved c =
    let so_far = c.pieces.invariant in
    let piece = c.in-Some.field-0 in
    let slice = c.slice.result in
    let gives = gives_some c.pieces.chunks c.next_piece.new.self c.next_piece.result piece slice (c.in_ok-next_piece.was ∙ ap Ok c.in-Some.is) c.next_piece.ensures.gives c.slice.ensures.slice in (
      λ r text xs came is.
          let old = so_far.0 r text xs came is in (
            old.0 ++ piece_of piece slice ∷ [],
            (came_given r text old.0 c.pieces.chunks c.next_piece.new.self old.1.0 (piece_of piece slice) gives, bytes_on old.0 piece slice _ _ old.1.1 c.in_ok-extend_from_slice-in-Some.ensures.items),
          ),
      ap (λ (d : Chunked). d.is_ended) gives.2 ∙ so_far.1,
    )

pub returns-in-None-clause-taken : goal.returns-in-None-clause-taken
returns-in-None-clause-taken c r text xs came is =
    let old = c.pieces.invariant.0 r text xs came is in
    let none = gives_none c.pieces.chunks c.next_piece.new.self c.next_piece.result (c.in_ok-next_piece.was ∙ ap Ok c.in-None.is) c.next_piece.ensures.gives in
    (old.0, (came_held r text old.0 c.pieces.chunks c.next_piece.new.self old.1.0 none, old.1.1))

pub returns-in-None-clause-held : goal.returns-in-None-clause-held
returns-in-None-clause-held c =
    held_after c.pieces.chunks c.next_piece.new.self
    (gives_none c.pieces.chunks c.next_piece.new.self c.next_piece.result (c.in_ok-next_piece.was ∙ ap Ok c.in-None.is) c.next_piece.ensures.gives)

pub returns-in-None-clause-ended : goal.returns-in-None-clause-ended
returns-in-None-clause-ended c =
    let none = gives_none c.pieces.chunks c.next_piece.new.self c.next_piece.result (c.in_ok-next_piece.was ∙ ap Ok c.in-None.is) c.next_piece.ensures.gives in
    ap (λ (d : Chunked). d.is_ended) none.0 ∙ c.pieces.invariant.1
