use Rattle.std.proofs.Common.{[], ◌∷◌, ◌++◌, ◌∙◌, rules}
use Rattle.bajofeki.proofs.Characters.{one_more}
use Rattle.bajofeki_c.specs.Page.{piece_in}
use Rattle.bajofeki_c.proofs.Pages.{piece_more, all_pieces}
use Rattle.bajofeki_c.proofs.page.page_of.Goals as goal

pub loop-piece-init : goal.loop-piece-init
loop-piece-init c = record { so_far = ([], search rules); painter = c.in_ok-painter.ensures.names ∙ c.names-names.ensures.names }

pub loop-piece-preserved : goal.loop-piece-preserved
loop-piece-preserved c =
    let i = c.loop-piece.invariant.so_far in
    let more = piece_more _ _ _ _ _ i.0 c.in-Ok.piece i.1.0 c.in-Some.is c.next.ensures.steps c.in-Ok.is in
    let piece = rw c.names-names.ensures.names at c.in_ok-push_piece-in-Ok.ensures.piece in record {
      so_far = (i.0 ++ c.in-Ok.piece ∷ [], (more, one_more (piece_in c.args.markup c.args.rules.now.names) i.0 c.in-Ok.piece _ _ i.1.1 piece));
      painter = c.push_piece.ensures.names ∙ c.loop-piece.invariant.painter;
    }

pub returns : goal.returns
returns c =
    let i = c.loop-piece.invariant.so_far in
    let given = c.in_ok-piece-items.ensures in
    let all = all_pieces _ _ _ _ _ i.0 c.into_iter-piece-iterator.ensures.into_iter_gives i.1.0 c.in-None.is c.next.ensures.steps given.next in
    record { page = record { all = i.0; end = _; pieces = given.pieces _ _ all.0 all.1; page = i.1.1 } }
