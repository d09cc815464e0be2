use Rattle.std.proofs.Common.{[], ◌∷◌, ◌++◌, sym, ap, subst, ◌∙◌, rules, string_bytes}
use Rattle.lalrpop_rules.proofs.NextRuns.{piece_more, all_pieces}
use Rattle.bajofeki.specs.Markup.{marked, outside}
use Rattle.bajofeki.proofs.Characters.{one_more}
use Rattle.bajofeki.proofs.Readings.{pieces_out}
use Rattle.bajofeki.proofs.Tags.{IsMarkup, page_is_markup}
use Rattle.bajofeki.proofs.page.html.Goals as goal

pub loop-piece-init : goal.loop-piece-init
loop-piece-init c = ([], search rules)

pub loop-piece-preserved : goal.loop-piece-preserved
loop-piece-preserved c =
    let i = c.loop-piece.invariant in
    let more = piece_more _ _ _ _ _ i.0 c.in-Ok.piece i.1.0 c.in-Some.is c.next.ensures.steps c.in-Ok.is in
    (i.0 ++ c.in-Ok.piece ∷ [], (more, one_more (marked c.args.lexer.now.names) i.0 c.in-Ok.piece _ _ i.1.1 (rw c.names.ensures.names at c.in_ok-push_html-in-Ok.ensures.marked)))

pub returns-clause-pieces : goal.returns-clause-pieces
returns-clause-pieces c =
    let i = c.loop-piece.invariant in
    let given = c.in_ok-piece-items.ensures in
    let all = all_pieces _ _ _ _ _ i.0 c.into_iter-piece-iterator.ensures.into_iter_gives i.1.0 c.in-None.is c.next.ensures.steps given.next in
    (i.0, (_, (given.pieces i.0 _ all.0 all.1, i.1.1)))

pub returns-clause-text : goal.returns-clause-text
returns-clause-text c =
    let i = c.loop-piece.invariant in
    let given = c.in_ok-piece-items.ensures in
    let all = all_pieces _ _ _ _ _ i.0 c.into_iter-piece-iterator.ensures.into_iter_gives i.1.0 c.in-None.is c.next.ensures.steps given.next in
    ap outside i.1.1 ∙ pieces_out _ c.args.lexer.now _ _ _ _ _ c.utf8.text (given.pieces i.0 _ all.0 all.1) ∙ given.whole i.0 _ all.0 all.1

pub returns-clause-tags : goal.returns-clause-tags
returns-clause-tags c =
    let i = c.loop-piece.invariant in
    let page : IsMarkup (string_bytes c.loop-piece.page) = subst IsMarkup (sym i.1.1) (page_is_markup c.args.lexer.now.names i.0) in
    (page.opening, page.closing)

pub returns-clause-entities : goal.returns-clause-entities
returns-clause-entities c =
    let i = c.loop-piece.invariant in
    let page : IsMarkup (string_bytes c.loop-piece.page) = subst IsMarkup (sym i.1.1) (page_is_markup c.args.lexer.now.names i.0) in
    page.entities
