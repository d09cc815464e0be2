use Rattle.std.proofs.Common.{ℕ, List, [], ◌∷◌, ◌++◌, ap, ◌∙◌, rules, string_bytes}
use Rattle.std.proofs.lemmas.Str.{IsUtf8-string_bytes}
use Rattle.lalrpop_rules.proofs.NextRuns.{piece_more, all_pieces}
use Rattle.bajofeki.specs.Terminal.{painted, unpainted}
use Rattle.bajofeki.proofs.Characters.{one_more}
use Rattle.bajofeki.proofs.Sequences.{page_is_safe}
use Rattle.bajofeki.proofs.TerminalReadings.{pieces_out}
use Rattle.bajofeki.proofs.coloured.ansi.Goals as goal

pub loop-piece-init : goal.loop-piece-init
loop-piece-init c = record { so_far = ([], search rules); painter = search rules }

pub loop-piece-preserved : goal.loop-piece-preserved
loop-piece-preserved c =
    let i = c.loop-piece.invariant in
    let xs = i.so_far.0 in
    let more = piece_more _ _ _ _ _ xs c.in-Ok.piece i.so_far.1.0 c.in-Some.is c.next.ensures.steps c.in-Ok.is in
    let line = c.in_ok-push-in-Ok.ensures.painted ∙ ap (λ (names : List (List ℕ)). string_bytes c.loop-piece.page ++ painted names c.in-Ok.piece) i.painter in
    record {
      so_far = (xs ++ c.in-Ok.piece ∷ [], (more, one_more (painted c.args.lexer.now.names) xs c.in-Ok.piece _ _ i.so_far.1.1 line));
      painter = c.push.ensures.names ∙ i.painter;
    }

pub returns-clause-pieces : goal.returns-clause-pieces
returns-clause-pieces c =
    let i = c.loop-piece.invariant.so_far in
    let given = c.in_ok-piece-items.ensures in
    let all = all_pieces _ _ _ _ _ i.0 c.into_iter-piece-iterator.ensures.into_iter_gives i.1.0 c.in-None.is c.next.ensures.steps given.next in
    (i.0, (_, (given.pieces i.0 _ all.0 all.1, i.1.1)))

pub returns-clause-text : goal.returns-clause-text
returns-clause-text c =
    let i = c.loop-piece.invariant.so_far in
    let given = c.in_ok-piece-items.ensures in
    let all = all_pieces _ _ _ _ _ i.0 c.into_iter-piece-iterator.ensures.into_iter_gives i.1.0 c.in-None.is c.next.ensures.steps given.next in
    ap unpainted i.1.1 ∙ pieces_out _ c.args.lexer.now _ _ _ _ _ c.utf8.text (given.pieces i.0 _ all.0 all.1) ∙ given.whole i.0 _ all.0 all.1

pub returns-clause-sequences : goal.returns-clause-sequences
returns-clause-sequences c =
    let i = c.loop-piece.invariant.so_far in
    page_is_safe c.args.lexer.now.names i.0 _ (IsUtf8-string_bytes c.loop-piece.page) i.1.1
