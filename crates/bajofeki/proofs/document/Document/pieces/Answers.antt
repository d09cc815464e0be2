use Rattle.std.proofs.Common.{refl}
use Rattle.std.specs.Prelude.{length, string_bytes}
use Rattle.bajofeki_rules.specs.Stack.{start}
use Rattle.bajofeki.specs.Internal.Blocks.{pieces_in}
use Rattle.bajofeki.specs.Internal.KeptPieces.{items_from}
use Rattle.bajofeki.proofs.BlockLaws.{blocks_kept}
use Rattle.bajofeki.proofs.KeptPieces.{are_pieces}
use Rattle.bajofeki.proofs.document.Document.pieces.Goals as goal

pub returns-clause-exist : goal.returns-clause-exist
returns-clause-exist c =
    let i = c.self.inside in
    let text = string_bytes i.text in
    let ks = pieces_in i.blocks.items in
    let kept = blocks_kept i.lexer.now text 0 start i.blocks.items (length text) c.self.invariant.0.0 c.self.invariant.0.1 in
    rw (← c.self.view_is)
    (items_from i.lexer.now.skips text 0 ks, (c.self.invariant.0.0, are_pieces i.lexer.now text 0 start ks (length text) c.self.invariant.0.0 kept refl))
