use Rattle.std.proofs.Common.{◌≡◌, ◌∷◌, ◌++◌, [], Bool, List, sym, ap, subst, ◌∙◌, arith}
use Rattle.std.specs.Prelude.{if◌then◌else◌}
use Rattle.lalrpop_rules.specs.declared.piece.Piece.{Piece}
use Rattle.bajofeki.specs.Internal.KeptPieces.{AddsHolding, item_at}
use Rattle.bajofeki.proofs.Holding.{adds_none, adds_one}
use Rattle.bajofeki.proofs.pieces.push_holding.Goals as goal

pub returns-then-max-min : goal.returns-then-max-min
returns-then-max-min c =
    let k = c.args.piece.now in
    record {
      items =
          adds_none c.args.range.now.start c.args.range.now.end c.args.lexer.now.skips c.args.text.now c.args.items.now.items c.args.at (k ∷ [])
          (omega (arith, c.requires.ends.0)) (omega (arith, c.if-max-min.true, c.max.ensures, c.min.ensures));
    }

pub returns : goal.returns
returns c =
    let from = c.args.range.now.start in
    let to = c.args.range.now.end in
    let old = c.args.items.now.items in
    let k = c.args.piece.now in
    let x = c.piece_of.result in
    let grown : c.push.new.self.items ≡ old ++ x ∷ [] = c.push.ensures.items ∙ ap (λ (b : Bool). if b then old ++ x ∷ [] else old) c.if-is_err.ensures.negation in
    record {
      items =
          subst (λ (zs : List Piece). AddsHolding from to old zs (item_at c.args.lexer.now.skips c.args.text.now c.args.at k ∷ [])) (sym grown)
          (adds_one from to c.args.lexer.now.skips c.args.text.now old c.args.at k x c.requires.ends.0
          (omega (arith, c.if-max-min.false, c.max.ensures, c.min.ensures)) c.piece_of.ensures.piece);
    }
