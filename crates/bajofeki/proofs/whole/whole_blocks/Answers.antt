use Rattle.std.proofs.Common.{◌≡◌, ◌+◌, List, take, length, arith, sym, ap, subst, ◌∙◌}
use Rattle.std.specs.Str.{IsCharBoundary}
use Rattle.bajofeki_rules.specs.Stack.{start}
use Rattle.bajofeki.specs.declared.kept.Kept.{Kept}
use Rattle.bajofeki.specs.Internal.Blocks.{sizes}
use Rattle.bajofeki.specs.Internal.Kept.{KeptUpTo}
use Rattle.bajofeki.proofs.BlockLaws.{kept_sizes, marked_blocks}
use Rattle.bajofeki.proofs.LineLaws.{kept_boundaries}
use Rattle.bajofeki.proofs.whole.whole_blocks.Goals as goal

pub blocks_of-requires-clause-fits : goal.blocks_of-requires-clause-fits
blocks_of-requires-clause-fits c =
    let cut = c.in_ok-pieces.ensures.pieces in
    omega (arith, ap sizes c.deref.ensures.value, (kept_sizes c.args.lexer.now c.args.text.now 0 start c.in_ok-pieces.pieces.items (length c.args.text.now) cut.0 cut.1).0)

pub blocks_of-requires-clause-boundaries : goal.blocks_of-requires-clause-boundaries
blocks_of-requires-clause-boundaries c = λ n.
    let text = c.args.text.now in
    let ks = c.in_ok-pieces.pieces.items in
    let cut = c.in_ok-pieces.ensures.pieces in
    let same : sizes (take n ks) ≡ 0 + sizes (take n c.deref.result.now) = omega (arith, ap (λ (xs : List Kept). sizes (take n xs)) c.deref.ensures.value) in
    subst (IsCharBoundary text) same (kept_boundaries c.args.lexer.now text ks (length text) cut.0 c.utf8.text cut.1 n)

pub returns-clause-blocks : goal.returns-clause-blocks
returns-clause-blocks c =
    let r = c.args.lexer.now in
    let text = c.args.text.now in
    let cut = c.in_ok-pieces.ensures.pieces in
    let made = c.in_ok-blocks.ensures in
    let pieces = made.pieces ∙ c.deref.ensures.value in (
      cut.0,
      marked_blocks r text 0 start c.in_ok-blocks.blocks.items (length text) cut.0 (rw c.new.ensures.start at made.marked)
          (subst (λ (ks : List Kept). KeptUpTo r text 0 start ks (length text) cut.0) (sym pieces) cut.1),
    )
