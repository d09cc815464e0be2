use Rattle.std.proofs.Common.{◌≡◌, ◌++◌, ◌∷◌, [], ◌+◌, ℕ, List, length, inl, arith, refl, sym, ap, subst}
use Rattle.std.proofs.lemmas.Str.{IsCharBoundary-from_drop}
use Rattle.bajofeki_rules.specs.Stack.{Stack, start}
use Rattle.bajofeki.specs.declared.kept.Kept.{Kept}
use Rattle.bajofeki.specs.Internal.Kept.{KeptUpTo}
use Rattle.bajofeki.proofs.KeptLaws.{kept_more}
use Rattle.bajofeki.proofs.whole.kept_pieces.Goals as goal

pub cutting-init : goal.cutting-init
cutting-init c = record {
  pieces = rw (c.new-pieces.ensures.items, c.new-2.ensures.start) (refl, refl);
  boundary = IsCharBoundary-from_drop c.args.text.now 0 (omega arith) c.utf8.text;
  there = rw c.new-2.ensures.start (omega (arith, c.modes-modes.ensures.count, c.modes-modes.ensures.some), tt);
  cutter = c.in_ok-cutter.ensures.ready 0 c.args.text.now;
  ahead = inl c.new-ahead.ensures.none;
}

pub cutting-preserved : goal.cutting-preserved
cutting-preserved c =
    let r = c.args.lexer.now in
    let text = c.args.text.now in
    let here = c.cutting.place in
    let next = c.next_kept.new.place in
    let k = c.in_ok-piece.piece in
    let cut = c.in_ok-piece.ensures in
    let inv = c.cutting.invariant in
    record {
      pieces =
          subst (λ (ks : List Kept). KeptUpTo r text 0 start ks next.at next.stack) (sym c.in_ok-push.ensures.items)
          (subst (λ (a : ℕ). KeptUpTo r text 0 start (c.cutting.pieces.items ++ k ∷ []) a next.stack) (sym cut.at)
          (subst (λ (s : Stack). KeptUpTo r text 0 start (c.cutting.pieces.items ++ k ∷ []) (here.at + k.size) s) (sym cut.stack)
          (kept_more r text 0 start c.cutting.pieces.items here.at here.stack k inv.pieces cut.kept)));
      boundary = cut.boundary;
      there = cut.there;
      cutter = cut.cutter;
      ahead = cut.ahead;
    }

pub returns-clause-pieces : goal.returns-clause-pieces
returns-clause-pieces c =
    let here = c.cutting.place in
    let inv = c.cutting.invariant in
    let ended : here.at ≡ length c.args.text.now = omega (arith, inv.boundary.0, c.cutting-test.false) in
    (here.stack, subst (λ (n : ℕ). KeptUpTo c.args.lexer.now c.args.text.now 0 start c.cutting.pieces.items n here.stack) ended inv.pieces)
