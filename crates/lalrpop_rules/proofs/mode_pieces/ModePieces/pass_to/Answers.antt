use Rattle.std.proofs.Common.{◌≤◌, length, drop, sym, subst}
use Rattle.std.specs.Str.{chars, IsCharBoundary}
use Rattle.lalrpop_lexer.specs.Matching.{rest_of}
use Rattle.lalrpop_rules.specs.Internal.CutToEnd.{CutToEnd}
use Rattle.lalrpop_rules.proofs.Waiting.{place_behind}
use Rattle.lalrpop_rules.proofs.mode_pieces.ModePieces.pass_to.Goals as goal

pub pass_to-requires-clause-behind : goal.pass_to-requires-clause-behind
pass_to-requires-clause-behind c =
    let i = c.self.inside in
    let w = c.self.invariant.1 in
    let b : IsCharBoundary i.text.now c.args.at = subst (λ (s : CutToEnd). IsCharBoundary s.text c.args.at) (sym c.self.view_is) c.requires.boundary in
    let few : length (chars (drop c.args.at i.text.now)) ≤ length (chars (rest_of i.matches)) =
    subst (λ (s : CutToEnd). length (chars (drop c.args.at s.text)) ≤ s.memo.unsought) (sym c.self.view_is) c.requires.sought in
    place_behind i.matches i.text.now _ c.args.at w.utf8 w.sought b few
