use Rattle.std.proofs.Common.{◌≡◌, ℕ, List, drop, refl, ap, subst, ◌∙◌, arith}
use Rattle.std.specs.Prelude.{None}
use Rattle.std.specs.Str.Iter.{char_indices_rest, char_indices_offset}
use Rattle.lalrpop_hir.specs.Longest.{IsLongest}
use Rattle.lalrpop_hir.specs.Tokens.{IsToken}
use Rattle.lalrpop_hir.proofs.Cuts.{cut_start, cut_more, cut_within}
use Rattle.lalrpop_rules.proofs.FirstMatches.{before_start, before_next, nothing_found, left_at}
use Rattle.lalrpop_rules.proofs.leftmost.find.Goals as goal

pub loop-start-init : goal.loop-start-init
loop-start-init c =
    let i = c.into_iter-start-iterator.ensures.into_iter_gives in
    let at = ap char_indices_offset i ∙ c.char_indices-start-items.ensures.offset in
    let rest = ap char_indices_rest i ∙ c.char_indices-start-items.ensures.rest in
    rw (at, rest) record {
      cut = cut_start c.args.text.now c.utf8.text;
      before = before_start c.args.lexer.now.trees c.args.text.now;
    }

pub returns-in-Some-token-clause-found : goal.returns-in-Some-token-clause-found
returns-in-Some-token-clause-found c =
    let start : c.in-Some.start ≡ char_indices_offset c.loop-start.start-iterator = c.in-Some.ensures.steps.0 in
    let token : IsToken c.args.lexer.now.trees c.args.lexer.now.precedences c.range_from.result.now 0 c.in-Some-token.token = c.in-Some-token.ensures.token in
    let longest = rw c.range_from.ensures.value at token.1 in
    ((refl, longest, token.2), λ n below. c.loop-start.invariant.before n (omega (arith, start, below)))

pub loop-start-preserved : goal.loop-start-preserved
loop-start-preserved c =
    let text = c.args.text.now in
    let at = char_indices_offset c.loop-start.start-iterator in
    let rest = char_indices_rest c.loop-start.start-iterator in
    let s = c.in-Some.ensures.steps in
    let cut = c.loop-start.invariant.cut in
    let here : c.range_from.result.now ≡ rest = c.range_from.ensures.value ∙ ap (λ n. drop n text) s.0 ∙ left_at text rest at cut in
    let none : IsLongest c.args.lexer.now.trees c.args.lexer.now.precedences rest None =
    subst (λ (t : List ℕ). IsLongest c.args.lexer.now.trees c.args.lexer.now.precedences t None) here c.in_default.ensures.none in
    record {
      cut = cut_more text rest _ at _ c.in-Some.field-0-1 c.utf8.text cut s.1 s.2;
      before = before_next c.args.lexer.now.trees c.args.lexer.now.precedences text rest _ at _ c.in-Some.field-0-1 c.utf8.text cut s.1 s.2 c.loop-start.invariant.before none;
    }

pub returns-clause-none : goal.returns-clause-none
returns-clause-none c =
    let cut = c.loop-start.invariant.cut in
    let within = cut_within _ _ _ cut in
    nothing_found _ _ (char_indices_offset c.loop-start.start-iterator) (omega (arith, within, c.in-None.ensures.steps.0)) c.loop-start.invariant.before
