use Rattle.std.proofs.Common.{◌≡◌, ◌<◌, ◌⊎◌, length, inl, inr, true, sym, ◌∙◌}
use Rattle.std.specs.Prelude.{is_some}
use Rattle.bajofeki.proofs.PartLaws.{match_here, none_here, nothing_last, whole_last, whole_near}
use Rattle.bajofeki.proofs.parts.told_by.Goals as goal
use Rattle.bajofeki.proofs.parts.told_by.Goals.{then-is_match-via-then-is_match, then-is_match-via-else-is_match+then-front-text-2}

pub returns-then-front-text-clause-told : goal.returns-then-front-text-clause-told
returns-then-front-text-clause-told c =
    let f = c.front_piece-front in
    let lexer = c.args.lexer.now in (
      f.ensures.boundary,
      (λ tail _. whole_near lexer.trees lexer.precedences c.args.text.now f.result.rule f.result.size f.result.reach f.ensures.front f.ensures.boundary.0 tail c.if-front-text.true),
    )

pub returns-then-not-is_last-clause-told : goal.returns-then-not-is_last-clause-told
returns-then-not-is_last-clause-told c =
    let f = c.front_piece-front in
    let lexer = c.args.lexer.now in (
      c.if-not-is_last.true,
      f.ensures.held c.if-front-text.false,
      (λ is. match_here lexer.trees lexer.precedences c.args.text.now f.result.rule f.result.size f.result.reach f.ensures.front f.ensures.boundary.0 (sym c.is_some-is_match.ensures ∙ is)),
      (λ is. none_here lexer.trees lexer.precedences c.args.text.now f.result.rule f.result.size f.result.reach f.ensures.front f.ensures.boundary.0 f.ensures.some (sym c.is_some-is_match.ensures ∙ is)),
      f.ensures.void,
    )

pub returns-then-is_match-clause-told : goal.returns-then-is_match-clause-told
returns-then-is_match-clause-told c =
    let f = c.front_piece-front in
    let lexer = c.args.lexer.now in
    let ends : (is_some f.result.rule ≡ true) ⊎ (f.result.size < length c.args.text.now) =
    elim c.then-is_match.branch [
      | then-is_match-via-then-is_match w ↦ inl (sym c.is_some-is_match.ensures ∙ w.if-is_match.true)
      | then-is_match-via-else-is_match+then-front-text-2 w ↦ inr w.if-front-text-2.true
    ] in (
      f.ensures.boundary,
      (λ tail none. whole_last lexer.trees lexer.precedences c.args.text.now f.result.rule f.result.size f.result.reach f.ensures.front f.ensures.boundary.0 tail c.utf8.text (none c.if-not-is_last.false) ends),
    )

pub returns-clause-told : goal.returns-clause-told
returns-clause-told c =
    let f = c.front_piece-front in
    let lexer = c.args.lexer.now in (
      c.if-not-is_last.false,
      (λ tail none. nothing_last lexer.trees lexer.precedences c.args.text.now f.result.rule f.result.size f.result.reach f.ensures.front f.ensures.boundary.0 tail c.utf8.text none (sym c.is_some-is_match.ensures ∙ c.if-is_match.false) c.if-front-text-2.false),
    )
