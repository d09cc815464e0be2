use Rattle.std.proofs.Common.{◌≡◌, ◌+◌, ◌-◌, ◌++◌, List, ℕ, true, false, map, refl, sym, ap, subst, ◌∙◌, arith}
use Rattle.std.specs.Prelude.{IsSomeAnd}
use Rattle.std.specs.String.{string_bytes}
use Rattle.std.proofs.lemmas.List.{length-map}
use Rattle.lalrpop_dense.specs.Neighbours.{IsWhole}
use Rattle.lalrpop_lexer.specs.Joined.{plain}
use Rattle.lalrpop_lexer.specs.Internal.Joining.{IsJoinedUpTo}
use Rattle.lalrpop_lexer.proofs.Joining.{plain_at, inseparable_at, nothing_joined, first_joined, next_joined, all_joined}
use Rattle.lalrpop_lexer.proofs.neighbours.Neighbours.joined.Goals as goal
use Rattle.lalrpop_lexer.proofs.neighbours.Neighbours.joined.Goals.{then-at-gt0+in-Some+in_ok-push_str-in-Some, else-at-gt0}

pub loop-at-init : goal.loop-at-init
loop-at-init c =
    let ts = c.args.self.now.trees in
    let ps = c.args.self.now.precedences in
    let sep = plain c.args.separator.now in
    let xs = map plain c.args.tokens.now in
    subst (IsJoinedUpTo ts ps sep xs 0) (sym c.new-text.ensures.bytes) (nothing_joined ts ps sep xs (c.if-not-is_whole.ensures.0 refl))

pub returns-then-not-is_whole-2-clause-error : goal.returns-then-not-is_whole-2-clause-error
returns-then-not-is_whole-2-clause-error c =
    let ts = c.args.self.now.trees in
    let ps = c.args.self.now.precedences in
    let token = c.index-tokens-at.result in
    let at = plain_at c.args.tokens.now c.loop-at.at token (omega arith) c.index-tokens-at.is in
    let not : ¬ IsWhole ts ps (plain token) = λ whole. (let no : false ≡ true = c.if-not-is_whole-2.ensures.1 whole in absurd (cc)) in
    (subst (λ o. IsSomeAnd o (λ x. ¬ IsWhole ts ps x)) (sym at) not, c.loop-at.invariant.can)

pub returns-in-None-clause-error : goal.returns-in-None-clause-error
returns-in-None-clause-error c =
    inseparable_at c.args.self.now.trees c.args.self.now.precedences (plain c.args.separator.now) c.args.tokens.now c.loop-at.at c.index-tokens-at-then-at-gt0.result c.index-tokens-at.result
    (omega arith) (omega arith) c.index-tokens-at-then-at-gt0.is c.index-tokens-at.is c.in-None.ensures.none.0 c.in-None.ensures.none.1 c.loop-at.invariant.can

pub loop-at-preserved : goal.loop-at-preserved
loop-at-preserved c =
    let ts = c.args.self.now.trees in
    let ps = c.args.self.now.precedences in
    let sep = plain c.args.separator.now in
    let xs = map plain c.args.tokens.now in
    let n = c.loop-at.at in
    let token = c.index-tokens-at.result in
    let at = plain_at c.args.tokens.now n token (omega arith) c.index-tokens-at.is in
    let whole : IsWhole ts ps (plain token) = c.if-not-is_whole-2.ensures.0 refl in
    elim c.if-at-gt0.branch [
      | then-at-gt0+in-Some+in_ok-push_str-in-Some w ↦ (let first = w.index-tokens-at-then-at-gt0.result in
          let before = plain_at c.args.tokens.now (n - 1) first (omega arith) w.index-tokens-at-then-at-gt0.is in
          let text = c.in_ok-push_str.ensures.bytes ∙ ap (λ t. string_bytes t ++ token.slice.now) w.text-is
          ∙ ap (λ (b : List ℕ). b ++ token.slice.now) w.in_ok-push_str-in-Some.ensures.bytes in
          subst (IsJoinedUpTo ts ps sep xs (n + 1)) (sym text)
          (next_joined ts ps sep xs (n - 1) n (string_bytes c.loop-at.text) w.in-Some.between.now (plain first) (plain token) c.loop-at.invariant (omega (arith, w.if-at-gt0.true)) before at whole w.in-Some.ensures.some))
      | else-at-gt0 w ↦ (let text = c.in_ok-push_str.ensures.bytes ∙ ap (λ t. string_bytes t ++ token.slice.now) w.text-is in
          subst (IsJoinedUpTo ts ps sep xs (n + 1)) (sym text)
          (first_joined ts ps sep xs n (string_bytes c.loop-at.text) (plain token) c.loop-at.invariant (omega (arith, w.if-at-gt0.false)) at whole))
    ]

pub returns-clause-text : goal.returns-clause-text
returns-clause-text c =
    let xs = map plain c.args.tokens.now in
    (all_joined c.args.self.now.trees c.args.self.now.precedences (plain c.args.separator.now) xs c.loop-at.at (string_bytes c.loop-at.text) c.loop-at.invariant
    (omega (arith, length-map c.args.tokens.now plain))).0
