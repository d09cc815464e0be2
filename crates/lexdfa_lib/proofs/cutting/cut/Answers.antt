use Rattle.std.proofs.Common.{◌+◌, ◌≤◌, [], ◌∷◌, ◌++◌, length, map, arith, refl, rules}
use Rattle.std.specs.Prelude.{Ok}
use Rattle.std.proofs.lemmas.Result.{IfOk-weaker}
use Rattle.lexdfa_lib.proofs.CutLemmas.{items_more, fault_is_last, these_are_all, one_more, tokens_more, count_more, lines_more, told, fault_ends, end_ends}
use Rattle.lexdfa_lib.proofs.cutting.cut.Goals as goal

pub loop-item-init : goal.loop-item-init
loop-item-init c = ([], search rules)

pub overflow_add-count : goal.overflow_add-count
overflow_add-count c =
    let tokens = c.loop-item.invariant in
    let more = items_more _ _ _ _ (map Ok tokens.0) _ _ refl tokens.1.0 c.in-Some.is c.next.ensures.steps in
    let less : c.loop-item.count + 1 ≤ length c.args.text.now = one_more c.args.text.now tokens.0 c.in-Some.item _ c.utf8.text (c.in_ok-items.ensures.count _ _ more) tokens.1.1 in
    omega arith

pub loop-item-preserved : goal.loop-item-preserved
loop-item-preserved c =
    let tokens = c.loop-item.invariant in
    let token = c.in-Ok.token in
    let more = items_more _ _ _ _ (map Ok tokens.0) _ _ refl tokens.1.0 c.in-Some.is c.next.ensures.steps in (
      tokens.0 ++ token ∷ [],
      (
        tokens_more _ _ tokens.0 _ token c.in-Ok.is more,
        count_more _ tokens.0 token tokens.1.1,
        lines_more _ _ tokens.0 token c.in_ok-push_token-in-Ok.ensures tokens.1.2,
      ),
    )

pub returns-in-Err : goal.returns-in-Err
returns-in-Err c =
    let tokens = c.loop-item.invariant in
    let all = fault_is_last _ _ _ _ (map Ok tokens.0) _ _ _ refl tokens.1.0 c.in-Some.is c.in-Err.is c.next.ensures.steps in
    IfOk-weaker c.with_outcome.result _ _
    (λ answers same. (
      tokens.0,
      told _ _ c.args.text.now tokens.0 answers.outcome _ _ _ same.0 same.1 tokens.1.2
          (fault_ends _ _ c.args.text.now tokens.0 _ _ _ (c.in_ok-items.ensures.tokens _ all) c.in-Err.is tokens.1.1),
    ))
    c.with_outcome.ensures

pub returns : goal.returns
returns c =
    let tokens = c.loop-item.invariant in
    let all = these_are_all _ _ _ _ (map Ok tokens.0) _ refl tokens.1.0 refl c.in_default.ensures.steps in
    IfOk-weaker c.with_outcome-2.result _ _
    (λ answers same. (
      tokens.0,
      told _ _ c.args.text.now tokens.0 answers.outcome _ _ _ same.0 same.1 tokens.1.2 (end_ends _ _ c.args.text.now tokens.0 _ (c.in_ok-items.ensures.tokens _ all) tokens.1.1),
    ))
    c.with_outcome-2.ensures
