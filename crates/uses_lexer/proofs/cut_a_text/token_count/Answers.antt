use Rattle.std.proofs.Common.{◌≡◌, ◌+◌, ◌≤◌, List, [], ◌∷◌, ◌++◌, length, map, true, inl, refl, rules, ap, subst, arith}
use Rattle.std.specs.Prelude.{Ok}
use Rattle.std.specs.Iterator.{Yields}
use Rattle.lalrpop_lexer.specs.Cutting.{Cutting, GivesItem, with_places}
use Rattle.lalrpop_lexer.specs.Tokens.{Item, AreTokens}
use Rattle.uses_lexer.proofs.Counting.{item_more, no_more}
use Rattle.uses_lexer.proofs.Tokens.{item_last, token_more, count_more, room_for_one_more, then_a_fault}
use Rattle.uses_lexer.proofs.cut_a_text.token_count.Goals as goal

the_same : (s t : Cutting) (xs ys : List Item) → xs ≡ ys → Yields GivesItem s xs t → Yields GivesItem s ys t
the_same s t xs ys e given = subst (λ (zs : List Item). Yields GivesItem s zs t) e given

pub loop-item-init : goal.loop-item-init
loop-item-init c = ([], search rules)

pub overflow_add-count : goal.overflow_add-count
overflow_add-count c =
    let so_far = c.loop-item.invariant in
    let more = item_more GivesItem _ _ _ _ (map Ok so_far.0) _ _ refl so_far.1.0 c.in-Some.is c.next.ensures.steps in
    let few = c.in_ok-items.ensures.count _ _ more in
    let room : c.loop-item.count + 1 ≤ length c.args.text.now = room_for_one_more c.args.text.now (map Ok so_far.0) c.in-Some.item _ so_far.0 c.utf8.text few refl so_far.1.1 in
    omega arith

pub loop-item-preserved : goal.loop-item-preserved
loop-item-preserved c =
    let so_far = c.loop-item.invariant in
    let token = c.in-Ok.field-0 in
    let more = item_more GivesItem _ _ _ _ (map Ok so_far.0) _ _ refl so_far.1.0 c.in-Some.is c.next.ensures.steps in (
      so_far.0 ++ token ∷ [],
      (
        the_same _ _ _ _ (token_more (map Ok so_far.0) c.in-Some.item so_far.0 token refl c.in-Ok.is) more,
        count_more _ so_far.0 token so_far.1.1,
      ),
    )

pub returns-in-Err : goal.returns-in-Err
returns-in-Err c =
    let so_far = c.loop-item.invariant in
    let step = rw c.in-Err.is at c.in-Some.ensures.steps in
    let over : c.next.new.self.is_over ≡ true = ap (λ (x : Cutting). x.is_over) step.4 in
    let all = item_last GivesItem _ _ _ _ (map Ok so_far.0) _ _ refl so_far.1.0 c.in-Some.is c.next.ensures.steps (refl, inl over) in
    record {
      all = tt;
      fault = (
        so_far.0,
        subst (λ (xs : List Item). AreTokens c.args.lexer.now.trees c.args.lexer.now.precedences c.args.text.now 0 (with_places 0 xs)) (then_a_fault (map Ok so_far.0) _ so_far.0 c.in-Err.fault refl c.in-Err.is)
            (c.in_ok-items.ensures.tokens _ all),
      );
    }

pub returns : goal.returns
returns c =
    let so_far = c.loop-item.invariant in
    let all = no_more GivesItem _ _ _ _ (map Ok so_far.0) _ refl so_far.1.0 refl c.in_default.ensures.steps in
    record {
      all = (so_far.0, (c.in_ok-items.ensures.tokens _ all, so_far.1.1));
      fault = tt;
    }
