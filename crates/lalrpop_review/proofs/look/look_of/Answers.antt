use Rattle.std.proofs.Common.{◌≡◌, true, length, subst}
use Rattle.std.specs.Prelude.{Some, slice_get}
use Rattle.lalrpop_hir.specs.Winners.{IsOnlyStrongest, Matched}
use Rattle.lalrpop_dfa.specs.Lookahead.{StaysOpenEver}
use Rattle.lalrpop_review.specs.Review.{AreThose}
use Rattle.lalrpop_review.proofs.Those.{those_same}
use Rattle.lalrpop_review.proofs.look.look_of.Goals as goal

pub returns-in_ok-rules-in-None : goal.returns-in_ok-rules-in-None
returns-in_ok-rules-in-None c =
    let ts = c.args.lexer.now.trees in
    let flags = c.in_ok-flags-in-None.flags.items in
    let marked : AreThose (length flags) (λ i. slice_get flags i ≡ Some true) c.in_ok-rules-in-None.rules.items =
    subst (λ bs. AreThose (length bs) (λ i. slice_get bs i ≡ Some true) c.in_ok-rules-in-None.rules.items) c.deref.ensures.value c.in_ok-rules-in-None.ensures.marked in
    record {
      look = (
        c.in-None.ensures.answer,
        those_same (length flags) (length ts) (λ i. slice_get flags i ≡ Some true) (λ i. StaysOpenEver (Matched ts) (λ w. IsOnlyStrongest ts c.args.lexer.now.precedences w i)) c.in_ok-rules-in-None.rules.items
            c.in_ok-flags-in-None.ensures.same_length c.in_ok-flags-in-None.ensures.each marked,
      );
    }
