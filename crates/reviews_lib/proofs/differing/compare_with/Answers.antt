use Rattle.std.proofs.Common.{inr}
use Rattle.std.proofs.lemmas.Result.{IfOk-weaker}
use Rattle.reviews_lib.proofs.differing.compare_with.Goals as goal

pub returns-in-Ok : goal.returns-in-Ok
returns-in-Ok g c = record {
  answer = IfOk-weaker c.compare_bytes.result _ _ (λ answer is. inr (c.in-Ok.bytes.items, (rw c.in-Ok.is at c.in_ok-bytes.ensures.bytes, is)))
      (rw c.deref.ensures.value at c.compare_bytes.ensures.answer);
}
