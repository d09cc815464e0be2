use Rattle.std.proofs.Common.{length, ap}
use Rattle.std.specs.Prelude.{Ok, Err, Result, IfOk}
use Rattle.lalrpop_lexer.proofs.RunningOn.{marks_of_trees}
use Rattle.lalrpop_lexer.proofs.neighbours.marks_of.Goals as goal

both_ok : {A E : Type 0} {P Q R : A → Type 0} (r : Result A E) → ((x : A) → P x → Q x → R x) → IfOk r P → IfOk r Q → IfOk r R
both_ok (Ok x) f p q = f x p q
both_ok (Err e) f p q = tt

pub returns : goal.returns
returns c = record {
  marks = both_ok c.running_on.result
      (λ marks size each. marks_of_trees c.args.dfa.now c.args.lexer.now (length c.regexs.result.now) c.args.second marks.items c.requires.built (ap length c.regexs.ensures.trees) size each)
      c.running_on.ensures.same_length c.running_on.ensures.each;
}
