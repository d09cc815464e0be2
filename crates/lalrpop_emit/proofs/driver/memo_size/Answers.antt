use Rattle.std.proofs.Common.{ℕ, ◌*◌, ◌-◌, ◌^◌, ◌∙◌, ap, arith, min, refl, sym}
use Rattle.lalrpop_emit.specs.NumberedRules.{row_words}
use Rattle.lalrpop_emit.proofs.ModeMemos.{last_small, waiting_of_all}
use Rattle.lalrpop_emit.proofs.driver.memo_size.Goals as goal

pub overflow_add-last : goal.overflow_add-last
overflow_add-last c =
    omega (
      arith,
      last_small _ c.args.numbers.now c.numbers.inside.ahead.items c.len.result c.index-last.result.now c.numbers.view_is c.numbers.invariant refl
          (omega (arith, c.len.ensures, c.numbers.inside.ahead.ok.0)) c.index-last.ensures,
    )

pub returns : goal.returns
returns c = record {
  size = c.memo_words.ensures
      ∙ ap (λ (k : ℕ). min (k * row_words c.args.size) (2 ^ 64 - 1))
      (sym (waiting_of_all _ c.args.numbers.now c.numbers.inside.ahead.items c.len.result c.index-last.result.now c.numbers.view_is c.numbers.invariant refl
      (omega (arith, c.len.ensures, c.numbers.inside.ahead.ok.0)) c.index-last.ensures));
}
