use Rattle.std.proofs.Common.{◌≡◌, ℕ, ◌+◌, ◌*◌, Option, Some, None, false, sym, subst, length, arith}
use Rattle.std.specs.Prelude.{slice_get, SomeIff}
use Rattle.std.specs.Option.{option_eq}
use Rattle.std.proofs.lemmas.Bool.Decides.{nat_tests}
use Rattle.std.proofs.lemmas.Option.{get_or_from_slice_get, slice_get_within}
use lib.Dec.{eqb}
use mathlib.Core.Bool.{not}
use borrow.Author.Count.{below_more}
use Rattle.lalrpop_emit.specs.Ahead.{Standing, Begin}
use Rattle.lalrpop_emit.specs.Internal.Lists.{IsRightRow, ahead_numbers, list_numbers}
use Rattle.lalrpop_emit.proofs.AheadTables.{few_beyond, ahead_by_rows}
use Rattle.lalrpop_emit.proofs.ahead_table.is_ahead.Goals as goal

pub loop-number-preserved : goal.loop-number-preserved
loop-number-preserved c = λ k s below at.
    let a = ahead_numbers c.args.ahead.now in
    let t = list_numbers c.args.table.now in
    let standings = c.args.standings.now in
    let number = c.loop-number.number in
    below_more (λ (k : ℕ). (s : Standing) → slice_get standings k ≡ Some s → IsRightRow a t standings c.args.patience.now (k * (a.width + 1)) s) number (λ k below s at. c.loop-number.invariant k s below at)
    (λ s at. subst (λ (s : Standing). IsRightRow a t standings c.args.patience.now (number * (a.width + 1)) s) (get_or_from_slice_get standings number s Begin at) (c.is_right_row.ensures c.if-not-is_right_row.false))
    k below s at

-- a product that is some number
product_is : (made : Option ℕ) (Fits : Type 0) (product n : ℕ) → SomeIff made Fits product → not (option_eq eqb made (Some n)) ≡ false → n ≡ product
product_is None fits product n is same = absurd (cc)
product_is (Some m) fits product n is same = grind (arith, nat_tests)

pub returns : goal.returns
returns c = λ _.
    ahead_by_rows (ahead_numbers c.args.ahead.now) (list_numbers c.args.table.now) c.args.standings.now c.args.patience.now c.requires.columns
    (λ k s at. c.loop-number.invariant k s (omega (arith, slice_get_within c.args.standings.now k s at)) at)
    (few_beyond (list_numbers c.args.table.now) c.args.ahead.now.width c.requires.columns c.requires.beyond)
    (cc (product_is c.checked_mul.result _ (length c.args.standings.now * (c.args.ahead.now.width + 1)) c.len.result c.checked_mul.ensures (sym c.if-ne.ensures), c.len.ensures))
    (c.stands_for.ensures c.if-not-stands_for.false)
