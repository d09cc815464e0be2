use Rattle.std.proofs.Common.{◌≡◌, ◌<◌, ◌∙◌, ℕ, suc, Some, length, sym, ap, subst, arith}
use Rattle.std.specs.Prelude.{slice_get, Option}
use Rattle.std.proofs.lemmas.Option.{slice_get-get_or}
use Rattle.lalrpop_verdicts.proofs.PairWords.{AreValues, IsWithin, rank, values_back, rank_falls, within_back, values_done}
use Rattle.lalrpop_verdicts.proofs.pairs.word_to.Goals as goal

pub loop-place-smaller : goal.loop-place-smaller
loop-place-smaller c =
    let pairs = c.args.pairs.now in
    let k = c.in-Some.number in
    let x = c.index-pairs-number.result in
    let within : k < length pairs = subst (IsWithin pairs) c.in-Some.is c.loop-place.invariant.within in
    let at : slice_get pairs k ≡ Some x = slice_get-get_or pairs k x within ∙ ap (λ y. Some y) (sym c.index-pairs-number.is) in
    let given = c.requires.pairs in
    let less : rank x.from < suc k = rank_falls pairs k x at within given.0 given.1 given.2 given.3 in
    let here : rank c.loop-place.place ≡ suc k = ap rank c.in-Some.is in
    omega (arith, less, here)

pub loop-place-preserved : goal.loop-place-preserved
loop-place-preserved c =
    let pairs = c.args.pairs.now in
    let k = c.in-Some.number in
    let x = c.index-pairs-number.result in
    let within : k < length pairs = subst (IsWithin pairs) c.in-Some.is c.loop-place.invariant.within in
    let at : slice_get pairs k ≡ Some x = slice_get-get_or pairs k x within ∙ ap (λ y. Some y) (sym c.index-pairs-number.is) in
    let given = c.requires.pairs in
    let values = subst (λ (o : Option ℕ). AreValues pairs c.args.number o c.loop-place.values.items) c.in-Some.is c.loop-place.invariant.values in
    record {
      within = within_back pairs k x at within given.0 given.1 given.2 given.3;
      values = values_back pairs k x at within c.args.number c.loop-place.values.items c.push.new.self.items values c.in_ok-push.ensures.items;
    }

pub returns : goal.returns
returns c =
    let values = subst (λ (o : Option ℕ). AreValues c.args.pairs.now c.args.number o c.loop-place.values.items) c.in_default.is c.loop-place.invariant.values in
    record { word = values_done c.args.pairs.now c.args.number c.loop-place.values.items c.reverse.new.self.items c.requires.within values c.reverse.ensures.items }
