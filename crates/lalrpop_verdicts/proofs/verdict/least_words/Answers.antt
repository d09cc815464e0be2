use Rattle.std.proofs.Common.{◌<◌, ◌≤◌, ◌∙◌, length, Some, rules, arith, subst}
use Rattle.std.specs.Vec.Iter.{into_iter_items}
use Rattle.lalrpop_verdicts.proofs.LeastWordLaws.{AreTold, all_told, length_kept, passed_turn, told_turn}
use Rattle.lalrpop_verdicts.proofs.VerdictLaws.{nothing_in}
use Rattle.lalrpop_verdicts.proofs.verdict.least_words.Goals as goal

pub loop-by-preserved-then-place-len : goal.loop-by-preserved-then-place-len
loop-by-preserved-then-place-len c =
    let (long, counted, (all, (won, told))) = c.loop-by.invariant in
    let s = c.in-Some.ensures.steps in
    let within : c.index-place.result < length c.loop-by.words.items = search rules in (
      length_kept c.loop-by.words.items c.index-place.result (Some c.by.inside.word) ∙ long,
      omega (arith, counted, simp s.0 at counted, s.1),
      (
        all,
        (
          won,
          told_turn all (into_iter_items c.loop-by.by-iterator) (into_iter_items c.next.new.self) c.loop-by.words.items c.in-Some.field-0 c.index-place.result told s.0 c.by.inside.by c.by.inside.word c.by.view_is c.index-place.ensures.value within,
        ),
      ),
    )

pub loop-by-preserved-then-place-len-2 : goal.loop-by-preserved-then-place-len-2
loop-by-preserved-then-place-len-2 c =
    let (long, counted, (all, (won, told))) = c.loop-by.invariant in
    let s = c.in-Some.ensures.steps in
    let within : c.index-place.result < length c.loop-by.words.items = search rules in (
      length_kept c.loop-by.words.items c.index-place.result (Some c.by.inside.word) ∙ long,
      omega (arith, counted, simp s.0 at counted, s.1),
      (
        all,
        (
          won,
          told_turn all (into_iter_items c.loop-by.by-iterator) (into_iter_items c.next.new.self) c.loop-by.words.items c.in-Some.field-0 c.index-place.result told s.0 c.by.inside.by c.by.inside.word c.by.view_is c.index-place.ensures.value within,
        ),
      ),
    )

pub loop-by-preserved : goal.loop-by-preserved
loop-by-preserved c =
    let (long, counted, (all, (won, told))) = c.loop-by.invariant in
    let s = c.in-Some.ensures.steps in
    let outside : length c.loop-by.words.items ≤ c.index-place.result = search rules in (
      long,
      omega (arith, counted, simp s.0 at counted, s.1),
      (
        all,
        (
          won,
          passed_turn all (into_iter_items c.loop-by.by-iterator) (into_iter_items c.next.new.self) c.loop-by.words.items c.in-Some.field-0 c.index-place.result told s.0 c.by.inside.by c.by.inside.word c.by.view_is c.index-place.ensures.value outside,
        ),
      ),
    )

pub returns-clause-each : goal.returns-clause-each
returns-clause-each c = λ stays i o at.
    (let (long, counted, (all, (won, told))) = c.loop-by.invariant in
    let none = nothing_in (into_iter_items c.loop-by.by-iterator) (omega (arith, counted, c.in-None.ensures.steps.0)) in
    all_told c.args.dfa.now all c.loop-by.words.items (won stays) (subst (λ l. AreTold all l c.loop-by.words.items) none told) i o at)
