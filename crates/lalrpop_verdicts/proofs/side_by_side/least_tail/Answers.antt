use Rattle.std.proofs.Common.{◌≡◌, List, Some, length, slice_get, refl, sym, ◌∙◌, subst}
use Rattle.std.proofs.lemmas.Bool.{false≢true}
use Rattle.std.proofs.lemmas.Option.{slice_get_read}
use Rattle.lalrpop_verdicts.specs.Internal.Beside.{EndsTail, IsTail}
use Rattle.lalrpop_verdicts.specs.Internal.Pairs.{NoneBefore}
use Rattle.lalrpop_verdicts.specs.declared.pairs.Pair.{Pair}
use Rattle.lalrpop_verdicts.specs.declared.pairs.Follow.TheVariants.{All}
use Rattle.lalrpop_verdicts.proofs.Differing.{HasPlace}
use Rattle.lalrpop_verdicts.proofs.FirstPair.{no_word, least_word, none_more, none_to_end}
use Rattle.lalrpop_verdicts.proofs.BesideLaws.{tail_text, tail_pair}
use Rattle.lalrpop_verdicts.proofs.side_by_side.least_tail.Goals.{else-fits-via-then-fits+else-accepts, else-fits-via-else-fits}
use Rattle.lalrpop_verdicts.proofs.side_by_side.least_tail.Goals as goal

pub returns-then-accepts-clause-least : goal.returns-then-accepts-clause-least
returns-then-accepts-clause-least c = λ p h.
    let e = c.args.ahead.now in
    let d = c.args.dfa.now in
    let j = c.args.second in
    let cut = c.args.cut in
    let seen = c.deref-pair-items.result.now in
    let pairs = c.in_ok-pairs.pairs.items in
    let n = c.loop-number.number in
    let x = c.pair-item.result in
    let at : slice_get seen n ≡ Some x = slice_get_read seen (length seen) n x refl c.loop-number-test.true c.pair-item.is in
    let word = c.in_ok-word_to.field-0.items in
    let places = subst (λ (ps : List Pair). HasPlace ps n word) c.deref.ensures.value c.in_ok-word_to.ensures.word in
    let place = places All e d c.in_ok-pairs.ensures.pairs in
    least_word e d pairs c.in_ok-pairs.ensures.pairs (IsTail cut d p j) (EndsTail cut e d j) (tail_text cut d p e j h) (tail_pair cut d p e j h)
    n x word (subst (λ (ps : List Pair). slice_get ps n ≡ Some x) c.deref-pair-items.ensures.value at) place
    (c.fits.ensures.0 c.if-fits.true, c.accepts.ensures.0 c.if-accepts.true)
    (subst (λ (ps : List Pair). NoneBefore (EndsTail cut e d j) ps n) c.deref-pair-items.ensures.value c.loop-number.invariant)

pub loop-number-preserved : goal.loop-number-preserved
loop-number-preserved c =
    let seen = c.deref-pair-items.result.now in
    let n = c.loop-number.number in
    let x = c.pair-item.result in
    let at : slice_get seen n ≡ Some x = slice_get_read seen (length seen) n x refl c.loop-number-test.true c.pair-item.is in
    none_more (EndsTail c.args.cut c.args.ahead.now c.args.dfa.now c.args.second) seen n x c.loop-number.invariant at (elim c.else-fits.branch [
      | else-fits-via-then-fits+else-accepts w ↦ λ q. false≢true (sym w.if-accepts.false ∙ w.accepts.ensures.1 q.1)
      | else-fits-via-else-fits w ↦ λ q. false≢true (sym w.if-fits.false ∙ c.fits.ensures.1 q.0)
    ])

pub returns-clause-none : goal.returns-clause-none
returns-clause-none c = λ p h.
    let e = c.args.ahead.now in
    let d = c.args.dfa.now in
    let j = c.args.second in
    let cut = c.args.cut in
    let pairs = c.in_ok-pairs.pairs.items in
    no_word e d pairs c.in_ok-pairs.ensures.pairs (IsTail cut d p j) (EndsTail cut e d j) (tail_text cut d p e j h) (tail_pair cut d p e j h)
    (none_to_end (EndsTail cut e d j) pairs c.deref-pair-items.result.now c.loop-number.number c.loop-number.invariant c.loop-number-test.false c.deref-pair-items.ensures.value)
