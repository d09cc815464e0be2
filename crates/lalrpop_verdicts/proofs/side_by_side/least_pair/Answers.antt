use Rattle.std.proofs.Common.{◌≡◌, ℕ, List, Option, None, Some, length, slice_get, refl, sym, ◌∙◌, subst}
use Rattle.std.specs.Prelude.{IfSome, IfNone}
use Rattle.std.proofs.lemmas.Bool.{false≢true}
use Rattle.std.proofs.lemmas.Option.{slice_get_read}
use Rattle.lalrpop_dfa.specs.Witness.{IsLeast}
use Rattle.lalrpop_dfa.proofs.Marking.{accepting_within}
use Rattle.lalrpop_verdicts.specs.Answers.{accepted_at}
use Rattle.lalrpop_verdicts.specs.Internal.Beside.{EndsHead, IsAhead, IsTail}
use Rattle.lalrpop_verdicts.specs.declared.pairs.Follow.TheVariants.{All}
use Rattle.lalrpop_verdicts.proofs.FirstPair.{no_word, least_word, none_more, none_to_end}
use Rattle.lalrpop_verdicts.proofs.BesideLaws.{IsHead, head_text, head_pair, least_of_both}
use Rattle.lalrpop_verdicts.proofs.WonWordLaws.{accepting}
use Rattle.lalrpop_verdicts.proofs.side_by_side.least_pair.Goals.{then-accepts+in_ok-ahead+in_ok-tail+in_default, else-accepts}
use Rattle.lalrpop_verdicts.proofs.side_by_side.least_pair.Goals as goal

some_of : {A : Type 0} (o : Option A) (x : A) (P : A → Type 0) → o ≡ Some x → IfSome o P → P x
some_of {A = A} o x P e h = subst (λ (y : Option A). IfSome y P) e h

none_of : {A : Type 0} (o : Option A) (Q : Type 0) → ((x : A) → o ≡ Some x → ⊥) → IfNone o Q → Q
none_of None Q h q = q
none_of (Some x) Q h q = absurd (h x refl)

pub automaton_ahead-requires : goal.automaton_ahead-requires
automaton_ahead-requires c =
    let p = c.index-heads-number.result.left in
    accepting_within c.args.dfa.now p (accepting (slice_get c.args.dfa.now p) c.args.first (c.accepts.ensures.0 c.if-accepts.true))

pub returns-in-Some-clause-least : goal.returns-in-Some-clause-least
returns-in-Some-clause-least c =
    let d = c.args.dfa.now in
    let i = c.args.first in
    let j = c.args.second in
    let cut = c.args.cut in
    let heads = c.args.heads.now in
    let n = c.loop-number.number in
    let x = c.index-heads-number.result in
    let at : slice_get heads n ≡ Some x = slice_get_read heads (length heads) n x refl c.loop-number-test.true c.index-heads-number.is in
    let word = c.in_ok-word_to.field-0.items in
    let place = c.in_ok-word_to.ensures.word All d d c.requires in
    let accepts : accepted_at (slice_get d x.left) ≡ Some i = c.accepts.ensures.0 c.if-accepts.true in
    let least_tail : IsLeast (IsTail cut d x.left j) c.in-Some.tail.items = some_of c.in_ok-tail.field-0 c.in-Some.tail
    (λ w. (p : ℕ) → IsAhead d p c.in_ok-ahead.ahead → IsLeast (IsTail cut d p j) w.items) c.in-Some.is c.in_ok-tail.ensures.least x.left c.in_ok-ahead.ensures in
    let head = least_word d d heads c.requires (IsHead cut d i j) (EndsHead cut d i j) (head_text cut d i j) (head_pair cut d i j)
    n x word at place (accepts, (c.in-Some.tail.items, least_tail.holds)) c.loop-number.invariant in
    least_of_both cut d i j x.left word c.in-Some.tail.items (c.requires.each n x word at place).holds.left head least_tail

pub loop-number-preserved : goal.loop-number-preserved
loop-number-preserved c =
    let d = c.args.dfa.now in
    let i = c.args.first in
    let j = c.args.second in
    let cut = c.args.cut in
    let heads = c.args.heads.now in
    let n = c.loop-number.number in
    let x = c.index-heads-number.result in
    let at : slice_get heads n ≡ Some x = slice_get_read heads (length heads) n x refl c.loop-number-test.true c.index-heads-number.is in
    none_more (EndsHead cut d i j) heads n x c.loop-number.invariant at (elim c.if-accepts.branch [
      | then-accepts+in_ok-ahead+in_ok-tail+in_default w ↦ λ q.
          none_of w.in_ok-tail.field-0 ((p : ℕ) → IsAhead d p w.in_ok-ahead.ahead → (b : List ℕ) → ¬ IsTail cut d p j b) w.in_default.not-Some w.in_ok-tail.ensures.none
          x.left w.in_ok-ahead.ensures q.1.0 q.1.1
      | else-accepts w ↦ λ q. false≢true (sym w.if-accepts.false ∙ c.accepts.ensures.1 q.0)
    ])

pub returns-clause-none : goal.returns-clause-none
returns-clause-none c = λ a b both.
    let d = c.args.dfa.now in
    let i = c.args.first in
    let j = c.args.second in
    let cut = c.args.cut in
    let heads = c.args.heads.now in
    no_word d d heads c.requires (IsHead cut d i j) (EndsHead cut d i j) (head_text cut d i j) (head_pair cut d i j)
    (none_to_end (EndsHead cut d i j) heads heads c.loop-number.number c.loop-number.invariant c.loop-number-test.false refl) a (b, both)
