use Rattle.std.proofs.Common.{◌+◌, length, refl}
use Rattle.std.specs.Prelude.{Some}
use Rattle.bajofeki.proofs.AheadLaws.{run_told}
use Rattle.bajofeki.proofs.next_front.settled_token.Goals as goal

pub returns-in-Some-longest : goal.returns-in-Some-longest
returns-in-Some-longest c =
    let slice = c.in-Some-longest.slice.now in
    let index = c.in-Some-longest.index in
    let prefix = rw c.in-Some-longest.is at c.in-Some.ensures.prefix in
    let dead = rw c.in-Some-longest.is at c.in-Some.ensures.dead in
    record {
      told = run_told c.dense-dense.result.now c.args.lexer.now.trees c.args.lexer.now.precedences c.args.text.now slice (record { rule = Some index; size = length slice }) index
          (length slice + c.in-Some.found.past) c.dense-dense.ensures.built c.utf8.text (λ us qs s. rw c.in-Some-longest.is at (c.in-Some.ensures.answer us qs s)) prefix.0 refl refl
          (dead c.if-slice-found.true);
    }
