use Rattle.std.proofs.Common.{◌+◌, ◌<◌, length, arith}
use Rattle.std.proofs.lemmas.List.{get_or_read}
use Rattle.lalrpop_emit.proofs.RunBits.{no_more, next_word, found_end}
use Rattle.lalrpop_emit.proofs.ahead_driver.next_end.Goals as goal

pub returns-then-run-clause-end : goal.returns-then-run-clause-end
returns-then-run-clause-end c = λ least place h.
    no_more least c.words.run place (c.words.invariant.place least place h) c.words-test.true (omega (arith, c.if-run.true))

pub words-preserved : goal.words-preserved
words-preserved c =
    let run = c.words.run in
    let room = c.words.invariant.room in
    let more : run.word + 1 < length run.ends.items = omega (arith, c.if-run.false, room.length, room.ends) in
    record {
      place = λ least place h.
          next_word least run place (c.words.invariant.place least place h) c.index.result.now c.words-test.true (omega (arith, c.if-run.false))
          (get_or_read run.ends.items (run.word + 1) c.index.result.now more c.index.ensures 0);
      none = λ h. absurd (omega (arith, (c.words.invariant.none h).word, c.if-run.false));
      same = record {
        base = c.words.invariant.same.base;
        length = c.words.invariant.same.length;
        mode = c.words.invariant.same.mode;
        since = c.words.invariant.same.since;
        columns = c.words.invariant.same.columns;
        rows = c.words.invariant.same.rows;
        ends = c.words.invariant.same.ends;
      };
      room = record {
        columns = room.columns;
        ends = room.ends;
        length = room.length;
        word = omega (arith, c.if-run.false);
      };
    }

pub returns-clause-end : goal.returns-clause-end
returns-clause-end c = λ least place h.
    found_end least c.words.run place (c.words.invariant.place least place h) (omega (arith, c.words-test.false))

pub returns-clause-none : goal.returns-clause-none
returns-clause-none c = λ h. omega (arith, (c.words.invariant.none h).bits, c.words-test.false)
