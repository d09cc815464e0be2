use Rattle.std.proofs.Common.{◌+◌, ◌∙◌, inl, inr, arith, length, sym}
use Rattle.std.proofs.lemmas.Bool.{cases_lt, eqb-true}
use Rattle.lalrpop_emit.specs.Internal.Lists.{ahead_numbers, list_numbers}
use Rattle.lalrpop_emit.proofs.MemoCosts.{vain_room}
use Rattle.lalrpop_emit.proofs.longest_match.read_and_note.Goals as goal
use Rattle.lalrpop_emit.proofs.longest_match.read_and_note.Goals.{else-not-is_empty-via-then-not-is_empty+else-reading, else-not-is_empty-via-else-not-is_empty}

pub returns-else-not-is_empty-clause-paid : goal.returns-else-not-is_empty-clause-paid
returns-else-not-is_empty-clause-paid c = λ roomy.
    let reading = c.read_on-reading.result in
    elim c.else-not-is_empty.branch [
      | else-not-is_empty-via-then-not-is_empty+else-reading w ↦ omega (arith, w.if-reading.false)
      | else-not-is_empty-via-else-not-is_empty w ↦
          let none = eqb-true (length c.args.memo.now) 0 (sym c.is_empty.ensures ∙ w.if-not-is_empty.false) in
          elim (cases_lt (reading.last.at + 128) reading.end) [
            | inl far ↦
                absurd (omega (
                  arith,
                  none,
                  vain_room (ahead_numbers c.args.ahead.now) (list_numbers c.args.table.now) c.args.text.now reading.end c.args.memo.now reading.last.row reading.last.at c.requires.ahead
                      c.read_on-reading.ensures.row (c.read_on-reading.ensures.in_vain roomy) far roomy,
                ))
            | inr near ↦ omega (arith, near)
          ]
    ]
