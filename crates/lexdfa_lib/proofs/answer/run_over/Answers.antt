use Rattle.std.proofs.Common.{string_bytes}
use Rattle.lexdfa_lib.specs.Run.{AreLines, Fails}
use Rattle.lexdfa_lib.specs.Streams.{TakesPart}
use Rattle.lexdfa_lib.proofs.RunLaws.{handed_on, write_fails}
use Rattle.lexdfa_lib.proofs.answer.run_over.Goals as goal

pub returns-in_err-write-clause-fails : goal.returns-in_err-write-clause-fails
returns-in_err-write-clause-fails g c =
    let found = c.in_ok-outcome.field-0 in
    let are : AreLines c.args.all c.args.text.now c.in_ok-bytes.bytes.items found.outcome (string_bytes found.lines) = rw c.deref.ensures.value at c.in_ok-outcome.ensures in
    let part : TakesPart c.args.writer.now (string_bytes found.lines) c.in_err-write.field-0.0 c.write.new.self =
    rw c.as_bytes.ensures.value at c.in_err-write.ensures.part in
    handed_on (Fails (AreLines c.args.all c.args.text.now) c.args.reader.now c.read_whole.new.reader c.args.writer.now c.write.new.self)
    c.from_residual-in_err-write.result c.in_err-write.field-0.0 c.from_residual-in_err-write.ensures.1
    (write_fails (AreLines c.args.all c.args.text.now) c.args.reader.now c.read_whole.new.reader c.args.writer.now c.write.new.self c.in_ok-bytes.bytes.items
    (string_bytes found.lines) found.outcome c.in_err-write.field-0.0 c.in_ok-bytes.ensures.bytes are part (λ memory. (c.in_err-write.ensures.refused memory).1))
