use Rattle.std.proofs.Common.{inr}
use Rattle.lexdfa_lib.specs.Streams.{AtEnd, Failed, ReadsPart}
use Rattle.lexdfa_lib.specs.declared.error.RunError.TheVariants.{Read}
use Rattle.lexdfa_lib.proofs.files.bytes_of.Goals as goal

pub returns-in-Ok-read_whole-clause-bytes : goal.returns-in-Ok-read_whole-clause-bytes
returns-in-Ok-read_whole-clause-bytes g c =
    c.in-Ok.ensures.reader c.read_whole.new.reader (record { bytes = c.in-Ok-read_whole.bytes.items; end = AtEnd }) (rw c.new.ensures.new at c.in-Ok-read_whole.ensures.bytes)

pub returns-in-Err-Read-clause-reason : goal.returns-in-Err-Read-clause-reason
returns-in-Err-Read-clause-reason g c =
    let failed : ReadsPart (g.F.Reader.Source.stream c.in-Ok.source) c.read_whole.new.reader Read =
    rw (c.new.ensures.new, c.in-Err-Read.field-0-is) at c.in-Err-Read.ensures.part in
    inr (failed.0, (c.in-Ok.ensures.reader c.read_whole.new.reader (record { bytes = failed.0; end = Failed }) failed.1, c.in_ok-from_str-in-Err-Read.ensures.ok))
