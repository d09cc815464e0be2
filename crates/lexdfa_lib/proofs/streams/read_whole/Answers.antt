use Rattle.lexdfa_lib.specs.declared.error.RunError.TheVariants.{OutOfMemory}
use Rattle.lexdfa_lib.specs.Streams.{LeftOff, ReadsPart}
use Rattle.lexdfa_lib.proofs.RunLaws.{handed_on}
use Rattle.lexdfa_lib.proofs.StreamLaws.{reads_again}
use Rattle.lexdfa_lib.proofs.streams.read_whole.Goals as goal

pub returns-in_err-extend_from_slice-in-Some-clause-part : goal.returns-in_err-extend_from_slice-in-Some-clause-part
returns-in_err-extend_from_slice-in-Some-clause-part g c =
    let read = reads_again c.args.reader.now c.loop-all.reader c.read.new.self _ _ LeftOff c.loop-all.invariant.read c.in-Some.ensures.given.1 in
    handed_on (ReadsPart c.args.reader.now c.read.new.self) c.from_residual.result OutOfMemory c.from_residual.ensures.1 (_, read)
