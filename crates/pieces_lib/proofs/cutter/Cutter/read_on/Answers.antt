use Rattle.std.proofs.Common.{refl}
use Rattle.lexdfa_lib.specs.Streams.{AtEnd, Failed, LeftOff}
use Rattle.pieces_lib.proofs.ComingLaws.{comes_more, comes_to_failure, comes_whole}
use Rattle.pieces_lib.proofs.Incomings.{on_err}
use Rattle.pieces_lib.proofs.cutter.Cutter.read_on.Goals as goal

pub returns-in_err-read_on-clause-lost : goal.returns-in_err-read_on-clause-lost
returns-in_err-read_on-clause-lost g c =
    let lost = c.in_err-read_on.ensures.lost in
    on_err c.from_residual.result (record { bytes = lost.0; end = LeftOff }, lost.1)

pub returns-in_err-release-in-Nothing-clause-lost : goal.returns-in_err-release-in-Nothing-clause-lost
returns-in_err-release-in-Nothing-clause-lost g c =
    let read = rw c.in-Nothing.is at c.in_ok-read_on.ensures.brought in
    on_err c.from_residual-in_err-release-in-Nothing.result (record { bytes = read.0; end = AtEnd }, read.1.0)

pub returns-in_err-release-in-Failure-clause-lost : goal.returns-in_err-release-in-Failure-clause-lost
returns-in_err-release-in-Failure-clause-lost g c =
    let read = rw c.in-Failure.is at c.in_ok-read_on.ensures.brought in
    on_err c.from_residual-in_err-release-in-Failure.result (record { bytes = read.0; end = Failed }, read.1.0)

pub returns-in-More-clause-comes : goal.returns-in-More-clause-comes
returns-in-More-clause-comes g c =
    comes_more c.args.self.now c.read_on.new.self c.args.reader.now c.read_on.new.reader LeftOff c.requires.goes (rw c.in-More.is at c.in_ok-read_on.ensures.brought) refl

pub returns-in_ok-release-in-Nothing-clause-comes : goal.returns-in_ok-release-in-Nothing-clause-comes
returns-in_ok-release-in-Nothing-clause-comes g c =
    comes_whole c.args.self.now c.read_on.new.self c.args.reader.now c.read_on.new.reader AtEnd c.requires.goes (rw c.in-Nothing.is at c.in_ok-read_on.ensures.brought)
    c.release.new.self c.in_ok-release-in-Nothing.ensures.all _ refl c.finish.ensures.ended

pub returns-in_ok-release-in-Failure-clause-comes : goal.returns-in_ok-release-in-Failure-clause-comes
returns-in_ok-release-in-Failure-clause-comes g c =
    comes_to_failure c.args.self.now c.read_on.new.self c.args.reader.now c.read_on.new.reader Failed c.requires.goes (rw c.in-Failure.is at c.in_ok-read_on.ensures.brought)
    c.release-in-Failure.new.self c.in_ok-release-in-Failure.ensures.all refl
