use Rattle.std.proofs.Common.{arith}
use Rattle.lexdfa_lib.specs.Streams.{AtEnd, Failed}
use Rattle.pieces_lib.proofs.Incomings.{on_with_nothing}
use Rattle.pieces_lib.proofs.incoming.Incoming.read_on.Goals as goal

pub returns-in-None-clause-brought : goal.returns-in-None-clause-brought
returns-in-None-clause-brought g c = on_with_nothing c.args.reader.now c.read.new.self Failed c.args.self.now c.in-None.ensures.fails

pub returns-in-Some-eq0-clause-brought : goal.returns-in-Some-eq0-clause-brought
returns-in-Some-eq0-clause-brought g c =
    on_with_nothing c.args.reader.now c.read.new.self AtEnd c.args.self.now (c.in-Some-eq0.ensures.end c.in-Some-eq0.field-0-test (omega arith))
