use Rattle.std.proofs.Common.{refl}
use Rattle.pieces_lib.proofs.CutLaws.{into_none}
use Rattle.pieces_lib.proofs.cutter.Cutter.new.Goals as goal

pub returns-clause-nothing : goal.returns-clause-nothing
returns-clause-nothing c = into_none c.args.lexer.now _ refl c.new.ensures.chunks refl refl c.new-2.ensures.items refl
