use Rattle.lalrpop_build.proofs.Compiling.{IsCompiledTo}
use Rattle.lalrpop_build.proofs.build.compile.compile_all.Given as goal

abbrev pub invariant-loop-index : goal.invariant-loop-index
invariant-loop-index l = IsCompiledTo l.regexs l.nfas.items l.index
