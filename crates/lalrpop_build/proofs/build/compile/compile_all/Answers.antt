use Rattle.std.proofs.Common.{◌≡◌, length, rules}
use Rattle.lalrpop_build.proofs.Compiling.{before, compiled_more, compiled_all}
use Rattle.lalrpop_build.proofs.build.compile.compile_all.Goals as goal

pub compile-requires-clause-no_fault : goal.compile-requires-clause-no_fault
compile-requires-clause-no_fault c = before c.args.regexs.now c.loop-index.nfas.items c.loop-index.index c.loop-index.invariant

pub loop-index-preserved : goal.loop-index-preserved
loop-index-preserved c = compiled_more c.args.regexs.now c.loop-index.nfas.items c.push.new.self.items c.loop-index.index c.in_ok-compile.field-0 c.loop-index.invariant c.in_ok-compile.ensures.ok c.in_ok-push.ensures.items

pub returns-clause-ok : goal.returns-clause-ok
returns-clause-ok c =
    let end : c.loop-index.index ≡ length c.args.regexs.now = search rules in
    compiled_all c.args.regexs.now c.loop-index.nfas.items c.loop-index.index c.loop-index.invariant end
