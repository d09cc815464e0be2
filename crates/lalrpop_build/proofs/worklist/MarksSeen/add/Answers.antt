use Rattle.std.proofs.Common.{◌≡◌, ◌<◌, ◌∙◌, arith, length}
use Rattle.lalrpop_build.proofs.Marks.{read_mark, mark_added}
use Rattle.lalrpop_build.proofs.worklist.MarksSeen.add.Goals as goal

pub returns-clause-added : goal.returns-clause-added
returns-clause-added c =
    let m = c.args.self.now.marks.items in
    let state : c.index-state.result ≡ c.args.item.1 = c.index-state.ensures.value ∙ c.state.ensures in
    let l : c.index-state.result < length m = omega (arith, state, c.requires.1) in
    rw (read_mark m c.index-state.result c.index.result.now c.index.ensures l, state) (mark_added c.args.self.now.pattern m c.args.item c.requires.0 c.requires.1)
