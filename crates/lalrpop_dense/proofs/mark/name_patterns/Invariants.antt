use Rattle.std.proofs.Common.{◌≡◌, ◌++◌, map, take, drop}
use Rattle.lalrpop_dense.specs.Internal.Marks.{named}
use Rattle.lalrpop_dense.proofs.mark.name_patterns.Given as goal

-- the marks so far have their patterns
abbrev pub invariant-loop-mark : goal.invariant-loop-mark
invariant-loop-mark g l = l.marks ≡ map (named (g.R.Rows.numbers l.cells) l.width) (take l.mark-index l.fn.marks) ++ drop l.mark-index l.fn.marks
