use Rattle.std.proofs.Common.{◌<◌, ℕ}
use Rattle.std.specs.Prelude.{slice_index}
use Rattle.lalrpop_emit.specs.EmitErrors.{TellsApart}
use Rattle.lalrpop_emit.proofs.classes.class_of.Given as goal

-- the character is told apart from those so far
abbrev pub invariant-loop-class : goal.invariant-loop-class
invariant-loop-class l = (k : ℕ) → k < l.class → TellsApart l.dfa (slice_index l.firsts k) l.value
