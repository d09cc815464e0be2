use Rattle.std.proofs.Common.{◌≡◌, ◌++◌, ◌-◌, replicate}
use Rattle.lalrpop_emit.proofs.classes.push_class.Given as goal

-- so many were appended
abbrev pub invariant-loop : goal.invariant-loop
invariant-loop l = l.classes.items ≡ l.initial.classes.items ++ replicate (l.counter - l.start) l.class
