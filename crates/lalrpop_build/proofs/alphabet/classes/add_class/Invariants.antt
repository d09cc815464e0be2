use Rattle.std.proofs.Common.{◌≡◌, take}
use Rattle.std.specs.List.{Contains}
use Rattle.lalrpop_build.specs.Internal.Numbered.{GotClasses}
use Rattle.lalrpop_build.proofs.alphabet.classes.add_class.Given as goal

abbrev pub invariant-loop-number : goal.invariant-loop-number
invariant-loop-number l = GotClasses l.fn.groups.items l.groups.items (λ n c. Contains (take l.number-index l.numbers) n × (c ≡ l.class))
