use Rattle.std.proofs.Common.{refl}
use Rattle.bajofeki_rules.specs.Stack.{start}
use Rattle.bajofeki.proofs.document.Document.new.Goals as goal

pub invariant_of-lexed : goal.invariant_of-lexed
invariant_of-lexed c = ((start, rw (c.new.ensures.bytes, c.new-2.ensures.items) (refl, refl)), rw c.new-2.ensures.items tt)
