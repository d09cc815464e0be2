use Rattle.std.proofs.Common.{◌<◌, length, arith, add-one}
use Rattle.std.proofs.lemmas.Option.{slice_get_within}
use Rattle.lalrpop_dfa.specs.Internal.Numbered.{in_order}
use Rattle.lalrpop_dfa.proofs.NumberedLemmas.{at_place}
use Rattle.lalrpop_dfa.proofs.kernel_set.KernelSet.next.Goals as goal

pub invariant_of-self-2 : goal.invariant_of-self-2
invariant_of-self-2 g c =
    let old = c.self.invariant in
    let ks = in_order c.self.inside.numbers.entries in
    let waits = rw c.in-Some.ensures.items at old.waits in
    let here = at_place g.K.Clone.is_clone ks c.self.inside.place c.in-Some.kernel c.pop_front.new.self.items waits in
    let inside : c.self.inside.place < length ks = slice_get_within ks c.self.inside.place here.0 here.1 in
    record {
      numbered = old.numbered;
      counted = old.counted;
      below = old.below;
      small = old.small;
      within = omega (arith, inside, old.counted);
      waits = rw add-one here.3;
    }

pub returns-clause-given : goal.returns-clause-given
returns-clause-given g c =
    let ks = in_order c.self.inside.numbers.entries in
    let waits = rw c.in-Some.ensures.items at c.self.invariant.waits in
    let here = at_place g.K.Clone.is_clone ks c.self.inside.place c.in-Some.kernel c.pop_front.new.self.items waits in
    rw (← c.self.view_is) (here.0, here.1, here.2, c.requires.clones here.0 c.in-Some.kernel here.2)
