use Rattle.std.proofs.Common.{rules, ◌≡◌, [], false, ◌∙◌, arith}
use Rattle.std.proofs.lemmas.List.{length-set}
use Rattle.lalrpop_build.proofs.MarkedGroups.{listed_within, marked_less, unmarked_all}
use Rattle.lalrpop_build.proofs.build.scratch.Boundaries.clear.Goals as goal

pub index_mut-requires : goal.index_mut-requires
index_mut-requires c =
    let below = listed_within c.loop-number.self.marks.items c.loop-number.self.groups.items c.pop.new.self.items c.in-Some.number c.loop-number.invariant.marked c.in-Some.ensures.items in
    omega (arith, below, c.loop-number.self.marks.ok.0)

pub loop-number-preserved : goal.loop-number-preserved
loop-number-preserved c = record {
  marked = marked_less c.loop-number.self.marks.items c.loop-number.self.groups.items c.pop.new.self.items c.in-Some.number c.loop-number.invariant.marked c.in-Some.ensures.items;
  count = length-set c.loop-number.self.marks.items c.in-Some.number false ∙ c.loop-number.invariant.count;
}

pub returns-clause-unmarked : goal.returns-clause-unmarked
returns-clause-unmarked c =
    let none : c.loop-number.self.groups.items ≡ [] = search rules in
    unmarked_all c.loop-number.self.marks.items c.loop-number.self.groups.items c.loop-number.invariant.marked none
