use Rattle.std.proofs.Common.{◌∙◌, arith}
use Rattle.std.proofs.lemmas.List.{length-set}
use Rattle.lalrpop_build.specs.declared.build.scratch.Transitions.{Transitions}
use Rattle.lalrpop_build.proofs.Noted.{noted_less, pushed_within}
use Rattle.lalrpop_build.proofs.build.scratch.Scratch.clear.Goals as goal

pub index_mut-requires : goal.index_mut-requires
index_mut-requires c =
    let below = pushed_within c.loop-class.self.edges.lists.items c.loop-class.self.edges.used.items c.pop.new.self.items c.in-Some.class c.loop-class.invariant.tidy.noted c.in-Some.ensures.items in
    omega (arith, below, c.loop-class.self.edges.lists.ok.0)

pub loop-class-preserved : goal.loop-class-preserved
loop-class-preserved c =
    let lists = c.loop-class.self.edges.lists.items in
    let used = c.loop-class.self.edges.used.items in
    let bare : Transitions = record { list = c.clear.new.self } in
    let tidy = c.loop-class.invariant.tidy in
    record {
      tidy = record {
        noted = noted_less lists used c.pop.new.self.items c.in-Some.class bare tidy.noted c.in-Some.ensures.items c.clear.ensures.items;
        marked = tidy.marked;
      };
      classes = length-set lists c.in-Some.class bare ∙ c.loop-class.invariant.classes;
      groups = c.loop-class.invariant.groups;
    }
