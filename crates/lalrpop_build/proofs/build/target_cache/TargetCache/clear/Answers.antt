use Rattle.std.proofs.Common.{get_or, arith, ◌∙◌, refl}
use Rattle.std.specs.Prelude.{None}
use Rattle.std.proofs.lemmas.List.{length-set, get_or_default}
use Rattle.std.proofs.lemmas.List.Elements.{Contains-get_or}
use Rattle.lalrpop_build.proofs.CacheLaws.{numbers_first, numbers_then, numbers_last}
use Rattle.lalrpop_build.proofs.build.target_cache.TargetCache.clear.Goals as goal

pub index_mut-requires : goal.index_mut-requires
index_mut-requires c =
    let i = c.loop-class.class-index in
    let used = c.args.used.now in
    omega (arith, c.loop-class.invariant.numbers.within (get_or used i 0) (Contains-get_or used i 0 c.loop-class-test.true), c.loop-class.self.by_class.ok.0)

pub loop-class-preserved : goal.loop-class-preserved
loop-class-preserved c =
    let i = c.loop-class.class-index in
    let used = c.args.used.now in
    let numbers = c.loop-class.self.by_class.items in
    let within = c.loop-class.invariant.numbers.within (get_or used i 0) (Contains-get_or used i 0 c.loop-class-test.true) in
    record {
      numbers = numbers_then i (get_or used i 0) used numbers c.loop-class-test.true (get_or_default used i 0 (get_or used i 0) c.loop-class-test.true) within c.loop-class.invariant.numbers;
      count = length-set numbers (get_or used i 0) (None) ∙ c.loop-class.invariant.count;
    }

pub loop-class-init : goal.loop-class-init
loop-class-init c = record { numbers = numbers_first c.args.used.now c.args.self.now.by_class.items c.requires; count = refl }

pub returns-clause-none : goal.returns-clause-none
returns-clause-none c = numbers_last c.loop-class.class-index c.args.used.now c.loop-class.self.by_class.items c.loop-class-test.false c.loop-class.invariant.numbers
