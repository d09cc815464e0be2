use Rattle.std.proofs.Common.{rules, ◌≡◌, List, ℕ, Some, subst}
use Rattle.std.specs.List.{Contains}
use Rattle.std.specs.BTreeMap.{get}
use Rattle.lalrpop_build.specs.Internal.Numbered.{signature_cmp, GotClasses}
use Rattle.lalrpop_build.proofs.Numbering.{numbered_more, number_new, number_known}
use Rattle.lalrpop_build.proofs.alphabet.classes.Numbering.class_of.Goals as goal

pub returns-in-Some-clause-class : goal.returns-in-Some-clause-class
returns-in-Some-clause-class c =
    let found : get signature_cmp c.args.self.now.known c.args.signature ≡ Some c.in-Some.class.now = search rules in
    number_known c.args.self.now.groups.items c.args.self.now.count c.args.signature c.args.self.now.known c.in-Some.class.now c.requires.numbered found

pub add_class-requires : goal.add_class-requires
add_class-requires c = record { within = λ n h. c.requires.within n (subst (λ (ns : List ℕ). Contains ns n) c.deref.ensures.value h) }

pub returns-clause-numbered : goal.returns-clause-numbered
returns-clause-numbered c =
    let got = subst (λ (ns : List ℕ). GotClasses c.args.self.now.groups.items c.add_class.new.groups.items (λ n d. Contains ns n × (d ≡ c.args.self.now.count))) c.deref.ensures.value c.in_ok-add_class.ensures in
    numbered_more c.args.self.now.groups.items c.add_class.new.groups.items c.args.self.now.count c.args.signature c.args.self.now.known c.insert.new.self got c.requires.numbered c.in_ok-insert.ensures.updates

pub returns-clause-class : goal.returns-clause-class
returns-clause-class c =
    let got = subst (λ (ns : List ℕ). GotClasses c.args.self.now.groups.items c.add_class.new.groups.items (λ n d. Contains ns n × (d ≡ c.args.self.now.count))) c.deref.ensures.value c.in_ok-add_class.ensures in
    number_new c.args.self.now.groups.items c.add_class.new.groups.items c.args.self.now.count c.args.signature c.args.self.now.known c.insert.new.self got c.requires.numbered
