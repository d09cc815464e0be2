use Rattle.std.proofs.Common.{rules, arith, ◌≡◌, ◌<◌, List, ℕ, length, get_or, refl, subst, slice_get, Some}
use Rattle.std.proofs.lemmas.List.{take_all}
use Rattle.std.proofs.lemmas.List.Elements.{Contains-get_or}
use Rattle.std.proofs.lemmas.Option.{slice_get_read}
use Rattle.std.specs.List.{Contains}
use Rattle.lalrpop_build.specs.Internal.Numbered.{GotClasses}
use Rattle.lalrpop_build.proofs.Numbering.{got_none, got_more}
use Rattle.lalrpop_build.proofs.alphabet.classes.add_class.Goals as goal

pub loop-number-init : goal.loop-number-init
loop-number-init c = got_none c.args.groups.now.items c.args.numbers.now c.args.class

pub index_mut-requires : goal.index_mut-requires
index_mut-requires c =
    let l : c.loop-number.number-index < length c.args.numbers.now = search rules in
    let h = c.requires.within (get_or c.args.numbers.now c.loop-number.number-index 0) (Contains-get_or c.args.numbers.now c.loop-number.number-index 0 l) in
    let same = c.loop-number.invariant.same_length in
    omega (arith, h, same)

pub loop-number-preserved : goal.loop-number-preserved
loop-number-preserved c =
    let numbers : List ℕ = c.args.numbers.now in
    let l : c.loop-number.number-index < length numbers = search rules in
    let number : ℕ = get_or numbers c.loop-number.number-index 0 in
    let h = c.requires.within number (Contains-get_or numbers c.loop-number.number-index 0 l) in
    let same = c.loop-number.invariant.same_length in
    let within : number < length c.loop-number.groups.items = omega (arith, h, same) in
    let at : slice_get c.loop-number.groups.items number ≡ Some c.index_mut.result.now = slice_get_read c.loop-number.groups.items (length c.loop-number.groups.items) number c.index_mut.result.now refl within c.index_mut.ensures.value in
    got_more c.args.groups.now.items c.loop-number.groups.items numbers c.loop-number.number-index number c.args.class c.index_mut.result.now (record { boundaries = c.index_mut.result.now.boundaries; classes = c.push.new.self })
    c.loop-number.invariant l refl within at refl c.in_ok-push.ensures.items

pub returns : goal.returns
returns c =
    subst (λ (ns : List ℕ). GotClasses c.args.groups.now.items c.loop-number.groups.items (λ n d. Contains ns n × (d ≡ c.args.class))) (take_all c.loop-number.number-index c.args.numbers.now c.loop-number-test.false) c.loop-number.invariant
