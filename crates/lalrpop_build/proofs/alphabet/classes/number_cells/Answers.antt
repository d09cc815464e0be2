use Rattle.std.proofs.Common.{rules, arith, ◌≡◌, ◌<◌, ◌++◌, ◌∷◌, [], ◌+◌, ℕ, length, slice_get, get_or, Some, sym, ap, ◌∙◌, subst, refl}
use Rattle.std.proofs.lemmas.Grind.{common_steps}
use Rattle.std.proofs.lemmas.Option.{slice_get-get_or}
use Rattle.lalrpop_build.specs.declared.alphabet.Cell.{Cell}
use Rattle.lalrpop_build.specs.declared.alphabet.signatures.Signature.{Signature}
use Rattle.lalrpop_build.specs.Internal.Numbered.{AreClassed}
use Rattle.lalrpop_build.proofs.Numbering.{classed_more, classed_none, numbered_none, rest_here, rest_on}
use Rattle.lalrpop_build.proofs.alphabet.classes.number_cells.Goals as goal

pub loop-signature-init : goal.loop-signature-init
loop-signature-init c =
    let none : c.in_ok-cells.cells.items ≡ [] = search rules in
    let all : c.into_iter-signature-iterator.result.rest.items ≡ c.args.cell_signatures.signatures.items = search rules in
    record {
      rest = λ k s at. (let zero : length c.in_ok-cells.cells.items + k ≡ k = omega (arith, ap length none) in rw (zero, ← all) at);
      places = omega (arith, ap length none, ap length all);
      same_length = refl;
      boundaries = λ n k. (λ h. h, λ h. h);
      few = omega arith;
      numbered = numbered_none c.new.result c.args.cell_signatures.groups.items c.new.ensures.empty c.requires.no_classes;
      classed = subst (λ cells. AreClassed c.args.boundaries.now c.args.cell_signatures.signatures.items cells c.args.cell_signatures.groups.items 0) (sym none) (classed_none c.args.boundaries.now c.args.cell_signatures.signatures.items c.args.cell_signatures.groups.items);
    }

pub class_of-requires-clause-within : goal.class_of-requires-clause-within
class_of-requires-clause-within c =
    let s : Signature = c.in-Some.signature in
    let here : slice_get c.args.cell_signatures.signatures.items (length c.loop-signature.cells.items) ≡ Some s = rest_here c.args.cell_signatures.signatures.items c.loop-signature.signature-iterator.rest.items c.next.new.self.rest.items (length c.loop-signature.cells.items) s c.loop-signature.invariant.rest (search rules) in
    λ n has. (let l = c.requires.within (length c.loop-signature.cells.items) n s here has in let same = c.loop-signature.invariant.same_length in omega (arith, l, same))

pub loop-signature-preserved : goal.loop-signature-preserved
loop-signature-preserved c =
    let s : Signature = c.in-Some.signature in
    let rest : c.loop-signature.signature-iterator.rest.items ≡ s ∷ c.next.new.self.rest.items = search rules in
    let place : ℕ = length c.loop-signature.cells.items in
    let here : slice_get c.args.cell_signatures.signatures.items place ≡ Some s = rest_here c.args.cell_signatures.signatures.items c.loop-signature.signature-iterator.rest.items c.next.new.self.rest.items place s c.loop-signature.invariant.rest rest in
    let places = c.loop-signature.invariant.places in
    let within : place < length c.args.boundaries.now = omega (arith, places, ap length rest, c.requires.same_length) in
    let cell : Cell = record { first = get_or c.args.boundaries.now place 0; class = c.in_ok-class.class } in
    let numbered = c.in_ok-class.ensures.class in
    let pushed : c.push.new.self.items ≡ c.loop-signature.cells.items ++ cell ∷ [] = search rules in
    let longer : length c.push.new.self.items ≡ place + 1 = grind (arith, common_steps) in
    record {
      rest = rest_on c.args.cell_signatures.signatures.items c.loop-signature.signature-iterator.rest.items c.next.new.self.rest.items place (length c.push.new.self.items) s c.loop-signature.invariant.rest rest longer;
      places = omega (arith, longer, places, ap length rest);
      same_length = numbered.same_length ∙ c.loop-signature.invariant.same_length;
      boundaries = λ n k. (let a = numbered.boundaries n k in let b = c.loop-signature.invariant.boundaries n k in (λ h. b.0 (a.0 h), λ h. a.1 (b.1 h)));
      few = omega (arith, longer, numbered.more, c.loop-signature.invariant.few);
      numbered = c.in_ok-class.ensures.numbered;
      classed = subst (λ cells. AreClassed c.args.boundaries.now c.args.cell_signatures.signatures.items cells c.class_of.new.self.groups.items c.class_of.new.self.count) (sym pushed)
          (classed_more c.args.boundaries.now c.args.cell_signatures.signatures.items c.loop-signature.cells.items c.loop-signature.numbering.groups.items c.class_of.new.self.groups.items c.loop-signature.numbering.count c.class_of.new.self.count s c.in_ok-class.class cell
          c.loop-signature.invariant.classed numbered here (slice_get-get_or c.args.boundaries.now place 0 within) refl);
    }

pub returns : goal.returns
returns c =
    let none : length c.loop-signature.signature-iterator.rest.items ≡ 0 = search rules in
    record {
      all = omega (arith, c.loop-signature.invariant.places, none, c.requires.same_length);
      same_length = c.loop-signature.invariant.same_length;
      same_boundaries = c.loop-signature.invariant.boundaries;
      counted = c.loop-signature.invariant.numbered.counted;
      classed = c.loop-signature.invariant.classed;
    }
