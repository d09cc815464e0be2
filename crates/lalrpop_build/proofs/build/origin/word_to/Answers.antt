use Rattle.std.proofs.Common.{◌≡◌, ℕ, ap, sym, ◌∙◌, arith}
use Rattle.std.proofs.lemmas.List.{append-nil}
use Rattle.lalrpop_build.specs.Internal.BreadthFirst.{word, from_of, value_of}
use Rattle.lalrpop_build.proofs.Origins.{walk_step, walk_end, origin_read}
use Rattle.lalrpop_build.proofs.build.origin.word_to.Goals as goal

pub loop-place-init : goal.loop-place-init
loop-place-init c = record {
  within = c.requires.within;
  word = rw c.new-values.ensures.items (sym (append-nil (word c.args.origins.now c.args.number)));
}

pub loop-place-preserved : goal.loop-place-preserved
loop-place-preserved c =
    let read = origin_read c.args.origins.now c.loop-place.place c.index-origins-place.result c.loop-place.invariant.within c.index-origins-place.is in
    let v = c.origin.view_is in
    let f : c.origin.inside.from ≡ from_of c.args.origins.now c.loop-place.place = ap (λ (o : ℕ × ℕ). o.0) v ∙ read.0 in
    let g : c.origin.inside.value ≡ value_of c.args.origins.now c.loop-place.place = ap (λ (o : ℕ × ℕ). o.1) v ∙ read.1 in
    let step = walk_step c.args.origins.now c.requires.earlier c.args.number c.loop-place.place c.origin.inside.from c.origin.inside.value c.loop-place.values.items c.push.new.self.items c.loop-place-test.true c.loop-place.invariant.within f g c.in_ok-push.ensures.items c.loop-place.invariant.word in
    record { within = step.0; word = step.1 }

pub loop-place-smaller : goal.loop-place-smaller
loop-place-smaller c =
    let read = origin_read c.args.origins.now c.loop-place.place c.index-origins-place.result c.loop-place.invariant.within c.index-origins-place.is in
    let v = c.origin.view_is in
    let f : c.origin.inside.from ≡ from_of c.args.origins.now c.loop-place.place = ap (λ (o : ℕ × ℕ). o.0) v ∙ read.0 in
    omega (arith, f, c.requires.earlier c.loop-place.place c.loop-place-test.true c.loop-place.invariant.within)

pub returns : goal.returns
returns c = c.reverse.ensures.items ∙ walk_end c.args.origins.now c.args.number c.loop-place.place c.loop-place.values.items c.loop-place-test.false c.loop-place.invariant.word
