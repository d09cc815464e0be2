use Rattle.std.proofs.Common.{◌≡◌, ℕ, ◌∙◌, ◌<◌, ap, length, get_or, sym, arith, rules}
use Rattle.std.proofs.lemmas.List.{get_or-map}
use Rattle.std.proofs.lemmas.List.Elements.{Contains-get_or}
use Rattle.lalrpop_verdicts.proofs.classes.lead_alike.Goals as goal

pub offset_bounds-classes-one : goal.offset_bounds-classes-one
offset_bounds-classes-one c =
    let target = get_or c.args.one.now c.loop-place.place 0 in
    let within : target < length c.args.classes.now = c.requires.one target (Contains-get_or c.args.one.now c.loop-place.place 0 c.loop-place-test.true) in
    search rules

pub bounds-classes-one : goal.bounds-classes-one
bounds-classes-one c = c.requires.one (get_or c.args.one.now c.loop-place.place 0) (Contains-get_or c.args.one.now c.loop-place.place 0 c.loop-place-test.true)

pub offset_bounds-classes-other : goal.offset_bounds-classes-other
offset_bounds-classes-other c =
    let target = get_or c.args.other.now c.loop-place.place 0 in
    let within : target < length c.args.classes.now = c.requires.other target (Contains-get_or c.args.other.now c.loop-place.place 0 (omega arith)) in
    search rules

pub bounds-classes-other : goal.bounds-classes-other
bounds-classes-other c = c.requires.other (get_or c.args.other.now c.loop-place.place 0) (Contains-get_or c.args.other.now c.loop-place.place 0 (omega arith))

pub returns-then-classes-one : goal.returns-then-classes-one
returns-then-classes-one c =
    let f = λ (t : ℕ). get_or c.args.classes.now t 0 in
    let one = c.args.one.now in
    let other = c.args.other.now in
    let place = c.loop-place.place in (
      λ t. cc,
      λ e. (let same : f (get_or one place 0) ≡ f (get_or other place 0) = sym (get_or-map f one place 0 0 (omega arith)) ∙ ap (λ xs. get_or xs place 0) e ∙ get_or-map f other place 0 0 (omega arith) in
          absurd (omega (arith, same, c.if-classes-one.true))),
    )
