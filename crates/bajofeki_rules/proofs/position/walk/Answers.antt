use Rattle.std.proofs.Common.{◌≡◌, ap, subst, sym, ◌∙◌, arith}
use Rattle.std.specs.Str.{IsUtf8}
use Rattle.std.specs.declared.str.Chars.{Chars}
use Rattle.bajofeki_rules.proofs.Places.{walk_start, walk_more, walk_room, walk_end}
use Rattle.bajofeki_rules.proofs.position.walk.Goals as goal

pub loop-c-init : goal.loop-c-init
loop-c-init c =
    let whole : c.into_iter-c-iterator.result.rest.now ≡ c.range.result.now =
    ap (λ (s : Chars). s.rest.now) c.into_iter-c-iterator.ensures.into_iter_gives ∙ c.chars-c-items.ensures.rest in
    walk_start _ _ _ _ _ c.utf8.text c.requires.from c.requires.ascending (whole ∙ c.range.ensures.value)
    (subst IsUtf8 (sym whole) c.range.utf8) c.requires.position

pub next-place-requires-clause-line : goal.next-place-requires-clause-line
next-place-requires-clause-line c =
    let room = walk_room _ _ _ _ _ _ c.utf8.text c.requires.to c.loop-c.invariant in
    omega (arith, room.0)

pub next-place-requires-clause-column : goal.next-place-requires-clause-column
next-place-requires-clause-column c =
    let room = walk_room _ _ _ _ _ _ c.utf8.text c.requires.to c.loop-c.invariant in
    omega (arith, room.1)

pub loop-c-preserved : goal.loop-c-preserved
loop-c-preserved c = walk_more _ _ _ _ _ _ _ _ _ c.loop-c.invariant c.in-Some.ensures.steps.0 c.next-place.ensures.next

pub returns : goal.returns
returns c = walk_end _ _ _ _ _ _ c.loop-c.invariant c.in-None.ensures.steps.0.0
