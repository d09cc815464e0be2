use Rattle.std.proofs.Common.{◌≡◌, ◌<◌, true, length, ap, ◌∙◌, ◌++◌, refl, List, ℕ, arith}
use Rattle.std.specs.Prelude.{slice_get, Some}
use Rattle.std.proofs.lemmas.Option.{slice_get_read}
use Rattle.lalrpop_build.proofs.MarkedGroups.{marked_more, boundaries_stand, boundaries_come, hold_more}
use Rattle.lalrpop_build.proofs.build.scratch.Boundaries.add.Goals as goal

pub returns-then-index-clause-boundaries : goal.returns-then-index-clause-boundaries
returns-then-index-clause-boundaries c =
    let marks = c.args.self.now.marks.items in
    let within : c.args.number < length marks = omega (arith, c.requires.has_group, c.requires.marked.count) in
    let read : slice_get marks c.args.number ≡ Some c.index.result.now = slice_get_read marks (length marks) c.args.number c.index.result.now refl within c.index.ensures in
    let marked : c.index.result.now ≡ true = c.if-index.true in
    boundaries_stand c.args.alphabet.now.groups c.args.self.now c.requires.marked c.args.number (read ∙ ap (λ b. Some b) marked)

pub returns-clause-boundaries : goal.returns-clause-boundaries
returns-clause-boundaries c =
    boundaries_come c.args.alphabet.now.groups c.args.self.now c.requires.marked c.args.number c.group.result.now c.group.ensures.group c.extend_from_slice.new.self.items
    (c.in_ok-extend_from_slice.ensures.items ∙ ap (λ (ks : List ℕ). c.args.self.now.places.items ++ ks) c.deref.ensures.value)

pub returns-clause-marked : goal.returns-clause-marked
returns-clause-marked c =
    hold_more c.args.alphabet.now.groups c.args.self.now c.requires.marked c.args.number c.group.result.now c.group.ensures.group _ c.requires.has_group
    refl c.in_ok-push.ensures.items (c.in_ok-extend_from_slice.ensures.items ∙ ap (λ (ks : List ℕ). c.args.self.now.places.items ++ ks) c.deref.ensures.value)

pub returns-in_err-extend_from_slice-clause-listed : goal.returns-in_err-extend_from_slice-clause-listed
returns-in_err-extend_from_slice-clause-listed c =
    let marks = c.args.self.now.marks.items in
    let within : c.args.number < length marks = omega (arith, c.requires.has_group, c.requires.marked.count) in
    rw c.in_ok-push.ensures.items (marked_more marks c.args.self.now.groups.items c.args.number c.requires.marked.marked within)

pub returns-clause-listed : goal.returns-clause-listed
returns-clause-listed c =
    let marks = c.args.self.now.marks.items in
    let within : c.args.number < length marks = omega (arith, c.requires.has_group, c.requires.marked.count) in
    rw c.in_ok-push.ensures.items (marked_more marks c.args.self.now.groups.items c.args.number c.requires.marked.marked within)
