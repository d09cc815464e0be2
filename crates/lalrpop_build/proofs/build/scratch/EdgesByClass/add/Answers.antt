use Rattle.std.proofs.Common.{rules, ◌≡◌, ◌<◌, List, [], length, slice_set, ap, subst, refl, arith}
use Rattle.std.specs.Prelude.{slice_get, Some}
use Rattle.std.proofs.lemmas.Option.{slice_get_read}
use Rattle.lalrpop_build.specs.Internal.ClassTransitions.{Gained}
use Rattle.lalrpop_build.specs.declared.build.scratch.EdgesByClass.{EdgesByClass}
use Rattle.lalrpop_build.specs.declared.build.scratch.Transitions.{Transitions}
use Rattle.lalrpop_build.proofs.Leavings.{gained_one}
use Rattle.lalrpop_build.proofs.Noted.{noted_first, noted_again, has_noted}
use Rattle.lalrpop_build.proofs.build.scratch.EdgesByClass.add.Goals as goal
use Rattle.lalrpop_build.proofs.build.scratch.EdgesByClass.add.Goals.{then-is_empty+in_ok-push, else-is_empty}

some_of : {X : Type 0} (xs : List X) → 0 < length xs → xs ≡ [] → ⊥
some_of xs l none = omega (arith, l, ap length none)

pub returns-clause-gained : goal.returns-clause-gained
returns-clause-gained c =
    let same : c.if-is_empty.self.lists.items ≡ c.args.self.now.lists.items =
    elim c.if-is_empty.branch [
      | then-is_empty+in_ok-push w ↦ ap (λ (s : EdgesByClass). s.lists.items) w.self-is
      | else-is_empty w ↦ ap (λ (s : EdgesByClass). s.lists.items) w.self-is
    ] in
    let within : c.args.class < length c.if-is_empty.self.lists.items = omega (arith, ap length same, c.requires.within) in
    let more : Transitions = record { list = c.push-2.new.self } in
    subst (λ (xs : List Transitions). Gained xs (slice_set c.if-is_empty.self.lists.items c.args.class more) (λ i l. (i ≡ c.args.class) × (l ≡ c.args.transition))) same
    (gained_one c.if-is_empty.self.lists.items c.args.class c.index_mut.result.now more c.args.transition within c.index_mut.ensures.value c.in_ok-push-2.ensures.items)

pub returns-clause-noted : goal.returns-clause-noted
returns-clause-noted c =
    let lists = c.args.self.now.lists.items in
    let more : Transitions = record { list = c.push-2.new.self } in
    elim c.if-is_empty.branch [
      | then-is_empty+in_ok-push w ↦ rw w.self-is (noted_first lists c.args.self.now.used.items w.push.new.self.items c.args.class more c.requires.noted c.requires.within w.in_ok-push.ensures.items)
      | else-is_empty w ↦
          (let here = c.index.result.now in
          let at : slice_get lists c.args.class ≡ Some here = slice_get_read lists (length lists) c.args.class here refl c.requires.within c.index.ensures in
          let some : 0 < length here.list.items = search rules in
          rw w.self-is (noted_again lists c.args.self.now.used.items c.args.class more c.requires.noted c.requires.within (has_noted lists c.args.self.now.used.items c.args.class here c.requires.noted at (some_of here.list.items some))))
    ]

pub returns-in_err-push-2-clause-noted : goal.returns-in_err-push-2-clause-noted
returns-in_err-push-2-clause-noted c =
    let lists = c.args.self.now.lists.items in
    let more : Transitions = record { list = c.push-2.new.self } in
    elim c.if-is_empty.branch [
      | then-is_empty+in_ok-push w ↦ rw w.self-is (noted_first lists c.args.self.now.used.items w.push.new.self.items c.args.class more c.requires.noted c.requires.within w.in_ok-push.ensures.items)
      | else-is_empty w ↦
          (let here = c.index.result.now in
          let at : slice_get lists c.args.class ≡ Some here = slice_get_read lists (length lists) c.args.class here refl c.requires.within c.index.ensures in
          let some : 0 < length here.list.items = search rules in
          rw w.self-is (noted_again lists c.args.self.now.used.items c.args.class more c.requires.noted c.requires.within (has_noted lists c.args.self.now.used.items c.args.class here c.requires.noted at (some_of here.list.items some))))
    ]
