use Rattle.std.proofs.Common.{◌≡◌, get_or, false, true, ap, ◌∙◌, ◌∷◌, [], ◌++◌, arith, length-set}
use Rattle.lalrpop_nfa.specs.Internal.StateSets.{StateList}
use Rattle.lalrpop_nfa.proofs.StateSetLemmas.{read_mark, state_set_push, grown_push, grown_same}
use Rattle.lalrpop_nfa.proofs.state_set.StateSet.insert.Goals as goal
use Rattle.lalrpop_nfa.proofs.state_set.StateSet.insert.Goals.{else-place-len-via-then-place-len+else-not-index, else-place-len-via-else-place-len}

pub invariant_of-self-then-not-index : goal.invariant_of-self-then-not-index
invariant_of-self-then-not-index c =
    let s = c.self.inside in
    let free : get_or s.marks.items c.index-place.result false ≡ false = read_mark s.marks.items c.index-place.result c.index.result.now false (omega arith) c.index.ensures c.if-not-index.true in
    rw (c.in_ok-push.ensures.items, ← c.index-place.ensures.value) (state_set_push s.states.items s.marks.items c.index-place.result c.self.invariant (omega arith) free)

pub returns-in_ok-push-clause-grown : goal.returns-in_ok-push-clause-grown
returns-in_ok-push-clause-grown c =
    grown_push _ _ c.args.state (c.in_ok-push.ensures.items ∙ ap (λ (s : StateList). s.states ++ c.args.state ∷ []) c.self.view_is)
    (length-set c.self.inside.marks.items c.index-place.result true ∙ ap (λ (s : StateList). s.room) c.self.view_is)

pub returns-else-place-len-clause-grown : goal.returns-else-place-len-clause-grown
returns-else-place-len-clause-grown c =
    grown_same c.args.self.now (λ q. q ≡ c.args.state) (λ p same l.
    elim c.else-place-len.branch [
      | else-place-len-via-then-place-len+else-not-index w ↦
          let marked : get_or c.self.inside.marks.items c.index-place.result false ≡ true =
          read_mark c.self.inside.marks.items c.index-place.result w.index.result.now true (omega arith) w.index.ensures w.if-not-index.false in
          rw (same, ← c.index-place.ensures.value, ← c.self.view_is) ((c.self.invariant.marked c.index-place.result).1 marked)
      | else-place-len-via-else-place-len w ↦ absurd (omega (arith, c.index-place.ensures.value, c.len.ensures, w.if-place-len.false, ap (λ (s : StateList). s.room) c.self.view_is))
    ])
