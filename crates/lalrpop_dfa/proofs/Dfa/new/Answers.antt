use Rattle.std.proofs.Common.{◌∙◌, refl}
use Rattle.lalrpop_dfa.proofs.StepLists.{told_without, told_with}
use Rattle.lalrpop_dfa.proofs.Dfa.new.Goals as goal
use Rattle.lalrpop_dfa.proofs.Dfa.new.Goals.{in-Some+in_ok-push-in-Some+in_ok-push-in-Some-2, in-None+in_ok-push-in-None}

pub loop-number-preserved : goal.loop-number-preserved
loop-number-preserved c =
    let h = c.loop-number.invariant in
    elim c.match-list.branch [
      | in-Some+in_ok-push-in-Some+in_ok-push-in-Some-2 w ↦ (let more = told_with c.args.rows c.loop-number.places.items c.match-list.places.items c.loop-number.lists.items c.match-list.lists.items c.loop-number.number
          w.len.result w.in-Some.list h.long h.told (rw c.new.ensures.value at w.in-Some.ensures) (w.len.ensures ∙ c.loop-number.lists.ok.0)
          (rw w.places-is w.in_ok-push-in-Some.ensures.items) (rw w.lists-is w.in_ok-push-in-Some-2.ensures.items) in
          record { long = more.0; told = more.1 })
      | in-None+in_ok-push-in-None w ↦ (let more = told_without c.args.rows c.loop-number.places.items c.match-list.places.items c.loop-number.lists.items c.match-list.lists.items c.loop-number.number
          h.long h.told (rw w.places-is w.in_ok-push-in-None.ensures.items) (rw w.lists-is refl) in
          record { long = more.0; told = more.1 })
    ]
