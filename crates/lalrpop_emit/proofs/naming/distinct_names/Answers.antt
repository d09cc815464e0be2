use Rattle.std.proofs.Common.{◌∙◌, ◌≡◌, ap, sym, map, string_bytes, length}
use Rattle.lalrpop_emit.specs.Names.{distinct_names, place_of_name}
use Rattle.lalrpop_emit.proofs.NameLists.{name_added, name_passed}
use Rattle.lalrpop_emit.proofs.naming.distinct_names.Goals as goal
use Rattle.lalrpop_emit.proofs.naming.distinct_names.Goals.{then-place_of-len+in_ok-name+in_ok-push, else-place_of-len}

pub loop-name-preserved : goal.loop-name-preserved
loop-name-preserved c =
    let known = c.loop-name.distinct.items in
    let place : c.place_of.result ≡ place_of_name (map string_bytes known) (string_bytes c.name-item.result) =
    rw (c.deref.ensures.value, c.deref-in-loop-name.ensures) at c.place_of.ensures.place in
    let count : c.len.result ≡ length known = c.len.ensures ∙ sym c.deref.ensures.len ∙ ap length c.deref.ensures.value in
    elim c.if-place_of-len.branch [
      | then-place_of-len+in_ok-name+in_ok-push w ↦
          name_added known c.if-place_of-len.distinct.items w.in_ok-name.name c.args.names.now c.loop-name.name-index c.name-item.result (distinct_names (map string_bytes c.args.names.now))
          c.loop-name-test.true c.name-item.is (ap (λ v. v.items) w.distinct-is ∙ w.in_ok-push.ensures.items)
          (w.in_ok-name.ensures.ok ∙ w.deref-then-place_of-len.ensures) (sym place ∙ w.if-place_of-len.true ∙ count) c.loop-name.invariant
      | else-place_of-len w ↦
          name_passed known c.if-place_of-len.distinct.items c.args.names.now c.loop-name.name-index c.name-item.result (distinct_names (map string_bytes c.args.names.now))
          c.loop-name-test.true c.name-item.is (ap (λ v. v.items) w.distinct-is) (λ e. w.if-place_of-len.false (place ∙ e ∙ sym count)) c.loop-name.invariant
    ]
