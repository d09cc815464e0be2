use Rattle.std.proofs.Common.{◌≡◌, length, arith, ap, sym, subst, refl, inl, inr}
use Rattle.lalrpop_dfa.specs.Kernels.{IsNumberOf}
use Rattle.lalrpop_dfa.specs.ItemOrder.{set_cmp}
use Rattle.lalrpop_build.proofs.Adding.{clones_equal, added_extends, number_old, number_new}
use Rattle.lalrpop_build.proofs.build.sets.Sets.add.Goals as goal
use Rattle.lalrpop_build.proofs.build.sets.Sets.add.Goals.{then-index-len+in_ok-push, else-index-len}

pub add_state-requires : goal.add_state-requires
add_state-requires c = record { clones = clones_equal }

pub returns-clause-added : goal.returns-clause-added
returns-clause-added c =
    let k = c.in_ok-number.ensures.number in
    let num : IsNumberOf set_cmp c.add_state.new.self.list c.args.set c.in_ok-number.number = subst (λ i. IsNumberOf set_cmp c.add_state.new.self.list c.args.set i) (sym k.1) k.2 in
    let is = ap (λ s. s.list) c.in_ok-number.ensures.list in
    let place = ap (λ s. s.place) c.in_ok-number.ensures.list in
    elim c.if-index-len.branch [
      | then-index-len+in_ok-push w ↦
          let at : c.in_ok-number.number ≡ length c.args.self.now.kernels.list = omega (arith, w.if-index-len.true, c.index.ensures.value, c.len.ensures, c.args.self.now.origins.ok.0, c.requires) in
          let new = number_new c.args.self.now.kernels.list c.args.set c.in_ok-number.number c.add_state.new.self.list is num at in
          rw w.self-is (inr (new.0, at, new.1, w.in_ok-push.ensures.items), place)
      | else-index-len w ↦
          let old = number_old c.args.self.now.kernels.list c.args.set c.in_ok-number.number c.add_state.new.self.list is num
          (λ e. omega (arith, e, w.if-index-len.false, c.index.ensures.value, c.len.ensures, c.args.self.now.origins.ok.0, c.requires)) in
          rw w.self-is (inl (old.0, old.1, refl), place)
    ]

pub returns-clause-kept : goal.returns-clause-kept
returns-clause-kept c =
    let is = ap (λ s. s.list) c.in_ok-number.ensures.list in
    elim c.if-index-len.branch [
      | then-index-len+in_ok-push w ↦ rw w.self-is (added_extends c.args.self.now.kernels.list c.args.set c.add_state.new.self.list is)
      | else-index-len w ↦ rw w.self-is (added_extends c.args.self.now.kernels.list c.args.set c.add_state.new.self.list is)
    ]

pub returns-in_err-push-clause-kept : goal.returns-in_err-push-clause-kept
returns-in_err-push-clause-kept c = added_extends c.args.self.now.kernels.list c.args.set c.add_state.new.self.list (ap (λ s. s.list) c.in_ok-number.ensures.list)
