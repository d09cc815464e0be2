use Rattle.std.proofs.Common.{◌≡◌, refl, sym, subst, arith}
use Rattle.lalrpop_dfa.specs.Dfa.{IsReject, step}
use Rattle.lalrpop_dfa.specs.declared.Kind.TheVariants.{Reject}
use Rattle.lalrpop_dfa.proofs.EdgeTargets.{step_within}
use Rattle.lalrpop_dense.specs.DenseTable.{table_numbers}
use Rattle.bajofeki.specs.declared.walker.Walker.TheVariants.{Table, States}
use Rattle.bajofeki.specs.Internal.Walking.{IsMet, IsRight, next_of, says}
use Rattle.bajofeki.proofs.Walking.{row_within, state_within, state_rejects}
use Rattle.bajofeki.proofs.walker.Walker.is_last.Goals as goal

pub is_last_row-requires-clause-within : goal.is_last_row-requires-clause-within
is_last_row-requires-clause-within c =
    let t = c.in-Table.table in
    let right = subst IsRight c.in-Table.is c.requires.right in
    row_within (Table t) (table_numbers t) right.0 c.args.place refl (λ place n. refl) right.1 (subst (λ w. IsMet w c.args.place) c.in-Table.is c.requires.met)

pub is_last_state-requires : goal.is_last_state-requires
is_last_state-requires c =
    let d = c.in-States.dfa in
    let right = subst IsRight c.in-States.is c.requires.right in
    record { within = omega (arith, c.new.ensures.value, state_within (States d) d.now c.args.place refl (λ place n. refl) right (subst (λ w. IsMet w c.args.place) c.in-States.is c.requires.met)) }

pub returns-in-States-clause-goes_on : goal.returns-in-States-clause-goes_on
returns-in-States-clause-goes_on c = λ no.
    let d = c.in-States.dfa in
    let place = c.args.place in
    let right = subst IsRight c.in-States.is c.requires.right in
    let met = subst (λ w. IsMet w place) c.in-States.is c.requires.met in
    let found = c.is_last_state.ensures.goes_on no in
    let within = step_within d.now place found.0 right (state_within (States d) d.now place refl (λ p n. refl) right met) in (
      found.0,
      (
        found.1.0,
        λ says_reject. found.1.1 (subst (λ p. IsReject d.now (step d.now p found.0)) (sym c.new.ensures.value)
            (state_rejects d.now (step d.now place found.0) within (subst (λ w. says w (next_of w place found.0) ≡ Reject) c.in-States.is says_reject))),
      ),
    )
