use Rattle.std.proofs.Common.{refl, subst, arith}
use Rattle.lalrpop_dense.specs.DenseTable.{table_numbers}
use Rattle.bajofeki.specs.declared.walker.Walker.TheVariants.{Table, States}
use Rattle.bajofeki.specs.Internal.Walking.{IsMet, IsRight}
use Rattle.bajofeki.proofs.Walking.{row_within, state_within}
use Rattle.bajofeki.proofs.walker.Walker.next.Goals as goal

pub cell-requires : goal.cell-requires
cell-requires c =
    let t = c.in-Table.table in
    let right = subst IsRight c.in-Table.is c.requires.right in
    let met = subst (λ w. IsMet w c.args.place) c.in-Table.is c.requires.met in
    omega (arith, row_within (Table t) (table_numbers t) right.0 c.args.place refl (λ place n. refl) right.1 met, c.class.ensures.below)

pub step-requires : goal.step-requires
step-requires c =
    let d = c.in-States.dfa in
    let right = subst IsRight c.in-States.is c.requires.right in
    let met = subst (λ w. IsMet w c.args.place) c.in-States.is c.requires.met in
    record { within = omega (arith, c.new.ensures.value, state_within (States d) d.now c.args.place refl (λ place n. refl) right met) }
