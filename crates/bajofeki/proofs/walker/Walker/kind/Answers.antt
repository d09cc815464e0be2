use Rattle.std.proofs.Common.{refl, subst, arith}
use Rattle.lalrpop_dense.specs.DenseTable.{table_numbers}
use Rattle.bajofeki.specs.declared.walker.Walker.TheVariants.{Table, States}
use Rattle.bajofeki.specs.Internal.Walking.{IsMet, IsRight}
use Rattle.bajofeki.proofs.Walking.{row_within, state_within}
use Rattle.bajofeki.proofs.walker.Walker.kind.Goals as goal

pub row_kind-requires : goal.row_kind-requires
row_kind-requires c =
    let t = c.in-Table.table in
    let right = subst IsRight c.in-Table.is c.requires.right in
    row_within (Table t) (table_numbers t) right.0 c.args.place refl (λ place n. refl) right.1 (subst (λ w. IsMet w c.args.place) c.in-Table.is c.requires.met)

pub state_kind-requires : goal.state_kind-requires
state_kind-requires c =
    let d = c.in-States.dfa in
    let right = subst IsRight c.in-States.is c.requires.right in
    omega (arith, c.new.ensures.value, state_within (States d) d.now c.args.place refl (λ place n. refl) right (subst (λ w. IsMet w c.args.place) c.in-States.is c.requires.met))
