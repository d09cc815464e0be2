use Rattle.std.proofs.Common.{refl, subst}
use Rattle.lalrpop_dense.specs.DenseTable.{table_numbers}
use Rattle.bajofeki.specs.declared.walker.Walker.TheVariants.{Table, States}
use Rattle.bajofeki.specs.Internal.Walking.{HasOnePlace, IsWalkerOf}
use Rattle.bajofeki.proofs.Walking.{states_one, states_walk, table_one, table_walks}
use Rattle.bajofeki.proofs.walker.Walker.of.Goals as goal

pub returns-in-Some-clause-same : goal.returns-in-Some-clause-same
returns-in-Some-clause-same c =
    table_walks (Table c.in-Some.table) (table_numbers c.in-Some.table) c.args.dense.now refl (λ place n. refl) (λ place. refl) c.in-Some.ensures.right

pub returns-in-Some-clause-one : goal.returns-in-Some-clause-one
returns-in-Some-clause-one c = table_one (Table c.in-Some.table) (table_numbers c.in-Some.table) c.args.dense.now refl (λ place n. refl) c.in-Some.ensures.right

pub returns-in-None-clause-same : goal.returns-in-None-clause-same
returns-in-None-clause-same c =
    subst (IsWalkerOf (States c.dfa-dfa.result)) c.dfa-dfa.ensures.same
    (states_walk (States c.dfa-dfa.result) c.dfa-dfa.result.now refl (λ place n. refl) (λ place. refl) c.states-states.ensures.well_formed)

pub returns-in-None-clause-one : goal.returns-in-None-clause-one
returns-in-None-clause-one c =
    subst (HasOnePlace (States c.dfa-dfa.result)) c.dfa-dfa.ensures.same (states_one (States c.dfa-dfa.result) c.dfa-dfa.result.now refl (λ place n. refl))
