use Rattle.std.proofs.lemmas.Result.{IfOk-weaker}
use Rattle.lalrpop_build.proofs.Classing.{lists_within, are_cells, are_groups, are_classes}
use Rattle.lalrpop_build.proofs.alphabet.classes.classes_of.Goals as goal

pub number_cells-requires-clause-within : goal.number_cells-requires-clause-within
number_cells-requires-clause-within c =
    lists_within c.args.boundaries.now c.args.lists.now c.in_ok-cell_signatures.cell_signatures.signatures.items c.in_ok-cell_signatures.cell_signatures.groups.items c.in_ok-cell_signatures.ensures.signed c.in_ok-cell_signatures.ensures.same_length

pub returns-clause-cells : goal.returns-clause-cells
returns-clause-cells c =
    IfOk-weaker c.number_cells.result _ _ (λ x all. are_cells c.args.boundaries.now c.args.lists.now c.in_ok-cell_signatures.cell_signatures.signatures.items x.cells.items c.in_ok-cell_signatures.cell_signatures.groups.items x.groups.items x.count c.requires c.in_ok-cell_signatures.ensures.signed c.in_ok-cell_signatures.ensures.ends all)
    c.number_cells.ensures

pub returns-clause-groups : goal.returns-clause-groups
returns-clause-groups c =
    IfOk-weaker c.number_cells.result _ _ (λ x all. are_groups c.args.boundaries.now c.args.lists.now c.in_ok-cell_signatures.cell_signatures.signatures.items x.cells.items c.in_ok-cell_signatures.cell_signatures.groups.items x.groups.items x.count c.requires c.in_ok-cell_signatures.ensures.signed c.in_ok-cell_signatures.ensures.ends all)
    c.number_cells.ensures

pub returns-clause-classes : goal.returns-clause-classes
returns-clause-classes c =
    IfOk-weaker c.number_cells.result _ _ (λ x all. are_classes c.args.boundaries.now c.args.lists.now c.in_ok-cell_signatures.cell_signatures.signatures.items x.cells.items c.in_ok-cell_signatures.cell_signatures.groups.items x.groups.items x.count c.requires c.in_ok-cell_signatures.ensures.signed c.in_ok-cell_signatures.ensures.ends all c.in_ok-cell_signatures.ensures.same_length)
    c.number_cells.ensures
