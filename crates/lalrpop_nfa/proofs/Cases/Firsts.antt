-- Cases of specs/Firsts.antt.
use Rattle.std.proofs.Common.{◌≡◌, ◌≢◌, [], ◌∷◌, Some, None, refl, ap}
use Rattle.lalrpop_nfa.specs.Graph.{Lists}
use Rattle.lalrpop_nfa.specs.Path.{noop}
use Rattle.lalrpop_nfa.specs.StateView.{StateView}
use Rattle.lalrpop_nfa.specs.Firsts.{Noops, Tests, Others, SameListsBut, index_of, with_index}
use Rattle.lalrpop_nfa.specs.declared.edge.StateKind.TheVariants.{Accept, Neither}

abbrev no_edges : Lists
no_edges = record { noops = []; tests = []; others = [] }

-- one edge that reads nothing
abbrev one_noop : Lists
one_noop = record { noops = noop 0 1 ∷ []; tests = []; others = [] }

-- they differ only in the edges that read nothing
lists_that_differ_in_noops : SameListsBut Noops no_edges one_noop
lists_that_differ_in_noops = (refl, refl)

lists_that_differ_elsewhere : (¬ SameListsBut Tests no_edges one_noop) × (¬ SameListsBut Others no_edges one_noop)
lists_that_differ_elsewhere = ((λ h. let e = h.0 in absurd (cc)), (λ h. let e = h.0 in absurd (cc)))

abbrev bare : StateView
bare = record { kind = Neither; first_noop_edge = None; first_test_edge = None; first_other_edge = None }

abbrev begun : StateView
begun = record { kind = Accept; first_noop_edge = Some 0; first_test_edge = Some 1; first_other_edge = None }

-- each kind has an index of its own
indices_of_begun : (index_of Noops begun ≡ Some 0) × (index_of Tests begun ≡ Some 1) × (index_of Others begun ≡ None)
indices_of_begun = (refl, refl, refl)

-- one index is written; the others and the kind of the state stay as they are
begun_with_tests_elsewhere : with_index Tests begun (Some 7) ≡ record { kind = Accept; first_noop_edge = Some 0; first_test_edge = Some 7; first_other_edge = None }
begun_with_tests_elsewhere = refl

with_other_tests_is_not_with_other_noops : with_index Tests bare (Some 0) ≢ with_index Noops bare (Some 0)
with_other_tests_is_not_with_other_noops h = let e = ap (λ (s : StateView). s.first_noop_edge) h in absurd (cc)
