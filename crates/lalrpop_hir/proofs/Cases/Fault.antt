-- Cases of specs/Fault.antt.
use Rattle.std.proofs.Common.{◌≡◌, [], ◌∷◌, true, false, Some, None, refl}
use Rattle.lalrpop_hir.specs.Tree.{Tree, empty, literal, look, repetition, capture, concat, alternation, none, also}
use Rattle.lalrpop_hir.specs.declared.look.Look.TheVariants.{Start}
use Rattle.lalrpop_hir.specs.Fault.{greedy_fault, group_fault, fault}
use Rattle.lalrpop_hir.specs.declared.error.NfaConstructionError.TheVariants.{NamedCaptures, NonGreedy, LookAround}

abbrev a : Tree
a = literal (97 ∷ [])

-- `(?P<n>a)`
abbrev named : Tree
named = capture (Some (110 ∷ [])) a

-- leaves other than looks have no fault
leaves_have_no_fault : (fault empty ≡ None) × (fault a ≡ None)
leaves_have_no_fault = (refl, refl)

look_has_a_fault : fault (look Start) ≡ Some LookAround
look_has_a_fault = refl

-- `a*` has none, `a*?` has one, whatever its counts
greedy_repetition_has_no_fault : fault (repetition 0 None true a) ≡ None
greedy_repetition_has_no_fault = refl

lazy_repetition_has_a_fault : (fault (repetition 0 None false a) ≡ Some NonGreedy) × (fault (repetition 0 (Some 0) false a) ≡ Some NonGreedy)
lazy_repetition_has_a_fault = (refl, refl)

-- a part that is never repeated has no fault, and one that is repeated once keeps its own
fault_of_what_is_never_repeated : (fault (repetition 0 (Some 0) true (look Start)) ≡ None) × (greedy_fault (Some 0) (Some LookAround) ≡ None)
fault_of_what_is_never_repeated = (refl, refl)

fault_of_what_is_repeated : (fault (repetition 0 (Some 1) true (look Start)) ≡ Some LookAround) × (greedy_fault None (Some LookAround) ≡ Some LookAround)
fault_of_what_is_repeated = (refl, refl)

-- a name is a fault, and hides that of its group
name_is_a_fault : (fault named ≡ Some NamedCaptures) × (fault (capture (Some (110 ∷ [])) (look Start)) ≡ Some NamedCaptures)
name_is_a_fault = (refl, refl)

group_without_a_name_keeps_the_fault : (group_fault None (Some LookAround) ≡ Some LookAround) × (fault (capture None a) ≡ None)
group_without_a_name_keeps_the_fault = (refl, refl)

-- in a concatenation of a look and a named group, the last is reported
concatenation_reports_the_last : fault (concat (also (look Start) (also named (also a none)))) ≡ Some NamedCaptures
concatenation_reports_the_last = refl

-- in an alternation of them, the first
alternation_reports_the_first : fault (alternation (also a (also (look Start) (also named none)))) ≡ Some LookAround
alternation_reports_the_first = refl
