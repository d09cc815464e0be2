-- Cases of specs/Report.antt.
use Rattle.std.proofs.Common.{◌≡◌, ℕ, zero, suc, ◌<◌, List, [], ◌∷◌, false, Some, None, refl, sym, ap, get_or, subst, ◌∙◌, arith}
use Rattle.std.specs.Prelude.{slice_get, Vec}
use Rattle.std.specs.Global.{Global}
use Rattle.lalrpop_hir.specs.Tree.{Tree, literal, look, repetition}
use Rattle.lalrpop_hir.specs.declared.look.Look.TheVariants.{Start}
use Rattle.lalrpop_hir.specs.Fault.{fault}
use Rattle.lalrpop_hir.specs.declared.error.NfaConstructionError.TheVariants.{NonGreedy, LookAround}
use Rattle.lalrpop_hir.specs.Report.{NoFault, FirstFault, IsReport}
use Rattle.lalrpop_hir.specs.declared.error.DfaConstructionError.TheVariants.{NfaConstructionError as Refused, Ambiguity}
use Rattle.lalrpop_hir.specs.Clash.{IsClash}
use Rattle.lalrpop_hir.proofs.ClashLaws.{clash-unique}
use Rattle.lalrpop_hir.proofs.Cases.Clash.{equal_literals_clash}

abbrev a : Tree
a = literal (97 ∷ [])

-- `a`, then `^`, then `a*?`
abbrev third_is_lazy : List Tree
third_is_lazy = a ∷ look Start ∷ repetition 0 None false a ∷ []

-- a literal has no fault, and a look has one
literals_have_no_fault : NoFault (a ∷ a ∷ [])
literals_have_no_fault zero t e = let f : a ≡ t = cc in subst (λ u. fault u ≡ None) f refl
literals_have_no_fault (suc zero) t e = let f : a ≡ t = cc in subst (λ u. fault u ≡ None) f refl
literals_have_no_fault (suc (suc i)) t e = absurd (cc)

look_has_a_fault : ¬ NoFault third_is_lazy
look_has_a_fault n = let e : Some LookAround ≡ None = n 1 (look Start) refl in absurd (cc)

-- the first tree with a fault is named, not a later one
pub first_fault_is_that_of_the_look : FirstFault third_is_lazy 1 LookAround
first_fault_is_that_of_the_look = record { tree = look Start; at = refl; has = refl; none_before = before }
  where
    before : (j : ℕ) (t : Tree) → j < 1 → slice_get third_is_lazy j ≡ Some t → fault t ≡ None
    before zero t h e = let f : a ≡ t = cc in subst (λ u. fault u ≡ None) f refl
    before (suc j) t h e = absurd (omega arith)

pub first_fault_is_not_a_later_one : ¬ FirstFault third_is_lazy 2 NonGreedy
first_fault_is_not_a_later_one f = let e : Some LookAround ≡ None = f.none_before 1 (look Start) (omega arith) refl in absurd (cc)

-- with its own fault
first_fault_is_not_another_one : ¬ FirstFault third_is_lazy 1 NonGreedy
first_fault_is_not_another_one f =
    let same : Some (look Start) ≡ Some f.tree = f.at in
    let tree : look Start ≡ f.tree = cc in
    let e : Some LookAround ≡ Some NonGreedy = subst (λ t. fault t ≡ Some NonGreedy) (sym tree) f.has in
    absurd (cc)

-- the report names the first fault
report_of_the_first_fault : IsReport third_is_lazy (0 ∷ 0 ∷ 0 ∷ []) (Refused 1 LookAround)
report_of_the_first_fault = first_fault_is_that_of_the_look

no_report_of_a_later_fault : ¬ IsReport third_is_lazy (0 ∷ 0 ∷ 0 ∷ []) (Refused 2 NonGreedy)
no_report_of_a_later_fault = first_fault_is_not_a_later_one

-- `a` twice: the clash, the greater index first
report_of_the_clash : (w : Vec ℕ Global) → w.items ≡ 97 ∷ [] → IsReport (a ∷ a ∷ []) (0 ∷ 0 ∷ []) (Ambiguity 1 0 w)
report_of_the_clash w e = (literals_have_no_fault, subst (λ v. IsClash (a ∷ a ∷ []) (0 ∷ 0 ∷ []) v 1 0) (sym e) equal_literals_clash)

no_report_of_the_clash_turned : (w : Vec ℕ Global) → ¬ IsReport (a ∷ a ∷ []) (0 ∷ 0 ∷ []) (Ambiguity 0 1 w)
no_report_of_the_clash_turned w r = omega (arith, r.1.less)

-- with another word the report is wrong
no_report_of_the_clash_on_another_word : (w : Vec ℕ Global) → w.items ≡ 98 ∷ [] → ¬ IsReport (a ∷ a ∷ []) (0 ∷ 0 ∷ []) (Ambiguity 1 0 w)
no_report_of_the_clash_on_another_word w e r =
    let same = clash-unique (a ∷ a ∷ []) (0 ∷ 0 ∷ []) w.items (97 ∷ []) 1 0 1 0 r.1 equal_literals_clash in
    omega (arith, ap (λ (v : List ℕ). get_or v 0 0) (sym e ∙ same.0))

-- a fault comes before a clash
no_report_of_a_clash_beside_a_fault : (i j : ℕ) (w : Vec ℕ Global) → ¬ IsReport (a ∷ a ∷ look Start ∷ []) (0 ∷ 0 ∷ 0 ∷ []) (Ambiguity i j w)
no_report_of_a_clash_beside_a_fault i j w r = let e : Some LookAround ≡ None = r.0 2 (look Start) refl in absurd (cc)
