-- cases: proofs/Cases/Report.antt
-- What the construction reports.
use Rattle.std.specs.Prelude.{◌≡◌, ℕ, ◌<◌, List, slice_get, Some, None}
use Rattle.lalrpop_hir.specs.Tree.{Tree}
use Rattle.lalrpop_hir.specs.Fault.{fault}
use Rattle.lalrpop_hir.specs.Clash.{IsClash}
use Rattle.lalrpop_hir.specs.declared.error.NfaConstructionError.{NfaConstructionError}
use Rattle.lalrpop_hir.specs.declared.error.DfaConstructionError.{DfaConstructionError}
use Rattle.lalrpop_hir.specs.declared.error.DfaConstructionError.TheVariants.{NfaConstructionError as Refused, Ambiguity, OutOfMemory}

-- no tree has a fault
abbrev pub NoFault : List Tree → Type 0
NoFault ts = (i : ℕ) (t : Tree) → slice_get ts i ≡ Some t → fault t ≡ None

-- tree i is the first with a fault, and e is its fault
pub record FirstFault (ts : List Tree) (i : ℕ) (e : NfaConstructionError) : Type 0 where
  pub tree : Tree
  pub at : slice_get ts i ≡ Some tree
  pub has : fault tree ≡ Some e
  pub none_before : (j : ℕ) (t : Tree) → j < i → slice_get ts j ≡ Some t → fault t ≡ None

-- the error reports the first fault or refused memory, and never a clash
abbrev pub IsFaultOf : List Tree → DfaConstructionError → Type 0
IsFaultOf ts (Refused i e) = FirstFault ts i e
IsFaultOf ts (Ambiguity i j w) = ⊥
IsFaultOf ts OutOfMemory = Unit {0}

-- the report is right
abbrev pub IsReport : List Tree → List ℕ → DfaConstructionError → Type 0
IsReport ts ps (Refused i e) = FirstFault ts i e
IsReport ts ps (Ambiguity i j w) = NoFault ts × IsClash ts ps w.items i j
IsReport ts ps OutOfMemory = Unit {0}
