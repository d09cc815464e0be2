-- The first tree that can't be compiled.
use Rattle.std.specs.Prelude.{◌≡◌, ℕ, ◌<◌, List, Some, None, slice_get}
use Rattle.lalrpop_hir.specs.Fault.{fault}
use Rattle.lalrpop_hir.specs.Report.{FirstFault}
use Rattle.lalrpop_hir.specs.Tree.{Tree}
use Rattle.lalrpop_hir.specs.declared.error.NfaConstructionError.{NfaConstructionError}
use Rattle.lalrpop_hir.specs.declared.error.NfaConstructionError.TheVariants as compile
use Rattle.lalrpop_rules.specs.declared.text_error.TextError.{TextError}
use Rattle.lalrpop_rules.specs.declared.text_error.TextError.TheVariants.{NotCompiled, OutOfMemory}

-- each tree before this one can be compiled
abbrev pub NoFaultBefore : List Tree → ℕ → Type 0
NoFaultBefore ts i = (j : ℕ) (t : Tree) → j < i → slice_get ts j ≡ Some t → fault t ≡ None

-- the error of rule i for an error of its tree
abbrev pub of_tree : ℕ → NfaConstructionError → TextError
of_tree i compile.OutOfMemory = OutOfMemory
of_tree i e = NotCompiled i e

-- it is the error of the first tree that can't be compiled, or memory was refused
abbrev pub IsFaultError : List Tree → TextError → Type 0
IsFaultError ts (NotCompiled i e) = FirstFault ts i e
IsFaultError ts OutOfMemory = Unit {0}
IsFaultError ts e = ⊥
