-- cases: proofs/Cases/Fault.antt
-- Why a tree can't be compiled.
use Rattle.std.specs.Prelude.{ℕ, zero, suc, List, Option, Some, None, if◌then◌else◌}
use Rattle.std.specs.Option.{option_or}
use Rattle.lalrpop_hir.specs.Tree.{Tree, empty, literal, class, look, repetition, capture, concat, alternation, Trees, none, also}
use Rattle.lalrpop_hir.specs.declared.error.NfaConstructionError.{NfaConstructionError}
use Rattle.lalrpop_hir.specs.declared.error.NfaConstructionError.TheVariants.{NamedCaptures, NonGreedy, LookAround}

abbrev pub Fault : Type 0
Fault = Option NfaConstructionError

-- the fault of a greedy repetition with this max, whose sub has the fault f
abbrev pub greedy_fault : Option ℕ → Fault → Fault
greedy_fault None f = f
greedy_fault (Some zero) f = None
greedy_fault (Some (suc max)) f = f

-- the fault of a group with this name, whose sub has the fault f
abbrev pub group_fault : Option (List ℕ) → Fault → Fault
group_fault None f = f
group_fault (Some name) f = Some NamedCaptures

abbrev mutual
  pub fault : Tree → Fault
  fault empty = None
  fault (literal cs) = None
  fault (class c) = None
  fault (look l) = Some LookAround
  fault (repetition min max greedy t) = if greedy then greedy_fault max (fault t) else Some NonGreedy
  fault (capture name t) = group_fault name (fault t)
  fault (concat ts) = last_fault ts
  fault (alternation ts) = first_fault ts

  -- the fault of the last tree that has one
  pub last_fault : Trees → Fault
  last_fault none = None
  last_fault (also t ts) = option_or (last_fault ts) (fault t)

  -- the fault of the first tree that has one
  pub first_fault : Trees → Fault
  first_fault none = None
  first_fault (also t ts) = option_or (fault t) (first_fault ts)
