-- How a graph is extended while a tree is compiled.
use Rattle.std.specs.Prelude.{◌≡◌, ◌≢◌, ℕ, ◌<◌, List, ◌++◌, length, Some, None}
use Rattle.std.specs.List.{filter}
use Rattle.lalrpop_hir.specs.Tree.{Tree, Trees}
use Rattle.lalrpop_nfa.specs.Graph.{Graph}
use Rattle.lalrpop_nfa.specs.Walk.{leaves}
use Rattle.lalrpop_nfa.specs.Internal.Fragment.{Construction, extended, Branches, branches, Fragment}
use Rattle.lalrpop_hir.specs.Fault.{Fault, fault}
use Rattle.lalrpop_nfa.specs.Internal.Valid.{IsValid}
use Rattle.lalrpop_hir.specs.declared.error.NfaConstructionError.{NfaConstructionError}
use Rattle.lalrpop_hir.specs.declared.error.NfaConstructionError.TheVariants.{OutOfMemory}

-- the states of g have the same `Noop` edges in h
abbrev pub KeepsNoops : Graph → Graph → Type 0
KeepsNoops g h = (s : ℕ) → s < length g.kinds → filter (leaves s) h.edges.noops ≡ filter (leaves s) g.edges.noops

-- h is g with what the construction adds towards the target, and its entry is this state
pub record Extends (construction : Construction) (target : ℕ) (g h : Graph) (entry : ℕ) : Type 0 where
  pub begins : entry ≡ (construction target (length g.kinds)).entry
  pub graph : h ≡ extended g (construction target (length g.kinds))
  pub kept : KeepsNoops g h

-- the states and edges of branches, without a state before them
abbrev pub beside : Branches → Fragment
beside b = record { size = b.size; entry = 0; edges = b.edges }

-- h is g with the first branches, which begin at these states; with what the other branches add, h has all branches
pub record Branched (target : ℕ) (all others : Trees) (g h : Graph) (entries : List ℕ) : Type 0 where
  pub begin : entries ++ (branches others target (length h.kinds)).entries ≡ (branches all target (length g.kinds)).entries
  pub graph : extended h (beside (branches others target (length h.kinds))) ≡ extended g (beside (branches all target (length g.kinds)))
  pub kept : KeepsNoops g h

-- the tree can be compiled
pub record IsCompilable (t : Tree) : Type 0 where
  pub no_fault : fault t ≡ None
  pub valid : IsValid t

-- a call that fails with this error was refused memory, or has met this fault
abbrev pub IsFaultOf : Fault → NfaConstructionError → Type 0
IsFaultOf f e = e ≢ OutOfMemory → f ≡ Some e
