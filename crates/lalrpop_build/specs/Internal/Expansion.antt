-- What the construction of an automaton is given and keeps.
use Rattle.std.specs.Prelude.{◌≡◌, ◌≢◌, ℕ, ◌+◌, ◌<◌, ◌≤◌, ◌⊎◌, List, [], ◌∷◌, ◌++◌, length, map, take, slice_get, Option, Some, None}
use Rattle.std.proofs.Common.{zero, suc}
use Rattle.std.specs.List.{Contains}
use Rattle.std.specs.BTreeMap.{BTreeMap, get}
use Rattle.lalrpop_hir.specs.Range.{Range, Covers}
use Rattle.lalrpop_hir.specs.Tree.{Tree}
use Rattle.lalrpop_nfa.specs.Graph.{Graph}
use Rattle.lalrpop_hir.specs.Fault.{fault}
use Rattle.lalrpop_nfa.specs.Compiled.{IsCompiled, HasFixedEdges}
use Rattle.lalrpop_hir.specs.Clash.{IsClash}
use Rattle.lalrpop_dfa.specs.Dfa.{Row}
use Rattle.lalrpop_dfa.specs.Ascending.{Item}
use Rattle.lalrpop_build.specs.Items.{IsLeaving}
use Rattle.lalrpop_build.specs.Internal.Subsets.{move}
use Rattle.lalrpop_build.specs.Internal.Transitions.{AreTransitions}
use Rattle.lalrpop_build.specs.Internal.ClassTransitions.{transitions_cmp}
use Rattle.lalrpop_build.specs.declared.build.scratch.Transitions.{Transitions}
use Rattle.lalrpop_build.specs.declared.build.sets.Sets.{Sets}
use Rattle.lalrpop_build.specs.Internal.BreadthFirst.{IsBreadthFirst, nth, value_of}
use Rattle.lalrpop_build.specs.Internal.Built.{subset_automaton, IsRowOf, IsTied}
use Rattle.lalrpop_nfa.specs.Partition.{IsPartition}
use Rattle.lalrpop_hir.specs.declared.error.NfaConstructionError.{NfaConstructionError}
use Rattle.lalrpop_hir.specs.declared.error.NfaConstructionError.TheVariants.{OutOfMemory as NoMemory}
use Rattle.lalrpop_hir.specs.declared.error.DfaConstructionError.{DfaConstructionError}
use Rattle.lalrpop_hir.specs.declared.error.DfaConstructionError.TheVariants.{NfaConstructionError as Refused, Ambiguity, OutOfMemory}

-- the set has the number j: it already had it, or it was added last, with its origin
abbrev pub AddedTo : List (List Item) → List (ℕ × ℕ) → ℕ → ℕ → List Item → ℕ → List (List Item) → List (ℕ × ℕ) → Type 0
AddedTo sets origins n v t j sets2 origins2 =
    ((slice_get sets j ≡ Some t) × (sets2 ≡ sets) × (origins2 ≡ origins))
    ⊎ (((k : ℕ) → slice_get sets k ≡ Some t → ⊥) × (j ≡ length sets) × (sets2 ≡ sets ++ t ∷ []) × (origins2 ≡ origins ++ (n, v) ∷ []))

-- the same for numbered sets, whose place stays
abbrev pub IsAdded : Sets → ℕ × ℕ → List Item → ℕ → Sets → Type 0
IsAdded sets o t j sets2 = AddedTo sets.kernels.list sets.origins.items o.0 o.1 t j sets2.kernels.list sets2.origins.items × (sets2.kernels.place ≡ sets.kernels.place)

-- each number of the map is that of the set to which s leads by the values that take these test edges
abbrev pub IsEdgeCache : List Graph → List Item → BTreeMap Transitions ℕ → List (List Item) → Type 0
IsEdgeCache ns s cache sets = (leads : Transitions) (j v : ℕ) → get transitions_cmp cache leads ≡ Some j → AreTransitions ns s v leads.list.items → slice_get sets j ≡ Some (move ns s v)

-- no class has a number
abbrev pub IsEmptyCache : List (Option ℕ) → Type 0
IsEmptyCache cache = (c j : ℕ) → slice_get cache c ≡ Some (Some j) → ⊥

-- the same by the class of a value
abbrev pub IsClassCache : List Graph → List Item → List Transitions → List (Option ℕ) → List (List Item) → Type 0
IsClassCache ns s by_class cache sets = (c j v : ℕ) (t : Transitions) → slice_get cache c ≡ Some (Some j) → slice_get by_class c ≡ Some t
    → AreTransitions ns s v t.list.items → slice_get sets j ≡ Some (move ns s v)

-- another class has the number j, and its values take the same test edges as those of class c
abbrev pub IsNumberOfEqual : List Transitions → List (Option ℕ) → ℕ → ℕ → Type 0
IsNumberOfEqual by_class cache c j = (d : ℕ) × (t u : Transitions) × ((slice_get cache d ≡ Some (Some j)) × (slice_get by_class d ≡ Some t) × (slice_get by_class c ≡ Some u) × (t.list.items ≡ u.list.items))

-- the values of origins are of 32 bits
abbrev pub AreSmall : List (ℕ × ℕ) → Type 0
AreSmall origins = (k : ℕ) → value_of origins k ≤ 4294967295

-- sets with a number keep it
abbrev pub Keep : List Graph → List (List Item) → List (List Item) → Type 0
Keep ns sets sets2 = (k : ℕ) → k < length sets → (k < length sets2) × (nth (subset_automaton ns) sets2 k ≡ nth (subset_automaton ns) sets k)

-- the place after the first k ranges
abbrev past_end : Option Range → ℕ
past_end None = 0
past_end (Some r) = r.end + 1

abbrev pub past : List Range → ℕ → ℕ
past xs zero = 0
past xs (suc k) = past_end (slice_get xs k)

-- the first k of the ranges were expanded
pub record IsEdging (ns : List Graph) (sets0 : List (List Item)) (origins0 : List (ℕ × ℕ)) (n : ℕ) (s : List Item) (xs : List Range) (k : ℕ) (sets : List (List Item)) (origins : List (ℕ × ℕ)) (tests : List (Range × ℕ)) : Type 0 where
  pub breadth_first : IsBreadthFirst (subset_automaton ns) sets origins n (past xs k)
  pub ranges : map (λ t. t.0) tests ≡ take k xs
  pub leads : (t : Range × ℕ) (c : ℕ) → Contains tests t → Covers t.0 c → (t.1 < length sets) × (nth (subset_automaton ns) sets t.1 ≡ move ns s c)
  pub kept : Keep ns sets0 sets
  pub small : AreSmall origins0 → AreSmall origins

-- all ranges of the partition of what leaves the set were expanded
abbrev pub AreTested : List Graph → List (List Item) → List (ℕ × ℕ) → ℕ → List Item → List (List Item) → List (ℕ × ℕ) → List (Range × ℕ) → Type 0
AreTested ns sets0 origins0 n s sets origins tests = (xs : List Range) × (IsPartition (IsLeaving ns s) xs × IsEdging ns sets0 origins0 n s xs (length xs) sets origins tests)

-- number n, which has the set s, is expanded: where its tests and all other values lead
pub record IsEdged (ns : List Graph) (sets : List (List Item)) (origins : List (ℕ × ℕ)) (n : ℕ) (s : List Item) (sets2 : List (List Item)) (origins2 : List (ℕ × ℕ)) (tests : List (Range × ℕ)) (other : ℕ) : Type 0 where
  pub breadth_first : IsBreadthFirst (subset_automaton ns) sets2 origins2 (n + 1) 0
  pub ranges : IsPartition (IsLeaving ns s) (map (λ t. t.0) tests)
  pub leads : (t : Range × ℕ) (c : ℕ) → Contains tests t → Covers t.0 c → (t.1 < length sets2) × (nth (subset_automaton ns) sets2 t.1 ≡ move ns s c)
  pub otherwise : (other < length sets2) × (nth (subset_automaton ns) sets2 other ≡ move ns s 4294967295)
  pub kept : Keep ns sets sets2
  pub small : AreSmall origins → AreSmall origins2

-- all numbers below n are expanded, and have their rows
pub record IsBuiltTo (ns : List Graph) (ps : List ℕ) (sets : List (List Item)) (origins : List (ℕ × ℕ)) (rows : List Row) (n : ℕ) : Type 0 where
  pub breadth_first : IsBreadthFirst (subset_automaton ns) sets origins n 0
  pub within : n ≤ length sets
  pub counted : length rows ≡ n
  pub rows_are : (k : ℕ) (r : Row) → slice_get rows k ≡ Some r → IsRowOf ns ps sets k r
  pub small : AreSmall origins

-- two trees tie in the set that the word v leads to, or memory was refused
abbrev pub IsTieOf : List ℕ → List Item → List ℕ → DfaConstructionError → Type 0
IsTieOf ps s v (Refused i e) = ⊥
IsTieOf ps s v (Ambiguity i j w) = IsTied ps s i j × (w.items ≡ v)
IsTieOf ps s v OutOfMemory = Unit {0}

-- the error says that trees i and j clash on the word v, or that memory was refused
abbrev pub IsClashAt : List ℕ → ℕ → ℕ → DfaConstructionError → Type 0
IsClashAt v i j (Refused k e) = ⊥
IsClashAt v i j (Ambiguity k l w) = (k ≡ i) × (l ≡ j) × (w.items ≡ v)
IsClashAt v i j OutOfMemory = Unit {0}

-- the trees clash, or memory was refused
abbrev pub IsClashOf : List Tree → List ℕ → DfaConstructionError → Type 0
IsClashOf ts ps (Refused i e) = ⊥
IsClashOf ts ps (Ambiguity i j w) = IsClash ts ps w.items i j
IsClashOf ts ps OutOfMemory = Unit {0}

-- the trees before tree i have no fault
abbrev pub NoFaultBefore : List Tree → ℕ → Type 0
NoFaultBefore ts i = (j : ℕ) (t : Tree) → j < i → slice_get ts j ≡ Some t → fault t ≡ None

-- tree i has no fault, and this automaton
pub record IsCompiledAt (ts : List Tree) (i : ℕ) (g : Graph) : Type 0 where
  pub tree : Tree
  pub at : slice_get ts i ≡ Some tree
  pub no_fault : fault tree ≡ None
  pub compiled : IsCompiled tree g
  pub fixed : HasFixedEdges g.edges

-- the error says that pattern i was not compiled, and why
abbrev pub IsRefusalOf : ℕ → NfaConstructionError → DfaConstructionError → Type 0
IsRefusalOf i e (Refused j f) = (j ≡ i) × (f ≡ e) × (e ≢ NoMemory)
IsRefusalOf i e (Ambiguity j k w) = ⊥
IsRefusalOf i e OutOfMemory = Unit {0}
