-- The graph of a list of edges.
use Rattle.std.specs.Prelude.{◌≡◌, ◌≢◌, ◌⊎◌, List, [], ◌∷◌, Option, Some, None, All}
use Rattle.lalrpop_hir.specs.Language.{Words, Then, Matches}
use Rattle.lalrpop_hir.specs.Fault.{fault}
use Rattle.lalrpop_re.specs.declared.edge.Edge.{Edge}
use Rattle.lalrpop_re.specs.Internal.Walks.{Graph}

-- the words of one edge
abbrev pub Labels : Edge → Graph
Labels e p q w = (e.from ≡ p) × (e.to ≡ q) × Matches e.tree w

-- the words of any edge of the list
abbrev pub between : List Edge → Graph
between [] p q w = ⊥
between (e ∷ es) p q w = Labels e p q w ⊎ between es p q w

-- the words along an edge, the turns behind it, and a word out of there
abbrev pub Exits : Edge → Edge → Graph → Graph
Exits entry turns M p q w =
    (entry.from ≡ p) × (q ≢ entry.to) × Then (Matches entry.tree) (Then (Matches turns.tree) (M entry.to q)) w

-- the words of the edge, if there is one
abbrev pub OptionWords : Option Edge → Words
OptionWords None w = ⊥
OptionWords (Some e) w = Matches e.tree w

-- the edge's tree can be compiled
abbrev pub IsSound : Edge → Type 0
IsSound e = fault e.tree ≡ None

-- so can that of the edge, if there is one
abbrev pub IsSoundOption : Option Edge → Type 0
IsSoundOption None = Unit {0}
IsSoundOption (Some e) = IsSound e

-- so can those of all edges
abbrev pub AreSound : List Edge → Type 0
AreSound es = All IsSound es
