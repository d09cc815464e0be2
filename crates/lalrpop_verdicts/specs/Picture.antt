-- cases: proofs/Cases/Picture.antt
-- An automaton as a text for Graphviz.
use Rattle.std.specs.Prelude.{ℕ, ◌+◌, ◌-◌, ◌==◌, Bool, true, false, not, ◌&&◌, ◌||◌, nat_lt, List, [], ◌∷◌, ◌++◌, length, map, take, filter, flat_map, replicate, codes, chars, decimal, encode_utf8, slice_get, Option, Some, None, if◌then◌else◌}
use Rattle.std.specs.Char.{is_control}
use Rattle.std.specs.Fmt.{digits}
use Rattle.std.specs.List.{join_with_byte}
use Rattle.lalrpop_hir.specs.Range.{Range}
use Rattle.lalrpop_dfa.specs.Dfa.{Row}
use Rattle.lalrpop_dfa.specs.declared.Kind.{Kind}
use Rattle.lalrpop_dfa.specs.declared.Kind.TheVariants.{Accepts, Reject, Neither}

-- ---- characters in quotes

-- `U+` and the value in hexadecimal, of four digits at least
unfoldable pub code_text : ℕ → List ℕ
code_text c = let number = digits 16 true c in codes "U+" ++ (replicate (4 - length number) 48 ++ number)

-- a character that is shown as itself, also one that Graphviz reads in quotes: the quote, the backslash, and `&`, which begins an
-- entity
unfoldable pub as_itself : ℕ → List ℕ
as_itself c =
    if c == 34 then codes "\\\"" else (
    if c == 92 then codes "\\\\" else (
    if c == 38 then codes "&amp;" else encode_utf8 c))

-- a character of a name: itself, or the code of a control character
unfoldable pub name_character : ℕ → List ℕ
name_character c = if is_control c then code_text c else as_itself c

-- a value of a class: `\n`, `\r`, `\t`, a character of ASCII that is seen, or the code
unfoldable pub value_text : ℕ → List ℕ
value_text c =
    if c == 10 then codes "\\\\n" else (
    if c == 13 then codes "\\\\r" else (
    if c == 9 then codes "\\\\t" else (
    if nat_lt 32 c && nat_lt c 127 then as_itself c else code_text c)))

-- whether the value is shown by its code
abbrev pub is_coded : ℕ → Bool
is_coded c = not (c == 10 || c == 13 || c == 9 || (nat_lt 32 c && nat_lt c 127))

-- ---- edges

-- the values of a range as a class has them: one; two side by side, if neither is shown by its code; or the first and the last
unfoldable pub range_text : Range → List ℕ
range_text r =
    if r.end - r.start == 0 then value_text r.start else (
    if r.end - r.start == 1 && not (is_coded r.start || is_coded r.end) then value_text r.start ++ value_text r.end
    else value_text r.start ++ (45 ∷ value_text r.end))

-- the ranges of the tests that lead to the state q
abbrev pub ranges_to : List (Range × ℕ) → ℕ → List Range
ranges_to [] q = []
ranges_to (t ∷ ts) q = if t.1 == q then t.0 ∷ ranges_to ts q else ranges_to ts q

-- of more than twelve parts, twelve and how many more there are
unfoldable pub shortened : List (List ℕ) → List (List ℕ)
shortened parts = take 12 parts ++ (if nat_lt 12 (length parts) then (43 ∷ decimal (length parts - 12)) ∷ [] else [])

-- by what a state with these tests and this other edge leads to the state q
unfoldable pub label : List (Range × ℕ) → ℕ → ℕ → List ℕ
label tests other q =
    join_with_byte 32 (shortened (map range_text (ranges_to tests q)) ++ (if other == q then codes "other" ∷ [] else []))

-- the edge from the state p to the state q
unfoldable pub edge_line : ℕ → List (Range × ℕ) → ℕ → ℕ → List ℕ
edge_line p tests other q =
    codes "  " ++ (decimal p ++ (codes " -> " ++ (decimal q ++ (codes " [label=\"" ++ (label tests other q ++ codes "\"];\n")))))

-- each number where it comes first
abbrev pub distinct : List ℕ → List ℕ
distinct [] = []
distinct (q ∷ qs) = q ∷ filter (λ n. not (q == n)) (distinct qs)

-- where the edges of a state lead, in the order of the first ranges that lead there
abbrev pub targets : List (Range × ℕ) → ℕ → List ℕ
targets tests other = distinct (map (λ t. t.1) tests ++ other ∷ [])

abbrev pub is_live : Kind → Bool
is_live (Accepts i) = true
is_live Reject = false
is_live Neither = true

-- the state is one of the automaton, and doesn't reject
abbrev pub is_live_at : List Row → ℕ → Bool
is_live_at d q = elim (slice_get d q) [ None ↦ false | Some r ↦ is_live r.kind ]

-- the edges from the state p, which is this row, to states that don't reject
unfoldable pub row_edges : List Row → ℕ → Row → List ℕ
row_edges d p r =
    if is_live r.kind then flat_map (edge_line p r.tests r.other) (filter (is_live_at d) (targets r.tests r.other)) else []

-- those from the states from number p on
abbrev pub edges_from : List Row → ℕ → List Row → List ℕ
edges_from d p [] = []
edges_from d p (r ∷ rs) = row_edges d p r ++ edges_from d (p + 1) rs

-- ---- states

-- the name of a pattern, or its number if it has none
unfoldable pub name_text : List (List ℕ) → ℕ → List ℕ
name_text names i = elim (slice_get names i) [ None ↦ decimal i | Some name ↦ flat_map name_character (chars name) ]

-- a state that accepts the pattern i
unfoldable pub accepting_line : List (List ℕ) → ℕ → ℕ → List ℕ
accepting_line names p i =
    codes "  " ++ (decimal p ++ (codes " [shape=doublecircle, label=\""
    ++ (decimal p ++ (codes "\\n" ++ (name_text names i ++ codes "\"];\n")))))

-- a state: a circle, a double circle if it accepts a pattern, or nothing if it rejects
unfoldable pub state_line : List (List ℕ) → ℕ → Kind → List ℕ
state_line names p (Accepts i) = accepting_line names p i
state_line names p Reject = []
state_line names p Neither = codes "  " ++ (decimal p ++ codes ";\n")

-- the states from number p on
abbrev pub states_from : List (List ℕ) → ℕ → List Row → List ℕ
states_from names p [] = []
states_from names p (r ∷ rs) = state_line names p r.kind ++ states_from names (p + 1) rs

-- ---- the picture

-- the line of the title, if there is one
unfoldable pub title_line : Option (List ℕ) → List ℕ
title_line None = []
title_line (Some title) = codes "  label=\"" ++ (flat_map name_character (chars title) ++ codes "\";\n")

-- from left to right, with an arrow from nowhere to state 0
abbrev pub head : List ℕ
head =
    codes "digraph {\n  rankdir=LR;\n  node [shape=circle];\n"
    ++ codes "  nowhere [shape=none, label=\"\", width=0, height=0];\n  nowhere -> 0;\n"

-- the title, the states, and then the edges
unfoldable pub dot : Option (List ℕ) → List (List ℕ) → List Row → List ℕ
dot title names d = head ++ (title_line title ++ (states_from names 0 d ++ (edges_from d 0 d ++ codes "}\n")))
