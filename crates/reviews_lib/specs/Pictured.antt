-- cases: proofs/Cases/Pictured.antt
-- The answer for pictures of the automata of a file of rules.
use Rattle.std.specs.Prelude.{◌≡◌, ℕ, ◌⊎◌, true, false, List, [], ◌∷◌, ◌++◌, Option, Some, None, codes, length, map, filter, slice_get}
use Rattle.std.specs.List.{AllZip, concat, range_with_len}
use Rattle.std.specs.Str.{bytes_eq}
use Rattle.bajofeki_rules.specs.Quoted.{quoted}
use Rattle.lalrpop_hir.specs.Tree.{Tree}
use Rattle.lalrpop_dfa.specs.Dfa.{RecognizesAll, Row}
use Rattle.lalrpop_review.specs.Apart.{told}
use Rattle.lalrpop_rules.specs.Modes.{ModeRules, trees_in}
use Rattle.lalrpop_verdicts.specs.Picture.{dot}
use Rattle.lalrpop_verdicts.specs.Smallest.{IsCanonical, IsSmallest}
use Rattle.reports_lib.specs.Answer.{Answer, refusal, about}
use Rattle.reviews_lib.specs.Compared.{token_text}
use Rattle.reports_lib.specs.PieceLines.{mode_named, name_at}
use Rattle.reports_lib.specs.NamedRules.{LexerOf, RulesOf}
use Rattle.lexdfa_lib.specs.Command.{has}
use Rattle.lexdfa_lib.specs.declared.command.Verbosity.{Verbosity}

-- the automaton recognizes the trees with these precedences, and has the fewest states and edges, in their order
abbrev pub IsSmallestFor : List Tree → List ℕ → List Row → Type 0
IsSmallestFor ts ps least = RecognizesAll least ts ps × (IsSmallest least × IsCanonical least)

-- for each number there is a text of which this holds, and they stand one after the other
abbrev pub ArePictures : (ℕ → List ℕ → Type 0) → List ℕ → List ℕ → Type 0
ArePictures Is numbers text = (ones : List (List ℕ)) × (AllZip Is numbers ones × (text ≡ concat ones))

-- what stands at a state that accepts a rule: its token, and what it does, as files of rules write it
abbrev pub label : ModeRules → List (List ℕ) → ℕ → List ℕ
label r modes i = token_text modes (told r (Some i))

-- that of each rule
abbrev pub labels : ModeRules → List (List ℕ) → List (List ℕ)
labels r modes = map (label r modes) (range_with_len 0 (length r.names))

-- ---- each mode

-- the automaton is the smallest for the trees of the mode
abbrev pub IsSmallestIn : ModeRules → ℕ → List Row → Type 0
IsSmallestIn r m least = IsSmallestFor (trees_in r m) r.precedences least

-- its picture; the modes have these names, and if there are several, it has the name of its mode
abbrev pub IsModePicture : ModeRules → List (List ℕ) → ℕ → List ℕ → Type 0
IsModePicture r modes m text = (least : List Row) × (IsSmallestIn r m least × (text ≡ dot (mode_named modes m) (labels r modes) least))

-- ---- the rules of one name

-- the automaton is the smallest for this tree alone
abbrev pub IsSmallestOf : Tree → List Row → Type 0
IsSmallestOf t least = IsSmallestFor (t ∷ []) (0 ∷ []) least

-- its picture, for the tree of a rule
abbrev pub IsRulePicture : ModeRules → List (List ℕ) → ℕ → List ℕ → Type 0
IsRulePicture r modes i text =
    (t : Tree) × ((slice_get r.trees i ≡ Some t)
    × ((least : List Row) × (IsSmallestOf t least × (text ≡ dot None (label r modes i ∷ []) least))))

-- the rules with this name, in their order
abbrev pub rules_named : ModeRules → List ℕ → List ℕ
rules_named r name = filter (λ i. bytes_eq (name_at r.names i) name) (range_with_len 0 (length r.trees))

-- ---- the answer

-- what is drawn: each mode; or, if a name is given, the rules that have it
abbrev pub IsDrawn : ModeRules → List (List ℕ) → Option (List ℕ) → List ℕ → Type 0
IsDrawn r modes None text = ArePictures (IsModePicture r modes) (range_with_len 0 r.modes) text
IsDrawn r modes (Some name) text = (has r.names name ≡ true) × ArePictures (IsRulePicture r modes) (rules_named r name) text

-- no rule has the given name
abbrev pub IsMissing : ModeRules → Option (List ℕ) → List ℕ → Type 0
IsMissing r given name = (given ≡ Some name) × (has r.names name ≡ false)

-- what is said of it
abbrev pub no_rule : List ℕ → List ℕ
no_rule name = codes "no rule has the name " ++ (quoted name ++ codes "; leave it out to draw each mode")

-- the pictures are written; or it is said of the file that no rule has the name
abbrev pub PictureAnswer : List ℕ → Option (List ℕ) → ModeRules → List (List ℕ) → Answer → Type 0
PictureAnswer file given r modes answer =
    ((text : List ℕ) × (IsDrawn r modes given text × (answer ≡ record { status = 0; out = text; err = [] })))
    ⊎ ((name : List ℕ) × (IsMissing r given name × (answer ≡ refusal 4 (about file (no_rule name)))))

-- the same for the rules that these bytes are, in a file of this name
abbrev pub BytesPictured : Verbosity → Option (List ℕ) → List ℕ → List ℕ → Answer → Type 0
BytesPictured verbosity given file bytes answer = RulesOf verbosity (LexerOf (PictureAnswer file given)) file bytes answer
