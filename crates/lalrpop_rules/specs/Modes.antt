-- cases: proofs/Cases/Modes.antt
-- The pieces of a text that is cut to its end by rules with modes.
use Rattle.std.specs.Prelude.{◌≡◌, ℕ, ◌+◌, ◌<◌, ◌==◌, if◌then◌else◌, Bool, List, [], ◌∷◌, length, drop, map, Option, Some, None}
use Rattle.std.specs.List.{list_any}
use Rattle.lalrpop_hir.specs.Tree.{Tree}
use Rattle.lalrpop_hir.specs.Clash.{NoClash, IsClash}
use Rattle.lalrpop_lexer.specs.Dfa.{Row}
use Rattle.lalrpop_rules.specs.Kinds.{merged}
use Rattle.lalrpop_rules.specs.Pieces.{IsPiece, slice_of}
use Rattle.lalrpop_rules.specs.declared.piece.Piece.{Piece}
use Rattle.lalrpop_rules.specs.declared.piece.Piece.TheVariants.{Token, Skipped, Fault}
use Rattle.bajofeki_rules.specs.declared.action.Action.{Action}
use Rattle.bajofeki_rules.specs.Stack.{Stack, act_all, actions_of}
use Rattle.bajofeki_rules.specs.EnteredModes.{CanBeEntered}

-- rules with modes: the name, the tree, the precedence and the actions of each rule, whether it is skipped, the modes that it belongs to, and its
-- kind, which is the index of the first rule of that kind; how many modes there are, and their names; and the states of the automaton of each mode
pub record ModeRules : Type 0 where
  pub names : List (List ℕ)
  pub trees : List Tree
  pub precedences : List ℕ
  pub skips : List Bool
  pub actions : List (List Action)
  pub members : List (List ℕ)
  pub kinds : List ℕ
  pub modes : ℕ
  pub mode_names : List (List ℕ)
  pub automata : List (List Row)

-- the kinds of the rules that belong to a mode; the others have none there
abbrev pub kinds_of : List Bool → List ℕ → List (Option ℕ)
kinds_of [] ks = []
kinds_of (b ∷ bs) [] = []
kinds_of (b ∷ bs) (k ∷ ks) = (if b then Some k else None) ∷ kinds_of bs ks

-- the trees of a mode: those of its rules, merged by kinds; the other rules match nothing there. So an index says the same in each mode
abbrev pub trees_of : List Bool → List ℕ → List Tree → List Tree
trees_of bs ks ts = merged (kinds_of bs ks) ts

-- which rules belong to the mode with this number
abbrev pub mode_rules : ModeRules → ℕ → List Bool
mode_rules r m = map (λ modes. list_any (λ n. n == m) modes) r.members

-- the trees at work in it
abbrev pub trees_in : ModeRules → ℕ → List Tree
trees_in r m = trees_of (mode_rules r m) r.kinds r.trees

-- the stack after a piece: the actions of a token's rule; a fault leaves the stack as it is
abbrev pub after : List (List Action) → Piece → Stack → Stack
after actions (Token token) s = act_all (actions_of actions token.index) s
after actions (Skipped token) s = act_all (actions_of actions token.index) s
after actions (Fault start slice) s = s

-- all pieces of the text from a place and a stack on, up to its end, and the stack there
abbrev pub ArePiecesFrom : ModeRules → List ℕ → ℕ → Stack → List Piece → Stack → Type 0
ArePiecesFrom r text at s [] end = (drop at text ≡ []) × (end ≡ s)
ArePiecesFrom r text at s (x ∷ xs) end =
    IsPiece (trees_in r s.mode) r.precedences r.skips text at x
    × ArePiecesFrom r text (at + length (slice_of x)) (after r.actions x s) xs end

-- the stack after pieces
abbrev pub after_all : List (List Action) → List Piece → Stack → Stack
after_all actions [] s = s
after_all actions (x ∷ xs) s = after_all actions xs (after actions x s)

-- ---- clashes, mode by mode

-- no word is ambiguous in any mode
abbrev pub NoModeClash : ModeRules → Type 0
NoModeClash r = (m : ℕ) → m < r.modes → NoClash (trees_in r m) r.precedences

-- m is the first mode with a clash, and this is its clash
pub record IsModeClash (r : ModeRules) (m : ℕ) (w : List ℕ) (i j : ℕ) : Type 0 where
  pub there : m < r.modes
  pub clash : IsClash (trees_in r m) r.precedences w i j
  pub first : (k : ℕ) → k < m → NoClash (trees_in r k) r.precedences

-- ---- modes that are entered

-- P holds of each of them
abbrev pub AllOf : (ℕ → Type 0) → List ℕ → Type 0
AllOf P [] = Unit {0}
AllOf P (m ∷ ms) = P m × AllOf P ms

-- P holds of each mode of the stack
abbrev pub EachMode : (ℕ → Type 0) → Stack → Type 0
EachMode P s = P s.mode × AllOf P s.below

-- each mode of the stack can be entered
abbrev pub AllCanBeEntered : ModeRules → Stack → Type 0
AllCanBeEntered r s = EachMode (CanBeEntered r.members r.actions r.modes) s
