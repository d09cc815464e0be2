-- cases: proofs/Cases/NumberedRules.antt
-- What a lexer is in numbers.
use Rattle.std.specs.Prelude.{◌≡◌, ℕ, ◌+◌, ◌*◌, ◌/◌, ◌<◌, ◌^◌, Bool, List, [], ◌∷◌, ◌++◌, length, map, nat_lt, if◌then◌else◌, slice_get, take, Some}
use Rattle.std.specs.List.{All, range_with_len, sum_by}
use Rattle.lalrpop_dense.specs.DenseTable.{TableNumbers, IsTableFor}
use Rattle.lalrpop_lexer.specs.Dfa.{Row}
use Rattle.lalrpop_lexer.specs.Rules.{IsBuiltFrom}
use Rattle.lalrpop_rules.specs.Modes.{ModeRules, trees_in}
use Rattle.bajofeki_rules.specs.Stack.{actions_of}
use Rattle.bajofeki_rules.specs.declared.action.Action.{Action}
use Rattle.bajofeki_rules.specs.declared.action.Action.TheVariants.{Mode, Push, Pop}
use Rattle.lalrpop_emit.specs.Ahead.{AheadNumbers, IsAheadOf}
use Rattle.lalrpop_emit.specs.Names.{IsName, distinct_names, kinds_of}

-- the distinct names of the rules; for each rule the number of its name, its kind, whether it is skipped, and where its actions begin;
-- the actions of all rules; the table of each mode; and the tables that run ahead
pub record NumberedRules : Type 0 where
  pub names : List (List ℕ)
  pub kinds : List ℕ
  pub skips : List Bool
  pub first_actions : List ℕ
  pub actions : List ℕ
  pub tables : List TableNumbers
  pub ahead : List AheadNumbers

-- an action in one number
abbrev pub action_number : Action → ℕ
action_number Pop = 1
action_number (Mode m) = 2 * m + 2
action_number (Push m) = 2 * m + 3

-- the actions of each rule, and a 0 after them
abbrev pub action_numbers : List (List Action) → List ℕ
action_numbers [] = []
action_numbers (actions ∷ rules) = map action_number actions ++ (0 ∷ action_numbers rules)

-- for each rule where its actions begin, if those of the first begin at the place k
abbrev pub first_places : ℕ → List (List Action) → List ℕ
first_places k [] = []
first_places k (actions ∷ rules) = k ∷ first_places (k + length actions + 1) rules

-- the actions of each rule, for as many rules as there are names
abbrev pub actions_of_rules : ModeRules → List (List Action)
actions_of_rules r = map (actions_of r.actions) (range_with_len 0 (length r.names))

-- the table of the mode is right for an automaton that recognizes the rules of the mode
pub record IsTableOfMode (r : ModeRules) (m : ℕ) (t : TableNumbers) : Type 0 where
  pub automaton : List Row
  pub recognizes : IsBuiltFrom (trees_in r m) r.precedences automaton
  pub right : IsTableFor t automaton

-- how many rows of all the tables wait long
abbrev pub waiting_rows : List AheadNumbers → ℕ
waiting_rows aheads = sum_by (λ a. a.waiting) aheads

-- how many words of a memo a row has for a text of this size: a bit for each 64 bytes
abbrev pub row_words : ℕ → ℕ
row_words size = if nat_lt size 64 then 0 else (size / 4096 + 1)

-- each table has the number of rows that wait long in those before it
abbrev pub AreCounted : List AheadNumbers → Type 0
AreCounted aheads = (m : ℕ) (a : AheadNumbers) → slice_get aheads m ≡ Some a → a.before ≡ waiting_rows (take m aheads)

-- for each mode there is a table that runs ahead, and it belongs to the mode's table
pub record AreAheadOf (aheads : List AheadNumbers) (tables : List TableNumbers) : Type 0 where
  pub all : length aheads ≡ length tables
  pub counted : AreCounted aheads
  pub each : (m : ℕ) (a : AheadNumbers) (t : TableNumbers) → slice_get aheads m ≡ Some a → slice_get tables m ≡ Some t → IsAheadOf a t

-- the numbers are those of the rules
pub record AreNumbersOf (r : ModeRules) (n : NumberedRules) : Type 0 where
  pub names : n.names ≡ distinct_names r.names
  pub kinds : n.kinds ≡ kinds_of r.names
  pub skips : n.skips ≡ r.skips
  pub first_actions : n.first_actions ≡ first_places 0 (actions_of_rules r)
  pub actions : n.actions ≡ action_numbers (actions_of_rules r)
  pub modes : length n.tables ≡ r.modes
  pub tables : (m : ℕ) (t : TableNumbers) → slice_get n.tables m ≡ Some t → IsTableOfMode r m t
  pub ahead : AreAheadOf n.ahead n.tables

-- the numbers of a table that a source file has fit those of C and Rust in which they are stored
pub record IsStorableTable (t : TableNumbers) : Type 0 where
  pub blocks : All (λ n. n < 2 ^ 8) t.blocks
  pub all_blocks : length t.blocks < 2 ^ 64
  pub pages : All (λ n. n < 2 ^ 16) t.pages
  pub all_pages : length t.pages < 2 ^ 64

-- the same of a table that runs ahead
pub record IsStorableAhead (a : AheadNumbers) : Type 0 where
  pub start : a.start < 2 ^ 64
  pub width : a.width < 2 ^ 64
  pub ends : a.ends < 2 ^ 64
  pub waiting : a.waiting < 2 ^ 32
  pub before : a.before < 2 ^ 64
  pub cells : All (λ n. n < 2 ^ 32) a.cells
  pub all_cells : length a.cells < 2 ^ 64

-- the names can be part of an identifier, and the numbers that a source file has fit those of C and Rust in which they are stored
pub record IsStorable (r : NumberedRules) : Type 0 where
  pub names : All IsName r.names
  pub few_names : length r.names < 2 ^ 64
  pub kinds : All (λ n. n < 2 ^ 16) r.kinds
  pub all_kinds : length r.kinds < 2 ^ 64
  pub skips : length r.skips < 2 ^ 64
  pub first_actions : All (λ n. n < 2 ^ 32) r.first_actions
  pub all_first_actions : length r.first_actions < 2 ^ 64
  pub actions : All (λ n. n < 2 ^ 32) r.actions
  pub all_actions : length r.actions < 2 ^ 64
  pub modes : length r.tables < 2 ^ 16
  pub tables : All IsStorableTable r.tables
  pub ahead : All IsStorableAhead r.ahead

-- what a source file has of both is the same: of `tables` the blocks and pages alone
pub record AreSameInFile (r s : NumberedRules) : Type 0 where
  pub names : r.names ≡ s.names
  pub kinds : r.kinds ≡ s.kinds
  pub skips : r.skips ≡ s.skips
  pub first_actions : r.first_actions ≡ s.first_actions
  pub actions : r.actions ≡ s.actions
  pub blocks : map (λ (t : TableNumbers). t.blocks) r.tables ≡ map (λ (t : TableNumbers). t.blocks) s.tables
  pub pages : map (λ (t : TableNumbers). t.pages) r.tables ≡ map (λ (t : TableNumbers). t.pages) s.tables
  pub ahead : r.ahead ≡ s.ahead
