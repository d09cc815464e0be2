-- cases: proofs/Cases/Page.antt
-- A text as HTML or in colours for a terminal, into an array.
use Rattle.std.specs.Prelude.{◌≡◌, ◌⊎◌, ℕ, List, flat_map, Result, Ok, Err}
use Rattle.std.specs.Str.{IsUtf8}
use Rattle.bajofeki.specs.Markup.{marked}
use Rattle.bajofeki.specs.Terminal.{painted}
use Rattle.lalrpop_rules.specs.Modes.{ModeRules, ArePiecesFrom}
use Rattle.bajofeki_rules.specs.Stack.{Stack, start}
use Rattle.lalrpop_rules.specs.declared.piece.Piece.{Piece}
use Rattle.bajofeki_c.specs.Rules.{IsWritten}
use Rattle.bajofeki_c.specs.declared.held.BuildError.{BuildError}
use Rattle.bajofeki_c.specs.declared.held.BuiltLexer.{BuiltLexer}
use Rattle.bajofeki_c.specs.declared.held.Held.{Held}
use Rattle.bajofeki_c.specs.declared.page.Markup.{Markup}
use Rattle.bajofeki_c.specs.declared.page.Markup.TheVariants.{Html, Ansi}
use Rattle.bajofeki_c.specs.declared.page.Page.{Page}

-- ---- the page

-- a piece as HTML, or in colours for a terminal
abbrev pub piece_in : Markup → List (List ℕ) → Piece → List ℕ
piece_in Html = marked
piece_in Ansi = painted

-- all pieces of the text, one after another
pub record IsPageOf (r : ModeRules) (markup : Markup) (text bytes : List ℕ) : Type 0 where
  pub all : List Piece
  pub end : Stack
  pub pieces : ArePiecesFrom r text 0 start all end
  pub page : bytes ≡ flat_map (piece_in markup r.names) all

-- ---- the array

-- the page of the text is written, as much as fits
pub record IsPageIn (r : ModeRules) (markup : Markup) (text before : List ℕ) (page : Page) (after : List ℕ) : Type 0 where
  pub bytes : List ℕ
  pub code : page.code ≡ 0
  pub is_page : IsPageOf r markup text bytes
  pub written : IsWritten bytes before after page.length

-- there is no page, and nothing is written
abbrev pub IsNone : ℕ → List ℕ → Page → List ℕ → Type 0
IsNone code before page after = (page ≡ record { code = code; length = 0 }) × (after ≡ before)

-- the text has a page, or memory was refused, or it isn't UTF-8; else there is no lexer
abbrev pub IsShownBy : Result BuiltLexer BuildError → Markup → List ℕ → List ℕ → Page → List ℕ → Type 0
IsShownBy (Ok l) markup text before page after =
    (IsUtf8 text × (IsPageIn l.rules markup text before page after ⊎ IsNone 7 before page after)) ⊎ (¬ IsUtf8 text × IsNone 3 before page after)
IsShownBy (Err e) markup text before page after = IsNone 9 before page after

abbrev pub IsShown : Held → Markup → List ℕ → List ℕ → Page → List ℕ → Type 0
IsShown h markup text before page after = IsShownBy h.made markup text before page after
