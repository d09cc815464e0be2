-- Cases of specs/Page.antt.
use Rattle.std.proofs.Common.{◌≡◌, ◌≢◌, ℕ, inl, inr, List, [], ◌∷◌, ◌++◌, codes, length, refl, ap, arith}
use Rattle.std.specs.Prelude.{Ok, Err}
use Rattle.std.specs.Borrow.{Bor}
use Rattle.std.specs.Str.{IsUtf8, chars}
use Rattle.lalrpop_rules.specs.Modes.{ModeRules, ArePiecesFrom}
use Rattle.bajofeki_rules.specs.Stack.{Stack, start as first_stack}
use Rattle.lalrpop_rules.proofs.UniquePieces.{no_piece_left}
use Rattle.lalrpop_rules.specs.declared.piece.Piece.{Piece}
use Rattle.lalrpop_rules.specs.declared.piece.Piece.TheVariants.{Fault}
use Rattle.bajofeki_c.specs.Page.{IsNone, IsPageOf, IsShown, piece_in}
use Rattle.bajofeki_c.specs.declared.held.BuildError.TheVariants.{Freed}
use Rattle.bajofeki_c.specs.declared.held.BuiltLexer.{BuiltLexer}
use Rattle.bajofeki_c.specs.declared.page.Markup.{Markup}
use Rattle.bajofeki_c.specs.declared.page.Markup.TheVariants.{Html, Ansi}
use Rattle.bajofeki_c.specs.declared.page.Page.{Page}

-- a fault as HTML, and on red
fault_as_html : (names : List (List ℕ)) (slice : Bor (List ℕ)) → slice.now ≡ codes "<" → piece_in Html names (Fault 0 slice) ≡ codes "<mark>&lt;</mark>"
unfolding chars lib.Utf8.encode
fault_as_html names slice is = rw is refl

fault_on_red : (names : List (List ℕ)) (slice : Bor (List ℕ)) → slice.now ≡ codes "a"
    → piece_in Ansi names (Fault 0 slice) ≡ 27 ∷ (codes "[41ma" ++ (27 ∷ codes "[0m"))
unfolding chars lib.Utf8.encode
fault_on_red names slice is = rw is refl

-- the page of an empty text is empty
page_of_nothing : (r : ModeRules) → IsPageOf r Html [] []
page_of_nothing r = record { all = []; end = first_stack; pieces = (refl, refl); page = refl }

no_piece_of_nothing : (r : ModeRules) (xs : List Piece) (end : Stack) (page : List ℕ) → ArePiecesFrom r [] 0 first_stack xs end → xs ≢ [] → ⊥
no_piece_of_nothing r [] end page are some = some refl
no_piece_of_nothing r (x ∷ xs) end page are some = no_piece_left _ _ _ [] 0 x are.0 refl

abbrev page_told : ℕ → ℕ → Page
page_told code length = record { code = code; length = length }

no_lexer : (markup : Markup) → IsShown (record { made = Err Freed }) markup (codes "a") (7 ∷ []) (page_told 9 0) (7 ∷ [])
no_lexer markup = (refl, refl)

no_page_without_a_lexer : (markup : Markup) → ¬ IsShown (record { made = Err Freed }) markup [] [] (page_told 0 0) []
no_page_without_a_lexer markup none = let n : 0 ≡ 9 = ap (λ (p : Page). p.code) none.0 in omega (arith, n)

module _ (l : BuiltLexer) (markup : Markup) (text : List ℕ) where
  -- memory can be refused at any text
  memory_refused : IsUtf8 text → IsShown (record { made = Ok l }) markup text (7 ∷ []) (page_told 7 0) (7 ∷ [])
  memory_refused u = inl (u, inr (refl, refl))

  not_utf8 : ¬ IsUtf8 text → IsShown (record { made = Ok l }) markup text (7 ∷ []) (page_told 3 0) (7 ∷ [])
  not_utf8 n = inr (n, (refl, refl))

  each_text_that_is_utf8_is_read : IsUtf8 text → ¬ IsShown (record { made = Ok l }) markup text [] (page_told 3 0) []
  each_text_that_is_utf8_is_read u (inl (is, inl page)) = let n : 3 ≡ 0 = page.code in omega (arith, n)
  each_text_that_is_utf8_is_read u (inl (is, inr none)) = let n : 3 ≡ 7 = ap (λ (p : Page). p.code) none.0 in omega (arith, n)
  each_text_that_is_utf8_is_read u (inr (not, none)) = not u

-- without a page nothing is written
nothing_is_written : ¬ IsNone 7 (7 ∷ []) (page_told 7 0) (8 ∷ [])
nothing_is_written none = let after = none.1 in cc
