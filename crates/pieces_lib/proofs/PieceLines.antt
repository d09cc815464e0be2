-- What is written for the pieces of a text, one after another.
use Rattle.std.proofs.Common.{◌≡◌, ℕ, ◌≤◌, Bool, true, false, List, [], ◌∷◌, ◌++◌, length, refl, sym, ap, ◌∙◌, arith, append_assoc}
use Rattle.std.proofs.lemmas.List.{append-nil}
use Rattle.std.specs.Borrow.{Bor}
use Rattle.std.specs.Prelude.{Option, Some, None, codes, flat_map, map, option_map, slice_get, string_bytes, unwrap_or}
use Rattle.std.specs.Str.{chars}
use Rattle.std.specs.Str.Lossy.{utf8_lossy}
use Rattle.bajofeki_rules.specs.Position.{byte_place_of}
use Rattle.bajofeki_rules.specs.declared.position.Position.{Position}
use Rattle.bajofeki.specs.Markup.{escaped, mark, marked, span}
use Rattle.bajofeki.specs.Terminal.{by_name, coloured, painted, visible}
use Rattle.bajofeki.specs.Given.{item_by, piece_of}
use Rattle.bajofeki.specs.declared.given_piece.GivenPiece.{GivenPiece}
use Rattle.lalrpop_rules.specs.Modes.{ModeRules, after, after_all}
use Rattle.bajofeki_rules.specs.Stack.{Stack, start}
use Rattle.lalrpop_rules.specs.Pieces.{start_of}
use Rattle.lalrpop_rules.specs.declared.piece.Piece.{Piece}
use Rattle.lalrpop_rules.specs.declared.piece.Piece.TheVariants.{Token, Skipped, Fault}
use Rattle.reports_lib.specs.PieceLines.{layout_lines, mode_named, piece_line, piece_lines}
use Rattle.lexdfa_lib.specs.declared.layout.Layout.{Layout}
use Rattle.lexdfa_lib.specs.declared.layout.LineForm.{LineForm}
use Rattle.pieces_lib.specs.TextAnswer.{legible, page_of}
use Rattle.pieces_lib.specs.Internal.CutTexts.{BeginWithin, has_lines, line_here, markup_of, piece_shown, shown, shown_from}
use Rattle.lexdfa_lib.specs.declared.command.Markup.TheVariants.{Html as MarkupHtml, Ansi as MarkupAnsi}
use Rattle.pieces_lib.specs.declared.sheet.Form.{Form}
use Rattle.pieces_lib.specs.declared.sheet.Form.TheVariants.{Lines, Html, Ansi}
use Rattle.pieces_lib.proofs.CutLaws.{place_stays}

-- ---- lines and markup

line_is : (form : LineForm) (recovers : Bool) (file : Option (List ℕ)) (names : List (List ℕ)) (mode : Option (List ℕ)) (text : List ℕ) (x : Piece)
    → line_here form recovers file names mode (byte_place_of text (start_of x)) x ≡ piece_line form recovers file names mode text x
line_is form recovers file names mode text (Token token) = refl
line_is form recovers file names mode text (Skipped token) = refl
line_is form true file names mode text (Fault begin slice) = refl
line_is form false file names mode text (Fault begin slice) = refl

lines_from : (layout : Layout) (rules : ModeRules) (text : List ℕ) (s : Stack) (xs : List Piece)
    → shown_from (Lines layout) rules text s xs
    ≡ piece_lines layout.form layout.recovers (option_map (λ f. f.now) layout.file) (map string_bytes layout.modes.now) rules text s xs
lines_from layout rules text s [] = refl
lines_from layout rules text s (x ∷ xs) =
    let names = map string_bytes layout.modes.now in
    ap (λ (l : List ℕ). l ++ shown_from (Lines layout) rules text (after rules.actions x s) xs)
    (line_is layout.form layout.recovers (option_map (λ f. f.now) layout.file) rules.names (mode_named names s.mode) text x)
    ∙ ap (λ (l : List ℕ). piece_line layout.form layout.recovers (option_map (λ f. f.now) layout.file) rules.names (mode_named names s.mode) text x ++ l)
    (lines_from layout rules text (after rules.actions x s) xs)

pub lines_shown : (layout : Layout) (rules : ModeRules) (text : List ℕ) (xs : List Piece) → shown (Lines layout) rules text xs ≡ layout_lines layout rules text xs
lines_shown layout rules text xs = lines_from layout rules text start xs

html_from : (rules : ModeRules) (text : List ℕ) (s : Stack) (xs : List Piece) → shown_from Html rules text s xs ≡ page_of MarkupHtml rules.names xs
html_from rules text s [] = refl
html_from rules text s (x ∷ xs) = ap (λ (l : List ℕ). marked rules.names (legible x) ++ l) (html_from rules text (after rules.actions x s) xs)

pub html_shown : (rules : ModeRules) (text : List ℕ) (xs : List Piece) → shown Html rules text xs ≡ page_of MarkupHtml rules.names xs
html_shown rules text xs = html_from rules text start xs

ansi_from : (names : List (List ℕ)) (rules : ModeRules) (text : List ℕ) (s : Stack) (xs : List Piece) → shown_from (Ansi names) rules text s xs ≡ page_of MarkupAnsi names xs
ansi_from names rules text s [] = refl
ansi_from names rules text s (x ∷ xs) = ap (λ (l : List ℕ). painted names (legible x) ++ l) (ansi_from names rules text (after rules.actions x s) xs)

pub ansi_shown : (names : List (List ℕ)) (rules : ModeRules) (text : List ℕ) (xs : List Piece) → shown (Ansi names) rules text xs ≡ page_of MarkupAnsi names xs
ansi_shown names rules text xs = ansi_from names rules text start xs

-- the markup of a piece is that of its bytes
markup_by : (form : Form) (names : List (List ℕ)) (rule : Option ℕ) (skipped : Bool) (at : ℕ) (text slice : Bor (List ℕ)) → text.now ≡ utf8_lossy slice.now
    → markup_of form names (item_by rule skipped at text) ≡ markup_of form names (legible (item_by rule skipped at slice))
markup_by (Lines layout) names rule skipped at text slice same = refl
markup_by Html names None skipped at text slice same = ap mark same
markup_by Html names (Some i) true at text slice same = ap escaped same
markup_by Html names (Some i) false at text slice same = ap (span (unwrap_or (slice_get names i) [])) same
markup_by (Ansi painter) names None skipped at text slice same = ap (coloured (codes "41")) same
markup_by (Ansi painter) names (Some i) true at text slice same = ap (λ (t : List ℕ). flat_map visible (chars t)) same
markup_by (Ansi painter) names (Some i) false at text slice same = ap (by_name painter (slice_get painter i)) same

-- so it is what is written, unless lines are
pub markup_shown : (form : Form) (names : List (List ℕ)) (place : Position) (mode : ℕ) (piece : GivenPiece) (text slice : Bor (List ℕ)) → has_lines form ≡ false → text.now ≡ utf8_lossy slice.now
    → markup_of form names (piece_of piece text) ≡ piece_shown form names place mode (piece_of piece slice)
markup_shown (Lines layout) names place mode piece text slice not_lines same = absurd (cc (not_lines))
markup_shown Html names place mode piece text slice not_lines same = markup_by Html names piece.rule piece.is_skipped piece.start text slice same
markup_shown (Ansi painter) names place mode piece text slice not_lines same = markup_by (Ansi painter) names piece.rule piece.is_skipped piece.start text slice same

-- ---- one more piece

shown_later : (form : Form) (rules : ModeRules) (text : List ℕ) (s : Stack) (xs : List Piece) (x : Piece)
    → shown_from form rules text s (xs ++ x ∷ [])
    ≡ shown_from form rules text s xs ++ piece_shown form rules.names (byte_place_of text (start_of x)) (after_all rules.actions xs s).mode x
shown_later form rules text s [] x = append-nil (piece_shown form rules.names (byte_place_of text (start_of x)) s.mode x)
shown_later form rules text s (y ∷ xs) x =
    let piece = piece_shown form rules.names (byte_place_of text (start_of y)) s.mode y in
    ap (λ (l : List ℕ). piece ++ l) (shown_later form rules text (after rules.actions y s) xs x)
    ∙ sym (append_assoc piece (shown_from form rules text (after rules.actions y s) xs) (piece_shown form rules.names (byte_place_of text (start_of x)) (after_all rules.actions (y ∷ xs) s).mode x))

pub shown_more : (form : Form) (rules : ModeRules) (text : List ℕ) (xs : List Piece) (x : Piece) (place : Position) (mode : ℕ)
    → place ≡ byte_place_of text (start_of x) → mode ≡ (after_all rules.actions xs start).mode
    → shown form rules text (xs ++ x ∷ []) ≡ shown form rules text xs ++ piece_shown form rules.names place mode x
shown_more form rules text xs x place mode here in_mode =
    shown_later form rules text start xs x
    ∙ ap (λ (p : Position). shown form rules text xs ++ piece_shown form rules.names p (after_all rules.actions xs start).mode x) (sym here)
    ∙ ap (λ (m : ℕ). shown form rules text xs ++ piece_shown form rules.names place m x) (sym in_mode)

-- ---- what is written stays the same when more comes

stays_from : (form : Form) (rules : ModeRules) (text more : List ℕ) (n : ℕ) (s : Stack) (xs : List Piece) → n ≤ length text → BeginWithin n xs
    → shown_from form rules (text ++ more) s xs ≡ shown_from form rules text s xs
stays_from form rules text more n s [] within begin = refl
stays_from form rules text more n s (x ∷ xs) within begin =
    ap (λ (p : Position). piece_shown form rules.names p s.mode x ++ shown_from form rules (text ++ more) (after rules.actions x s) xs)
    (place_stays text more (start_of x) (omega (arith, within, begin.0)))
    ∙ ap (λ (l : List ℕ). piece_shown form rules.names (byte_place_of text (start_of x)) s.mode x ++ l)
    (stays_from form rules text more n (after rules.actions x s) xs within begin.1)

pub shown_stays : (form : Form) (rules : ModeRules) (text more : List ℕ) (n : ℕ) (xs : List Piece) → n ≤ length text → BeginWithin n xs
    → shown form rules (text ++ more) xs ≡ shown form rules text xs
shown_stays form rules text more n xs within begin = stays_from form rules text more n start xs within begin
