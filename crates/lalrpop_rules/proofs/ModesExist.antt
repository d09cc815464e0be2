-- A text has a list of pieces by rules with modes, and a stack after it.
use Rattle.std.proofs.Common.{◌≡◌, ◌≢◌, ℕ, zero, suc, ◌+◌, ◌<◌, ◌≤◌, Bool, List, [], ◌∷◌, length, drop, arith, refl, sym}
use Rattle.std.proofs.lemmas.List.{nil_from_length}
use Rattle.lalrpop_hir.specs.Clash.{NoClash}
use Rattle.lalrpop_hir.specs.Tree.{Tree}
use Rattle.lalrpop_rules.specs.Pieces.{IsPiece, ArePieces, slice_of}
use Rattle.lalrpop_rules.specs.declared.piece.Piece.{Piece}
use Rattle.lalrpop_rules.specs.declared.piece.Piece.TheVariants.{Token, Skipped, Fault}
use Rattle.lalrpop_rules.proofs.PieceLaws.{is_some, is_split, shorter_left}
use Rattle.lalrpop_rules.proofs.PiecesExist.{pieces-exist}
use Rattle.bajofeki_rules.specs.Stack.{Stack, start, actions_of}
use Rattle.lalrpop_rules.specs.Modes.{ModeRules, trees_in, after, ArePiecesFrom, EachMode, NoModeClash}
use Rattle.bajofeki_rules.specs.EnteredModes.{OneLeadsInto}
use Rattle.lalrpop_rules.specs.Internal.Lexers.{LeadWithin}
use Rattle.lalrpop_rules.proofs.ModeLaws.{act-keeps}

-- the piece at the front of a rest is a piece of the text, where the rest begins
piece_in_text : (ts : List Tree) (ps : List ℕ) (skips : List Bool) (text : List ℕ) (at : ℕ) (x : Piece) → IsPiece ts ps skips (drop at text) 0 x
    → (y : Piece) × IsPiece ts ps skips text at y
piece_in_text ts ps skips text at (Token token) is = (Token (record token { start = at }), ((refl, is.0.1, is.0.2), is.1))
piece_in_text ts ps skips text at (Skipped token) is = (Skipped (record token { start = at }), ((refl, is.0.1, is.0.2), is.1))
piece_in_text ts ps skips text at (Fault begin slice) is = (Fault at slice, (refl, is.1))

some_piece : (ts : List Tree) (ps : List ℕ) (skips : List Bool) (text : List ℕ) (at : ℕ) → NoClash ts ps → drop at text ≢ []
    → (x : Piece) × IsPiece ts ps skips text at x
some_piece ts ps skips text at clear some = by_all (pieces-exist ts ps skips (drop at text) clear).0 (pieces-exist ts ps skips (drop at text) clear).1
  where
    by_all : (xs : List Piece) → ArePieces ts ps skips (drop at text) 0 xs → (x : Piece) × IsPiece ts ps skips text at x
    by_all [] are = absurd (some are)
    by_all (x ∷ xs) are = piece_in_text ts ps skips text at x are.0

-- a piece keeps to the modes that are there
after_within : (r : ModeRules) (x : Piece) (s : Stack) → LeadWithin r → EachMode (λ m. m < r.modes) s → EachMode (λ m. m < r.modes) (after r.actions x s)
after_within r (Token token) s lead there = act-keeps (λ m. m < r.modes) (actions_of r.actions token.index) s (lead token.index) there
after_within r (Skipped token) s lead there = act-keeps (λ m. m < r.modes) (actions_of r.actions token.index) s (lead token.index) there
after_within r (Fault at slice) s lead there = there

module _ (r : ModeRules) (text : List ℕ) (clear : NoModeClash r) (lead : LeadWithin r) where
  first_or_end : (at n : ℕ) (s : Stack) (rest : List ℕ) → rest ≡ drop at text → length (drop at text) ≤ suc n → EachMode (λ m. m < r.modes) s
      → ((to : ℕ) (t : Stack) → length (drop to text) ≤ n → EachMode (λ m. m < r.modes) t → (xs : List Piece) × ((end : Stack) × ArePiecesFrom r text to t xs end))
      → (xs : List Piece) × ((end : Stack) × ArePiecesFrom r text at s xs end)
  first_or_end at n s [] e most there others = ([], (s, (sym e, refl)))
  first_or_end at n s (b ∷ rest) e most there others =
      let first = some_piece (trees_in r s.mode) r.precedences r.skips text at (clear s.mode there.0) (λ none. cc) in
      let slice = slice_of first.0 in
      let split = is_split (trees_in r s.mode) r.precedences r.skips text at first.0 first.1 in
      let some = is_some (trees_in r s.mode) r.precedences r.skips text at first.0 first.1 in
      let later = others (at + length slice) (after r.actions first.0 s) (shorter_left text at n slice split some most) (after_within r first.0 s lead there) in
      (first.0 ∷ later.0, (later.1.0, (first.1, later.1.1)))

  from : (n at : ℕ) (s : Stack) → length (drop at text) ≤ n → EachMode (λ m. m < r.modes) s
      → (xs : List Piece) × ((end : Stack) × ArePiecesFrom r text at s xs end)
  from zero at s most there = ([], (s, (nil_from_length (drop at text) (omega arith), refl)))
  from (suc n) at s most there = first_or_end at n s (drop at text) refl most there (λ to t less within. from n to t less within)

-- from the first mode on, where no word is ambiguous in any mode and actions lead into modes that are there
pub pieces-from-exist : (r : ModeRules) (text : List ℕ) → NoModeClash r → ((i m : ℕ) → OneLeadsInto (actions_of r.actions i) m → m < r.modes) → 0 < r.modes
    → (xs : List Piece) × ((end : Stack) × ArePiecesFrom r text 0 start xs end)
pieces-from-exist r text clear lead some = from r text clear lead (length text) 0 start (omega arith) (some, tt)
