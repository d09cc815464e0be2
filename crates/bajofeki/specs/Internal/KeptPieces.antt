-- The pieces of a text by what is kept of them.
use Rattle.std.specs.Prelude.{◌≡◌, ℕ, ◌+◌, Bool, true, false, List, [], ◌∷◌, ◌++◌, take, drop, Option, Some, None, slice_get}
use Rattle.std.specs.Borrow.{Bor}
use Rattle.lalrpop_hir.specs.declared.token.Token.{Token as Cut}
use Rattle.lalrpop_rules.specs.Pieces.{AreSame}
use Rattle.lalrpop_rules.specs.declared.piece.Piece.{Piece}
use Rattle.lalrpop_rules.specs.declared.piece.Piece.TheVariants.{Token, Skipped, Fault}
use Rattle.bajofeki.specs.Lexed.{holding}
use Rattle.bajofeki.specs.Internal.Kept.{rule_of}
use Rattle.bajofeki.specs.declared.kept.Kept.{Kept}

-- a slice with these bytes; where it lies in memory counts for nothing
abbrev pub slice_with : List ℕ → Bor (List ℕ)
slice_with bytes = record { ref_ptr = (0, 0); now = bytes }

-- the token, skipped if its rule is
abbrev pub token_or_skipped : Option Bool → Cut → Piece
token_or_skipped None token = Token token
token_or_skipped (Some false) token = Token token
token_or_skipped (Some true) token = Skipped token

-- the piece by this rule, or the fault, at this place
abbrev pub item_with : List Bool → ℕ → Option ℕ → List ℕ → Piece
item_with skips at None bytes = Fault at (slice_with bytes)
item_with skips at (Some i) bytes = token_or_skipped (slice_get skips i) (record { index = i; slice = slice_with bytes; start = at })

-- the piece of the text at this place of which this is kept
abbrev pub item_at : List Bool → List ℕ → ℕ → Kept → Piece
item_at skips text at k = item_with skips at (rule_of k) (take k.size (drop at text))

-- the pieces of the text from this place on of which these are kept
abbrev pub items_from : List Bool → List ℕ → ℕ → List Kept → List Piece
items_from skips text at [] = []
items_from skips text at (k ∷ ks) = item_at skips text at k ∷ items_from skips text (at + k.size) ks

-- the list has grown by those that hold a byte from `from` up to `to`, of pieces that are the same as these
abbrev pub AddsHolding : ℕ → ℕ → List Piece → List Piece → List Piece → Type 0
AddsHolding from to old new xs = (ys : List Piece) × (AreSame ys xs × (new ≡ old ++ holding from to ys))
