-- What is read from end to end of a run is pieces of the text.
use Rattle.std.proofs.Common.{◌≡◌, ℕ, ◌+◌, ◌-◌, List, [], ◌∷◌, take, drop, inr, sym, ap, subst, arith, length-drop}
use Rattle.std.specs.Prelude.{slice_get, Some}
use Rattle.std.proofs.lemmas.List.{drop-drop}
use Rattle.lalrpop_hir.specs.Tree.{Tree}
use Rattle.lalrpop_hir.specs.Longest.{IsLongest}
use Rattle.lalrpop_dfa.specs.Dfa.{Row, Recognizes}
use Rattle.lalrpop_dense.specs.DenseTable.{TableNumbers, IsTableFor}
use Rattle.lalrpop_emit.specs.BytePieces.{IsByteToken, IsByteTokenOrFault, IsBytePiece}
use Rattle.lalrpop_emit.specs.declared.numbered_piece.NumberedPiece.{NumberedPiece}
use Rattle.lalrpop_emit.specs.Ahead.{standing_after, rule_at}
use Rattle.lalrpop_emit.specs.Internal.Columns.{AreColumns}
use Rattle.lalrpop_emit.proofs.AheadColumns.{HasColumns}
use Rattle.lalrpop_emit.proofs.AheadTokens.{BeginsAt, IsNextEnd, between_ends}

-- ---- what is read from a run

-- the token from this place to the next end, of the rule that is known there
pub record IsTokenRead (t : TableNumbers) (width : ℕ) (kinds columns : List ℕ) (at : ℕ) (p : NumberedPiece) : Type 0 where
  pub next : IsNextEnd t width columns at (at + p.length)
  pub rule_is : rule_at t (standing_after t width (take (at + p.length) columns)) ≡ Some p.rule
  pub kind : ℕ
  pub has_kind : p.kind ≡ Some kind
  pub kind_is : slice_get kinds p.rule ≡ Some kind

-- the tokens from this place to the last one, one after another; the run begins at the place `from` of the text
abbrev pub AreTokensRead : TableNumbers → ℕ → List ℕ → List ℕ → ℕ → ℕ → List NumberedPiece → ℕ → Type 0
AreTokensRead t width kinds columns from at [] last = at ≡ last
AreTokensRead t width kinds columns from at (p ∷ pieces) last =
    (p.start ≡ from + at) × IsTokenRead t width kinds columns at p × AreTokensRead t width kinds columns from (at + p.length) pieces last

-- ---- pieces

-- the pieces of the text from this place to the last one, one after another
abbrev pub AreBytePiecesTo : List Tree → List ℕ → List ℕ → List ℕ → ℕ → List NumberedPiece → ℕ → Type 0
AreBytePiecesTo ts ps kinds text at [] last = at ≡ last
AreBytePiecesTo ts ps kinds text at (p ∷ pieces) last = IsBytePiece ts ps kinds text at p × AreBytePiecesTo ts ps kinds text (at + p.length) pieces last

module _ (t : TableNumbers) (width : ℕ) (has : HasColumns t width) (d : List Row) (ts : List Tree) (ps kinds text columns : List ℕ) (from : ℕ) (h : IsTableFor t d) (r : Recognizes d ts ps)
    (are : AreColumns t width 0 (drop from text) columns) where
  pub token_of_ends : (at : ℕ) (p : NumberedPiece) → BeginsAt t width columns at → (i : IsTokenRead t width kinds columns at p) → IsByteToken ts ps kinds (drop (from + at) text) i.kind p.rule p.length
  token_of_ends at p begun i =
      let found = between_ends t width d ts ps (drop from text) columns at (at + p.length) p.rule has h r are begun i.next i.rule_is in
      let size : at + p.length - at ≡ p.length = omega arith in
      record {
        kind_is = i.kind_is;
        within = omega (arith, found.1, length-drop from text, length-drop (from + at) text);
        longest = subst (λ (n : ℕ). IsLongest ts ps (drop (from + at) text) (Some (p.rule, take n (drop (from + at) text)))) size
            (subst (λ rest. IsLongest ts ps rest (Some (p.rule, take (at + p.length - at) rest))) (drop-drop at from text) found.0);
      }

  -- a chain of ends gives a chain of pieces
  pub tokens_of_ends : (pieces : List NumberedPiece) (at last : ℕ) → BeginsAt t width columns at → AreTokensRead t width kinds columns from at pieces last
      → AreBytePiecesTo ts ps kinds text (from + at) pieces (from + last)
  tokens_of_ends [] at last begun e = ap (λ (n : ℕ). from + n) e
  tokens_of_ends (p ∷ pieces) at last begun e =
      let i = e.1 in (
        (
          e.0,
          subst (λ kind. IsByteTokenOrFault ts ps kinds (drop (from + at) text) kind p.rule p.length) (sym i.has_kind) (token_of_ends at p begun i),
        ),
        subst (λ (n : ℕ). AreBytePiecesTo ts ps kinds text n pieces (from + last)) (omega arith)
            (tokens_of_ends pieces (at + p.length) last (inr i.next.ends) e.2),
      )
