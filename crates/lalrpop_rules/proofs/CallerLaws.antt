-- What follows from the promises, for callers.
use Rattle.std.proofs.Common.{◌≡◌, ℕ, ◌<◌, Bool, List, length, sym, subst, arith}
use Rattle.std.specs.Prelude.{Some, Result, Ok, slice_get, slice_index}
use Rattle.std.specs.Str.{chars}
use Rattle.std.proofs.lemmas.Option.{slice_get_within}
use Rattle.lalrpop_hir.specs.Tree.{Tree}
use Rattle.lalrpop_hir.specs.Winners.{TreeMatches}
use Rattle.lalrpop_hir.specs.Tokens.{IsToken, AreTokens}
use Rattle.lalrpop_hir.specs.declared.token.Token.{Token as Cut}
use Rattle.lalrpop_hir.specs.declared.token.TokenFault.{TokenFault}
use Rattle.lalrpop_hir.proofs.Chains.{chain_at}
use Rattle.lalrpop_rules.specs.Modes.{ModeRules, kinds_of, mode_rules, trees_in}
use Rattle.lalrpop_rules.specs.Pieces.{IsPiece, ArePieces, start_of}
use Rattle.lalrpop_rules.proofs.KindLaws.{merged-few}
use Rattle.lalrpop_rules.specs.declared.piece.Piece.{Piece}
use Rattle.lalrpop_rules.specs.declared.piece.Piece.TheVariants.{Token, Skipped, Fault}

-- the pattern of a token is one of the list
pub index_within : (ts : List Tree) (ps text : List ℕ) (at : ℕ) (token : Cut) → IsToken ts ps text at token → token.index < length ts
index_within ts ps text at token is = slice_get_within ts token.index is.2.0.0.0 is.2.0.0.1.0

-- and has a name, where each rule has one
pub named_within : (r : ModeRules) (mode : ℕ) (text : List ℕ) (at : ℕ) (token : Cut) → length r.names ≡ length r.trees
    → IsToken (trees_in r mode) r.precedences text at token → token.index < length r.names
named_within r mode text at token named is =
    omega (arith, index_within (trees_in r mode) r.precedences text at token is, merged-few (kinds_of (mode_rules r mode) r.kinds) r.trees, named)

-- a lesser precedence never wins where a greater one matches as much
pub lesser_never_wins : (ts : List Tree) (ps text : List ℕ) (at j : ℕ) (token : Cut) → IsToken ts ps text at token
    → slice_index ps token.index < slice_index ps j → ¬ TreeMatches ts (chars token.slice.now) j
lesser_never_wins ts ps text at j token is less matches = omega (arith, less, is.2.0.1 j matches)

-- each of the tokens of a text is the token at its place
pub token_at_its_place : (ts : List Tree) (ps text : List ℕ) (at i : ℕ) (xs : List (Result Cut TokenFault)) (token : Cut) → AreTokens ts ps text at xs
    → slice_get xs i ≡ Some (Ok token) → IsToken ts ps text token.start token
token_at_its_place ts ps text at i xs token are is =
    let here = chain_at _ _ _ at i xs (Ok token) are is in
    subst (λ (n : ℕ). IsToken ts ps text n token) (sym here.1.0) here.1

pub starts_at : (ts : List Tree) (ps : List ℕ) (skips : List Bool) (text : List ℕ) (at : ℕ) (x : Piece) → IsPiece ts ps skips text at x → start_of x ≡ at
starts_at ts ps skips text at (Token token) is = is.0.0
starts_at ts ps skips text at (Skipped token) is = is.0.0
starts_at ts ps skips text at (Fault start slice) is = is.0

-- and each of its pieces the piece at its place
pub piece_at_its_place : (ts : List Tree) (ps : List ℕ) (skips : List Bool) (text : List ℕ) (at i : ℕ) (xs : List Piece) (x : Piece)
    → ArePieces ts ps skips text at xs → slice_get xs i ≡ Some x → IsPiece ts ps skips text (start_of x) x
piece_at_its_place ts ps skips text at i xs x are is =
    let here = chain_at _ _ _ at i xs x are is in
    subst (λ (n : ℕ). IsPiece ts ps skips text n x) (sym (starts_at ts ps skips text here.0 x here.1)) here.1
