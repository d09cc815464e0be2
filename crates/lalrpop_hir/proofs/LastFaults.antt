-- A fault ends the tokens of a text.
use Rattle.std.proofs.Common.{◌≡◌, ◌≢◌, ℕ, ◌+◌, List, [], ◌∷◌, length, drop, sym, ap, ◌∙◌, arith, length-append}
use Rattle.std.specs.Prelude.{Result, Ok, Err}
use Rattle.std.proofs.lemmas.List.{drop-drop, nil_from_length}
use Rattle.std.proofs.Math.Seq.{drop-length}
use Rattle.lalrpop_hir.specs.Tree.{Tree}
use Rattle.lalrpop_hir.specs.Longest.{IsMatch}
use Rattle.lalrpop_hir.specs.Chain.{AtEnd}
use Rattle.lalrpop_hir.specs.Tokens.{Item, IsFaultAt, IsItem, AreItems, IsTokenOrFault, AreTokens}
use Rattle.lalrpop_hir.specs.declared.token.Token.{Token}
use Rattle.lalrpop_hir.specs.declared.token.TokenFault.{TokenFault}
use Rattle.lalrpop_hir.proofs.Chains.{chain_over}

-- a text that has a match isn't empty
pub some_left : (ts : List Tree) (rest p : List ℕ) → IsMatch ts rest p → rest ≢ []
some_left ts rest p m none = m.1 (nil_from_length p (omega (arith, ap length m.0.1.0, length-append p m.0.0, ap length none)))

-- nothing is left behind all that is left
pub end_behind : (text : List ℕ) (at place : ℕ) → place ≡ at → AtEnd text (at + length (drop place text))
end_behind text at place e =
    ap (λ k. drop (at + length (drop k text)) text) e ∙ sym (drop-drop (length (drop at text)) at text) ∙ drop-length (drop at text)

-- so a fault may be the last
pub items_to_fault : (ts : List Tree) (ps text : List ℕ) (at : ℕ) (fault : TokenFault) → IsFaultAt ts ps text at fault → AreItems ts ps text at (Err fault ∷ [])
items_to_fault ts ps text at fault is = (is, end_behind text at fault.at is.2)

pub tokens_to_fault : (ts : List Tree) (ps text : List ℕ) (at : ℕ) (fault : TokenFault) → IsFaultAt ts ps text at fault → AreTokens ts ps text at (Err fault ∷ [])
tokens_to_fault ts ps text at fault is = (is, end_behind text at fault.at is.2)

-- and it is, since nothing stands at the end
no_item : (ts : List Tree) (ps text : List ℕ) (at : ℕ) → AtEnd text at → (x : Item) → ¬ IsItem ts ps text at x
no_item ts ps text at end (Ok m) is = some_left ts (drop at text) m.1.now is.0 end
no_item ts ps text at end (Err fault) is = is.0 end

no_token : (ts : List Tree) (ps text : List ℕ) (at : ℕ) → AtEnd text at → (x : Result Token TokenFault) → ¬ IsTokenOrFault ts ps text at x
no_token ts ps text at end (Ok token) is = some_left ts (drop at text) token.slice.now is.1.0 end
no_token ts ps text at end (Err fault) is = is.0 end

pub no_items_behind : (ts : List Tree) (ps text : List ℕ) (at : ℕ) (fault : TokenFault) (xs : List Item) → AreItems ts ps text at (Err fault ∷ xs) → xs ≡ []
no_items_behind ts ps text at fault xs are =
    chain_over _ _ _ _ (no_item ts ps text _ (end_behind text at fault.at are.0.2)) xs are.1

pub no_tokens_behind : (ts : List Tree) (ps text : List ℕ) (at : ℕ) (fault : TokenFault) (xs : List (Result Token TokenFault))
    → AreTokens ts ps text at (Err fault ∷ xs) → xs ≡ []
no_tokens_behind ts ps text at fault xs are =
    chain_over _ _ _ _ (no_token ts ps text _ (end_behind text at fault.at are.0.2)) xs are.1
