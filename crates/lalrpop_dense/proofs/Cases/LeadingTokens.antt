-- Cases of specs/LeadingTokens.antt.
use Rattle.std.proofs.Common.{◌≡◌, ◌≢◌, ℕ, ◌+◌, List, [], ◌∷◌, length, drop, Some, refl}
use Rattle.lalrpop_hir.specs.Tree.{Tree}
use Rattle.lalrpop_hir.specs.Longest.{IsLongest}
use Rattle.lalrpop_hir.specs.declared.token.Token.{Token}
use Rattle.lalrpop_dense.specs.LeadingTokens.{IsStep, LeadTo}

longest_match_is_a_step : (ts : List Tree) (ps text : List ℕ) (token : Token) → IsLongest ts ps (drop token.start text) (Some (token.index, token.slice.now))
    → IsStep ts ps text token.start token
longest_match_is_a_step ts ps text token longest = (refl, longest)

token_of_no_byte_is_no_step : (ts : List Tree) (ps text : List ℕ) (at : ℕ) (token : Token) → token.slice.now ≡ [] → ¬ IsStep ts ps text at token
token_of_no_byte_is_no_step ts ps text at token empty is = is.1.0.1 empty

none_leads_nowhere_else : (ts : List Tree) (ps text : List ℕ) (at : ℕ) → LeadTo ts ps text at at []
none_leads_nowhere_else ts ps text at = refl

none_leads_no_further : (ts : List Tree) (ps text : List ℕ) (at to : ℕ) → at ≢ to → ¬ LeadTo ts ps text at to []
none_leads_no_further ts ps text at to other h = other h

token_that_begins_elsewhere : (ts : List Tree) (ps text : List ℕ) (at to : ℕ) (token : Token) → token.start ≢ at → ¬ LeadTo ts ps text at to (token ∷ [])
token_that_begins_elsewhere ts ps text at to token other h = other h.0.0

-- it leads to its end
token_leads_on : (ts : List Tree) (ps text : List ℕ) (token : Token) → IsStep ts ps text 0 token → LeadTo ts ps text 0 (0 + length token.slice.now) (token ∷ [])
token_leads_on ts ps text token is = (is, refl)
