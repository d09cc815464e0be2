-- cases: proofs/Cases/LeadingTokens.antt
-- Tokens that lead from one place of a text to another.
use Rattle.std.specs.Prelude.{◌≡◌, ℕ, List, length, drop, Some}
use Rattle.lalrpop_hir.specs.Tree.{Tree}
use Rattle.lalrpop_hir.specs.Longest.{IsLongest}
use Rattle.lalrpop_hir.specs.Chain.{Chain}
use Rattle.lalrpop_hir.specs.declared.token.Token.{Token}

-- the token begins at this place, and is the longest match of the rest
abbrev pub IsStep : List Tree → List ℕ → List ℕ → ℕ → Token → Type 0
IsStep ts ps text at token = (token.start ≡ at) × IsLongest ts ps (drop at text) (Some (token.index, token.slice.now))

-- one token after another, from the one place to the other
abbrev pub LeadTo : List Tree → List ℕ → List ℕ → ℕ → ℕ → List Token → Type 0
LeadTo ts ps text at to = Chain (λ token. length token.slice.now) (IsStep ts ps text) (λ p. p ≡ to) at
