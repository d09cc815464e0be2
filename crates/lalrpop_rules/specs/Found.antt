-- cases: proofs/Cases/Found.antt
-- The leftmost longest match of a text.
use Rattle.std.specs.Prelude.{ℕ, ◌<◌, List, drop}
use Rattle.lalrpop_hir.specs.Tree.{Tree}
use Rattle.lalrpop_hir.specs.Longest.{IsMatch}
use Rattle.lalrpop_hir.specs.Tokens.{IsToken}
use Rattle.lalrpop_hir.specs.declared.token.Token.{Token}

-- some tree matches a nonempty prefix of the text from this place on; places are in bytes
abbrev pub MatchesAt : List Tree → List ℕ → ℕ → Type 0
MatchesAt ts text at = (p : List ℕ) × IsMatch ts (drop at text) p

-- no tree matches before this place
abbrev pub NoMatchBefore : List Tree → List ℕ → ℕ → Type 0
NoMatchBefore ts text at = (n : ℕ) → n < at → ¬ MatchesAt ts text n

-- the token at the first place where some tree matches
abbrev pub IsFound : List Tree → List ℕ → List ℕ → Token → Type 0
IsFound ts ps text token = IsToken ts ps text token.start token × NoMatchBefore ts text token.start

-- no tree matches anywhere
abbrev pub NothingFound : List Tree → List ℕ → Type 0
NothingFound ts text = (n : ℕ) → ¬ MatchesAt ts text n
