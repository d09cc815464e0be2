-- cases: proofs/Cases/SameTokens.antt
-- When two lists of tokens are the same.
use Rattle.std.specs.Prelude.{◌≡◌, ℕ, ◌+◌, List, [], ◌∷◌, Result, Ok, Err}
use Rattle.lalrpop_hir.specs.declared.token.Token.{Token}
use Rattle.lalrpop_hir.specs.declared.token.TokenFault.{TokenFault}

-- by one tree, at one place, with the same bytes
abbrev pub IsSameToken : Token → Token → Type 0
IsSameToken a b = (a.index ≡ b.index) × (a.start ≡ b.start) × (a.slice.now ≡ b.slice.now)

-- the same tokens and faults, one after another
abbrev pub AreSameTokens : List (Result Token TokenFault) → List (Result Token TokenFault) → Type 0
AreSameTokens [] [] = Unit {0}
AreSameTokens (Ok a ∷ xs) (Ok b ∷ ys) = IsSameToken a b × AreSameTokens xs ys
AreSameTokens (Err a ∷ xs) (Err b ∷ ys) = (a.at ≡ b.at) × AreSameTokens xs ys
AreSameTokens _ _ = ⊥

-- the same token or fault, this number of bytes further on
abbrev pub moved : ℕ → Result Token TokenFault → Result Token TokenFault
moved bytes (Ok token) = Ok (record token { start = bytes + token.start })
moved bytes (Err fault) = Err (record { at = bytes + fault.at })
