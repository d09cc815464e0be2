-- cases: proofs/Cases/Tokens.antt
-- The tokens of a text: one longest match after another, up to its end or to the first place where nothing matches.
use Rattle.std.specs.Prelude.{◌≡◌, ◌≢◌, ℕ, List, [], ◌∷◌, ◌++◌, length, drop, Some, None, Result, Ok, Err}
use Rattle.std.specs.Borrow.{Bor}
use Rattle.std.specs.Str.{chars}
use Rattle.lalrpop_hir.specs.Tree.{Tree}
use Rattle.lalrpop_hir.specs.Winners.{IsOnlyStrongest}
use Rattle.lalrpop_hir.specs.Longest.{IsLongest}
use Rattle.lalrpop_hir.specs.Chain.{Chain, AtEnd}
use Rattle.lalrpop_hir.specs.declared.token.Token.{Token}
use Rattle.lalrpop_hir.specs.declared.token.TokenFault.{TokenFault}

-- a token, as the index of a tree and a slice, or a fault
abbrev pub Item : Type 0
Item = Result (ℕ × Bor (List ℕ)) TokenFault

-- how far an item of the text reaches: a token over its slice, and a fault over all that is left, so that nothing follows it
abbrev pub item_size : List ℕ → Item → ℕ
item_size text (Ok m) = length m.1.now
item_size text (Err fault) = length (drop fault.at text)

-- the fault of the text at this place: a nonempty rest that has no match
abbrev pub IsFaultAt : List Tree → List ℕ → List ℕ → ℕ → TokenFault → Type 0
IsFaultAt ts ps text at fault = (drop at text ≢ []) × IsLongest ts ps (drop at text) None × (fault.at ≡ at)

-- the item of the text at this place: the longest match of the rest, or a fault
abbrev pub IsItem : List Tree → List ℕ → List ℕ → ℕ → Item → Type 0
IsItem ts ps text at (Ok m) = IsLongest ts ps (drop at text) (Some (m.0, m.1.now))
IsItem ts ps text at (Err fault) = IsFaultAt ts ps text at fault

-- all items of the text from a place on, one after another up to its end
abbrev pub AreItems : List Tree → List ℕ → List ℕ → ℕ → List Item → Type 0
AreItems ts ps text = Chain (item_size text) (IsItem ts ps text) (AtEnd text)

-- the slices of the tokens, one after another
abbrev pub slices : List Item → List ℕ
slices [] = []
slices (Ok m ∷ xs) = m.1.now ++ slices xs
slices (Err fault ∷ xs) = slices xs

-- the item without the place where it begins
abbrev pub bare : Result Token TokenFault → Item
bare (Ok token) = Ok (token.index, token.slice)
bare (Err fault) = Err fault

-- the token of the text at this place: the longest match of the rest, and its only strongest tree
abbrev pub IsToken : List Tree → List ℕ → List ℕ → ℕ → Token → Type 0
IsToken ts ps text at token =
    (token.start ≡ at) × IsLongest ts ps (drop at text) (Some (token.index, token.slice.now))
    × IsOnlyStrongest ts ps (chars token.slice.now) token.index

-- the token or the fault of the text at this place
abbrev pub IsTokenOrFault : List Tree → List ℕ → List ℕ → ℕ → Result Token TokenFault → Type 0
IsTokenOrFault ts ps text at (Ok token) = IsToken ts ps text at token
IsTokenOrFault ts ps text at (Err fault) = IsFaultAt ts ps text at fault

-- all tokens of the text from a place on, one after another up to its end, or to a fault
abbrev pub AreTokens : List Tree → List ℕ → List ℕ → ℕ → List (Result Token TokenFault) → Type 0
AreTokens ts ps text = Chain (λ x. item_size text (bare x)) (IsTokenOrFault ts ps text) (AtEnd text)
