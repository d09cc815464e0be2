-- Cases of specs/SameTokens.antt.
use Rattle.std.proofs.Common.{◌≡◌, ◌≢◌, ℕ, List, [], ◌∷◌, refl, ap, arith}
use Rattle.std.specs.Prelude.{Result, Ok, Err}
use Rattle.std.specs.Borrow.{Bor}
use Rattle.lalrpop_dense.specs.SameTokens.{IsSameToken, AreSameTokens, moved}
use Rattle.lalrpop_hir.specs.declared.token.Token.{Token}
use Rattle.lalrpop_hir.specs.declared.token.TokenFault.{TokenFault}

abbrev token : ℕ → ℕ → Bor (List ℕ) → Token
token index start slice = record { index = index; start = start; slice = slice }

-- equal bytes elsewhere are the same
bytes_elsewhere : (a b : Bor (List ℕ)) → a.now ≡ b.now → IsSameToken (token 1 2 a) (token 1 2 b)
bytes_elsewhere a b e = (refl, refl, e)

another_tree : (a b : Bor (List ℕ)) → ¬ IsSameToken (token 1 2 a) (token 0 2 b)
another_tree a b same = omega (arith, same.0)

another_place : (a b : Bor (List ℕ)) → ¬ IsSameToken (token 1 2 a) (token 1 3 b)
another_place a b same = omega (arith, same.1)

other_bytes : (a b : Bor (List ℕ)) → a.now ≢ b.now → ¬ IsSameToken (token 1 2 a) (token 1 2 b)
other_bytes a b differ same = differ same.2

no_tokens : AreSameTokens [] []
no_tokens = tt

token_and_fault : (a b : Bor (List ℕ)) → a.now ≡ b.now
    → AreSameTokens (Ok (token 0 0 a) ∷ Err (record { at = 1 }) ∷ []) (Ok (token 0 0 b) ∷ Err (record { at = 1 }) ∷ [])
token_and_fault a b e = ((refl, refl, e), (refl, tt))

fault_elsewhere : ¬ AreSameTokens (Err (record { at = 1 }) ∷ []) (Err (record { at = 2 }) ∷ [])
fault_elsewhere same = omega (arith, same.0)

one_token_more : (x : Result Token TokenFault) → ¬ AreSameTokens [] (x ∷ [])
one_token_more x same = same

fault_for_a_token : (a : Bor (List ℕ)) → ¬ AreSameTokens (Ok (token 0 0 a) ∷ []) (Err (record { at = 0 }) ∷ [])
fault_for_a_token a same = same

-- the place moves, and nothing else
moved_token : (a : Bor (List ℕ)) → moved 3 (Ok (token 1 2 a)) ≡ Ok (token 1 5 a)
moved_token a = refl

abbrev place : Result Token TokenFault → ℕ
place (Ok token) = token.start
place (Err fault) = fault.at

moved_fault : moved 3 (Err (record { at = 2 })) ≢ Err (record { at = 2 })
moved_fault e = let five : ℕ = 5 in let two : ℕ = 2 in let same : five ≡ two = ap place e in omega (arith, same)
