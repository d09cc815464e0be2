-- A text has one list of tokens.
use Rattle.std.proofs.Common.{◌≡◌, ◌≢◌, ℕ, zero, suc, ◌+◌, ◌≤◌, List, [], ◌∷◌, length, drop, refl, sym, ap, subst, ◌∙◌, arith, length-append, length-drop}
use Rattle.std.specs.Prelude.{Option, Some, None, Result, Ok, Err}
use Rattle.std.specs.Str.{chars}
use Rattle.std.proofs.lemmas.List.{nil_from_length}
use Rattle.std.proofs.lemmas.Option.{some_pair_parts}
use Rattle.lalrpop_hir.specs.Tree.{Tree}
use Rattle.lalrpop_hir.specs.Clash.{NoClash}
use Rattle.lalrpop_hir.specs.Prefix.{IsPrefix}
use Rattle.lalrpop_hir.specs.Longest.{IsLongest}
use Rattle.lalrpop_hir.specs.Tokens.{IsToken, AreTokens}
use Rattle.lalrpop_dense.specs.SameTokens.{IsSameToken, AreSameTokens}
use Rattle.lalrpop_hir.specs.declared.token.Token.{Token}
use Rattle.lalrpop_hir.specs.declared.token.TokenFault.{TokenFault}
use Rattle.lalrpop_dense.proofs.Decided.{longest-exists}
use Rattle.lalrpop_hir.proofs.LastFaults.{some_left, tokens_to_fault, no_tokens_behind}
use Rattle.lalrpop_hir.proofs.Longests.{longest-unique}
use Rattle.lalrpop_hir.proofs.Strongest.{IsOnlyStrongest-from_greatest}

-- a text has one token at a place
pub token-unique : (ts : List Tree) (ps text : List ℕ) (at : ℕ) (a b : Token) → IsToken ts ps text at a → IsToken ts ps text at b → IsSameToken a b
token-unique ts ps text at a b first second =
    let same = some_pair_parts a.index b.index a.slice.now b.slice.now (longest-unique ts ps (drop at text) _ _ first.1 second.1) in
    (same.0, first.0 ∙ sym second.0, same.1)

ends_alike : (xs ys : List (Result Token TokenFault)) → xs ≡ [] → ys ≡ [] → AreSameTokens xs ys
ends_alike [] [] e f = tt
ends_alike [] (y ∷ ys) e f = absurd (cc)
ends_alike (x ∷ xs) ys e f = absurd (cc)

pub tokens-unique : (ts : List Tree) (ps text : List ℕ) (at : ℕ) (xs ys : List (Result Token TokenFault))
    → AreTokens ts ps text at xs → AreTokens ts ps text at ys → AreSameTokens xs ys
tokens-unique ts ps text at [] [] are too = tt
tokens-unique ts ps text at [] (Ok b ∷ ys) are too = absurd (some_left ts (drop at text) b.slice.now too.0.1.0 are)
tokens-unique ts ps text at [] (Err f ∷ ys) are too = absurd (too.0.0 are)
tokens-unique ts ps text at (Ok a ∷ xs) [] are too = absurd (some_left ts (drop at text) a.slice.now are.0.1.0 too)
tokens-unique ts ps text at (Err e ∷ xs) [] are too = absurd (are.0.0 too)
tokens-unique ts ps text at (Ok a ∷ xs) (Err f ∷ ys) are too = absurd (too.0.1 a.slice.now are.0.1.0)
tokens-unique ts ps text at (Err e ∷ xs) (Ok b ∷ ys) are too = absurd (are.0.1 b.slice.now too.0.1.0)
tokens-unique ts ps text at (Err e ∷ xs) (Err f ∷ ys) are too =
    (are.0.2 ∙ sym too.0.2, ends_alike xs ys (no_tokens_behind ts ps text at e xs are) (no_tokens_behind ts ps text at f ys too))
tokens-unique ts ps text at (Ok a ∷ xs) (Ok b ∷ ys) are too =
    let same = token-unique ts ps text at a b are.0 too.0 in
    let behind = ap (λ (p : List ℕ). at + length p) same.2 in
    (same, tokens-unique ts ps text (at + length b.slice.now) xs ys (subst (λ (n : ℕ). AreTokens ts ps text n xs) behind are.1) too.1)

-- ---- and there is one

-- behind a nonempty prefix of the rest less is left
pub less_left : (text : List ℕ) (at n : ℕ) (p : List ℕ) → IsPrefix p (drop at text) → p ≢ [] → length (drop at text) ≤ suc n
    → length (drop (at + length p) text) ≤ n
less_left text at n p front some most =
    let size : length p ≢ 0 = λ e. some (nil_from_length p e) in
    omega (arith, size, length-drop at text, length-drop (at + length p) text, ap length front.1.0, length-append p front.0)

module _ (ts : List Tree) (ps text : List ℕ) (clear : NoClash ts ps) where
  -- the token at the front of the rest, or the fault, and what follows
  at_front : (at n : ℕ) (found : Option (ℕ × List ℕ)) → IsLongest ts ps (drop at text) found → length (drop at text) ≤ suc n
      → ((to : ℕ) → length (drop to text) ≤ n → (xs : List (Result Token TokenFault)) × AreTokens ts ps text to xs)
      → drop at text ≢ [] → (xs : List (Result Token TokenFault)) × AreTokens ts ps text at xs
  at_front at n None longest most others some =
      let fault : TokenFault = record { at = at } in
      (Err fault ∷ [], tokens_to_fault ts ps text at fault (some, longest, refl))
  at_front at n (Some m) longest most others some =
      let token : Token = record { index = m.0; slice = record { ref_ptr = (0, 0); now = m.1 }; start = at } in
      let later = others (at + length m.1) (less_left text at n m.1 longest.0.0 longest.0.1 most) in
      (Ok token ∷ later.0, ((refl, longest, IsOnlyStrongest-from_greatest ts ps (chars m.1) m.0 clear longest.2), later.1))

  front_or_end : (at n : ℕ) (rest : List ℕ) → rest ≡ drop at text → length (drop at text) ≤ suc n
      → ((to : ℕ) → length (drop to text) ≤ n → (xs : List (Result Token TokenFault)) × AreTokens ts ps text to xs)
      → (xs : List (Result Token TokenFault)) × AreTokens ts ps text at xs
  front_or_end at n [] e most others = ([], sym e)
  front_or_end at n (b ∷ rest) e most others =
      let found = longest-exists ts ps (drop at text) in
      at_front at n found.0 found.1 most others (λ none. cc)

  from : (n at : ℕ) → length (drop at text) ≤ n → (xs : List (Result Token TokenFault)) × AreTokens ts ps text at xs
  from zero at most = ([], nil_from_length (drop at text) (omega arith))
  from (suc n) at most = front_or_end at n (drop at text) refl most (λ to less. from n to less)

-- the tokens of a text, where no word is ambiguous
pub tokens-exist : (ts : List Tree) (ps text : List ℕ) (at : ℕ) → NoClash ts ps → (xs : List (Result Token TokenFault)) × AreTokens ts ps text at xs
tokens-exist ts ps text at clear = from ts ps text clear (length (drop at text)) at (omega arith)
