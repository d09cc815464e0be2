-- A text has a list of pieces.
use Rattle.std.proofs.Common.{◌≡◌, ◌≢◌, ℕ, zero, suc, ◌+◌, ◌≤◌, ◌⊎◌, Bool, true, false, inl, inr, List, [], ◌∷◌, length, take, drop, arith, refl, sym, subst}
use Rattle.std.specs.Prelude.{Option, Some, None, slice_get}
use Rattle.std.specs.Borrow.{Bor}
use Rattle.std.specs.Str.{chars}
use Rattle.std.proofs.lemmas.Bool.{cases_lt}
use Rattle.std.proofs.lemmas.List.{nil_from_length}
use Rattle.lalrpop_hir.specs.Tree.{Tree}
use Rattle.lalrpop_hir.specs.Clash.{NoClash}
use Rattle.lalrpop_hir.specs.Longest.{IsLongest}
use Rattle.lalrpop_hir.specs.Tokens.{IsToken}
use Rattle.lalrpop_hir.specs.declared.token.Token.{Token as Cut}
use Rattle.lalrpop_lexer.proofs.Decided.{longest-exists}
use Rattle.lalrpop_hir.proofs.Strongest.{IsOnlyStrongest-from_greatest}
use Rattle.lalrpop_rules.specs.Found.{MatchesAt, NoMatchBefore, NothingFound}
use Rattle.lalrpop_rules.specs.Pieces.{IsPiece, ArePieces, slice_of}
use Rattle.lalrpop_rules.specs.declared.piece.Piece.{Piece}
use Rattle.lalrpop_rules.specs.declared.piece.Piece.TheVariants.{Token, Skipped, Fault}
use Rattle.lalrpop_rules.proofs.FirstMatches.{before_start, nothing_found}
use Rattle.lalrpop_rules.proofs.Fronts.{fault_to_end, fault_to_match}
use Rattle.lalrpop_rules.proofs.PieceLaws.{is_some, is_split, shorter_left}

abbrev FirstMatch : List Tree → List ℕ → Type 0
FirstMatch ts rest = NothingFound ts rest ⊎ ((n : ℕ) × (MatchesAt ts rest n × NoMatchBefore ts rest n))

is_true : (o : Option Bool) → (o ≡ Some true) ⊎ (o ≢ Some true)
is_true None = inr (λ e. cc)
is_true (Some true) = inl refl
is_true (Some false) = inr (λ e. let f : false ≡ true = cc in cc)

abbrev lent : List ℕ → Bor (List ℕ)
lent bytes = record { ref_ptr = (0, 0); now = bytes }

module _ (ts : List Tree) (ps : List ℕ) where
  at_place : (rest : List ℕ) (n : ℕ) (found : Option (ℕ × List ℕ)) → IsLongest ts ps (drop n rest) found → NoMatchBefore ts rest n
      → (NoMatchBefore ts rest (n + 1) → FirstMatch ts rest) → FirstMatch ts rest
  at_place rest n None longest before later = later (λ k less m. elim (cases_lt k n) [
    | inl h ↦ before k h m
    | inr h ↦ (let e : k ≡ n = omega arith in let here = subst (λ (j : ℕ). MatchesAt ts rest j) e m in longest here.0 here.1)
  ])
  at_place rest n (Some m) longest before later = inr (n, ((m.1, longest.0), before))

  search_from : (rest : List ℕ) (left n : ℕ) → n + left ≡ length rest → NoMatchBefore ts rest n → FirstMatch ts rest
  search_from rest zero n e before = inl (nothing_found ts rest n (omega arith) before)
  search_from rest (suc left) n e before =
      let found = longest-exists ts ps (drop n rest) in
      at_place rest n found.0 found.1 before (λ none. search_from rest left (n + 1) (omega arith) none)

module _ (ts : List Tree) (ps : List ℕ) (skips : List Bool) (text : List ℕ) (clear : NoClash ts ps) where
  of_token : (at : ℕ) (token : Cut) → IsToken ts ps text at token → (x : Piece) × IsPiece ts ps skips text at x
  of_token at token is = elim (is_true (slice_get skips token.index)) [ inl e ↦ (Skipped token, (is, e)) | inr e ↦ (Token token, (is, e)) ]

  of_match : (at : ℕ) (found : Option (ℕ × List ℕ)) → IsLongest ts ps (drop at text) found → MatchesAt ts (drop at text) 0 → (x : Piece) × IsPiece ts ps skips text at x
  of_match at None longest m = absurd (longest m.0 m.1)
  of_match at (Some found) longest m =
      let token : Cut = record { index = found.0; slice = lent found.1; start = at } in
      of_token at token (refl, longest, IsOnlyStrongest-from_greatest ts ps (chars found.1) found.0 clear longest.2)

  at_front : (at : ℕ) → drop at text ≢ [] → FirstMatch ts (drop at text) → (x : Piece) × IsPiece ts ps skips text at x
  at_front at some (inl nothing) = (Fault at (lent (drop at text)), (refl, fault_to_end ts (drop at text) some nothing))
  at_front at some (inr (zero, (m, before))) =
      let found = longest-exists ts ps (drop at text) in
      of_match at found.0 found.1 m
  at_front at some (inr (suc n, (m, before))) =
      let slice = take (suc n) (drop at text) in
      (Fault at (lent slice), (refl, fault_to_match ts (drop at text) slice (suc n) m before (omega arith) refl))

  front_or_end : (at n : ℕ) (rest : List ℕ) → rest ≡ drop at text → length (drop at text) ≤ suc n
      → ((to : ℕ) → length (drop to text) ≤ n → (xs : List Piece) × ArePieces ts ps skips text to xs)
      → (xs : List Piece) × ArePieces ts ps skips text at xs
  front_or_end at n [] e most others = ([], sym e)
  front_or_end at n (b ∷ rest) e most others =
      let first = at_front at (λ none. cc) (search_from ts ps (drop at text) (length (drop at text)) 0 (omega arith) (before_start ts (drop at text))) in
      let slice = slice_of first.0 in
      let less = shorter_left text at n slice (is_split ts ps skips text at first.0 first.1) (is_some ts ps skips text at first.0 first.1) most in
      let later = others (at + length slice) less in
      (first.0 ∷ later.0, (first.1, later.1))

  from : (n at : ℕ) → length (drop at text) ≤ n → (xs : List Piece) × ArePieces ts ps skips text at xs
  from zero at most = ([], nil_from_length (drop at text) (omega arith))
  from (suc n) at most = front_or_end at n (drop at text) refl most (λ to less. from n to less)

-- the pieces of a text, which needn't be UTF-8, where no word is ambiguous
pub pieces-exist : (ts : List Tree) (ps : List ℕ) (skips : List Bool) (text : List ℕ) → NoClash ts ps
    → (xs : List Piece) × ArePieces ts ps skips text 0 xs
pieces-exist ts ps skips text clear = from ts ps skips text clear (length text) 0 (omega arith)
