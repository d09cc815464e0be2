-- The piece at the front of a rest.
use Rattle.std.proofs.Common.{◌≡◌, ◌≢◌, ℕ, ◌+◌, ◌<◌, inl, inr, List, [], ◌++◌, length, take, drop, arith, refl, sym, ap, subst, ◌∙◌, length-take}
use Rattle.std.specs.Str.{IsUtf8, IsCharBoundary}
use Rattle.std.proofs.lemmas.Str.{IsCharBoundary-from_rest}
use Rattle.std.proofs.lemmas.List.{append-nil, take-append-drop}
use Rattle.lalrpop_hir.specs.Tree.{Tree}
use Rattle.lalrpop_hir.specs.Prefix.{IsPrefix}
use Rattle.lalrpop_rules.specs.Found.{MatchesAt, NoMatchBefore, NothingFound}
use Rattle.lalrpop_rules.specs.Pieces.{IsFault}
use Rattle.lalrpop_lexer.proofs.Cuttings.{cut_behind}
use Rattle.lalrpop_rules.proofs.FirstMatches.{match_within}

-- where nothing matches anywhere, the whole rest is a fault
pub fault_to_end : (ts : List Tree) (rest : List ℕ) → rest ≢ [] → NothingFound ts rest → IsFault ts rest rest
fault_to_end ts rest some none =
    record { front = ([], sym (append-nil rest)); some = some; nothing = λ n below. none n; ends = inl refl }

-- else it ends where something matches
pub fault_to_match : (ts : List Tree) (rest slice : List ℕ) (n : ℕ) → MatchesAt ts rest n → NoMatchBefore ts rest n → 0 < n
    → slice ≡ take n rest → IsFault ts rest slice
fault_to_match ts rest slice n m before some is =
    let within : n < length rest = match_within ts rest n m in
    let size : length slice ≡ n = omega (arith, ap length is, length-take n rest) in
    record {
      front = (drop n rest, sym (take-append-drop n rest) ∙ ap (λ (p : List ℕ). p ++ drop n rest) (sym is));
      some = λ none. omega (arith, size, ap length none);
      nothing = subst (λ (k : ℕ). NoMatchBefore ts rest k) (sym size) before;
      ends = inr (subst (λ (k : ℕ). MatchesAt ts rest k) (sym size) m);
    }

-- after a prefix of the rest the text may be cut
pub boundary_behind : (text : List ℕ) (at : ℕ) (p : List ℕ) → IsCharBoundary text at → IsUtf8 (drop at text) → IsPrefix p (drop at text)
    → IsCharBoundary text (at + length p)
boundary_behind text at p here u b = IsCharBoundary-from_rest text at (length p) here.0 (cut_behind p (drop at text) u b)
