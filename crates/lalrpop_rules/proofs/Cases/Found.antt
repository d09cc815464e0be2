-- Cases of specs/Found.antt.
use Rattle.std.proofs.Common.{◌≡◌, ℕ, ◌<◌, List, [], codes, arith, subst}
use Rattle.lalrpop_hir.specs.Tree.{Tree}
use Rattle.lalrpop_hir.specs.Tokens.{IsToken}
use Rattle.lalrpop_hir.specs.declared.token.Token.{Token}
use Rattle.lalrpop_rules.specs.Found.{MatchesAt, NoMatchBefore, IsFound, NothingFound}
use Rattle.lalrpop_rules.proofs.FirstMatches.{match_within}

-- nothing matches at `b`, and `a` is the token after it
found_behind_a_fault : (ts : List Tree) (ps : List ℕ) (token : Token) → token.start ≡ 1 → IsToken ts ps (codes "ba") token.start token
    → ¬ MatchesAt ts (codes "ba") 0 → IsFound ts ps (codes "ba") token
found_behind_a_fault ts ps token one is none = (is, λ n below m. none (subst (λ (k : ℕ). MatchesAt ts (codes "ba") k) (zero n below) m))
  where
    zero : (n : ℕ) → n < token.start → n ≡ 0
    zero n below = omega (arith, one, below)

later_than_the_first : (ts : List Tree) (ps text : List ℕ) (token : Token) → token.start ≡ 1 → MatchesAt ts text 0 → ¬ IsFound ts ps text token
later_than_the_first ts ps text token one m found = found.1 0 (omega (arith, one)) m

nothing_before_the_beginning : (ts : List Tree) (text : List ℕ) → NoMatchBefore ts text 0
nothing_before_the_beginning ts text n below m = omega arith

nothing_in_the_empty_text : (ts : List Tree) → NothingFound ts []
nothing_in_the_empty_text ts n m = omega (arith, match_within ts [] n m)

match_passed_over : (ts : List Tree) (text : List ℕ) → MatchesAt ts text 3 → ¬ NothingFound ts text
match_passed_over ts text m none = none 3 m
