-- Matches that are found ahead, a block of the text at a time, and what pays for the bytes that are read in vain.
use Rattle.std.specs.Prelude.{◌≡◌, ◌≢◌, ℕ, ◌+◌, ◌-◌, ◌*◌, ◌≤◌, List, [], length, drop, Option, IfSome, IfNone}
use Rattle.std.specs.Option.{option_map}
use Rattle.std.specs.Borrow.{Bor}
use Rattle.std.specs.Str.{chars, IsCharBoundary}
use Rattle.lalrpop_hir.specs.Tree.{Tree}
use Rattle.lalrpop_hir.specs.Prefix.{IsPrefix}
use Rattle.lalrpop_hir.specs.Longest.{IsLongest}
use Rattle.lalrpop_dfa.specs.Dfa.{Row, Recognizes}
use Rattle.lalrpop_dfa.specs.Lookahead.{ReadsAtMost}
use Rattle.lalrpop_dense.specs.Leading.{AreAhead}
use Rattle.lalrpop_dense.specs.Matching.{Matching, rest_of, characters_of}

-- what is left of a text for an automaton: the byte where it begins
pub record Rest : Type 0 where
  pub automaton : List Row
  pub text : List ℕ
  pub at : ℕ

abbrev pub bytes_of : Rest → List ℕ
bytes_of r = drop r.at r.text

-- these are the matches from the place on, of each its pattern and its end
pub record IsReadAhead (d : List Row) (text : List ℕ) (at : ℕ) (ends : List (ℕ × ℕ)) : Type 0 where
  pub boundary : IsCharBoundary text at
  pub ahead : AreAhead d text at ends

-- how many characters come from this byte on
abbrev pub chars_from : List ℕ → ℕ → ℕ
chars_from text at = length (chars (drop at text))

-- the place is not behind the beginning of the rest, and no more steps are prepaid before it than there are bytes
pub record IsSettled (text : List ℕ) (credit settled at : ℕ) : Type 0 where
  pub boundary : IsCharBoundary text settled
  pub behind : settled ≤ at
  pub more : chars_from text at ≤ chars_from text settled
  pub few : credit ≤ settled

-- how many steps are prepaid: the credit, and one for each character between the place and the rest
abbrev pub prepaid_of : List ℕ → ℕ → ℕ → ℕ → ℕ
prepaid_of text credit settled at = credit + (chars_from text settled - chars_from text at)

-- the longest match of the rest is found, and the new rest begins after it
pub record IsNextMatch (old new : Matching) (found : Option (ℕ × Bor (List ℕ))) : Type 0 where
  pub answer : (ts : List Tree) (ps : List ℕ) → Recognizes old.automaton ts ps → IsLongest ts ps (rest_of old) (option_map (λ m. (m.0, m.1.now)) found)
  pub prefix : IfSome found (λ m. IsPrefix m.1.now (rest_of old) × (m.1.now ≢ []))
  pub goes_on : IfSome found (λ m. new ≡ record old { at = old.at + length m.1.now; spare = new.spare })
  pub stays : IfNone found (new ≡ record old { spare = new.spare })

-- without a memo: what pays for the steps
pub record IsPrepaid (old new : Matching) (found : Option (ℕ × Bor (List ℕ))) (before after : ℕ) : Type 0 where
  pub never_falls : before + old.spare ≤ after + new.spare
  pub paid : (n : ℕ) → ReadsAtMost old.automaton n → IfSome found (λ m. after + new.spare ≤ before + (n + 2) * length (chars m.1.now) + old.spare)
  pub cost : IfNone found (after + new.spare ≤ before + length (chars (rest_of old)) + old.spare)

-- with one
pub record IsPaidFor (old new : Matching) (found : Option (ℕ × Bor (List ℕ))) (before after : ℕ) : Type 0 where
  pub paid : after + new.spare ≤ before + characters_of (option_map (λ m. m.1.now) found) + old.spare + 64
  pub read : before + characters_of (option_map (λ m. m.1.now) found) ≤ after
