-- cases: proofs/Cases/Cutting.antt
-- Cutting a text into tokens, one after another, and what that costs.
use Rattle.std.specs.Prelude.{◌≡◌, ◌≢◌, ℕ, ◌+◌, ◌*◌, ◌≤◌, ◌⊎◌, Bool, true, false, List, [], ◌∷◌, length, drop, Option, Some, None, Result, Ok, Err, if◌then◌else◌}
use Rattle.std.specs.Str.{chars}
use Rattle.lalrpop_hir.specs.Tree.{Tree}
use Rattle.lalrpop_hir.specs.Prefix.{IsPrefix}
use Rattle.lalrpop_hir.specs.Longest.{IsLongest}
use Rattle.lalrpop_hir.specs.Tokens.{Item}
use Rattle.lalrpop_hir.specs.declared.token.Token.{Token}
use Rattle.lalrpop_hir.specs.declared.token.TokenFault.{TokenFault}
use Rattle.lalrpop_dfa.specs.Dfa.{Row, Recognizes}
use Rattle.lalrpop_dfa.specs.Lookahead.{ReadsAtMost}
use Rattle.lalrpop_dense.specs.Matching.{open_states}

-- a text that an automaton cuts: where its rest begins, in bytes, and whether there was a fault; how many characters may still be read
-- besides, where there is a memo; and how many have been read so far, each counted as often as it was read
pub record Cutting : Type 0 where
  pub automaton : List Row
  pub text : List ℕ
  pub at : ℕ
  pub is_over : Bool
  pub spare : Option ℕ
  pub steps : ℕ

-- nothing is cut yet, and nothing read
abbrev pub start_of : List Row → List ℕ → Option ℕ → Cutting
start_of d text spare = record { automaton = d; text = text; at = 0; is_over = false; spare = spare; steps = 0 }

-- the rest of the text
abbrev pub rest_of : Cutting → List ℕ
rest_of s = drop s.at s.text

-- the most items that are left: none after a fault, otherwise one for each character of the rest
abbrev pub left_of : Cutting → ℕ
left_of s = if s.is_over then 0 else length (chars (rest_of s))

-- for all trees that the automaton recognizes, this is the longest match of the rest
abbrev pub IsNext : Cutting → Option (ℕ × List ℕ) → Type 0
IsNext s m = (ts : List Tree) (ps : List ℕ) → Recognizes s.automaton ts ps → IsLongest ts ps (rest_of s) m

-- the steps so far, and so many more for each character that is not cut off yet
abbrev pub steps_with : ℕ → Cutting → ℕ
steps_with each s = s.steps + each * left_of s

-- the characters that are cut off pay for those that are read. Without a memo each pays for n + 2, if at most n after a match leave it
-- open. With a memo each pays for 65, and those to spare pay for the others. A memo neither comes nor goes
abbrev pub IsPaidBy : Option ℕ → Option ℕ → Cutting → Cutting → Type 0
IsPaidBy None None old new = (n : ℕ) → ReadsAtMost old.automaton n → steps_with (n + 2) new ≤ steps_with (n + 2) old
IsPaidBy (Some before) (Some after) old new = steps_with 65 new + after ≤ steps_with 65 old + before
IsPaidBy _ _ old new = ⊥

abbrev pub IsPaid : Cutting → Cutting → Type 0
IsPaid old new = (old.steps ≤ new.steps) × IsPaidBy old.spare new.spare old new

-- what one call returns: nothing after a fault or if no rest is left, and then it reads nothing; the token at the front of the rest, after
-- which the new rest begins; or a fault at the rest, if nothing matches
abbrev pub GivesItem : Cutting → Option Item → Cutting → Type 0
GivesItem old None new = (new ≡ old) × ((old.is_over ≡ true) ⊎ (rest_of old ≡ []))
GivesItem old (Some (Ok m)) new =
    (old.is_over ≡ false) × IsPrefix m.1.now (rest_of old) × (m.1.now ≢ []) × IsNext old (Some (m.0, m.1.now))
    × (new ≡ record old { at = old.at + length m.1.now; spare = new.spare; steps = new.steps }) × IsPaid old new
GivesItem old (Some (Err fault)) new =
    (old.is_over ≡ false) × (rest_of old ≢ []) × (fault.at ≡ old.at) × IsNext old None
    × (new ≡ record old { is_over = true; spare = new.spare; steps = new.steps }) × IsPaid old new

-- the items from a place of the text on, each token with the place where it begins
abbrev pub with_places : ℕ → List Item → List (Result Token TokenFault)
with_places at [] = []
with_places at (Ok m ∷ xs) = Ok (record { index = m.0; slice = m.1; start = at }) ∷ with_places (at + length m.1.now) xs
with_places at (Err fault ∷ xs) = Err fault ∷ with_places at xs

-- the most characters that are read: n + 2 for each character of the text, if at most n characters after a match leave it open; if
-- there is no such n, 66 for each character and one for each byte, and for each open state one for each byte and 64 more
abbrev pub most_steps : List Row → List ℕ → Option ℕ → ℕ
most_steps d text (Some n) = (n + 2) * length (chars text)
most_steps d text None = 66 * length (chars text) + length text + open_states d * (length text + 64)
