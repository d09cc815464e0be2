-- The faults of a text of bytes.
use Rattle.std.proofs.Common.{◌≡◌, ℕ, ◌+◌, ◌-◌, ◌<◌, ◌≤◌, ◌⊎◌, ⊎_elim, inl, inr, Bool, true, false, List, length, take, drop, sym, ap, subst, ◌∙◌, arith, length-drop}
use Rattle.std.specs.Prelude.{Option, Some, None}
use Rattle.std.specs.Option.{option_map, is_some}
use Rattle.std.proofs.lemmas.Bool.{cases_lt}
use Rattle.std.proofs.lemmas.List.{drop-drop, length-take-le, take-append-drop, take_all}
use Rattle.lalrpop_hir.specs.Tree.{Tree}
use Rattle.lalrpop_hir.specs.Longest.{IsMatch, IsLongest}
use Rattle.lalrpop_rules.specs.Found.{MatchesAt, NoMatchBefore}
use Rattle.lalrpop_rules.specs.Pieces.{IsFault}
use Rattle.lalrpop_emit.specs.declared.driver.Match.{Match}

-- ---- places of a text and of its rest

rest_at : (text : List ℕ) (start end : ℕ) → start ≤ end → drop (end - start) (drop start text) ≡ drop end text
rest_at text start end l =
    let there : start + (end - start) ≡ end = omega arith in
    drop-drop (end - start) start text ∙ ap (λ (n : ℕ). drop n text) there

pub matches_in_rest : (ts : List Tree) (text : List ℕ) (start end : ℕ) → start ≤ end → MatchesAt ts text end → MatchesAt ts (drop start text) (end - start)
matches_in_rest ts text start end l m = (m.0, subst (λ (xs : List ℕ). IsMatch ts xs m.0) (sym (rest_at text start end l)) m.1)

pub matches_in_text : (ts : List Tree) (text : List ℕ) (start end : ℕ) → start ≤ end → MatchesAt ts (drop start text) (end - start) → MatchesAt ts text end
matches_in_text ts text start end l m = (m.0, subst (λ (xs : List ℕ). IsMatch ts xs m.0) (rest_at text start end l) m.1)

-- ---- what a longest match says of a place

-- the match that is known, as the definition of a longest match has it
abbrev pub match_of : List ℕ → ℕ → Option Match → Option (ℕ × List ℕ)
match_of text start o = option_map (λ m. (m.rule, take (m.end - start) (drop start text))) o

pub matches_there : (ts : List Tree) (ps text : List ℕ) (at : ℕ) (o : Option Match) (b : Bool) → b ≡ is_some o → b ≡ true → IsLongest ts ps (drop at text) (match_of text at o) → MatchesAt ts text at
matches_there ts ps text at None b is which found = cc
matches_there ts ps text at (Some m) b is which found = (take (m.end - at) (drop at text), found.0)

pub none_there : (ts : List Tree) (ps text : List ℕ) (at : ℕ) (o : Option Match) (b : Bool) → b ≡ is_some o → b ≡ false → IsLongest ts ps (drop at text) (match_of text at o) → ¬ MatchesAt ts text at
none_there ts ps text at None b is which found = λ m. found m.0 m.1
none_there ts ps text at (Some m) b is which found = cc

pub none_at : (ts : List Tree) (ps text : List ℕ) (at : ℕ) → IsLongest ts ps (drop at text) None → ¬ MatchesAt ts text at
none_at ts ps text at none m = none m.0 m.1

-- ---- the end of a fault

pub none_first : (ts : List Tree) (text : List ℕ) (start : ℕ) → ¬ MatchesAt ts text start → NoMatchBefore ts (drop start text) (start + 1 - start)
none_first ts text start none n l m =
    let here : n ≡ start - start = omega arith in
    none (matches_in_text ts text start start (omega arith) (subst (λ (k : ℕ). MatchesAt ts (drop start text) k) here m))

pub none_more : (ts : List Tree) (text : List ℕ) (start end : ℕ) → start ≤ end → NoMatchBefore ts (drop start text) (end - start) → ¬ MatchesAt ts text end
    → NoMatchBefore ts (drop start text) (end + 1 - start)
none_more ts text start end l before none n below m =
    ⊎_elim (λ (less : n < end - start). before n less m)
    (λ (more : end - start ≤ n).
    let here : n ≡ end - start = omega arith in
    none (matches_in_text ts text start end l (subst (λ (k : ℕ). MatchesAt ts (drop start text) k) here m)))
    (cases_lt n (end - start))

-- bytes at the front of a text, at none of which a tree matches
fault_of : (ts : List Tree) (text : List ℕ) (size : ℕ) → 0 < size → size ≤ length text → NoMatchBefore ts text size → (size ≡ length text) ⊎ MatchesAt ts text size
    → IsFault ts text (take size text)
fault_of ts text size some within nothing ends =
    let is : length (take size text) ≡ size = length-take-le size text within in
    record {
      front = (drop size text, sym (take-append-drop size text));
      some = λ none. omega (arith, some, is, ap length none);
      nothing = subst (NoMatchBefore ts text) (sym is) nothing;
      ends = elim ends [ inl whole ↦ inl (take_all size text (omega (arith, whole))) | inr match ↦ inr (subst (MatchesAt ts text) (sym is) match) ];
    }

pub fault_to_match : (ts : List Tree) (text : List ℕ) (start end : ℕ) → start < end → end ≤ length text → NoMatchBefore ts (drop start text) (end - start)
    → MatchesAt ts text end → IsFault ts (drop start text) (take (end - start) (drop start text))
fault_to_match ts text start end some within nothing m =
    fault_of ts (drop start text) (end - start) (omega arith) (omega (arith, length-drop start text)) nothing (inr (matches_in_rest ts text start end (omega arith) m))

pub fault_to_end : (ts : List Tree) (text : List ℕ) (start end : ℕ) → start < end → end ≤ length text → length text ≤ end
    → NoMatchBefore ts (drop start text) (end - start) → IsFault ts (drop start text) (take (end - start) (drop start text))
fault_to_end ts text start end some within ends nothing =
    fault_of ts (drop start text) (end - start) (omega arith) (omega (arith, length-drop start text)) nothing (inl (omega (arith, length-drop start text)))
