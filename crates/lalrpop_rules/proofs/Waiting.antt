-- A text that is cut to its end, between two calls of `next`, and within a fault.
use Rattle.std.proofs.Common.{◌≡◌, ◌≢◌, ℕ, ◌+◌, ◌-◌, ◌<◌, ◌≤◌, ◌⊎◌, inl, inr, List, [], ◌++◌, length, take, drop, arith, refl, sym, ap, subst, ◌∙◌, length-drop, length-take}
use Rattle.std.specs.Prelude.{Option, Some, None}
use Rattle.std.specs.Char.{encode_utf8}
use Rattle.std.specs.Str.{chars, IsUtf8, IsCharBoundary}
use Rattle.std.proofs.lemmas.Str.{IsUtf8-drop, IsUtf8-take, IsUtf8-past_char, IsCharBoundary-at_seam, IsCharBoundary-from_drop, IsCharBoundary-from_rest, length-encode, len_utf8_bounds}
use Rattle.std.proofs.lemmas.List.{drop-drop, take-append-drop}
use Rattle.lalrpop_hir.specs.Longest.{IsMatch}
use Rattle.lalrpop_hir.specs.Prefix.{IsPrefix}
use Rattle.lalrpop_hir.specs.Tokens.{IsToken}
use Rattle.lalrpop_hir.specs.Tree.{Tree}
use Rattle.lalrpop_lexer.proofs.Cuttings.{some_char}
use Rattle.lalrpop_lexer.proofs.Standings.{count_between}
use Rattle.lalrpop_lexer.proofs.Strongest.{IsOnlyStrongest-from_greatest}
use Rattle.lalrpop_lexer.specs.Dfa.{Row}
use Rattle.lalrpop_lexer.specs.Matching.{Matching, rest_of}
use Rattle.lalrpop_lexer.specs.Rules.{IsBuiltFrom}
use Rattle.lalrpop_hir.proofs.Cuts.{IsCut}
use Rattle.lalrpop_rules.specs.Pieces.{IsFault}
use Rattle.std.proofs.lemmas.Bool.{cases_order}
use Rattle.lalrpop_rules.specs.Internal.CutToEnd.{CutToEnd, IsSoughtFromRest, IsSoughtAfterPiece}
use Rattle.lalrpop_rules.specs.declared.piece.Piece.{Piece}
use Rattle.lalrpop_rules.specs.declared.piece.Piece.TheVariants.{Token, Skipped, Fault}
use Rattle.lalrpop_rules.specs.Internal.Finding.{Match, ForRules, IsSomeText, IsMatchOf, Passes, IsSoughtFrom, IsWaiting, IsPassing, IsAtFront}
use Rattle.lalrpop_rules.proofs.FirstMatches.{before_start, before_next, nothing_found}
use Rattle.lalrpop_rules.proofs.Fronts.{boundary_behind, fault_to_end, fault_to_match}

-- ---- the place from which matches are sought

-- the rest there
pub rest_there : (text : List ℕ) (place : ℕ) (m : Matching) → IsSoughtFrom text place m → rest_of m ≡ drop place text
rest_there text place m s = ap (λ (t : List ℕ). drop m.at t) s.same ∙ ap (λ (k : ℕ). drop k text) s.here

-- l bytes further on
sought_behind : (text : List ℕ) (place l : ℕ) (m n : Matching) → IsSoughtFrom text place m → IsCharBoundary text (place + l)
    → n ≡ record m { at = m.at + l; spare = n.spare } → IsSoughtFrom text (place + l) n
sought_behind text place l m n s b e =
    let there : n.at ≡ m.at + l = ap (λ (x : Matching). x.at) e in
    record {
      same = ap (λ (x : Matching). x.text) e ∙ s.same;
      here = omega (arith, there, s.here);
      boundary = b;
    }

sought_behind_match : (text : List ℕ) (place : ℕ) (f : Match) (m n : Matching) → IsUtf8 text → IsSoughtFrom text place m → Passes m n (Some f)
    → IsSoughtFrom text (place + length f.1.now) n
sought_behind_match text place f m n u s (b, e) =
    let front : IsPrefix f.1.now (drop place text) = subst (λ (t : List ℕ). IsPrefix f.1.now t) (rest_there text place m s) b in
    sought_behind text place (length f.1.now) m n s (boundary_behind text place f.1.now s.boundary (IsUtf8-drop text place u s.boundary) front) e

-- the place written otherwise
pub sought_at : (text : List ℕ) (place there : ℕ) (m : Matching) → place ≡ there → IsSoughtFrom text place m → IsSoughtFrom text there m
sought_at text place there m e s = subst (λ (k : ℕ). IsSoughtFrom text k m) e s

-- the automaton stays the same
pub same_automaton : (m n : Matching) (found : Option Match) → Passes m n found → n.automaton ≡ m.automaton
same_automaton m n None (c, (split, e)) = ap (λ (x : Matching). x.automaton) e
same_automaton m n (Some f) (b, e) = ap (λ (x : Matching). x.automaton) e

match_there : (text : List ℕ) (place : ℕ) (found : Option Match) (m : Matching) (d : List Row) → IsSoughtFrom text place m → d ≡ m.automaton
    → IsMatchOf m.automaton (rest_of m) found → IsMatchOf d (drop place text) found
match_there text place found m d s e is =
    subst (λ (r : List Row). IsMatchOf r (drop place text) found) (sym e) (subst (λ (t : List ℕ). IsMatchOf m.automaton t found) (rest_there text place m s) is)

-- a match at the front of the rest is a token of the text
pub token_met : (ts : List Tree) (ps text : List ℕ) (at : ℕ) (f : Match) (d : List Row) (m : Matching) → IsBuiltFrom ts ps d → m.automaton ≡ d
    → IsMatchOf m.automaton (drop at text) (Some f) → IsToken ts ps text at (record { index = f.0; slice = f.1; start = at })
token_met ts ps text at f d m built same is =
    let longest = is ts ps (subst (λ (r : List Row). IsBuiltFrom ts ps r) (sym same) built) in
    (refl, longest, IsOnlyStrongest-from_greatest ts ps (chars f.1.now) f.0 built.no_clash longest.2)

-- ---- within a fault

passing_cut : (text : List ℕ) (at : ℕ) (m : Matching) (p : IsPassing text at m) → IsCut (drop at text) p.passed (rest_of m)
passing_cut text at m p =
    let u : IsUtf8 (drop at text) = IsUtf8-drop text at p.utf8 p.boundary in
    let rest : drop p.passed (drop at text) ≡ rest_of m = drop-drop p.passed at text ∙ sym (rest_there text (at + p.passed) m p.sought) in
    let later : IsUtf8 (rest_of m) = subst IsUtf8 (sym (rest_there text (at + p.passed) m p.sought)) (IsUtf8-drop text (at + p.passed) p.utf8 p.sought.boundary) in
    let within : p.passed ≤ length (drop at text) = omega (arith, p.sought.boundary.0, length-drop at text) in
    let b : IsCharBoundary (drop at text) p.passed = IsCharBoundary-from_drop (drop at text) p.passed within (subst IsUtf8 (sym rest) later) in
    record {
      split = sym (take-append-drop p.passed (drop at text)) ∙ ap (λ (t : List ℕ). take p.passed (drop at text) ++ t) rest;
      place = omega (arith, length-take p.passed (drop at text), within);
      seen_utf8 = IsUtf8-take (drop at text) p.passed u b;
      rest_utf8 = later;
    }

passing_start : (text : List ℕ) (at : ℕ) (m : Matching) → IsWaiting text at None m → IsPassing text at m
passing_start text at m w =
    record { utf8 = w.utf8; boundary = w.boundary; passed = 0; sought = w.sought; nothing = λ ts ps built. before_start ts (drop at text) }

-- the rest isn't empty before the end of the text
pub passing_some : (text : List ℕ) (at : ℕ) (m : Matching) → IsPassing text at m → m.at ≢ length text → IsSomeText (rest_of m) × (m.at < length text)
passing_some text at m p on =
    let less : m.at < length text = omega (arith, p.sought.here, p.sought.boundary.0, on) in
    let rest : rest_of m ≡ drop (at + p.passed) text = rest_there text (at + p.passed) m p.sought in
    ((λ none. omega (arith, less, p.sought.here, length-drop (at + p.passed) text, ap length (sym rest ∙ none)), (passing_cut text at m p).rest_utf8), less)

-- a character further on
pub passing_on : (text : List ℕ) (at : ℕ) (m n : Matching) → IsPassing text at m → IsMatchOf m.automaton (rest_of m) None → Passes m n None
    → IsPassing text at n × (m.at < n.at)
passing_on text at m n p none (c, (split, e)) =
    let l = length (encode_utf8 c) in
    let some : 0 < l = omega (arith, length-encode c, (len_utf8_bounds c).0) in
    let cut = passing_cut text at m p in
    let seam : drop (at + p.passed) text ≡ encode_utf8 c ++ rest_of n = sym (rest_there text (at + p.passed) m p.sought) ∙ split in
    let later : IsUtf8 (rest_of n) = IsUtf8-past_char (rest_of m) (rest_of n) c cut.rest_utf8 split in
    let there : n.at ≡ m.at + l = ap (λ (x : Matching). x.at) e in (
      record {
        utf8 = p.utf8;
        boundary = p.boundary;
        passed = p.passed + l;
        sought = sought_at text _ _ n (omega arith)
            (sought_behind text (at + p.passed) l m n p.sought (IsCharBoundary-from_rest text (at + p.passed) l p.sought.boundary.0 (IsCharBoundary-at_seam (drop (at + p.passed) text) (encode_utf8 c) (rest_of n) seam later)) e);
        nothing = λ ts ps built.
            let known = subst (λ (d : List Row). IsBuiltFrom ts ps d) (ap (λ (x : Matching). x.automaton) e) built in
            before_next ts ps (drop at text) (rest_of m) (rest_of n) p.passed (p.passed + l) c (IsUtf8-drop text at p.utf8 p.boundary) cut split refl
            (p.nothing ts ps known) (none ts ps known);
      },
      omega (arith, there, some),
    )

-- what is found at the front of the rest, or the first character, is passed
pub front_met : (text : List ℕ) (at : ℕ) (found : Option Match) (m n : Matching) → IsWaiting text at None m → IsMatchOf m.automaton (rest_of m) found → Passes m n found
    → IsAtFront text at found None n
front_met text at None m n w none p =
    let on = passing_on text at m n (passing_start text at m w) none p in
    (on.0, omega (arith, w.sought.here, on.1))
front_met text at (Some f) m n w is p =
    let here : IsSoughtFrom text at m = sought_at text _ at m (omega arith) w.sought in
    let behind : IsSoughtFrom text (at + length f.1.now) n = sought_behind_match text at f m n w.utf8 here p in (
      match_there text at (Some f) m n.automaton here (same_automaton m n (Some f) p) is,
      record { utf8 = w.utf8; boundary = behind.boundary; first = tt; sought = sought_at text _ _ n (omega arith) behind },
    )

-- up to where something matches it is a fault
pub fault_before : (text : List ℕ) (at : ℕ) (f : Match) (slice : List ℕ) (m n : Matching) → IsPassing text at m → at < m.at → IsMatchOf m.automaton (rest_of m) (Some f)
    → Passes m n (Some f) → slice ≡ take (m.at - at) (drop at text)
    → ForRules m.automaton (λ ts _. IsFault ts (drop at text) slice) × IsWaiting text (at + length slice) (Some f) n
fault_before text at f slice m n p some is passes cut =
    let u : IsUtf8 (drop at text) = IsUtf8-drop text at p.utf8 p.boundary in
    let place : m.at - at ≡ p.passed = omega (arith, p.sought.here) in
    let front : slice ≡ take p.passed (drop at text) = cut ∙ ap (λ (k : ℕ). take k (drop at text)) place in
    let rest : drop p.passed (drop at text) ≡ rest_of m = drop-drop p.passed at text ∙ sym (rest_there text (at + p.passed) m p.sought) in
    let size : length slice ≡ p.passed = ap length front ∙ (passing_cut text at m p).place in
    let behind : IsSoughtFrom text (at + p.passed + length f.1.now) n = sought_behind_match text (at + p.passed) f m n p.utf8 p.sought passes in
    let ends : at + p.passed ≡ at + length slice = omega (arith, size) in (
      λ ts ps built.
          let there = subst (λ (t : List ℕ). IsMatch ts t f.1.now) (sym rest) (is ts ps built).0 in
          fault_to_match ts (drop at text) slice p.passed (f.1.now, there) (p.nothing ts ps built) (omega (arith, some, p.sought.here)) front,
      record {
        utf8 = p.utf8;
        boundary = subst (λ (k : ℕ). IsCharBoundary text k) ends p.sought.boundary;
        first = subst (λ (k : ℕ). IsMatchOf n.automaton (drop k text) (Some f)) ends
            (match_there text (at + p.passed) (Some f) m n.automaton p.sought (same_automaton m n (Some f) passes) is);
        sought = sought_at text _ _ n (omega (arith, ends)) behind;
      },
    )

-- and so it is up to the end of the text
pub fault_at_end : (text : List ℕ) (at : ℕ) (slice : List ℕ) (m : Matching) → IsPassing text at m → at < m.at → m.at ≡ length text → slice ≡ drop at text
    → ForRules m.automaton (λ ts _. IsFault ts (drop at text) slice) × IsWaiting text (at + length slice) None m
fault_at_end text at slice m p some end all =
    let u : IsUtf8 (drop at text) = IsUtf8-drop text at p.utf8 p.boundary in
    let size : length slice ≡ length text - at = ap length all ∙ length-drop at text in
    let place : p.passed ≡ length (drop at text) = omega (arith, end, p.sought.here, length-drop at text) in
    let ends : at + p.passed ≡ at + length slice = omega (arith, size, end, p.sought.here) in
    let left : drop at text ≢ [] = λ none. omega (arith, some, end, length-drop at text, ap length none) in (
      λ ts ps built.
          subst (λ (t : List ℕ). IsFault ts (drop at text) t) (sym all) (fault_to_end ts (drop at text) left (nothing_found ts (drop at text) p.passed place (p.nothing ts ps built))),
      record {
        utf8 = p.utf8;
        boundary = subst (λ (k : ℕ). IsCharBoundary text k) ends p.sought.boundary;
        first = tt;
        sought = sought_at text _ _ m (omega (arith, ends)) p.sought;
      },
    )

-- ---- another place

-- fewer characters come after a later place
later_place : (text : List ℕ) (place later : ℕ) → IsUtf8 text → IsCharBoundary text place → IsCharBoundary text later → place < later
    → length (chars (drop later text)) < length (chars (drop place text))
later_place text place later u b c before =
    let n = later - place in
    let rest : drop n (drop place text) ≡ drop later text = drop-drop n place text ∙ ap (λ (k : ℕ). drop k text) (omega (arith, before)) in
    let within : n ≤ length (drop place text) = omega (arith, c.0, length-drop place text) in
    let here : IsCharBoundary (drop place text) n = IsCharBoundary-from_drop (drop place text) n within (subst IsUtf8 (sym rest) (IsUtf8-drop text later u c)) in
    let p = take n (drop place text) in
    let v : IsUtf8 p = IsUtf8-take (drop place text) n (IsUtf8-drop text place u b) here in
    let some : p ≢ [] = λ none. omega (arith, before, within, length-take n (drop place text), ap length none) in
    omega (arith, count_between text p place later (omega (arith, before)) refl v, some_char p v some)

-- a place after which no more characters come than after the last match isn't before its end
pub place_behind : (m : Matching) (text : List ℕ) (found place : ℕ) → IsUtf8 text → IsSoughtFrom text found m → IsCharBoundary text place
    → length (chars (drop place text)) ≤ length (chars (rest_of m)) → m.at ≤ place
place_behind m text found place u s b few = by_order (cases_order place found)
  where
    by_order : (place ≡ found) ⊎ ((place < found) ⊎ (found < place)) → m.at ≤ place
    by_order (inl same) = omega (arith, same, s.here)
    by_order (inr (inl before)) = absurd (none before)
      where
        none : ¬ (place < found)
        none before =
            omega (arith, few, ap (λ (t : List ℕ). length (chars t)) (rest_there text found m s), later_place text place found u b s.boundary before)
    by_order (inr (inr after)) = omega (arith, after, s.here)

-- where none is kept, matches are sought from the beginning of the rest on
pub sought_rest : (m : Matching) (text : List ℕ) (at : ℕ) → IsWaiting text at None m → length (chars (rest_of m)) ≡ length (chars (drop at text))
sought_rest m text at w = ap (λ (t : List ℕ). length (chars t)) (rest_there text at m (sought_at text _ at m (omega arith) w.sought))

pub sought_behind_piece : (x : Piece) (s : CutToEnd) → IsSoughtFromRest s → IsSoughtAfterPiece x s
sought_behind_piece (Token token) s h = h
sought_behind_piece (Skipped token) s h = h
sought_behind_piece (Fault start slice) s h = tt
