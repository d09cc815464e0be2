-- The match that is found in the rest of a text, with a memo or without.
use Rattle.std.proofs.Common.{◌≡◌, ◌≢◌, ℕ, ◌+◌, ◌≤◌, List, [], length, arith, refl, sym, ap, subst, Bor}
use Rattle.std.specs.Prelude.{Option, Some, None}
use Rattle.std.specs.Option.{option_map}
use Rattle.std.specs.Str.{chars}
use Rattle.lalrpop_hir.specs.Tree.{Tree}
use Rattle.lalrpop_hir.specs.Prefix.{IsPrefix}
use Rattle.lalrpop_hir.specs.Longest.{IsLongest}
use Rattle.lalrpop_dfa.specs.Dfa.{Row, Recognizes}
use Rattle.lalrpop_dfa.specs.Lookahead.{ReadsAtMost}
use Rattle.lalrpop_dense.specs.Matching.{Matching, rest_of as rest_of_matching}
use Rattle.lalrpop_dense.specs.Cutting.{Cutting, rest_of}
use Rattle.lalrpop_dense.specs.Internal.Blocks.{IsNextMatch, IsPrepaid, IsPaidFor}
use Rattle.lalrpop_dense.proofs.Costs.{IsFound}

-- where the match ends that begins here
abbrev pub place_behind : ℕ → Option (ℕ × Bor (List ℕ)) → ℕ
place_behind at None = at
place_behind at (Some m) = at + length m.1.now

-- the matches of the text are found up to this place
abbrev pub IsUpTo : List Row → List ℕ → ℕ → Matching → Type 0
IsUpTo d text at m = m ≡ record { automaton = d; text = text; at = at; spare = m.spare }

pub up_to : (d : List Row) (text : List ℕ) (at : ℕ) (m : Matching) → IsUpTo d text at m → m ≡ record m { text = text; at = at }
up_to d text at m e = subst (λ (x : Matching). x ≡ record x { text = text; at = at }) (sym e) refl

-- a match is found, and matches are sought after it
pub record IsFoundUpTo (s : Cutting) (found : Option (ℕ × Bor (List ℕ))) (m : Matching) (spare : Option ℕ) (steps : ℕ) : Type 0 where
  pub is_found : IsFound s (option_map (λ m. (m.0, m.1.now)) found) spare steps
  pub behind : IsUpTo s.automaton s.text (place_behind s.at found) m

abbrev Answers : Matching → Option (ℕ × List ℕ) → Type 0
Answers y found = (ts : List Tree) (ps : List ℕ) → Recognizes y.automaton ts ps → IsLongest ts ps (rest_of_matching y) found

pub found_with : (s : Cutting) (m j : Matching) (found : Option (ℕ × Bor (List ℕ))) (before after : ℕ) → IsUpTo s.automaton s.text s.at m
    → s.spare ≡ Some m.spare → s.steps ≡ before → IsNextMatch m j found → IsPaidFor m j found before after → IsFoundUpTo s found j (Some j.spare) (after + 0)
found_with s m j (Some x) before after e spare steps next paid = record {
  is_found = record {
    next = subst (λ (y : Matching). Answers y (Some (x.0, x.1.now))) e next.answer;
    prefix = subst (λ (y : Matching). IsPrefix x.1.now (rest_of_matching y) × (x.1.now ≢ [])) e next.prefix;
    never_falls = omega (arith, steps, paid.read);
    reads = rw spare (omega (arith, steps, paid.paid));
  };
  behind = subst (λ (y : Matching). j ≡ record y { at = y.at + length x.1.now; spare = j.spare }) e next.goes_on;
}
found_with s m j None before after e spare steps next paid = record {
  is_found = record {
    next = subst (λ (y : Matching). Answers y None) e next.answer;
    prefix = tt;
    never_falls = omega (arith, steps, paid.read);
    reads = rw spare (omega (arith, steps, paid.paid));
  };
  behind = subst (λ (y : Matching). j ≡ record y { spare = j.spare }) e next.stays;
}

pub found_without : (s : Cutting) (m j : Matching) (found : Option (ℕ × Bor (List ℕ))) (before after : ℕ) → IsUpTo s.automaton s.text s.at m
    → s.spare ≡ None → s.steps ≡ before + m.spare → IsNextMatch m j found → IsPrepaid m j found before after → IsFoundUpTo s found j None (after + j.spare)
found_without s m j (Some x) before after e none steps next paid =
    let same : m.automaton ≡ s.automaton = ap (λ (y : Matching). y.automaton) e in
    record {
      is_found = record {
        next = subst (λ (y : Matching). Answers y (Some (x.0, x.1.now))) e next.answer;
        prefix = subst (λ (y : Matching). IsPrefix x.1.now (rest_of_matching y) × (x.1.now ≢ [])) e next.prefix;
        never_falls = omega (arith, steps, paid.never_falls);
        reads = rw none (tt, λ n most. omega (arith, steps, paid.paid n (subst (λ (d : List Row). ReadsAtMost d n) (sym same) most)));
      };
      behind = subst (λ (y : Matching). j ≡ record y { at = y.at + length x.1.now; spare = j.spare }) e next.goes_on;
    }
found_without s m j None before after e none steps next paid =
    let here : rest_of_matching m ≡ rest_of s = ap (λ (y : Matching). rest_of_matching y) e in
    let most : after + j.spare ≤ before + length (chars (rest_of s)) + m.spare =
    subst (λ (r : List ℕ). after + j.spare ≤ before + length (chars r) + m.spare) here paid.cost in
    record {
      is_found = record {
        next = subst (λ (y : Matching). Answers y None) e next.answer;
        prefix = tt;
        never_falls = omega (arith, steps, paid.never_falls);
        reads = rw none (omega (arith, steps, most), λ n looks. tt);
      };
      behind = subst (λ (y : Matching). j ≡ record y { spare = j.spare }) e next.stays;
    }
