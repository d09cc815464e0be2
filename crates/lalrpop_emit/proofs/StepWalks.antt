-- A walk from which no match comes has found the longest one.
use Rattle.std.proofs.Common.{◌≡◌, ◌≢◌, ℕ, zero, suc, ◌+◌, ◌-◌, ◌<◌, ◌≤◌, ◌⊎◌, inl, inr, List, length, take, drop, refl, sym, ap, subst, ◌∙◌, arith, length-drop}
use Rattle.std.specs.Prelude.{slice_index, true, MatchOption, IfSome, Option, Some, None}
use Rattle.std.specs.Char.{encode_utf8}
use Rattle.std.proofs.lemmas.Bool.{cases_lt}
use Rattle.std.proofs.lemmas.List.{drop-drop}
use Rattle.lalrpop_hir.specs.Tree.{Tree}
use Rattle.lalrpop_hir.specs.Longest.{IsLongest}
use Rattle.lalrpop_dfa.specs.Dfa.{Row, Recognizes}
use Rattle.lalrpop_dfa.proofs.LongestLemmas.{IsLongestUpTo}
use Rattle.lalrpop_dense.specs.DenseTable.{TableNumbers, IsTableFor, character_class}
use Rattle.lalrpop_emit.specs.Ahead.{AheadNumbers, IsAheadOf, Standing, StandsFor, by_class, character_column, is_end, is_lost, no_rule, opened, row_by, rule_at, rule_number}
use Rattle.lalrpop_emit.specs.Ahead.Standing.{Begin, Ended, In}
use Rattle.lalrpop_emit.specs.Internal.Characters.{IsCharacterAt}
use Rattle.lalrpop_emit.specs.Internal.Memo.{IsLastMatch, IsStep, LeadTo, NothingFrom}
use Rattle.lalrpop_emit.specs.Internal.Walking.{AreRulesBelow}
use Rattle.lalrpop_emit.specs.declared.driver.Match.{Match}
use Rattle.lalrpop_emit.proofs.AheadColumns.{has_columns, by_character}
use Rattle.lalrpop_emit.proofs.AheadPlaces.{by_size}
use Rattle.lalrpop_emit.proofs.ByteCuts.{IsRead, character_of_rest, no_longer}
use Rattle.lalrpop_emit.proofs.ByteFaults.{match_of}
use Rattle.lalrpop_emit.proofs.Steps.{character_fits, column_below, nothing_behind}
use Rattle.lalrpop_emit.proofs.Walks.{IsWalked, character_size, longest_first, rule_below, walk_accepts, walk_passes, walk_rejects, walked_first, walked_more}

-- ---- where a class leads a token that is open

-- the token that is open is in this row of the table, or it begins
abbrev pub IsTokenIn : TableNumbers → ℕ → Standing → Type 0
IsTokenIn t row s = ((s ≡ Begin) × (row ≡ t.start)) ⊎ (s ≡ In row)

module _ (t : TableNumbers) (row class : ℕ) where
  pub leads_live : (s : Standing) → IsTokenIn t row s → t.live ≤ row_by t row class → by_class t class s ≡ In (row_by t row class)
  leads_live s (inl (is, first)) live =
      ap (by_class t class) is
      ∙ by_size (λ s2. s2 ≡ In (row_by t row class)) t.live (row_by t t.start class) _ _ (λ more. ap (λ (r : ℕ). In (row_by t r class)) (sym first))
      (λ low. absurd (let same : row_by t row class ≡ row_by t t.start class = ap (λ (r : ℕ). row_by t r class) first in omega (arith, low, live, same)))
  leads_live s (inr is) live =
      ap (by_class t class) is
      ∙ by_size (λ s2. s2 ≡ In (row_by t row class)) t.live (row_by t row class) _ _ (λ more. refl) (λ low. absurd (omega (arith, low, live)))

  opened_ends : is_end (opened t class Ended) ≡ true
  opened_ends = by_size (λ s. is_end s ≡ true) t.live (row_by t t.start class) _ _ (λ live. refl) (λ dead. refl)

  pub leads_dead : (s : Standing) → IsTokenIn t row s → row_by t row class < t.live → (is_lost (by_class t class s) ≡ true) ⊎ (is_end (by_class t class s) ≡ true)
  leads_dead s (inl (is, first)) dead =
      subst (λ (s1 : Standing). (is_lost (by_class t class s1) ≡ true) ⊎ (is_end (by_class t class s1) ≡ true)) (sym is)
      (by_size (λ s2. (is_lost s2 ≡ true) ⊎ (is_end s2 ≡ true)) t.live (row_by t t.start class) _ _
      (λ more. absurd (let same : row_by t row class ≡ row_by t t.start class = ap (λ (r : ℕ). row_by t r class) first in omega (arith, dead, more, same)))
      (λ low. inl refl))
  leads_dead s (inr is) dead =
      subst (λ (s1 : Standing). (is_lost (by_class t class s1) ≡ true) ⊎ (is_end (by_class t class s1) ≡ true)) (sym is)
      (by_size (λ s2. (is_lost s2 ≡ true) ⊎ (is_end s2 ≡ true)) t.live (row_by t row class) _ _
      (λ more. absurd (omega (arith, dead, more)))
      (λ low. by_size (λ s2. (is_lost s2 ≡ true) ⊎ (is_end s2 ≡ true)) t.accept row _ _ (λ accept. inr opened_ends) (λ less. inl refl)))

-- ---- a walk from the start on

-- the characters from the start up to the place lead to the row that this row stands for
pub record IsWalkFrom (a : AheadNumbers) (t : TableNumbers) (h : IsAheadOf a t) (text : List ℕ) (start row at : ℕ) : Type 0 where
  pub standing : Standing
  pub table_row : ℕ
  pub stands : StandsFor a h.standings row standing
  pub from : start ≤ at
  pub walked : IsWalked t (drop start text) (at - start) table_row
  pub token : IsTokenIn t table_row standing
  pub live : start < at → (standing ≡ In table_row) × (t.live ≤ table_row)

module _ (a : AheadNumbers) (t : TableNumbers) (h : IsAheadOf a t) (text : List ℕ) (start : ℕ) where
  -- the row that a character leads to
  abbrev next_of : ℕ → ℕ → ℕ
  next_of row c = slice_index a.cells (row + character_column t c)

  pub walk_first : (row at : ℕ) → row ≡ a.start → at ≡ start → IsWalkFrom a t h text start row at
  walk_first row at row_is at_is = record {
    standing = Begin;
    table_row = t.start;
    stands = subst (λ (r : ℕ). StandsFor a h.standings r Begin) (sym row_is) h.begins;
    from = omega (arith, at_is);
    walked = walked_first t (drop start text) (at - start) (omega (arith, at_is));
    token = inl (refl, refl);
    live = λ more. absurd (omega (arith, more, at_is));
  }

  module _ (row at c : ℕ) (w : IsWalkFrom a t h text start row at) (here : IsCharacterAt text at c) where
    stands_next : StandsFor a h.standings (next_of row c) (by_class t (character_class t c) w.standing)
    stands_next =
        subst (StandsFor a h.standings (next_of row c)) (by_character t a.width w.standing (character_column t c) c (has_columns a t h) here.scalar refl)
        (h.leads row w.standing w.stands (character_column t c) (column_below a t c h here.scalar))

    pub here_in_rest : IsCharacterAt (drop start text) (at - start) c
    here_in_rest = character_of_rest text start at (at - start) c (omega (arith, w.from)) here

    pub walked_next : IsWalked t (drop start text) ((at - start) + length (encode_utf8 c)) (row_by t w.table_row (character_class t c))
    walked_next = walked_more t (drop start text) (at - start) ((at - start) + length (encode_utf8 c)) w.table_row (row_by t w.table_row (character_class t c)) c w.walked here_in_rest refl refl

    module _ (live : t.live ≤ row_by t w.table_row (character_class t c)) where
      pub stands_in : StandsFor a h.standings (next_of row c) (In (row_by t w.table_row (character_class t c)))
      stands_in = subst (StandsFor a h.standings (next_of row c)) (leads_live t w.table_row (character_class t c) w.standing w.token live) stands_next

      pub step_live : IsStep a t text row at (next_of row c) (at + length (encode_utf8 c))
      step_live = record {
        character = c;
        here = here;
        place = refl;
        leads = refl;
        some = elim (cases_lt 0 (next_of row c)) [
          | inl more ↦ more
          | inr none ↦ absurd (let lost = (h.lost (next_of row c) _ stands_in).1 (omega (arith, none)) in cc)
        ];
        no_end = elim (cases_lt (next_of row c) a.ends) [
          | inl less ↦ less
          | inr end ↦ absurd (let ends = (h.ends (next_of row c) _ stands_in).1 end in cc)
        ];
      }

      pub walk_live : IsWalkFrom a t h text start (next_of row c) (at + length (encode_utf8 c))
      walk_live = record {
        standing = In (row_by t w.table_row (character_class t c));
        table_row = row_by t w.table_row (character_class t c);
        stands = stands_in;
        from = omega (arith, w.from);
        walked =
            subst (λ (n : ℕ). IsWalked t (drop start text) n (row_by t w.table_row (character_class t c)))
            (let same : (at - start) + length (encode_utf8 c) ≡ at + length (encode_utf8 c) - start = omega (arith, w.from) in same) walked_next;
        token = inr refl;
        live = λ more. (refl, live);
      }

  -- a step goes on in the table
  walk_step : (row at row2 at2 : ℕ) → IsWalkFrom a t h text start row at → IsStep a t text row at row2 at2 → IsWalkFrom a t h text start row2 at2
  walk_step row at row2 at2 w s =
      let c = s.character in
      elim (cases_lt (row_by t w.table_row (character_class t c)) t.live) [
        | inl dead ↦ absurd (elim (leads_dead t w.table_row (character_class t c) w.standing w.token dead) [
          | inl lost ↦ omega (arith, s.some, s.leads, (h.lost (next_of row c) _ (stands_next row at c w s.here)).0 lost)
          | inr end ↦ omega (arith, s.no_end, s.leads, (h.ends (next_of row c) _ (stands_next row at c w s.here)).0 end)
        ])
        | inr live ↦
            subst (λ (r : ℕ). IsWalkFrom a t h text start r at2) (sym s.leads)
            (subst (IsWalkFrom a t h text start (next_of row c)) (sym s.place) (walk_live row at c w s.here live))
      ]

  pub walk_lead : (n row at : ℕ) → LeadTo a t text start n row at → IsWalkFrom a t h text start row at
  walk_lead zero row at (row_is, at_is) = walk_first row at row_is at_is
  walk_lead (suc n) row at (row1, at1, (lead, s)) = walk_step row1 at1 row at (walk_lead n row1 at1 lead) s

-- ---- the longest match

rule_not_none : (found : Option ℕ) → rule_number found ≡ no_rule → found ≢ Some no_rule → found ≡ None
rule_not_none None e other = refl
rule_not_none (Some rule) e other = absurd (other (ap (λ (n : ℕ). Some n) e))

-- if one more character leads to the longest match, this is it
module _ (ts : List Tree) (ps text : List ℕ) (n : ℕ) (read : IsRead text n) where
  by_next : (best : Option (ℕ × List ℕ)) → IsLongestUpTo ts ps text n best → ((c : ℕ) → IsCharacterAt text n c → IsLongest ts ps text best) → IsLongest ts ps text best
  by_next None up next = λ p m. elim (cases_lt n (length p)) [
    | inl above ↦ omega (arith, above, no_longer text n p read (λ c here. next c here p m) m.0)
    | inr below ↦ up p m below
  ]
  by_next (Some best) up next = (
    up.0,
    λ p m. elim (cases_lt n (length p)) [
      | inl above ↦ elim (cases_lt (length best.1) (length p)) [
        | inl longer ↦ absurd (omega (arith, above, no_longer text n p read (λ c here. omega (arith, longer, (next c here).1 p m)) m.0))
        | inr within ↦ within
      ]
      | inr below ↦ up.1 p m below
    ],
    up.2,
  )

character_in_text : (text : List ℕ) (start at c : ℕ) → start ≤ at → IsCharacterAt (drop start text) (at - start) c → IsCharacterAt text at c
character_in_text text start at c from h =
    let there : start + (at - start) ≡ at = omega (arith, from) in
    record {
      scalar = h.scalar;
      rest = h.rest;
      split = ap (λ (k : ℕ). drop k text) (sym there) ∙ sym (drop-drop (at - start) start text) ∙ h.split;
    }

module _ (a : AheadNumbers) (t : TableNumbers) (h : IsAheadOf a t) (text : List ℕ) (start : ℕ) (d : List Row) (ts : List Tree) (ps : List ℕ) (right : IsTableFor t d) (r : Recognizes d ts ps) where
  -- the row has a rule just if that of the table accepts
  in_row_rule : (row table_row : ℕ) → StandsFor a h.standings row (In table_row) → slice_index a.cells (row + a.width) ≡ no_rule → table_row < t.accept
  in_row_rule row table_row stands none =
      let nothing : rule_at t (In table_row) ≡ None = rule_not_none (rule_at t (In table_row)) (sym (h.rules row (In table_row) stands) ∙ none) (h.told row (In table_row) stands) in
      elim (cases_lt table_row t.accept) [
        | inl low ↦ low
        | inr accept ↦ absurd (by_size (λ found. found ≡ None → ⊥) t.accept table_row _ None (λ more e. cc) (λ low e. omega (arith, low, accept)) nothing)
      ]

  longest_by : (fuel row at : ℕ) (best : Option (ℕ × List ℕ)) → length text ≤ at + fuel → IsWalkFrom a t h text start row at → NothingFrom a t text row at
      → IsLongestUpTo ts ps (drop start text) (at - start) best → IsLongest ts ps (drop start text) best
  longest_by zero row at best end w nothing up =
      by_next ts ps (drop start text) (at - start) w.walked.read best up
      (λ c here. absurd (omega (arith, end, character_size c, character_fits text at c (character_in_text text start at c w.from here))))
  longest_by (suc fuel) row at best end w nothing up =
      by_next ts ps (drop start text) (at - start) w.walked.read best up
      (λ c in_rest.
      let here = character_in_text text start at c w.from in_rest in
      let next = row_by t w.table_row (character_class t c) in
      let row2 = slice_index a.cells (row + character_column t c) in
      let at2 = at + length (encode_utf8 c) in
      let n2 = (at - start) + length (encode_utf8 c) in
      let walked2 = walked_next a t h text start row at c w here in
      elim (cases_lt next t.live) [
        | inl dead ↦ walk_rejects t d (drop start text) (at - start) n2 w.table_row next c best right w.walked walked2 in_rest refl dead ts ps r up
        | inr live ↦
            let s = step_live a t h text start row at c w here live in
            let w2 = walk_live a t h text start row at c w here live in
            let low = in_row_rule row2 next (stands_in a t h text start row at c w here live) (nothing 1 row2 at2 s).0 in
            let up2 = walk_passes t d (drop start text) (at - start) n2 w.table_row next c best right w.walked walked2 in_rest refl live low ts ps r up in
            let same : n2 ≡ at2 - start = omega (arith, w.from) in
            longest_by fuel row2 at2 best (omega (arith, end, character_size c)) w2 (nothing_behind a t text row at row2 at2 s nothing)
            (subst (λ (n : ℕ). IsLongestUpTo ts ps (drop start text) n best) same up2)
      ])

-- ---- the answer

-- the walk is in a row that accepts, by this rule
record IsMatchedRow (a : AheadNumbers) (t : TableNumbers) (text : List ℕ) (start row at : ℕ) : Type 0 where
  table_row : ℕ
  walked : IsWalked t (drop start text) (at - start) table_row
  live : t.live ≤ table_row
  accept : t.accept ≤ table_row
  rule : slice_index a.cells (row + a.width) ≡ slice_index t.cells (table_row + t.width)

moved : (a : AheadNumbers) (t : TableNumbers) (text : List ℕ) (start n row at : ℕ) → LeadTo a t text start n row at → start < at → 0 < n
moved a t text start zero row at (row_is, at_is) more = absurd (omega (arith, more, at_is))
moved a t text start (suc n) row at lead more = omega arith

module _ (a : AheadNumbers) (t : TableNumbers) (h : IsAheadOf a t) (text : List ℕ) (start row at : ℕ) (last : IsLastMatch a t text start row at) where
  walk_last : IsWalkFrom a t h text start row at
  walk_last = walk_lead a t h text start last.characters row at last.lead

  matched_row : start < at → IsMatchedRow a t text start row at
  matched_row more =
      let is = walk_last.live more in
      let r = walk_last.table_row in
      let stands = subst (StandsFor a h.standings row) is.0 walk_last.stands in
      let found : (t.accept ≤ r) × (slice_index a.cells (row + a.width) ≡ slice_index t.cells (r + t.width)) =
      by_size (λ found. slice_index a.cells (row + a.width) ≡ rule_number found → (t.accept ≤ r) × (slice_index a.cells (row + a.width) ≡ slice_index t.cells (r + t.width))) t.accept r _ None
      (λ accept e. (accept, e))
      (λ low e. absurd (last.matched (moved a t text start last.characters row at last.lead more) e))
      (h.rules row (In r) stands) in
      record { table_row = r; walked = walk_last.walked; live = is.1; accept = found.0; rule = found.1 }

  -- what is answered is the last match, if there is one
  abbrev pub IsAnswer : Option Match → Type 0
  IsAnswer o = MatchOption o (at ≡ start) (λ m. (at ≢ start) × (m.end ≡ at) × (m.rule ≡ slice_index a.cells (row + a.width)))

  pub answer_longest : (d : List Row) (ts : List Tree) (ps : List ℕ) → IsTableFor t d → Recognizes d ts ps → NothingFrom a t text row at → (o : Option Match) → IsAnswer o
      → IsLongest ts ps (drop start text) (match_of text start o)
  answer_longest d ts ps right r nothing None first =
      longest_by a t h text start d ts ps right r (length text) row at None (omega arith) walk_last nothing (longest_first ts ps (drop start text) (at - start) (omega (arith, first)))
  answer_longest d ts ps right r nothing (Some m) (other, end, rule) =
      let m_row = matched_row (omega (arith, other, walk_last.from)) in
      let up = walk_accepts t d (drop start text) (at - start) m_row.table_row right m_row.walked (omega (arith, other, walk_last.from)) m_row.live m_row.accept ts ps r in
      let found = longest_by a t h text start d ts ps right r (length text) row at (Some (slice_index t.cells (m_row.table_row + t.width), take (at - start) (drop start text))) (omega arith) walk_last nothing up in
      subst (λ (n : ℕ). IsLongest ts ps (drop start text) (Some (m.rule, take (n - start) (drop start text)))) (sym end)
      (subst (λ (n : ℕ). IsLongest ts ps (drop start text) (Some (n, take (at - start) (drop start text)))) (sym (rule ∙ m_row.rule)) found)

  pub answer_place : (o : Option Match) → IsAnswer o → IfSome o (λ m. (start < m.end) × (m.end ≤ length text))
  answer_place None first = tt
  answer_place (Some m) (other, end, rule) =
      (omega (arith, other, end, walk_last.from), omega (arith, other, end, walk_last.from, walk_last.walked.read.within, length-drop start text))

  pub answer_rule : (count : ℕ) → AreRulesBelow t count → (o : Option Match) → IsAnswer o → IfSome o (λ m. m.rule < count)
  answer_rule count below None first = tt
  answer_rule count below (Some m) (other, end, rule) =
      let m_row = matched_row (omega (arith, other, walk_last.from)) in
      rule_below t (drop start text) (at - start) m_row.table_row m.rule count below m_row.walked m_row.live m_row.accept (rule ∙ m_row.rule)
