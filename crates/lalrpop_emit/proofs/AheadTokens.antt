-- Two neighbouring ends of a run enclose the longest match.
use Rattle.std.proofs.Common.{◌≡◌, ℕ, zero, suc, ◌+◌, ◌-◌, ◌<◌, ◌≤◌, ◌⊎◌, inl, inr, List, ◌∷◌, length, take, drop, get_or, refl, sym, ap, subst, ◌∙◌, arith, drop-cons, length-drop}
use Rattle.std.specs.Prelude.{Bool, true, false, IsTrue, if◌then◌else◌, slice_index, Some, None}
use Rattle.std.specs.Char.{encode_utf8}
use Rattle.std.proofs.lemmas.Bool.{false_from_ne_true}
use Rattle.std.proofs.lemmas.Option.{same_Some}
use Rattle.std.proofs.lemmas.List.Sums.{fold_more}
use Rattle.lalrpop_hir.specs.Tree.{Tree}
use Rattle.lalrpop_hir.specs.Longest.{IsLongest}
use Rattle.lalrpop_dfa.specs.Dfa.{Row, Recognizes}
use Rattle.lalrpop_dfa.proofs.LongestLemmas.{IsLongestUpTo}
use Rattle.lalrpop_dense.specs.DenseTable.{TableNumbers, IsTableFor, character_class}
use Rattle.lalrpop_emit.specs.Internal.Characters.{IsCharacterAt}
use Rattle.lalrpop_emit.specs.Ahead.{Standing, row_by, led, accepts, by_class, by_column, standing_after, is_end, rule_at}
use Rattle.lalrpop_emit.specs.Internal.Columns.{AreColumns}
use Rattle.lalrpop_emit.specs.Ahead.Standing.{Begin, Lost, Ended, In, Again}
use Rattle.lalrpop_emit.specs.Internal.Walking.{AreRulesBelow}
use Rattle.lalrpop_emit.proofs.ByteCuts.{character_of_rest}
use Rattle.lalrpop_emit.proofs.AheadColumns.{HasColumns, first_column, columns_after, by_character, by_within_column, by_bad_column}
use Rattle.lalrpop_emit.proofs.AheadColumns.FirstColumn.{within, character, bad}
use Rattle.lalrpop_emit.proofs.Walks.{IsWalked, rule_below, walked_more, walk_accepts, walk_rejects, walk_stops}
use Rattle.lalrpop_emit.proofs.AheadPlaces.{IsOpen, IsPlace, by_size, within_no_end, here_of, further_on, begins}

-- ---- the end of the token

-- the bytes up to here are a match of this rule, in this row
record IsAccepting (t : TableNumbers) (text : List ℕ) (at : ℕ) (s : Standing) (rule : ℕ) : Type 0 where
  row : ℕ
  walked : IsWalked t text at row
  live : t.live ≤ row
  accept : t.accept ≤ row
  rule_is : slice_index t.cells (row + t.width) ≡ rule
  leads : (class : ℕ) → by_class t class s ≡ led t row class

-- the rule of a row, if it accepts
accepting_row : (t : TableNumbers) (row rule : ℕ) → (if accepts t row then Some (slice_index t.cells (row + t.width)) else None) ≡ Some rule
    → (t.accept ≤ row) × (slice_index t.cells (row + t.width) ≡ rule)
accepting_row t row rule =
    by_size (λ found. found ≡ Some rule → (t.accept ≤ row) × (slice_index t.cells (row + t.width) ≡ rule)) t.accept row _ None
    (λ accept e. (accept, same_Some _ _ e))
    (λ low e. absurd cc)

accepting : (t : TableNumbers) (text : List ℕ) (at rule : ℕ) (s : Standing) → IsOpen t text at s → rule_at t s ≡ Some rule → IsAccepting t text at s rule
accepting t text at rule Begin w e = absurd cc
accepting t text at rule Lost w e = absurd cc
accepting t text at rule Ended w e = absurd cc
accepting t text at rule (In row) w e =
    let found = accepting_row t row rule e in
    record { row = row; walked = w.0; live = w.1; accept = found.0; rule_is = found.1; leads = λ class. refl }
accepting t text at rule (Again row) w e =
    let found = accepting_row t row rule e in
    record { row = row; walked = w.0; live = w.1; accept = found.0; rule_is = found.1; leads = λ class. refl }

accepted_below : (t : TableNumbers) (text : List ℕ) (at rule count : ℕ) (s : Standing) → IsAccepting t text at s rule → AreRulesBelow t count → rule < count
accepted_below t text at rule count s a below = rule_below t text at a.row rule count below a.walked a.live a.accept (sym a.rule_is)

module _ (t : TableNumbers) (width : ℕ) (d : List Row) (ts : List Tree) (ps : List ℕ) (has : HasColumns t width) (h : IsTableFor t d) (r : Recognizes d ts ps) (text : List ℕ) where
  longest_up_to : (at rule : ℕ) (s : Standing) → 0 < at → IsAccepting t text at s rule → IsLongestUpTo ts ps text at (Some (rule, take at text))
  longest_up_to at rule s some a =
      subst (λ (n : ℕ). IsLongestUpTo ts ps text at (Some (n, take at text))) a.rule_is
      (walk_accepts t d text at a.row h a.walked some a.live a.accept ts ps r)

  -- the next character leads to no live row
  character_ends : (at rule c : ℕ) (s : Standing) → 0 < at → IsAccepting t text at s rule → IsCharacterAt text at c → is_end (by_class t (character_class t c) s) ≡ true
      → IsLongest ts ps text (Some (rule, take at text))
  character_ends at rule c s some a here end =
      by_size (λ s2. is_end s2 ≡ true → IsLongest ts ps text (Some (rule, take at text))) t.live (row_by t a.row (character_class t c)) _ _
      (λ live e. absurd cc)
      (λ dead e.
      let at2 = at + length (encode_utf8 c) in
      let row2 = row_by t a.row (character_class t c) in
      walk_rejects t d text at at2 a.row row2 c (Some (rule, take at text)) h a.walked (walked_more t text at at2 a.row row2 c a.walked here refl refl) here refl dead ts ps r
      (longest_up_to at rule s some a))
      (ap is_end (sym (a.leads (character_class t c))) ∙ end)

  -- where a token of this rule may end, and one ends before the next column, it is the longest match
  longest_here : (at rule : ℕ) (s : Standing) (column : ℕ) (columns : List ℕ) → 0 < at → IsPlace t width text at s (column ∷ columns) → rule_at t s ≡ Some rule
      → is_end (by_column t width s column) ≡ true → IsLongest ts ps text (Some (rule, take at text)) × (at ≤ length text)
  longest_here at rule s column columns some p found end =
      let a = accepting t text (at + p.left) rule s p.token found in
      let fits : at + p.left ≤ length text = a.walked.read.within in (
        elim (first_column t width p.left (drop at text) column columns p.columns_are) [
          | within n e is rest ↦ absurd (let none = ap is_end (by_within_column t width s column has is) ∙ within_no_end t text s in cc)
          | character c e here is rest ↦
              let there : at + p.left ≡ at = omega (arith, e) in
              character_ends at rule c s some (subst (λ (n : ℕ). IsAccepting t text n s rule) there a) (here_of t text at c here)
              (ap is_end (sym (by_character t width s column c has here.scalar is)) ∙ end)
          | bad e none is rest ↦
              let there : at + p.left ≡ at = omega (arith, e (omega (arith, fits, length-drop at text))) in
              let b = subst (λ (n : ℕ). IsAccepting t text n s rule) there a in
              walk_stops t text at b.row (Some (rule, take at text)) b.walked (λ c here. none c (character_of_rest text at at 0 c (omega arith) here)) ts ps
              (longest_up_to at rule s some b)
        ],
        omega (arith, fits),
      )

-- ---- from end to end

-- a token ends at this place of the run
abbrev pub ends_at : TableNumbers → ℕ → List ℕ → ℕ → Bool
ends_at t width columns at = is_end (standing_after t width (take (at + 1) columns))

-- a token may begin at this place: the run begins there, or another token ends
abbrev pub BeginsAt : TableNumbers → ℕ → List ℕ → ℕ → Type 0
BeginsAt t width columns at = (at ≡ 0) ⊎ IsTrue (ends_at t width columns at)

-- y is the next place after x at which a token ends
pub record IsNextEnd (t : TableNumbers) (width : ℕ) (columns : List ℕ) (x y : ℕ) : Type 0 where
  pub further : x < y
  pub inside : y < length columns
  pub ends : IsTrue (ends_at t width columns y)
  pub none_between : (z : ℕ) → x < z → z < y → ¬ IsTrue (ends_at t width columns z)

-- ---- the run up to the next end

-- what is known after one more column
standing_more : (t : TableNumbers) (width : ℕ) (columns : List ℕ) (at : ℕ) → at < length columns
    → standing_after t width (take (at + 1) columns) ≡ by_column t width (standing_after t width (take at columns)) (get_or columns at 0)
standing_more t width columns at l = fold_more (λ s column. by_column t width s column) Begin columns at 0 l

-- a run doesn't begin with an end
begin_no_end : (t : TableNumbers) (width left : ℕ) (bytes : List ℕ) (column : ℕ) (columns : List ℕ) → HasColumns t width → AreColumns t width left bytes (column ∷ columns)
    → is_end (by_column t width Begin column) ≡ false
begin_no_end t width left bytes column columns has h = elim (first_column t width left bytes column columns h) [
  | within k e is rest ↦ ap is_end (by_within_column t width Begin column has is)
  | character c e here is rest ↦
      ap is_end (by_character t width Begin column c has here.scalar is)
      ∙ by_size (λ s. is_end s ≡ false) t.live (row_by t t.start (character_class t c)) _ _ (λ live. refl) (λ dead. refl)
  | bad e none is rest ↦ ap is_end (by_bad_column t width Begin column has is)
]

-- the columns from a place of the run on
columns_from : (columns : List ℕ) (at : ℕ) → at < length columns → drop at columns ≡ get_or columns at 0 ∷ drop (at + 1) columns
columns_from columns at l = let next : suc at ≡ at + 1 = omega arith in drop-cons columns at 0 l ∙ ap (λ (k : ℕ). get_or columns at 0 ∷ drop k columns) next

module _ (t : TableNumbers) (width : ℕ) (text columns : List ℕ) (has : HasColumns t width) (are : AreColumns t width 0 text columns) where
  -- what is known at a place of the run, where the token begins at x
  abbrev IsPlaceFrom : ℕ → ℕ → ℕ → Type 0
  IsPlaceFrom x at place = IsPlace t width (drop x text) at (standing_after t width (take place columns)) (drop place columns)

  no_first_end : 0 < length columns → ends_at t width columns 0 ≡ false
  no_first_end l =
      ap is_end (standing_more t width columns 0 l)
      ∙ begin_no_end t width 0 text (get_or columns 0 0) (drop 1 columns) has (subst (AreColumns t width 0 text) (columns_from columns 0 l) are)

  place_further : (x at place : ℕ) → place < length columns → IsPlaceFrom x at place → ends_at t width columns place ≡ false → IsPlaceFrom x (at + 1) (place + 1)
  place_further x at place l p none =
      let s = standing_after t width (take place columns) in
      let column = get_or columns place 0 in
      let more = standing_more t width columns place l in
      subst (λ s2. IsPlace t width (drop x text) (at + 1) s2 (drop (place + 1) columns)) (sym more)
      (further_on t width (drop x text) at s column (drop (place + 1) columns) has (subst (IsPlace t width (drop x text) at s) (columns_from columns place l) p)
      (ap is_end (sym more) ∙ none))

  place_after_end : (x : ℕ) → x < length columns → ends_at t width columns x ≡ true → IsPlaceFrom x 1 (x + 1)
  place_after_end x l end =
      let more = standing_more t width columns x l in
      let from = columns_after t width x text columns 0 are in
      subst (λ s. IsPlace t width (drop x text) 1 s (drop (x + 1) columns)) (sym more)
      (begins t width (drop x text) from.0 (standing_after t width (take x columns)) (get_or columns x 0) (drop (x + 1) columns) has
      (subst (AreColumns t width from.0 (drop x text)) (columns_from columns x l) from.1) (ap is_end (sym more) ∙ end))

  first_place : (x : ℕ) → x < length columns → BeginsAt t width columns x → IsPlaceFrom x 1 (x + 1)
  first_place x l (inl zero_is) =
      subst (λ (k : ℕ). IsPlaceFrom k 1 (k + 1)) (sym zero_is)
      (place_further 0 0 0 (omega (arith, l)) (record { left = 0; columns_are = are; token = refl }) (no_first_end (omega (arith, l))))
  first_place x l (inr end) = place_after_end x l end

  module _ (x y : ℕ) (begun : BeginsAt t width columns x) (n : IsNextEnd t width columns x y) where
    -- what is known at each place up to the next end
    place_in : (more at place : ℕ) → at ≡ more + 1 → place ≡ x + at → place ≤ y → IsPlaceFrom x at place
    place_in zero at place e is l =
        subst (λ (k : ℕ). IsPlaceFrom x k place) (sym e)
        (subst (IsPlaceFrom x 1) (omega (arith, e, is)) (first_place x (omega (arith, n.further, n.inside)) begun))
    place_in (suc more) at place e is l =
        let before = place_in more (more + 1) (x + (more + 1)) refl refl (omega (arith, e, is, l)) in
        let none = n.none_between (x + (more + 1)) (omega arith) (omega (arith, e, is, l)) in
        let next = place_further x (more + 1) (x + (more + 1)) (omega (arith, e, is, l, n.inside)) before (false_from_ne_true _ none) in
        subst (λ (k : ℕ). IsPlaceFrom x k place) (omega (arith, e)) (subst (IsPlaceFrom x (more + 1 + 1)) (omega (arith, e, is)) next)

-- what lies between two neighbouring ends is the longest match, by the rule that is known right before the second
pub between_ends : (t : TableNumbers) (width : ℕ) (d : List Row) (ts : List Tree) (ps text columns : List ℕ) (x y rule : ℕ) → HasColumns t width → IsTableFor t d → Recognizes d ts ps
    → AreColumns t width 0 text columns → BeginsAt t width columns x → IsNextEnd t width columns x y → rule_at t (standing_after t width (take y columns)) ≡ Some rule
    → IsLongest ts ps (drop x text) (Some (rule, take (y - x) (drop x text))) × (y ≤ length text)
between_ends t width d ts ps text columns x y rule has h r are begun n rule_is =
    let place = place_in t width text columns has are x y begun n (y - x - 1) (y - x) y (omega (arith, n.further)) (omega (arith, n.further)) (omega arith) in
    let more = standing_more t width columns y n.inside in
    let s = standing_after t width (take y columns) in
    let found =
    longest_here t width d ts ps has h r (drop x text) (y - x) rule s (get_or columns y 0) (drop (y + 1) columns) (omega (arith, n.further))
    (subst (IsPlace t width (drop x text) (y - x) s) (columns_from columns y n.inside) place) rule_is (ap is_end (sym more) ∙ n.ends) in
    (found.0, omega (arith, found.1, length-drop x text, n.further))

-- it lies within the text, and its rule is among those of the table
pub token_between : (t : TableNumbers) (width : ℕ) (text columns : List ℕ) (x y rule : ℕ) → HasColumns t width → AreColumns t width 0 text columns → BeginsAt t width columns x
    → IsNextEnd t width columns x y → rule_at t (standing_after t width (take y columns)) ≡ Some rule → (y ≤ length text) × ((count : ℕ) → AreRulesBelow t count → rule < count)
token_between t width text columns x y rule has are begun n rule_is =
    let place = place_in t width text columns has are x y begun n (y - x - 1) (y - x) y (omega (arith, n.further)) (omega (arith, n.further)) (omega arith) in
    let s = standing_after t width (take y columns) in
    let a = accepting t (drop x text) (y - x + place.left) rule s place.token rule_is in (
      omega (arith, a.walked.read.within, length-drop x text, n.further),
      λ count below. accepted_below t (drop x text) (y - x + place.left) rule count s a below,
    )
