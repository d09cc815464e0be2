-- What a column of a run says of the bytes, and where it leads.
use Rattle.std.proofs.Common.{◌≡◌, ℕ, zero, suc, ◌+◌, ◌-◌, ◌<◌, ◌≤◌, ⊎_elim, List, [], ◌∷◌, length, drop, refl, ap, subst, ◌∙◌, arith, lt-ltb, le-ltb, length-append}
use Rattle.std.specs.Char.{encode_utf8, IsScalar}
use Rattle.std.proofs.lemmas.Bool.{cond-true, cond-false, cases_lt, eq-eqb, ne_eqb}
use Rattle.std.proofs.lemmas.List.{drop-drop}
use Rattle.lalrpop_dense.specs.DenseTable.{TableNumbers, character_class}
use Rattle.lalrpop_emit.specs.Internal.Characters.{IsCharacterAt}
use Rattle.lalrpop_emit.specs.Ahead.{Standing, AheadNumbers, IsAheadOf, character_column, within_column, bad_column, by_class, by_within, by_bad, by_column}
use Rattle.lalrpop_emit.specs.Internal.Columns.{AreColumns}
use Rattle.lalrpop_emit.proofs.Walks.{character_size, scalar_below}

-- ---- how many columns there are

-- the columns are those of ASCII, one for each class of a character beyond it, and the last two
pub record HasColumns (t : TableNumbers) (width : ℕ) : Type 0 where
  pub columns : 130 ≤ width
  pub beyond : (c : ℕ) → 128 ≤ c → c < 1114112 → 128 + character_class t c < within_column width

pub has_columns : (a : AheadNumbers) (t : TableNumbers) → IsAheadOf a t → HasColumns t a.width
has_columns a t h = record { columns = h.columns; beyond = h.beyond }

-- ---- what a column says

-- what the first column says of the first byte, where `left` bytes are within a character
pub data FirstColumn (t : TableNumbers) (width : ℕ) (bytes : List ℕ) (left column : ℕ) (columns : List ℕ) : Type 0 where
  within : (k : ℕ) → left ≡ suc k → column ≡ within_column width → AreColumns t width k (drop 1 bytes) columns → FirstColumn t width bytes left column columns
  character : (c : ℕ) → left ≡ 0 → IsCharacterAt bytes 0 c → column ≡ character_column t c → AreColumns t width (length (encode_utf8 c) - 1) (drop 1 bytes) columns
      → FirstColumn t width bytes left column columns
  bad : (left ≤ length bytes → left ≡ 0) → ((c : ℕ) → ¬ IsCharacterAt bytes 0 c) → column ≡ bad_column width → AreColumns t width 0 (drop 1 bytes) columns
      → FirstColumn t width bytes left column columns

-- no character begins where the text ends
none_at_end : (c : ℕ) → ¬ IsCharacterAt [] 0 c
none_at_end c h = omega (arith, character_size c, ap length h.split, length-append (encode_utf8 c) h.rest)

pub first_column : (t : TableNumbers) (width left : ℕ) (bytes : List ℕ) (column : ℕ) (columns : List ℕ) → AreColumns t width left bytes (column ∷ columns)
    → FirstColumn t width bytes left column columns
first_column t width left [] column columns h = bad (λ fits. omega (arith, fits)) none_at_end h.0 h.1
first_column t width (suc left) (b ∷ bytes) column columns h = within left refl h.0 h.1
first_column t width zero (b ∷ bytes) column columns h =
    ⊎_elim (λ one. character one.0 refl one.1.0 one.1.1 one.1.2) (λ none. bad (λ fits. refl) none.0 none.1 none.2) h

-- how many of the bytes after the first are within a character
left_after : (t : TableNumbers) (width : ℕ) (bytes : List ℕ) (left column : ℕ) (columns : List ℕ) → FirstColumn t width bytes left column columns → (k : ℕ) × AreColumns t width k (drop 1 bytes) columns
left_after t width bytes left column columns (within k e is rest) = (k, rest)
left_after t width bytes left column columns (character c e here is rest) = (length (encode_utf8 c) - 1, rest)
left_after t width bytes left column columns (bad e none is rest) = (0, rest)

one_more : (n : ℕ) → 1 + n ≡ suc n
one_more n = omega arith

-- the columns of what follows the first `n` bytes
pub columns_after : (t : TableNumbers) (width n : ℕ) (text columns : List ℕ) (left : ℕ) → AreColumns t width left text columns → (k : ℕ) × AreColumns t width k (drop n text) (drop n columns)
columns_after t width zero text columns left h = (left, h)
columns_after t width (suc n) text [] left h = (0, tt)
columns_after t width (suc n) text (column ∷ columns) left h =
    let next = left_after t width text left column columns (first_column t width left text column columns h) in
    let later = columns_after t width n (drop 1 text) columns next.0 next.1 in
    (later.0, subst (λ bytes. AreColumns t width later.0 bytes (drop n columns)) (drop-drop n 1 text ∙ ap (λ (k : ℕ). drop k text) (one_more n)) later.1)

-- ---- where a column leads

pub by_character : (t : TableNumbers) (width : ℕ) (s : Standing) (column c : ℕ) → HasColumns t width → IsScalar c → column ≡ character_column t c
    → by_column t width s column ≡ by_class t (character_class t c) s
by_character t width s column c h scalar is =
    ⊎_elim
    (λ (ascii : c < 128).
    ap (by_column t width s) (is ∙ cond-true _ c (128 + character_class t c) (lt-ltb c 128 ascii)) ∙ cond-true _ _ _ (lt-ltb c 128 ascii))
    (λ (other : 128 ≤ c).
    let behind : 128 + character_class t c - 128 ≡ character_class t c = omega arith in
    ap (by_column t width s) (is ∙ cond-false _ c (128 + character_class t c) (le-ltb c 128 other))
    ∙ cond-false _ _ _ (le-ltb (128 + character_class t c) 128 (omega arith))
    ∙ cond-true _ _ _ (lt-ltb (128 + character_class t c) (within_column width) (h.beyond c other (scalar_below c scalar)))
    ∙ ap (λ (k : ℕ). by_class t k s) behind)
    (cases_lt c 128)

pub by_within_column : (t : TableNumbers) (width : ℕ) (s : Standing) (column : ℕ) → HasColumns t width → column ≡ within_column width → by_column t width s column ≡ by_within s
by_within_column t width s column h is =
    ap (by_column t width s) is
    ∙ cond-false _ _ _ (le-ltb (within_column width) 128 (omega (arith, h.columns)))
    ∙ cond-false _ _ _ (le-ltb (within_column width) (within_column width) (omega arith))
    ∙ cond-true _ _ _ (eq-eqb (within_column width) (within_column width) refl)

pub by_bad_column : (t : TableNumbers) (width : ℕ) (s : Standing) (column : ℕ) → HasColumns t width → column ≡ bad_column width → by_column t width s column ≡ by_bad t s
by_bad_column t width s column h is =
    ap (by_column t width s) is
    ∙ cond-false _ _ _ (le-ltb (bad_column width) 128 (omega (arith, h.columns)))
    ∙ cond-false _ _ _ (le-ltb (bad_column width) (within_column width) (omega (arith, h.columns)))
    ∙ cond-false _ _ _ (ne_eqb (bad_column width) (within_column width) (λ e. omega (arith, e, h.columns)))
