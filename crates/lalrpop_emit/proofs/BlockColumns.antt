-- The columns of a text, byte by byte.
use Rattle.std.proofs.Common.{◌≡◌, ℕ, zero, suc, ◌+◌, ◌-◌, ◌<◌, ◌≤◌, List, [], ◌∷◌, ◌++◌, length, take, drop, set, get_or, refl, sym, ap, subst, ◌∙◌, arith, add-one, drop-cons, inl, inr, ⊎_elim, append_assoc, lt-ltb, le-ltb}
use Rattle.std.specs.List.{All}
use Rattle.std.specs.Char.{encode_utf8, IsScalar}
use Rattle.std.proofs.lemmas.Bool.{cond-true, cond-false, cases_lt}
use Rattle.std.proofs.lemmas.List.{take_more_set, take_all, drop_all, append-nil}
use Rattle.std.proofs.lemmas.List.Elements.{All-cons, All-nil}
use Rattle.lalrpop_dense.specs.DenseTable.{TableNumbers, character_class}
use Rattle.lalrpop_emit.specs.Ahead.{character_column, within_column, bad_column}
use Rattle.lalrpop_emit.specs.Internal.Columns.{AreColumns}
use Rattle.lalrpop_emit.specs.Internal.Characters.{IsCharacterAt}
use Rattle.lalrpop_emit.proofs.CharacterBytes.{stands_one, is_scalar}
use Rattle.lalrpop_emit.proofs.ByteCuts.{character_of_rest, no_character_of_rest}
use Rattle.lalrpop_emit.proofs.AheadColumns.{HasColumns}
use Rattle.lalrpop_emit.proofs.Walks.{scalar_below}

-- ---- one column more

module _ (t : TableNumbers) (width : ℕ) (text : List ℕ) (at : ℕ) (rest : List ℕ) where
  -- after the text
  pub column_behind : (left : ℕ) → length text ≤ at → AreColumns t width 0 (drop (at + 1) text) rest → AreColumns t width left (drop at text) (bad_column width ∷ rest)
  column_behind left past h =
      let none : drop at text ≡ [] = drop_all at text past in
      let no_more : drop (at + 1) text ≡ [] = drop_all (at + 1) text (omega arith) in
      subst (λ (bs : List ℕ). AreColumns t width left bs (bad_column width ∷ rest)) (sym none) (refl, subst (λ (bs : List ℕ). AreColumns t width 0 bs rest) no_more h)

  first : at < length text → drop at text ≡ get_or text at 0 ∷ drop (at + 1) text
  first within = drop-cons text at 0 within ∙ ap (λ (n : ℕ). get_or text at 0 ∷ drop n text) (sym (add-one at))

  -- within a character
  pub column_within : (left : ℕ) → at < length text → 0 < left → AreColumns t width (left - 1) (drop (at + 1) text) rest → AreColumns t width left (drop at text) (within_column width ∷ rest)
  column_within zero within some h = absurd (omega (arith, some))
  column_within (suc left) within some h =
      let same : suc left - 1 ≡ left = omega arith in
      subst (λ (bs : List ℕ). AreColumns t width (suc left) bs (within_column width ∷ rest)) (sym (first within))
      (refl, subst (λ (n : ℕ). AreColumns t width n (drop (at + 1) text) rest) same h)

  -- at the first byte of a character
  pub column_read : (c size : ℕ) → at < length text → IsCharacterAt text at c → size ≡ length (encode_utf8 c) → AreColumns t width (size - 1) (drop (at + 1) text) rest
      → AreColumns t width 0 (drop at text) (character_column t c ∷ rest)
  column_read c size within here is h =
      let same : at ≡ at + 0 = omega arith in
      let there : IsCharacterAt (get_or text at 0 ∷ drop (at + 1) text) 0 c = subst (λ (bs : List ℕ). IsCharacterAt bs 0 c) (first within) (character_of_rest text at at 0 c same here) in
      subst (λ (bs : List ℕ). AreColumns t width 0 bs (character_column t c ∷ rest)) (sym (first within))
      (inl (c, (there, refl, subst (λ (n : ℕ). AreColumns t width (n - 1) (drop (at + 1) text) rest) is h)))

  -- at a byte that begins none
  pub column_none : at < length text → ((c : ℕ) → ¬ IsCharacterAt text at c) → AreColumns t width 0 (drop (at + 1) text) rest → AreColumns t width 0 (drop at text) (bad_column width ∷ rest)
  column_none within none h =
      let same : at ≡ at + 0 = omega arith in
      let none_there : (c : ℕ) → ¬ IsCharacterAt (get_or text at 0 ∷ drop (at + 1) text) 0 c = subst (λ (bs : List ℕ). (c : ℕ) → ¬ IsCharacterAt bs 0 c) (first within) (no_character_of_rest text at at 0 same none) in
      subst (λ (bs : List ℕ). AreColumns t width 0 bs (bad_column width ∷ rest)) (sym (first within)) (inr (none_there, refl, h))

-- ---- the columns so far

-- columns that go on after the first k are those of the whole
abbrev pub GoOn : TableNumbers → ℕ → List ℕ → ℕ → List ℕ → ℕ → ℕ → Type 0
GoOn t width text from columns k left =
    (rest : List ℕ) → AreColumns t width left (drop (from + k) text) rest → AreColumns t width 0 (drop from text) (take k columns ++ rest)

pub go_on_more : (t : TableNumbers) (width : ℕ) (text : List ℕ) (from : ℕ) (columns : List ℕ) (k left left2 column : ℕ) → k < length columns → GoOn t width text from columns k left
    → ((rest : List ℕ) → AreColumns t width left2 (drop (from + k + 1) text) rest → AreColumns t width left (drop (from + k) text) (column ∷ rest))
    → GoOn t width text from (set columns k column) (k + 1) left2
go_on_more t width text from columns k left left2 column within before next rest h =
    let same : from + (k + 1) ≡ from + k + 1 = omega arith in
    let more : take (k + 1) (set columns k column) ++ rest ≡ take k columns ++ (column ∷ rest) =
    ap (λ (cs : List ℕ). cs ++ rest) (take_more_set columns k column within) ∙ append_assoc (take k columns) (column ∷ []) rest in
    subst (AreColumns t width 0 (drop from text)) (sym more) (before (column ∷ rest) (next rest (subst (λ (n : ℕ). AreColumns t width left2 (drop n text) rest) same h)))

-- bytes of ASCII are their own columns
ascii_run : (t : TableNumbers) (width : ℕ) (text : List ℕ) (size at : ℕ) (rest : List ℕ) → at + size ≤ length text → ((i : ℕ) → at ≤ i → i < at + size → get_or text i 0 < 128)
    → AreColumns t width 0 (drop (at + size) text) rest → AreColumns t width 0 (drop at text) (take size (drop at text) ++ rest)
ascii_run t width text zero at rest within ascii h = let same : at + 0 ≡ at = omega arith in subst (λ (n : ℕ). AreColumns t width 0 (drop n text) rest) same h
ascii_run t width text (suc size) at rest within ascii h =
    let byte = get_or text at 0 in
    let low : byte < 128 = ascii at (omega arith) (omega arith) in
    let stands = stands_one text at byte (omega arith) (is_scalar byte (inl (omega (arith, low)))) (low, refl) in
    let column : character_column t byte ≡ byte = cond-true _ _ _ (lt-ltb byte 128 low) in
    let after : at + suc size ≡ at + 1 + size = omega arith in
    let more = ascii_run t width text size (at + 1) rest (omega arith) (λ i l m. ascii i (omega arith) (omega arith)) (subst (λ (n : ℕ). AreColumns t width 0 (drop n text) rest) after h) in
    let all : take (suc size) (drop at text) ++ rest ≡ byte ∷ (take size (drop (at + 1) text) ++ rest) = ap (λ (bs : List ℕ). take (suc size) bs ++ rest) (first t width text at rest (omega arith)) in
    subst (AreColumns t width 0 (drop at text)) (sym all)
    (subst (λ (n : ℕ). AreColumns t width 0 (drop at text) (n ∷ (take size (drop (at + 1) text) ++ rest))) column
    (column_read t width text at (take size (drop (at + 1) text) ++ rest) byte 1 (omega arith) stands.0 stands.1 more))

pub go_on_ascii : (t : TableNumbers) (width : ℕ) (text : List ℕ) (from : ℕ) (columns columns2 : List ℕ) (k size : ℕ) → from + k + size ≤ length text
    → ((i : ℕ) → from + k ≤ i → i < from + k + size → get_or text i 0 < 128) → take (k + size) columns2 ≡ take k columns ++ take size (drop (from + k) text)
    → GoOn t width text from columns k 0 → GoOn t width text from columns2 (k + size) 0
go_on_ascii t width text from columns columns2 k size within ascii written before rest h =
    let run = take size (drop (from + k) text) in
    let same : from + (k + size) ≡ from + k + size = omega arith in
    let more : take (k + size) columns2 ++ rest ≡ take k columns ++ (run ++ rest) = ap (λ (cs : List ℕ). cs ++ rest) written ∙ append_assoc (take k columns) run rest in
    subst (AreColumns t width 0 (drop from text)) (sym more)
    (before (run ++ rest) (ascii_run t width text size (from + k) rest within ascii (subst (λ (n : ℕ). AreColumns t width 0 (drop n text) rest) same h)))

pub go_on_last : (t : TableNumbers) (width : ℕ) (text : List ℕ) (from : ℕ) (columns : List ℕ) (k left : ℕ) → length columns ≤ k → GoOn t width text from columns k left
    → AreColumns t width 0 (drop from text) columns
go_on_last t width text from columns k left all h =
    let whole : take k columns ++ [] ≡ columns = append-nil (take k columns) ∙ take_all k columns all in
    subst (AreColumns t width 0 (drop from text)) whole (h [] tt)

-- ---- each is the number of a column

character_column_below : (t : TableNumbers) (width c : ℕ) → HasColumns t width → IsScalar c → character_column t c < width
character_column_below t width c h scalar =
    ⊎_elim (λ (ascii : c < 128). omega (arith, cond-true _ c (128 + character_class t c) (lt-ltb c 128 ascii), h.columns))
    (λ (other : 128 ≤ c). omega (arith, cond-false _ c (128 + character_class t c) (le-ltb c 128 other), h.beyond c other (scalar_below c scalar)))
    (cases_lt c 128)

pub columns_within : (t : TableNumbers) (width : ℕ) → HasColumns t width → (left : ℕ) (bytes columns : List ℕ) → AreColumns t width left bytes columns → All (λ column. column < width) columns
columns_within t width h left bytes [] are = All-nil (λ column. column < width)
columns_within t width h left [] (column ∷ columns) are =
    All-cons (λ column. column < width) column columns (omega (arith, are.0, h.columns)) (columns_within t width h zero [] columns are.1)
columns_within t width h (suc left) (b ∷ bytes) (column ∷ columns) are =
    All-cons (λ column. column < width) column columns (omega (arith, are.0, h.columns)) (columns_within t width h left bytes columns are.1)
columns_within t width h zero (b ∷ bytes) (column ∷ columns) (inl (c, are)) =
    All-cons (λ column. column < width) column columns (omega (arith, are.1, character_column_below t width c h are.0.scalar))
    (columns_within t width h (length (encode_utf8 c) - 1) bytes columns are.2)
columns_within t width h zero (b ∷ bytes) (column ∷ columns) (inr are) =
    All-cons (λ column. column < width) column columns (omega (arith, are.1, h.columns)) (columns_within t width h zero bytes columns are.2)
