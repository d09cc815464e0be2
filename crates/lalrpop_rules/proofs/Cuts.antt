-- What cuts a text in each mode.
use Rattle.std.proofs.Common.{◌≡◌, ◌≢◌, ℕ, zero, suc, ◌+◌, ◌<◌, ◌≤◌, ◌⊎◌, inl, inr, List, [], ◌∷◌, length, drop, slice_set, refl, sym, ap, subst, ◌∙◌, arith}
use Rattle.std.specs.Prelude.{Option, Some, slice_get, sum_by}
use Rattle.std.specs.Str.{chars, IsUtf8, IsCharBoundary}
use Rattle.std.proofs.lemmas.Bool.{cases_eq}
use Rattle.std.proofs.lemmas.List.{length-set}
use Rattle.std.proofs.lemmas.List.Sums.{sum_by-cons}
use Rattle.lalrpop_hir.specs.Prefix.{IsPrefix}
use Rattle.lalrpop_lexer.proofs.Standings.{fewer_behind}
use Rattle.lalrpop_rules.specs.Internal.CutToEnd.{CutToEnd, IsPaid, GivesPiece, PassesTo, IsSoughtFromRest, IsSoughtAfterPiece}
use Rattle.lalrpop_rules.specs.Pieces.{IsPiece, slice_of}
use Rattle.lalrpop_rules.specs.declared.piece.Piece.{Piece}
use Rattle.lalrpop_rules.specs.declared.piece.Piece.TheVariants.{Token, Skipped, Fault}
use Rattle.std.proofs.lemmas.Str.{IsUtf8-drop}
use Rattle.lalrpop_rules.proofs.PieceLaws.{is_front}
use Rattle.lalrpop_rules.specs.Modes.{ModeRules, trees_in}
use Rattle.lalrpop_rules.specs.Internal.Cutting.{spare_of, unsought_in, memo_in, steps_in, IsCutIn, HasSoughtUpTo, AreCuts, IsSoughtAfter}

-- ---- one of a list is replaced

some_same : {A : Type 0} {x y : A} → Some x ≡ Some y → x ≡ y
some_same e = cc

below_none : {i : ℕ} → i < 0 → ⊥
below_none h = omega (arith, h)

pub get_set : {A : Type 0} (xs : List A) (i : ℕ) (y : A) → i < length xs → slice_get (slice_set xs i y) i ≡ Some y
get_set [] i y within = absurd (below_none within)
get_set (x ∷ xs) zero y within = refl
get_set (x ∷ xs) (suc i) y within = get_set xs i y (omega (arith, within))

pub get_set_other : {A : Type 0} (xs : List A) (i j : ℕ) (y : A) → j ≢ i → slice_get (slice_set xs i y) j ≡ slice_get xs j
get_set_other [] i j y other = refl
get_set_other (x ∷ xs) zero zero y other = absurd (other refl)
get_set_other (x ∷ xs) zero (suc j) y other = refl
get_set_other (x ∷ xs) (suc i) zero y other = refl
get_set_other (x ∷ xs) (suc i) (suc j) y other = get_set_other xs i j y (λ same. other (ap suc same))

pub set_same : {A : Type 0} (xs : List A) (i : ℕ) (x : A) → slice_get xs i ≡ Some x → slice_set xs i x ≡ xs
set_same [] i x is = refl
set_same (z ∷ xs) zero x is =
    let same : z ≡ x = some_same is in
    ap (λ y. y ∷ xs) (sym same)
set_same (z ∷ xs) (suc i) x is = ap (λ ys. z ∷ ys) (set_same xs i x is)

pub sum_set : {A : Type 0} (f : A → ℕ) (xs : List A) (i : ℕ) (x y : A) → slice_get xs i ≡ Some x → sum_by f (slice_set xs i y) + f x ≡ sum_by f xs + f y
sum_set f [] zero x y is = absurd (cc)
sum_set f [] (suc i) x y is = absurd (cc)
sum_set f (z ∷ xs) zero x y is =
    let same : z ≡ x = cc in
    omega (arith, sum_by-cons f y xs, sum_by-cons f z xs, ap f same)
sum_set f (z ∷ xs) (suc i) x y is = omega (arith, sum_set f xs i x y is, sum_by-cons f z (slice_set xs i y), sum_by-cons f z xs)

-- ---- a piece is cut

-- the mode's own memo says how much of the text it has not sought
pub unsought_here : (mode : ℕ) (cs : List CutToEnd) (c : CutToEnd) → slice_get cs mode ≡ Some c → (memo_in mode cs).unsought ≡ c.memo.unsought
unsought_here mode cs c is = ap (λ (o : Option CutToEnd). unsought_in o) is

-- a place further on
further : (r : ModeRules) (text : List ℕ) (at later m : ℕ) (c : CutToEnd) → at ≤ later → IsCutIn r text at m c → IsCutIn r text later m c
further r text at later m c on is = record {
  trees = is.trees;
  precedences = is.precedences;
  skips = is.skips;
  same_text = is.same_text;
  behind = omega (arith, on, is.behind);
}

sought_further : (text p : List ℕ) (at : ℕ) (c : CutToEnd) → c.text ≡ text → IsPrefix p (drop at text) → HasSoughtUpTo at c → HasSoughtUpTo (at + length p) c
sought_further text p at c same b h =
    omega (
      arith,
      h,
      fewer_behind text p at b,
      ap (λ (t : List ℕ). length (chars (drop at t))) same,
      ap (λ (t : List ℕ). length (chars (drop (at + length p) t))) same,
    )

-- the mode's own piece is the piece of the text
pub own_piece : (r : ModeRules) (text : List ℕ) (at mode : ℕ) (c : CutToEnd) (x : Piece) → IsCutIn r text at mode c → c.at ≡ at
    → IsPiece c.rules.trees c.rules.precedences c.skips c.text c.at x → IsPiece (trees_in r mode) r.precedences r.skips text at x
own_piece r text at mode c x is here piece = rw (is.trees, is.precedences, is.skips, is.same_text, here) at piece

-- what cuts the text in a mode has cut a piece
cut_on : (r : ModeRules) (text : List ℕ) (at mode : ℕ) (c d : CutToEnd) (x : Piece) → IsCutIn r text at mode c → c.at ≡ at → GivesPiece c (Some x) d
    → IsCutIn r text (at + length (slice_of x)) mode d × (d.at ≡ at + length (slice_of x))
cut_on r text at mode c d x is here g =
    let there : d.at ≡ at + length (slice_of x) = ap (λ (w : CutToEnd). w.at) g.1 ∙ ap (λ (n : ℕ). n + length (slice_of x)) here in (
      record {
        trees = ap (λ (w : CutToEnd). w.rules.trees) g.1 ∙ is.trees;
        precedences = ap (λ (w : CutToEnd). w.rules.precedences) g.1 ∙ is.precedences;
        skips = ap (λ (w : CutToEnd). w.skips) g.1 ∙ is.skips;
        same_text = ap (λ (w : CutToEnd). w.text) g.1 ∙ is.same_text;
        behind = omega (arith, there);
      },
      there,
    )

-- the others are as they were
pub cuts_on : (r : ModeRules) (text : List ℕ) (at mode : ℕ) (cs : List CutToEnd) (c d : CutToEnd) (x : Piece) → IsUtf8 text → IsCharBoundary text at
    → AreCuts r text at mode cs → slice_get cs mode ≡ Some c → mode < length cs → GivesPiece c (Some x) d
    → AreCuts r text (at + length (slice_of x)) mode (slice_set cs mode d)
cuts_on r text at mode cs c d x u b are is within g =
    let piece : IsPiece (trees_in r mode) r.precedences r.skips text at x = own_piece r text at mode c x (are.each mode c is) (are.here c is) g.0 in
    let front : IsPrefix (slice_of x) (drop at text) = is_front (trees_in r mode) r.precedences r.skips text at x (IsUtf8-drop text at u b) piece in
    let on = cut_on r text at mode c d x (are.each mode c is) (are.here c is) g in
    let here : slice_get (slice_set cs mode d) mode ≡ Some d = get_set cs mode d within in
    record {
      all = length-set cs mode d ∙ are.all;
      each = λ m e at_m. one_of m e at_m (cases_eq m mode);
      here = λ e at_mode. ap (λ (w : CutToEnd). w.at) (some_same (sym at_mode ∙ here)) ∙ on.1;
      others = λ m e at_m other.
          let before : slice_get cs m ≡ Some e = sym (get_set_other cs mode m d other) ∙ at_m in
          sought_further text (slice_of x) at e (are.each m e before).same_text front (are.others m e before other);
    }
  where
    one_of : (m : ℕ) (e : CutToEnd) → slice_get (slice_set cs mode d) m ≡ Some e → (m ≡ mode) ⊎ (m ≢ mode) → IsCutIn r text (at + length (slice_of x)) m e
    one_of m e at_m (inl same) =
        let there : d ≡ e = some_same (sym (get_set cs mode d within) ∙ ap (λ (k : ℕ). slice_get (slice_set cs mode d) k) (sym same) ∙ at_m) in
        let on = (cut_on r text at mode c d x (are.each mode c is) (are.here c is) g).0 in
        subst (λ (k : ℕ). IsCutIn r text (at + length (slice_of x)) k e) (sym same) (subst (λ (w : CutToEnd). IsCutIn r text (at + length (slice_of x)) mode w) there on)
    one_of m e at_m (inr other) = further r text at (at + length (slice_of x)) m e (omega arith) (are.each m e (sym (get_set_other cs mode m d other) ∙ at_m))

-- what the mode pays is paid for by all
pub piece_paid : (mode : ℕ) (cs : List CutToEnd) (c d : CutToEnd) → slice_get cs mode ≡ Some c → mode < length cs → IsPaid c.steps c.memo d.steps d.memo
    → IsPaid (steps_in cs) (memo_in mode cs) (steps_in (slice_set cs mode d)) (memo_in mode (slice_set cs mode d))
piece_paid mode cs c d is within paid =
    let steps = sum_set (λ (w : CutToEnd). w.steps) cs mode c d is in
    let spare = sum_set spare_of cs mode c d is in
    let here = unsought_here mode cs c is in
    let there = unsought_here mode (slice_set cs mode d) d (get_set cs mode d within) in
    (omega (arith, paid.0, steps), omega (arith, paid.1, steps, spare, here, there))

-- after a token, no match after it is found yet
pub piece_sought : (r : ModeRules) (text : List ℕ) (at mode : ℕ) (cs : List CutToEnd) (c d : CutToEnd) (x : Piece) → IsCutIn r text at mode c → c.at ≡ at
    → mode < length cs → GivesPiece c (Some x) d → IsSoughtAfterPiece x d
    → IsSoughtAfter x (record { rules = r; text = text; at = at + length (slice_of x); mode = mode; memo = memo_in mode (slice_set cs mode d); steps = steps_in (slice_set cs mode d) })
piece_sought r text at mode cs c d x one here within g sought = by_item x (cut_on r text at mode c d x one here g) sought
  where
    found : (place : ℕ) → IsCutIn r text place mode d → d.at ≡ place → IsSoughtFromRest d
        → (memo_in mode (slice_set cs mode d)).unsought ≡ length (chars (drop place text))
    found place on there h =
        let own : d.memo.unsought ≡ length (chars (drop place text)) = rw (there, on.same_text) at h in
        unsought_here mode (slice_set cs mode d) d (get_set cs mode d within) ∙ own

    by_item : (x : Piece) → IsCutIn r text (at + length (slice_of x)) mode d × (d.at ≡ at + length (slice_of x)) → IsSoughtAfterPiece x d
        → IsSoughtAfter x (record { rules = r; text = text; at = at + length (slice_of x); mode = mode; memo = memo_in mode (slice_set cs mode d); steps = steps_in (slice_set cs mode d) })
    by_item (Token token) on h = found (at + length token.slice.now) on.0 on.1 h
    by_item (Skipped token) on h = found (at + length token.slice.now) on.0 on.1 h
    by_item (Fault start slice) on h = tt

-- ---- another mode is entered

-- that of the mode before has found no match after the rest
old_sought : (text : List ℕ) (at old : ℕ) (cs : List CutToEnd) (c : CutToEnd) → slice_get cs old ≡ Some c → c.text ≡ text
    → (memo_in old cs).unsought ≡ length (chars (drop at text)) → HasSoughtUpTo at c
old_sought text at old cs c is same sought = omega (arith, sought, unsought_here old cs c is, ap (λ (t : List ℕ). length (chars (drop at t))) same)

-- it is passed on
passed_on : (r : ModeRules) (text : List ℕ) (at mode : ℕ) (c d : CutToEnd) → IsCutIn r text at mode c → PassesTo c at d → IsCutIn r text at mode d × (d.at ≡ at)
passed_on r text at mode c d is g =
    let there : d.at ≡ at = ap (λ (w : CutToEnd). w.at) g.0 in (
      record {
        trees = ap (λ (w : CutToEnd). w.rules.trees) g.0 ∙ is.trees;
        precedences = ap (λ (w : CutToEnd). w.rules.precedences) g.0 ∙ is.precedences;
        skips = ap (λ (w : CutToEnd). w.skips) g.0 ∙ is.skips;
        same_text = ap (λ (w : CutToEnd). w.text) g.0 ∙ is.same_text;
        behind = omega (arith, there);
      },
      there,
    )

pub cuts_entered : (r : ModeRules) (text : List ℕ) (at old mode : ℕ) (cs : List CutToEnd) (c d : CutToEnd) → AreCuts r text at old cs
    → slice_get cs mode ≡ Some c → mode < length cs → (memo_in old cs).unsought ≡ length (chars (drop at text)) → PassesTo c at d
    → AreCuts r text at mode (slice_set cs mode d)
cuts_entered r text at old mode cs c d are is within sought g =
    let on = passed_on r text at mode c d (are.each mode c is) g in
    let here : slice_get (slice_set cs mode d) mode ≡ Some d = get_set cs mode d within in
    record {
      all = length-set cs mode d ∙ are.all;
      each = λ m e at_m. one_of m e at_m (cases_eq m mode);
      here = λ e at_mode. ap (λ (w : CutToEnd). w.at) (some_same (sym at_mode ∙ here)) ∙ on.1;
      others = λ m e at_m other. other_of m e (sym (get_set_other cs mode m d other) ∙ at_m) (cases_eq m old);
    }
  where
    one_of : (m : ℕ) (e : CutToEnd) → slice_get (slice_set cs mode d) m ≡ Some e → (m ≡ mode) ⊎ (m ≢ mode) → IsCutIn r text at m e
    one_of m e at_m (inl same) =
        let there : d ≡ e = some_same (sym (get_set cs mode d within) ∙ ap (λ (k : ℕ). slice_get (slice_set cs mode d) k) (sym same) ∙ at_m) in
        let on = (passed_on r text at mode c d (are.each mode c is) g).0 in
        subst (λ (k : ℕ). IsCutIn r text at k e) (sym same) (subst (λ (w : CutToEnd). IsCutIn r text at mode w) there on)
    one_of m e at_m (inr other) = are.each m e (sym (get_set_other cs mode m d other) ∙ at_m)

    other_of : (m : ℕ) (e : CutToEnd) → slice_get cs m ≡ Some e → (m ≡ old) ⊎ (m ≢ old) → HasSoughtUpTo at e
    other_of m e before (inl same) =
        old_sought text at old cs e (ap (λ (k : ℕ). slice_get cs k) (sym same) ∙ before) (are.each m e before).same_text sought
    other_of m e before (inr other) = are.others m e before other

-- what it spends is paid for by all
pub enter_paid : (r : ModeRules) (text : List ℕ) (at old mode : ℕ) (cs : List CutToEnd) (c d : CutToEnd) → AreCuts r text at old cs
    → slice_get cs mode ≡ Some c → mode < length cs → (memo_in old cs).unsought ≡ length (chars (drop at text))
    → PassesTo c at d → IsPaid (steps_in cs) (memo_in old cs) (steps_in (slice_set cs mode d)) (memo_in mode (slice_set cs mode d))
enter_paid r text at old mode cs c d are is within sought g =
    let on = passed_on r text at mode c d (are.each mode c is) g in
    let own : d.memo.unsought ≡ length (chars (drop at text)) = rw (on.1, on.0.same_text) at g.1 in
    let there = unsought_here mode (slice_set cs mode d) d (get_set cs mode d within) in
    let steps = sum_set (λ (w : CutToEnd). w.steps) cs mode c d is in
    let spare = sum_set spare_of cs mode c d is in
    (omega (arith, g.2.0, steps), omega (arith, g.2.1, steps, spare, own, there, sought))
