-- The place after a text, by the place where it begins and by its bytes.
use Rattle.std.proofs.Common.{◌≡◌, ◌≢◌, ℕ, ◌+◌, ◌-◌, ◌<◌, ◌≤◌, ◌⊎◌, inl, inr, eqb, Bool, true, false, List, [], ◌∷◌, ◌++◌, length, take, drop, length-take, length-drop, arith, refl, sym, ap, subst, ◌∙◌, append_assoc, append-nil}
use Rattle.std.specs.Prelude.{if◌then◌else◌}
use Rattle.std.specs.Str.{chars, IsUtf8, IsCharBoundary}
use Rattle.std.proofs.Math.Utf8.{encodes}
use Rattle.std.proofs.lemmas.Bool.{cases_lt, ne_eqb}
use Rattle.std.proofs.lemmas.Bool.Decides.{eqb_tells}
use Rattle.std.proofs.lemmas.Str.{chars-append, encodes-chars, IsUtf8-between}
use Rattle.bajofeki_rules.specs.Position.{place_behind, position_of, is_line_feed, moved, place_after, IsBefore}
use Rattle.bajofeki_rules.specs.declared.position.Position.{Position}
use Rattle.bajofeki_rules.specs.Internal.Places.{next_place}
use Rattle.bajofeki_rules.proofs.Places.{place_more, chars_up_to, same_place}

-- in the same line, or in a later one
moved_same : (p q : Position) → q.line ≡ 1 → moved p q ≡ record { line = p.line; column = p.column + (q.column - 1) }
moved_same p q e = rw e refl

moved_later : (p q : Position) → q.line ≢ 1 → moved p q ≡ record { line = p.line + (q.line - 1); column = q.column }
moved_later p q e = rw (ne_eqb q.line 1 e) refl

abbrev pub at : ℕ → ℕ → Position
at line column = record { line = line; column = column }

-- a line feed first
feed_first : (p q : Position) → 1 ≤ q.line → 1 ≤ q.column → moved (at (p.line + 1) 1) q ≡ moved p (moved (at 2 1) q)
feed_first p q h k = by (eqb_tells q.line 1)
  where
    by : ((eqb q.line 1 ≡ true) × (q.line ≡ 1)) ⊎ ((eqb q.line 1 ≡ false) × (q.line ≢ 1)) → moved (at (p.line + 1) 1) q ≡ moved p (moved (at 2 1) q)
    by (inl (t, same)) =
        moved_same (at (p.line + 1) 1) q same ∙ same_place _ _ _ _ (omega arith) (omega arith)
        ∙ sym (moved_later p (at 2 (1 + (q.column - 1))) (λ e. omega (arith, e))) ∙ ap (moved p) (sym (moved_same (at 2 1) q same))
    by (inr (t, other)) =
        moved_later (at (p.line + 1) 1) q other ∙ same_place _ _ _ _ (omega (arith, other)) refl
        ∙ sym (moved_later p (at (2 + (q.line - 1)) q.column) (λ e. omega (arith, e))) ∙ ap (moved p) (sym (moved_later (at 2 1) q other))

-- so many columns first
other_first : (p q : Position) (n : ℕ) → 1 ≤ q.line → 1 ≤ q.column → moved (at p.line (p.column + n)) q ≡ moved p (moved (at 1 (1 + n)) q)
other_first p q n h k = by (eqb_tells q.line 1)
  where
    by : ((eqb q.line 1 ≡ true) × (q.line ≡ 1)) ⊎ ((eqb q.line 1 ≡ false) × (q.line ≢ 1)) → moved (at p.line (p.column + n)) q ≡ moved p (moved (at 1 (1 + n)) q)
    by (inl (t, same)) =
        moved_same (at p.line (p.column + n)) q same ∙ same_place _ _ _ _ refl (omega arith)
        ∙ sym (moved_same p (at 1 (1 + n + (q.column - 1))) refl) ∙ ap (moved p) (sym (moved_same (at 1 (1 + n)) q same))
    by (inr (t, other)) =
        moved_later (at p.line (p.column + n)) q other ∙ same_place _ _ _ _ (omega (arith, other)) refl
        ∙ sym (moved_later p (at (1 + (q.line - 1)) q.column) (λ e. other (omega (arith, e, h)))) ∙ ap (moved p) (sym (moved_later (at 1 (1 + n)) q other))

-- a line feed, or so many columns, first
pub moved_step : (p q : Position) (feed : Bool) (n : ℕ) → 1 ≤ q.line → 1 ≤ q.column
    → moved (if feed then at (p.line + 1) 1 else at p.line (p.column + n)) q ≡ moved p (moved (if feed then at 2 1 else at 1 (1 + n)) q)
moved_step p q true n h k = feed_first p q h k
moved_step p q false n h k = other_first p q n h k

moved_next : (p q : Position) (c : ℕ) → 1 ≤ q.line → 1 ≤ q.column → moved (next_place p c) q ≡ moved p (moved (next_place (at 1 1) c) q)
moved_next p q c h k = moved_step p q (is_line_feed c) 1 h k

begins_at_one : (cs : List ℕ) → (1 ≤ (place_behind cs).line) × (1 ≤ (place_behind cs).column)
begins_at_one cs = (omega arith, omega arith)

pub moved_on : (cs ds : List ℕ) → place_behind (cs ++ ds) ≡ moved (place_behind cs) (place_behind ds)
moved_on cs [] = ap place_behind (append-nil cs) ∙ same_place _ _ _ _ refl (omega arith)
moved_on cs (d ∷ ds) =
    let each = begins_at_one ds in
    let first : place_behind (d ∷ ds) ≡ moved (next_place (at 1 1) d) (place_behind ds) = moved_on (d ∷ []) ds ∙ ap (λ (p : Position). moved p (place_behind ds)) (place_more [] d) in
    ap place_behind (sym (append_assoc cs (d ∷ []) ds)) ∙ moved_on (cs ++ d ∷ []) ds ∙ ap (λ (p : Position). moved p (place_behind ds)) (place_more cs d)
    ∙ moved_next (place_behind cs) (place_behind ds) d each.0 each.1 ∙ ap (moved (place_behind cs)) (sym first)

pub place_behind_slice : (front slice : List ℕ) → IsUtf8 front → place_behind (chars (front ++ slice)) ≡ place_after (place_behind (chars front)) slice
place_behind_slice front slice u = ap place_behind (chars-append front slice u) ∙ moved_on (chars front) (chars slice)

-- ---- places ascend

next_before : (p : Position) (c : ℕ) → IsBefore p (next_place p c)
next_before p c =
    elim (is_line_feed c)
    as (λ (b : Bool). IsBefore p (if b then at (p.line + 1) 1 else at p.line (p.column + 1))) [
      | true ↦ inl (omega arith)
      | false ↦ inr (refl, omega arith)
    ]

pub before_trans : (p q r : Position) → IsBefore p q → IsBefore q r → IsBefore p r
before_trans p q r (inl a) (inl b) = inl (omega (arith, a, b))
before_trans p q r (inl a) (inr b) = inl (omega (arith, a, b.0))
before_trans p q r (inr a) (inl b) = inl (omega (arith, a.0, b))
before_trans p q r (inr a) (inr b) = inr (a.0 ∙ b.0, omega (arith, a.1, b.1))

-- no place comes before itself
pub not_before : (p q : Position) → p ≡ q → ¬ IsBefore p q
not_before p q e (inl a) = absurd (omega (arith, a, ap (λ (x : Position). x.line) e))
not_before p q e (inr a) = absurd (omega (arith, a.1, ap (λ (x : Position). x.column) e))

one_before : (cs : List ℕ) (d : ℕ) → IsBefore (place_behind cs) (place_behind (cs ++ d ∷ []))
one_before cs d = subst (IsBefore (place_behind cs)) (sym (place_more cs d)) (next_before (place_behind cs) d)

some_before : (cs : List ℕ) (d : ℕ) (ds : List ℕ) → IsBefore (place_behind cs) (place_behind (cs ++ d ∷ ds))
some_before cs d [] = one_before cs d
some_before cs d (e ∷ ds) =
    before_trans (place_behind cs) (place_behind (cs ++ d ∷ [])) (place_behind (cs ++ d ∷ e ∷ ds)) (one_before cs d)
    (subst (λ (xs : List ℕ). IsBefore (place_behind (cs ++ d ∷ [])) (place_behind xs)) (append_assoc cs (d ∷ []) (e ∷ ds)) (some_before (cs ++ d ∷ []) e ds))

behind_some : (cs ds : List ℕ) → 0 < length ds → IsBefore (place_behind cs) (place_behind (cs ++ ds))
behind_some cs [] some = absurd (omega (arith, some))
behind_some cs (d ∷ ds) some = some_before cs d ds

-- a text that isn't empty has a character
some_chars : (text : List ℕ) → IsUtf8 text → 0 < length text → 0 < length (chars text)
some_chars text u some = by (chars text) refl
  where
    by : (cs : List ℕ) → chars text ≡ cs → 0 < length cs
    by [] e = absurd (omega (arith, some, ap length (sym (encodes-chars text u) ∙ ap encodes e)))
    by (c ∷ cs) e = omega arith

-- of two offsets of a text, the place of the first comes before that of the second
pub places_ascend : (text : List ℕ) (i j : ℕ) → IsUtf8 text → IsCharBoundary text i → IsCharBoundary text j → i < j
    → IsBefore (position_of text i) (position_of text j)
places_ascend text i j u b c lt =
    let between = take (j - i) (drop i text) in
    let size : length between ≡ j - i = omega (arith, length-take (j - i) (drop i text), length-drop i text, c.0, lt) in
    subst (IsBefore (position_of text i)) (ap place_behind (sym (chars_up_to text i j u b (omega (arith, lt)))))
    (behind_some (chars (take i text)) (chars between) (some_chars between (IsUtf8-between text i j u (omega (arith, lt)) b c) (omega (arith, size, lt))))

-- so a place is that of one offset
pub one_offset : (text : List ℕ) (i j : ℕ) → IsUtf8 text → IsCharBoundary text i → IsCharBoundary text j → position_of text i ≡ position_of text j → i ≡ j
one_offset text i j u b c same = by (cases_lt i j)
  where
    by : (i < j) ⊎ (j ≤ i) → i ≡ j
    by (inl lt) = absurd (not_before (position_of text i) (position_of text j) same (places_ascend text i j u b c lt))
    by (inr le) = at_most (cases_lt j i)
      where
        at_most : (j < i) ⊎ (i ≤ j) → i ≡ j
        at_most (inl lt) = absurd (not_before (position_of text j) (position_of text i) (sym same) (places_ascend text j i u c b lt))
        at_most (inr ge) = omega (arith, le, ge)

-- the place of an offset, by those of an earlier one and of the rest from there on
pub position_moved : (text : List ℕ) (i n : ℕ) → IsUtf8 text → IsCharBoundary text i → position_of text (i + n) ≡ moved (position_of text i) (position_of (drop i text) n)
position_moved text i n u b =
    let size : (i + n) - i ≡ n = omega arith in
    ap place_behind (chars_up_to text i (i + n) u b (omega arith) ∙ ap (λ (m : ℕ). chars (take i text) ++ chars (take m (drop i text))) size)
    ∙ moved_on (chars (take i text)) (chars (take n (drop i text)))
