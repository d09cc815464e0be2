-- One iteration of each loop of the parser, and how the loops end.
use Rattle.std.proofs.Common.{◌≡◌, ℕ, zero, suc, ◌+◌, ◌<◌, ◌≤◌, max, Bool, true, false, cond, ◌&&◌, encode_utf8_all, List, [], ◌∷◌, ◌++◌, length, drop, Option, Some, None, refl, arith, codes, sym, ap, ◌∙◌, subst, inl, inr, length-append}
use Rattle.std.proofs.lemmas.Bool.{lt-ltb, le-ltb}
use Rattle.lalrpop_hir.specs.Tree.{Tree, repetition, capture}
use Rattle.lalrpop_re.specs.Text.{Text, begins}
use Rattle.lalrpop_re.specs.declared.flags.Flags.{Flags}
use Rattle.lalrpop_re.specs.Flag.{no_flags}
use Rattle.lalrpop_re.specs.GroupName.{names, are_distinct}
use Rattle.lalrpop_re.specs.NamedPart.{NamedPart, is_part_name}
use Rattle.lalrpop_re.specs.declared.error.RegexError.{RegexError}
use Rattle.lalrpop_re.specs.declared.error.RegexError.TheVariants.{Syntax, OutOfMemory}
use Rattle.lalrpop_re.specs.Refusal.{HasNoTreeWith, MakesNoPart}
use Rattle.lalrpop_re.specs.Pattern.{ends_branch, branch, PatternWith, IsPart, most_levels}
use Rattle.lalrpop_re.specs.Internal.Reading.{◌>>=◌, operator, flags_of, Opening, plain_group, named_group, flagged_group, directive, no_opening, opening, as_directive, directive_at, Opened, a_flagged_group, a_directive_to, opened, is_at_operator, Part, Line, Whole, Reader, begin, operators, all_operators, enclosed, group, atom, piece, row_step, row, whole_row, branches, all_branches, inside, is_nothing, read_whole}
use Rattle.lalrpop_re.specs.Internal.Parts.{Step, to_piece, joined_by, joined, operated, captured, group_or_directive, group_or_directive_of, step, read_levels}
use Rattle.lalrpop_re.specs.Internal.Views.{HasLevels}
use Rattle.lalrpop_re.proofs.Steps.{bind_some, bind_same, some_is, decided, starts_is}
use Rattle.lalrpop_re.proofs.LexicalLaws.{Operator-shorter, operator_sound}
use Rattle.lalrpop_re.proofs.PatternLaws.{IsSound, Piece-shorter, Row-shorter, piece_sound, row_sound, inside_sound, directive_at_opening, directive_elsewhere, directive_sound, operators_enough, row_end, branches_end, found_with, missing_with, one_tree_with, one_part}

bind_chain : {A B C : Type 0} (o : Option A) (f : A → Option B) (g : B → Option C) → ((o >>= f) >>= g) ≡ (o >>= λ x. f x >>= g)
bind_chain (Some x) f g = refl
bind_chain None f g = refl

abbrev nowhere : Option Part
nowhere = None

-- ---- operators

module _ (parts : List NamedPart) (levels_left : ℕ) (f : Flags) (p : Part) where
  pub operators_turn : (o : ℕ × Option ℕ × Bool × Text) → is_at_operator parts p.rest ≡ true → operator f p.rest ≡ Some o → p.depth < levels_left
      → all_operators parts levels_left f p ≡ all_operators parts levels_left f (record { tree = repetition o.0 o.1 o.2 p.tree; depth = p.depth + 1; rest = o.3 })
  unfolding operators
  operators_turn o h e lt =
      let s : length o.3 < length p.rest = Operator-shorter (operator_sound f p.rest o e) in
      rw (h, e, lt-ltb p.depth levels_left lt) (operators_enough parts levels_left (length p.rest) (suc (length o.3)) f (record { tree = repetition o.0 o.1 o.2 p.tree; depth = p.depth + 1; rest = o.3 }) s (omega arith))

  pub operators_deep : is_at_operator parts p.rest ≡ true → levels_left ≤ p.depth → all_operators parts levels_left f p ≡ None
  unfolding operators
  operators_deep h le = rw (h, le-ltb p.depth levels_left le) (nothing (operator f p.rest))
    where
      nothing : (o : Option (ℕ × Option ℕ × Bool × Text)) → (o >>= λ x. nowhere) ≡ None
      nothing (Some x) = refl
      nothing None = refl

  pub operators_refused : is_at_operator parts p.rest ≡ true → operator f p.rest ≡ None → all_operators parts levels_left f p ≡ None
  unfolding operators
  operators_refused h e = rw (h, e) refl

-- ---- a row by its steps

module _ (parts : List NamedPart) (levels_left : ℕ) (inner : Reader) (others : Line → Option Line) where
  -- the row with a piece
  abbrev with_piece : Line → Part → Option Line
  with_piece l p = others (record { parts = l.parts ++ p.tree ∷ []; flags = l.flags; depth = max l.depth p.depth; rest = p.rest })

  abbrev with_step : Line → Step → Option Line
  with_step l s = others (joined l s)

  by_group : (l : Line) (o : Option Part) → (o >>= all_operators parts levels_left l.flags >>= with_piece l) ≡ (o >>= to_piece l.flags >>= operated parts levels_left >>= with_step l)
  by_group l (Some p) = sym (bind_chain (all_operators parts levels_left l.flags p) (to_piece l.flags) (with_step l))
  by_group l None = refl

  enclosed_as : (make : Tree → Tree) (f : Flags) (t : Text) → enclosed parts levels_left inner make f t ≡ (enclosed parts levels_left inner (λ e. e) f t >>= λ p. Some (record { tree = make p.tree; depth = p.depth; rest = p.rest }))
  unfolding enclosed
  enclosed_as make f t = go (inner f t)
    where
      by_close : (b : Bool) (w : Whole) → cond b (Some (record { tree = make w.tree; depth = w.depth + 1; rest = drop 1 w.rest })) None
          ≡ (cond b (Some (record { tree = w.tree; depth = w.depth + 1; rest = drop 1 w.rest })) None >>= λ (p : Part). Some (let q : Part = record { tree = make p.tree; depth = p.depth; rest = p.rest } in q))
      by_close true w = refl
      by_close false w = refl

      go : (o : Option Whole) → (o >>= λ w. cond (begins ")" w.rest) (Some (let q : Part = record { tree = make w.tree; depth = w.depth + 1; rest = drop 1 w.rest } in q)) None)
          ≡ (o >>= (λ w. cond (begins ")" w.rest) (Some (let q : Part = record { tree = w.tree; depth = w.depth + 1; rest = drop 1 w.rest } in q)) None) >>= λ (p : Part). Some (record { tree = make p.tree; depth = p.depth; rest = p.rest }))
      go (Some w) = by_close (begins ")" w.rest) w
      go None = refl

  by_capture : (l : Line) (name : Option (List ℕ)) (t : Text) → (enclosed parts levels_left inner (capture name) l.flags t >>= all_operators parts levels_left l.flags >>= with_piece l) ≡ (captured parts levels_left inner name l.flags t >>= operated parts levels_left >>= with_step l)
  by_capture l name t = ap (λ o. o >>= all_operators parts levels_left l.flags >>= with_piece l) (enclosed_as (capture name) l.flags t) ∙ go (enclosed parts levels_left inner (λ e. e) l.flags t)
    where
      go : (o : Option Part) → (o >>= (λ p. Some (let q : Part = record { tree = capture name p.tree; depth = p.depth; rest = p.rest } in q)) >>= all_operators parts levels_left l.flags >>= with_piece l)
          ≡ (o >>= (λ p. to_piece l.flags (record { tree = capture name p.tree; depth = p.depth; rest = p.rest })) >>= operated parts levels_left >>= with_step l)
      go (Some p) = by_group l (Some (record { tree = capture name p.tree; depth = p.depth; rest = p.rest }))
      go None = refl

  abbrev to_flagged : Text → Flags → Option (Opened × Text)
  to_flagged u g = Some (a_flagged_group g, u)

  abbrev to_directive : Text → Flags → Option (Opened × Text)
  to_directive u g = Some (a_directive_to g, u)

  by_flags : (l : Line) (u : Text) (o : Option Flags)
      → (o >>= (λ g. enclosed parts levels_left inner (λ e. e) g u) >>= all_operators parts levels_left l.flags >>= with_piece l)
      ≡ (o >>= to_flagged u >>= (λ x. group_or_directive_of parts levels_left inner l.flags x.0 x.1) >>= operated parts levels_left >>= with_step l)
  unfolding group_or_directive_of
  by_flags l u (Some g) = by_group l (enclosed parts levels_left inner (λ e. e) g u)
  by_flags l u None = refl

  by_directive : (l : Line) (u : Text) (o : Option Flags) → (o >>= λ g. others (record l { flags = g; rest = u }))
      ≡ (o >>= to_directive u >>= (λ x. group_or_directive_of parts levels_left inner l.flags x.0 x.1) >>= operated parts levels_left >>= with_step l)
  unfolding group_or_directive_of
  by_directive l u (Some g) = refl
  by_directive l u None = refl

  by_opening : (l : Line) (t : Text) (o : Opening) → opening t ≡ o
      → row_step parts levels_left inner others (as_directive o) (record l { rest = 40 ∷ t }) ≡ (step parts levels_left inner l.flags (40 ∷ t) >>= with_step l)
  unfolding row_step step group_or_directive group_or_directive_of opened piece atom group
  by_opening l t plain_group h = rw h (by_capture l None t)
  by_opening l t (named_group name u) h = rw h (by_capture l (Some (encode_utf8_all name)) u)
  by_opening l t (flagged_group letters u) h = rw h (by_flags l u (flags_of l.flags letters))
  by_opening l t (directive letters u) h = rw h (by_directive l u (flags_of l.flags letters))
  by_opening l t no_opening h = rw h refl

  by_piece : (l : Line) → begins "(" l.rest ≡ false → row_step parts levels_left inner others None l ≡ (step parts levels_left inner l.flags l.rest >>= with_step l)
  unfolding row_step step
  by_piece l h = rw h (sym (bind_chain (piece parts levels_left inner l.flags l.rest) (to_piece l.flags) (with_step l)))

  by_step : (l : Line) → row_step parts levels_left inner others (directive_at l.rest) l ≡ (step parts levels_left inner l.flags l.rest >>= with_step l)
  by_step l = elim (decided (begins "(" l.rest)) [
    | inl h ↦
        let here : 40 ∷ drop 1 l.rest ≡ l.rest = starts_is (codes "(") l.rest h in
        subst (λ (t : Text). row_step parts levels_left inner others (directive_at t) (record l { rest = t }) ≡ (step parts levels_left inner l.flags t >>= with_step l)) here (at_group (drop 1 l.rest))
    | inr h ↦ elsewhere h
  ]
    where
      at_group : (t : Text) → row_step parts levels_left inner others (directive_at (40 ∷ t)) (record l { rest = 40 ∷ t }) ≡ (step parts levels_left inner l.flags (40 ∷ t) >>= with_step l)
      at_group t = ap (λ o. row_step parts levels_left inner others o (record l { rest = 40 ∷ t })) (directive_at_opening t (opening t) refl) ∙ by_opening l t (opening t) refl

      elsewhere : begins "(" l.rest ≡ false → row_step parts levels_left inner others (directive_at l.rest) l ≡ (step parts levels_left inner l.flags l.rest >>= with_step l)
      elsewhere h = ap (λ o. row_step parts levels_left inner others o l) (directive_elsewhere l.rest h) ∙ by_piece l h

-- what one step reads is shorter
joined_rest : (l : Line) (s : Step) → (joined l s).rest ≡ s.rest
joined_rest l s = go s.piece
  where
    go : (p : Option (Tree × ℕ)) → (joined_by p (record { parts = l.parts; flags = s.flags; depth = l.depth; rest = s.rest })).rest ≡ s.rest
    go (Some p) = refl
    go None = refl

module _ (parts : List NamedPart) (levels_left : ℕ) (inner : Reader) (sound : IsSound parts levels_left inner) where
  step_shorter : (f : Flags) (t : Text) (s : Step) → step parts levels_left inner f t ≡ Some s → length s.rest < length t
  unfolding row_step
  step_shorter f t s e =
      let same : row_step parts levels_left inner (λ l. Some l) (directive_at t) (begin f t) ≡ Some (joined (begin f t) s) =
      by_step parts levels_left inner (λ l. Some l) (begin f t) ∙ ap (λ o. o >>= λ x. Some (joined (begin f t) x)) e in
      let short : length (joined (begin f t) s).rest < length t = go (directive_at t) refl same in
      subst (λ (u : Text). length u < length t) (joined_rest (begin f t) s) short
    where
      go : (o : Option (List ℕ × Text)) → directive_at t ≡ o → row_step parts levels_left inner (λ l. Some l) o (begin f t) ≡ Some (joined (begin f t) s) → length (joined (begin f t) s).rest < length t
      go (Some found) h q =
          let g = bind_some (flags_of f found.0) _ _ q in
          let d = directive_sound parts levels_left inner sound t found h in
          let whole : length (40 ∷ 63 ∷ (found.0 ++ 41 ∷ found.1)) ≡ length t = ap length d.0 in
          let rest : found.1 ≡ (joined (begin f t) s).rest = ap (λ (l : Line). l.rest) (some_is _ _ g.2) in
          subst (λ (u : Text). length u < length t) rest (omega (arith, length-append found.0 (41 ∷ found.1)))
      go None h q =
          let p = bind_some (piece parts levels_left inner f t) _ _ q in
          let short : length p.0.rest < length t = Piece-shorter parts (piece_sound parts levels_left inner sound f t p.0 p.1).0 in
          let rest : p.0.rest ≡ (joined (begin f t) s).rest = ap (λ (l : Line). l.rest) (some_is _ _ p.2) in
          subst (λ (u : Text). length u < length t) rest short

  row_enough : (n m : ℕ) (l : Line) → length l.rest < n → length l.rest < m → row parts levels_left inner n l ≡ row parts levels_left inner m l
  unfolding row
  row_enough zero m l h k = absurd (omega arith)
  row_enough (suc n) zero l h k = absurd (omega arith)
  row_enough (suc n) (suc m) l h k =
      ap (cond (ends_branch l.rest) (Some l))
      (by_step parts levels_left inner (row parts levels_left inner n) l
      ∙ bind_same (step parts levels_left inner l.flags l.rest) (λ s. row parts levels_left inner n (joined l s)) (λ s. row parts levels_left inner m (joined l s)) (λ s e.
      let short : length s.rest < length l.rest = step_shorter l.flags l.rest s e in
      let rest : length (joined l s).rest ≡ length s.rest = ap length (joined_rest l s) in
      row_enough n m (joined l s) (omega arith) (omega arith))
      ∙ sym (by_step parts levels_left inner (row parts levels_left inner m) l))

  branches_enough : (n m : ℕ) (l : Line) → length l.rest < n → length l.rest < m → branches parts levels_left inner n l ≡ branches parts levels_left inner m l
  unfolding branches
  branches_enough zero m l h k = absurd (omega arith)
  branches_enough (suc n) zero l h k = absurd (omega arith)
  branches_enough (suc n) (suc m) l h k =
      let with_it : Line → Line = λ (o : Line). record { parts = l.parts ++ branch o.parts ∷ []; flags = o.flags; depth = max l.depth o.depth; rest = o.rest } in
      bind_same (row parts levels_left inner (suc (length l.rest)) (begin l.flags l.rest))
      (λ (o : Line). cond (begins "|" o.rest) (branches parts levels_left inner n (record { parts = l.parts ++ branch o.parts ∷ []; flags = o.flags; depth = max l.depth o.depth; rest = drop 1 o.rest })) (Some (with_it o)))
      (λ (o : Line). cond (begins "|" o.rest) (branches parts levels_left inner m (record { parts = l.parts ++ branch o.parts ∷ []; flags = o.flags; depth = max l.depth o.depth; rest = drop 1 o.rest })) (Some (with_it o)))
      (λ o e. elim (decided (begins "|" o.rest)) [
        | inl b ↦
            let s : length o.rest ≤ length l.rest = Row-shorter parts (row_sound parts levels_left inner sound (suc (length l.rest)) (begin l.flags l.rest) o e).4 in
            let long : suc (length (drop 1 o.rest)) ≡ length o.rest = ap length (starts_is (codes "|") o.rest b) in
            rw b (branches_enough n m (record { parts = l.parts ++ branch o.parts ∷ []; flags = o.flags; depth = max l.depth o.depth; rest = drop 1 o.rest }) (omega arith) (omega arith))
        | inr b ↦ rw b refl
      ])

-- ---- rows

module _ (parts : List NamedPart) (levels_left : ℕ) (l : Line) where
  pub row_stop : ends_branch l.rest ≡ true → whole_row parts levels_left (inside parts levels_left) l ≡ Some l
  row_stop h = row_end parts levels_left (inside parts levels_left) (length l.rest) l h

  pub row_turn : (s : Step) → ends_branch l.rest ≡ false → step parts levels_left (inside parts levels_left) l.flags l.rest ≡ Some s → whole_row parts levels_left (inside parts levels_left) l ≡ whole_row parts levels_left (inside parts levels_left) (joined l s)
  unfolding row
  row_turn s h e =
      let short : length s.rest < length l.rest = step_shorter parts levels_left (inside parts levels_left) (inside_sound parts levels_left) l.flags l.rest s e in
      let rest : length (joined l s).rest ≡ length s.rest = ap length (joined_rest l s) in
      rw h (by_step parts levels_left (inside parts levels_left) (row parts levels_left (inside parts levels_left) (length l.rest)) l
      ∙ ap (λ o. o >>= λ x. row parts levels_left (inside parts levels_left) (length l.rest) (joined l x)) e
      ∙ row_enough parts levels_left (inside parts levels_left) (inside_sound parts levels_left) (length l.rest) (suc (length (joined l s).rest)) (joined l s) (omega arith) (omega arith))

  pub row_refused : ends_branch l.rest ≡ false → step parts levels_left (inside parts levels_left) l.flags l.rest ≡ None → whole_row parts levels_left (inside parts levels_left) l ≡ None
  unfolding row
  row_refused h e = rw h (by_step parts levels_left (inside parts levels_left) (row parts levels_left (inside parts levels_left) (length l.rest)) l ∙ ap (λ o. o >>= λ x. row parts levels_left (inside parts levels_left) (length l.rest) (joined l x)) e)

  -- ---- branches

  pub branches_stop : (o : Line) → whole_row parts levels_left (inside parts levels_left) (begin l.flags l.rest) ≡ Some o → begins "|" o.rest ≡ false
      → all_branches parts levels_left (inside parts levels_left) l ≡ Some (record { parts = l.parts ++ branch o.parts ∷ []; flags = o.flags; depth = max l.depth o.depth; rest = o.rest })
  branches_stop o e h = branches_end parts levels_left (inside parts levels_left) (length l.rest) l o e h

  pub branches_turn : (o : Line) → whole_row parts levels_left (inside parts levels_left) (begin l.flags l.rest) ≡ Some o → begins "|" o.rest ≡ true
      → all_branches parts levels_left (inside parts levels_left) l ≡ all_branches parts levels_left (inside parts levels_left) (record { parts = l.parts ++ branch o.parts ∷ []; flags = o.flags; depth = max l.depth o.depth; rest = drop 1 o.rest })
  unfolding branches
  branches_turn o e h =
      let s : length o.rest ≤ length l.rest = Row-shorter parts (row_sound parts levels_left (inside parts levels_left) (inside_sound parts levels_left) (suc (length l.rest)) (begin l.flags l.rest) o e).4 in
      let long : suc (length (drop 1 o.rest)) ≡ length o.rest = ap length (starts_is (codes "|") o.rest h) in
      rw (e, h) (branches_enough parts levels_left (inside parts levels_left) (inside_sound parts levels_left) (length l.rest) (suc (length (drop 1 o.rest))) (record { parts = l.parts ++ branch o.parts ∷ []; flags = o.flags; depth = max l.depth o.depth; rest = drop 1 o.rest }) (omega arith) (omega arith))

  pub branches_refused : whole_row parts levels_left (inside parts levels_left) (begin l.flags l.rest) ≡ None → all_branches parts levels_left (inside parts levels_left) l ≡ None
  unfolding branches
  branches_refused e = rw e refl

-- ---- groups

pub enclosed_full : (parts : List NamedPart) (levels_left : ℕ) (f : Flags) (t : Text) → levels_left ≡ 0 → enclosed parts levels_left (inside parts levels_left) (λ e. e) f t ≡ None
unfolding enclosed inside
enclosed_full parts levels_left f t e = subst (λ k. enclosed parts k (inside parts k) (λ e. e) f t ≡ None) (sym e) refl

-- ---- whole texts

module _ (parts : List NamedPart) (s : Text) where
  with_depth : Whole → Option (Tree × ℕ)
  with_depth whole = Some (whole.tree, whole.depth)

  levels_are : read_levels parts s ≡ (read_whole parts most_levels s >>= with_depth)
  unfolding read_levels with_depth
  levels_are = go (inside parts (suc most_levels) no_flags s)
    where
      by_end : (b : Bool) (w : Whole) → cond b (Some (w.tree, w.depth)) None ≡ (cond b (Some w) None >>= with_depth)
      by_end true w = refl
      by_end false w = refl

      go : (o : Option Whole) → (o >>= λ w. cond (is_nothing w.rest && are_distinct (names w.tree)) (Some (let y : Tree × ℕ = (w.tree, w.depth) in y)) None)
          ≡ (o >>= (λ w. cond (is_nothing w.rest && are_distinct (names w.tree)) (Some w) None) >>= with_depth)
      go (Some w) = by_end (is_nothing w.rest && are_distinct (names w.tree)) w
      go None = refl

  pub levels_found : (t : Tree) (d : ℕ) → read_levels parts s ≡ Some (t, d) → HasLevels parts s t d
  unfolding with_depth
  levels_found t d e =
      let w = bind_some (read_whole parts most_levels s) with_depth (t, d) (sym levels_are ∙ e) in
      let p = found_with parts s w.0 w.1 in
      let here : HasLevels parts s w.0.tree w.0.depth = (p.0, p.1, λ o q. one_tree_with parts s o w.0.tree q p.0) in
      subst (λ (y : Tree × ℕ). HasLevels parts s y.0 y.1) (some_is (w.0.tree, w.0.depth) (t, d) w.2) here

  pub levels_missing : read_levels parts s ≡ None → (o : Tree) → PatternWith parts s o → ⊥
  unfolding with_depth
  levels_missing e = missing_with parts s (nothing (read_whole parts most_levels s) (sym levels_are ∙ e))
    where
      nothing : (w : Option Whole) → (w >>= with_depth) ≡ None → w ≡ None
      nothing None e = refl
      nothing (Some y) e = absurd cc

-- ---- parts

module _ (parts : List NamedPart) (called : List ℕ) (s : Text) where
  pub is_part : (t : Tree) (d : ℕ) → is_part_name called ≡ true → HasLevels parts s t d → IsPart parts called s (record { name = called; tree = t; levels = d })
  is_part t d n h = record { is_name = n; name = refl; spells = h.0; depth = sym h.1 }

  pub only_part : (p o : NamedPart) → IsPart parts called s p → IsPart parts called s o → o ≡ p
  only_part p o h k = one_part parts called s o p k h

  pub no_part_of : (e : RegexError) → HasNoTreeWith parts s e → MakesNoPart parts called s e
  no_part_of (Syntax position kind) h = λ p k. h p.tree k.spells
  no_part_of OutOfMemory h = tt
