-- The reader of patterns finds what the grammar has.
use Rattle.std.proofs.Common.{◌≡◌, ℕ, zero, suc, ◌+◌, ◌-◌, ◌<◌, ◌≤◌, max, encode_utf8_all, Bool, true, false, cond, not, nat_lt, ◌&&◌, ◌||◌, ◌==◌, List, [], ◌∷◌, ◌++◌, length, drop, Option, Some, None, refl, arith, codes, sym, ap, ◌∙◌, subst, inl, inr, append_assoc, length-append}
use Rattle.std.proofs.lemmas.List.{append-nil}
use Rattle.std.proofs.lemmas.Bool.{ltb-true, lt-ltb, and_parts, eqb-true}
use Rattle.lalrpop_re.specs.Text.{Text, ◌▸◌, begins}
use Rattle.lalrpop_re.specs.CharacterSet.{is_one_of, Set, set_tree}
use Rattle.lalrpop_hir.specs.Tree.{Tree, capture, look, repetition}
use Rattle.lalrpop_re.specs.GroupName.{names, are_distinct}
use Rattle.lalrpop_re.specs.declared.flags.Flags.{Flags}
use Rattle.lalrpop_hir.specs.declared.look.Look.TheVariants.{Start, End, StartLF, EndLF}
use Rattle.lalrpop_re.specs.Escape.{Escaped}
use Rattle.lalrpop_re.specs.Bracket.{Bracket, a_bracket_of, a_negated_of}
use Rattle.lalrpop_re.specs.Operator.{Operator}
use Rattle.lalrpop_re.specs.Pattern.{is_special, ends_branch, ends_expression, literal_tree, escaped_tree, dot_tree, branch, choice, Atom, a_literal, a_dot, a_start, an_end, an_escape, a_bracket, a_capture, a_named, a_named_too, a_group, a_part, Piece, an_atom, repeated, Row, no_piece, a_directive, piece_then, Branches, last_branch, branch_then, Expression, of_branches, PatternWith, Pattern, IsPart, most_levels}
use Rattle.lalrpop_re.specs.Flag.{no_flags, has_flag}
use Rattle.lalrpop_re.specs.NamedPart.{NamedPart}
use Rattle.lalrpop_re.specs.Internal.Reading.{◌>>=◌, escape, bracket, operator, flags_of, Opening, plain_group, named_group, flagged_group, directive, no_opening, opening, as_directive, directive_at, part_after, is_at_operator, Part, Line, Whole, Reader, begin, operators, all_operators, enclosed, group, part_with, atom, piece, row_step, row, branches, all_branches, expression_with, inside, is_nothing, read_whole, read}
use Rattle.lalrpop_re.proofs.Steps.{bind_some, bind_same, some_is, chosen, guarded, decided, not_false, starts_is, is_one, or_cases}
use Rattle.lalrpop_re.proofs.Escapes.{Escape-shorter, escape_sound, Escape-complete}
use Rattle.lalrpop_re.proofs.BracketLaws.{Bracket-shorter, bracket_sound, Bracket-complete}
use Rattle.lalrpop_re.proofs.LexicalLaws.{Operator-shorter, operator_sound, operator_complete}
use Rattle.lalrpop_re.proofs.PartLaws.{part_after_is, part_after_sound, Operator-starts}
use Rattle.lalrpop_re.proofs.OpeningLaws.{flags_sound, FlagLetters-complete, Opens, opens, opening_plain, opening_named, opening_named_too, opening_flagged, opening_directive}

-- ---- what follows a `(`

pub directive_at_opening : (t : Text) (o : Opening) → opening t ≡ o → directive_at (40 ∷ t) ≡ as_directive o
unfolding directive_at
directive_at_opening t o h = ap as_directive h

pub directive_elsewhere : (t : Text) → begins "(" t ≡ false → directive_at t ≡ None
unfolding directive_at
directive_elsewhere t h = rw h refl

module _ (parts : List NamedPart) where
  -- ---- lengths

  longer : (w u : Text) → length u ≤ length (w ++ u)
  longer w u = omega (arith, length-append w u)

  mutual
    pub Atom-shorter : {f : Flags} {t r : Text} {e : Tree} {d : ℕ} → Atom parts f t r e d → length r < length t
    Atom-shorter (a_literal h) = omega arith
    Atom-shorter a_dot = omega arith
    Atom-shorter a_start = omega arith
    Atom-shorter an_end = omega arith
    Atom-shorter (an_escape h) = let k = Escape-shorter h in omega arith
    Atom-shorter (a_bracket b) = Bracket-shorter b
    Atom-shorter (a_capture h) = let k = Expression-shorter h in omega arith
    Atom-shorter (a_named {t = t} name n h) = let k = Expression-shorter h in omega (arith, longer name (62 ∷ t))
    Atom-shorter (a_named_too {t = t} name n h) = let k = Expression-shorter h in omega (arith, longer name (62 ∷ t))
    Atom-shorter (a_group {t = t} letters s h) = let k = Expression-shorter h in omega (arith, longer letters (58 ∷ t))
    Atom-shorter (a_part {r = r} name b n k) = omega (arith, longer name (125 ∷ r))

    pub Piece-shorter : {f : Flags} {t r : Text} {e : Tree} {d : ℕ} → Piece parts f t r e d → length r < length t
    Piece-shorter (an_atom h) = Atom-shorter h
    Piece-shorter (repeated h o) = let k = Piece-shorter h in let j = Operator-shorter o in omega arith

    pub Row-shorter : {f g : Flags} {t r : Text} {es : List Tree} {d : ℕ} → Row parts f t r es g d → length r ≤ length t
    Row-shorter (no_piece h) = omega arith
    Row-shorter (a_directive {t = t} letters z s h) = let k = Row-shorter h in omega (arith, longer letters (41 ∷ t))
    Row-shorter (piece_then p h) = let k = Piece-shorter p in let j = Row-shorter h in omega arith

    pub Branches-shorter : {f g : Flags} {t r : Text} {bs : List Tree} {d : ℕ} → Branches parts f t r bs g d → length r ≤ length t
    Branches-shorter (last_branch h e) = Row-shorter h
    Branches-shorter (branch_then h b) = let k = Row-shorter h in let j = Branches-shorter b in omega arith

    pub Expression-shorter : {f g : Flags} {t r : Text} {e : Tree} {d : ℕ} → Expression parts f t r e g d → length r ≤ length t
    Expression-shorter (of_branches b) = Branches-shorter b

  -- ---- how a part begins

  not_at : (p : ℕ → Bool) (k c : ℕ) → p k ≡ true → p c ≡ false → (k == c) ≡ false
  not_at p k c h e = elim (decided (k == c)) [
    | inl q ↦ absurd (let s : p k ≡ false = subst (λ b. p b ≡ false) (sym (eqb-true k c q)) e in let z : true ≡ false = sym h ∙ s in cc)
    | inr q ↦ q
  ]

  plain_starts : (c : ℕ) (t : Text) → is_special c ≡ false → is_at_operator parts (c ∷ t) ≡ false
  plain_starts c t h = rw (not_at is_special 63 c refl h, not_at is_special 42 c refl h, not_at is_special 43 c refl h, not_at is_special 123 c refl h) refl

  plain_no_end : (c : ℕ) → is_special c ≡ false → is_one_of "|)" c ≡ false
  plain_no_end c h = rw (not_at is_special 124 c refl h, not_at is_special 41 c refl h) refl

  Bracket-opens : {f : Flags} {t r : Text} {s : Set} {d : ℕ} → Bracket f t r s d → 91 ∷ drop 1 t ≡ t
  Bracket-opens (a_bracket_of h o) = refl
  Bracket-opens (a_negated_of o) = refl

  Atom-starts : {f : Flags} {t r : Text} {e : Tree} {d : ℕ} → Atom parts f t r e d → (is_at_operator parts t ≡ false) × (ends_branch t ≡ false)
  Atom-starts (a_literal {c = c} {r = r} h) = (plain_starts c r h, plain_no_end c h)
  Atom-starts a_dot = (refl, refl)
  Atom-starts a_start = (refl, refl)
  Atom-starts an_end = (refl, refl)
  Atom-starts (an_escape h) = (refl, refl)
  Atom-starts (a_bracket b) = subst (λ (u : Text). (is_at_operator parts u ≡ false) × (ends_branch u ≡ false)) (Bracket-opens b) (refl, refl)
  Atom-starts (a_capture h) = (refl, refl)
  Atom-starts (a_named name n h) = (refl, refl)
  Atom-starts (a_named_too name n h) = (refl, refl)
  Atom-starts (a_group letters s h) = (refl, refl)
  Atom-starts (a_part {r = r} {p = p} name b n k) = (rw (part_after_is parts name r p n k) refl, refl)

  Piece-starts : {f : Flags} {t r : Text} {e : Tree} {d : ℕ} → Piece parts f t r e d → (is_at_operator parts t ≡ false) × (ends_branch t ≡ false)
  Piece-starts (an_atom h) = Atom-starts h
  Piece-starts (repeated h o) = Piece-starts h

  at_end : (t : Text) → ends_branch t ≡ true → is_at_operator parts t ≡ false
  at_end [] h = refl
  at_end (c ∷ t) h = elim (or_cases (124 == c) ((41 == c) || false) h) [
    | inl e ↦ subst (λ b. is_at_operator parts (b ∷ t) ≡ false) (eqb-true 124 c e) refl
    | inr e ↦ subst (λ b. is_at_operator parts (b ∷ t) ≡ false) (is_one 41 c e) refl
  ]

  Row-starts : {f g : Flags} {t r : Text} {es : List Tree} {d : ℕ} → Row parts f t r es g d → is_at_operator parts t ≡ false
  Row-starts (no_piece {r = r} h) = at_end r h
  Row-starts (a_directive letters z s h) = refl
  Row-starts (piece_then p h) = (Piece-starts p).0

  Branches-starts : {f g : Flags} {t r : Text} {bs : List Tree} {d : ℕ} → Branches parts f t r bs g d → is_at_operator parts t ≡ false
  Branches-starts (last_branch h e) = Row-starts h
  Branches-starts (branch_then h b) = Row-starts h

  Expression-starts : {f g : Flags} {t r : Text} {e : Tree} {d : ℕ} → Expression parts f t r e g d → is_at_operator parts t ≡ false
  Expression-starts (of_branches b) = Branches-starts b

  no_mark : (t : Text) → is_at_operator parts t ≡ false → begins "?" t ≡ false
  no_mark [] h = refl
  no_mark (c ∷ t) h = rw (not_at (λ d. is_at_operator parts (d ∷ t)) 63 c refl h) refl

  Atom-no_directive : {f : Flags} {t r : Text} {e : Tree} {d : ℕ} → Atom parts f t r e d → directive_at t ≡ None
  Atom-no_directive (a_literal {c = c} {r = r} h) = directive_elsewhere (c ∷ r) (rw (not_at is_special 40 c refl h) refl)
  Atom-no_directive (a_dot {r = r}) = directive_elsewhere (46 ∷ r) refl
  Atom-no_directive (a_start {r = r}) = directive_elsewhere (94 ∷ r) refl
  Atom-no_directive (an_end {r = r}) = directive_elsewhere (36 ∷ r) refl
  Atom-no_directive (an_escape {t = t} h) = directive_elsewhere (92 ∷ t) refl
  Atom-no_directive (a_bracket {t = t} b) = directive_elsewhere t (subst (λ (u : Text). begins "(" u ≡ false) (Bracket-opens b) refl)
  Atom-no_directive (a_capture {t = t} h) = directive_at_opening t plain_group (opening_plain t (no_mark t (Expression-starts h)))
  Atom-no_directive (a_named {t = t} name n h) = directive_at_opening _ (named_group name t) (opening_named name t n)
  Atom-no_directive (a_named_too {t = t} name n h) = directive_at_opening _ (named_group name t) (opening_named_too name t n)
  Atom-no_directive (a_group {t = t} letters s h) = directive_at_opening _ (flagged_group letters t) (opening_flagged letters t s)
  Atom-no_directive (a_part {r = r} name b n k) = directive_elsewhere (123 ∷ (name ++ 125 ∷ r)) refl

  Piece-no_directive : {f : Flags} {t r : Text} {e : Tree} {d : ℕ} → Piece parts f t r e d → directive_at t ≡ None
  Piece-no_directive (an_atom h) = Atom-no_directive h
  Piece-no_directive (repeated h o) = Piece-no_directive h

  -- ---- operators

  module _ (room : ℕ) where
    operators_sound : (n : ℕ) (f : Flags) (p x : Part) (t : Text) → operators parts room n f p ≡ Some x → Piece parts f t p.rest p.tree p.depth → p.depth ≤ room
        → Piece parts f t x.rest x.tree x.depth × (x.depth ≤ room)
    unfolding operators
    operators_sound zero f p x t e h le = absurd cc
    operators_sound (suc n) f p x t e h le = elim (chosen (not (is_at_operator parts p.rest)) _ _ _ e) [
      | inl k ↦ subst (λ (y : Part). Piece parts f t y.rest y.tree y.depth × (y.depth ≤ room)) (some_is p x k.1) (h, le)
      | inr k ↦
          let o = bind_some (operator f p.rest) _ _ k.1 in
          let g = guarded (nat_lt p.depth room) _ _ o.2 in
          let lt : p.depth < room = ltb-true p.depth room g.0 in
          operators_sound n f (record { tree = repetition o.0.0 o.0.1 o.0.2 p.tree; depth = p.depth + 1; rest = o.0.3 }) x t g.1 (repeated h (operator_sound f p.rest o.0 o.1)) (omega arith)
    ]

    pub operators_enough : (n m : ℕ) (f : Flags) (p : Part) → length p.rest < n → length p.rest < m → operators parts room n f p ≡ operators parts room m f p
    unfolding operators
    operators_enough zero m f p h k = absurd (omega arith)
    operators_enough (suc n) zero f p h k = absurd (omega arith)
    operators_enough (suc n) (suc m) f p h k =
        ap (cond (not (is_at_operator parts p.rest)) (Some p)) (bind_same (operator f p.rest)
        (λ o. cond (nat_lt p.depth room) (operators parts room n f (record { tree = repetition o.0 o.1 o.2 p.tree; depth = p.depth + 1; rest = o.3 })) None)
        (λ o. cond (nat_lt p.depth room) (operators parts room m f (record { tree = repetition o.0 o.1 o.2 p.tree; depth = p.depth + 1; rest = o.3 })) None)
        (λ o e.
        let s : length o.3 < length p.rest = Operator-shorter (operator_sound f p.rest o e) in
        ap (λ r. cond (nat_lt p.depth room) r None) (operators_enough n m f (record { tree = repetition o.0 o.1 o.2 p.tree; depth = p.depth + 1; rest = o.3 }) (omega arith) (omega arith))))

  -- ---- sound

  -- what is asked of the reading inside a group
  abbrev pub IsSound : ℕ → Reader → Type 0
  IsSound room inner = (f : Flags) (t : Text) (w : Whole) → inner f t ≡ Some w → Expression parts f t w.rest w.tree w.flags w.depth × (w.depth < room)

  module _ (room : ℕ) (inner : Reader) (sound : IsSound room inner) where
    enclosed_sound : (make : Tree → Tree) (f : Flags) (t : Text) (x : Part) → enclosed parts room inner make f t ≡ Some x
        → (e : Tree) × (g : Flags) × (d : ℕ) × Expression parts f t (41 ∷ x.rest) e g d × (x.tree ≡ make e) × (x.depth ≡ d + 1) × (d < room)
    unfolding enclosed
    enclosed_sound make f t x e =
        let w = bind_some (inner f t) _ _ e in
        let g = guarded (begins ")" w.0.rest) _ _ w.2 in
        let r = sound f t w.0 w.1 in
        subst (λ (y : Part). (e : Tree) × (g : Flags) × (d : ℕ) × Expression parts f t (41 ∷ y.rest) e g d × (y.tree ≡ make e) × (y.depth ≡ d + 1) × (d < room)) (some_is _ x g.1)
        (w.0.tree, w.0.flags, w.0.depth, subst (λ (u : Text). Expression parts f t u w.0.tree w.0.flags w.0.depth) (sym (starts_is (codes ")") w.0.rest g.0)) r.0, refl, refl, r.1)

    same_atom : (f : Flags) (t : Text) (x : Part) (e : Tree) (d : ℕ) → Atom parts f t x.rest e d → x.tree ≡ e → x.depth ≡ d → Atom parts f t x.rest x.tree x.depth
    same_atom f t x e d h p q = subst (λ k. Atom parts f t x.rest x.tree k) (sym q) (subst (λ k. Atom parts f t x.rest k d) (sym p) h)

    group_sound : (f : Flags) (o : Opening) (t : Text) (x : Part) → Opens t o → group parts room inner f o t ≡ Some x → Atom parts f (40 ∷ t) x.rest x.tree x.depth × (x.depth ≤ room)
    unfolding group
    group_sound f plain_group t x h e =
        let w = enclosed_sound (capture None) f t x e in
        let lt : w.2 < room = w.6 in
        let deep : x.depth ≡ w.2 + 1 = w.5 in
        (same_atom f (40 ∷ t) x _ _ (a_capture w.3) w.4 w.5, omega arith)
    group_sound f (named_group name u) t x h e =
        let w = enclosed_sound (capture (Some (encode_utf8_all name))) f u x e in
        let lt : w.2 < room = w.6 in
        let deep : x.depth ≡ w.2 + 1 = w.5 in (
          elim h.1 [
            | inl q ↦ subst (λ (v : Text). Atom parts f (40 ∷ v) x.rest x.tree x.depth) q (same_atom f _ x _ _ (a_named name h.0 w.3) w.4 w.5)
            | inr q ↦ subst (λ (v : Text). Atom parts f (40 ∷ v) x.rest x.tree x.depth) q (same_atom f _ x _ _ (a_named_too name h.0 w.3) w.4 w.5)
          ],
          omega arith,
        )
    group_sound f (flagged_group letters u) t x h e =
        let g = bind_some (flags_of f letters) _ _ e in
        let w = enclosed_sound (λ k. k) g.0 u x g.2 in
        let lt : w.2 < room = w.6 in
        let deep : x.depth ≡ w.2 + 1 = w.5 in
        (subst (λ (v : Text). Atom parts f (40 ∷ v) x.rest x.tree x.depth) h (same_atom f _ x _ _ (a_group letters (flags_sound f g.0 letters g.1) w.3) w.4 w.5), omega arith)
    group_sound f (directive letters u) t x h e = absurd cc
    group_sound f no_opening t x h e = absurd cc

    part_sound : (f : Flags) (t : Text) (x : Part) → (part_after parts t >>= part_with room f) ≡ Some x → Atom parts f (123 ∷ t) x.rest x.tree x.depth × (x.depth ≤ room)
    part_sound f t x e =
        let p = bind_some (part_after parts t) _ _ e in
        let g = guarded (not (has_flag f) && nat_lt p.0.0.levels room) _ _ p.2 in
        let both = and_parts (not (has_flag f)) _ g.0 in
        let s = part_after_sound parts t p.0 p.1 in
        let lt : p.0.0.levels < room = ltb-true p.0.0.levels room both.1 in
        subst (λ (y : Part). Atom parts f (123 ∷ t) y.rest y.tree y.depth × (y.depth ≤ room)) (some_is _ x g.1)
        (subst (λ (u : Text). Atom parts f (123 ∷ u) p.0.1 p.0.0.tree (p.0.0.levels + 1)) s.3 (a_part s.0 (not_false _ both.0) s.1 s.2), omega arith)

    atom_sound : (f : Flags) (t : Text) (x : Part) → atom parts room inner f t ≡ Some x → Atom parts f t x.rest x.tree x.depth × (x.depth ≤ room)
    unfolding atom
    atom_sound f [] x e = absurd cc
    atom_sound f (c ∷ t) x e = elim (chosen (not (is_special c)) _ _ _ e) [
      | inl k ↦ subst (λ (y : Part). Atom parts f (c ∷ t) y.rest y.tree y.depth × (y.depth ≤ room)) (some_is (record { tree = literal_tree f c; depth = 0; rest = t }) x k.1) (a_literal (not_false _ k.0), omega arith)
      | inr k ↦ elim (chosen (is_one_of "." c) _ _ _ k.1) [
        | inl l ↦ subst (λ (y : Part). Atom parts f (c ∷ t) y.rest y.tree y.depth × (y.depth ≤ room)) (some_is (record { tree = dot_tree f; depth = 0; rest = t }) x l.1) (subst (λ b. Atom parts f (b ∷ t) t (dot_tree f) 0) (is_one 46 c l.0) a_dot, omega arith)
        | inr l ↦ elim (chosen (is_one_of "^" c) _ _ _ l.1) [
          | inl m ↦ subst (λ (y : Part). Atom parts f (c ∷ t) y.rest y.tree y.depth × (y.depth ≤ room)) (some_is (record { tree = look (cond f.multi_line StartLF Start); depth = 0; rest = t }) x m.1) (subst (λ b. Atom parts f (b ∷ t) t (look (cond f.multi_line StartLF Start)) 0) (is_one 94 c m.0) a_start, omega arith)
          | inr m ↦ elim (chosen (is_one_of "$" c) _ _ _ m.1) [
            | inl n ↦ subst (λ (y : Part). Atom parts f (c ∷ t) y.rest y.tree y.depth × (y.depth ≤ room)) (some_is (record { tree = look (cond f.multi_line EndLF End); depth = 0; rest = t }) x n.1) (subst (λ b. Atom parts f (b ∷ t) t (look (cond f.multi_line EndLF End)) 0) (is_one 36 c n.0) an_end, omega arith)
            | inr n ↦ elim (chosen (is_one_of "\\" c) _ _ _ n.1) [
              | inl o ↦
                  let s = bind_some (escape t) _ _ o.1 in
                  subst (λ (y : Part). Atom parts f (c ∷ t) y.rest y.tree y.depth × (y.depth ≤ room)) (some_is (record { tree = escaped_tree f s.0.0; depth = 0; rest = s.0.1 }) x s.2)
                  (subst (λ b. Atom parts f (b ∷ t) s.0.1 (escaped_tree f s.0.0) 0) (is_one 92 c o.0) (an_escape (escape_sound t s.0 s.1)), omega arith)
              | inr o ↦ elim (chosen (is_one_of "[" c) _ _ _ o.1) [
                | inl p ↦
                    let s = bind_some (bracket f room (c ∷ t)) _ _ p.1 in
                    let b = bracket_sound f room (c ∷ t) s.0 s.1 in
                    subst (λ (y : Part). Atom parts f (c ∷ t) y.rest y.tree y.depth × (y.depth ≤ room)) (some_is (record { tree = set_tree s.0.set; depth = s.0.depth; rest = s.0.rest }) x s.2) (a_bracket b.0, b.1)
                | inr p ↦ elim (chosen (is_one_of "(" c) _ _ _ p.1) [
                  | inl q ↦ subst (λ b. Atom parts f (b ∷ t) x.rest x.tree x.depth × (x.depth ≤ room)) (is_one 40 c q.0) (group_sound f (opening t) t x (opens t) q.1)
                  | inr q ↦
                      let g = guarded (is_one_of "{" c) _ _ q.1 in
                      subst (λ b. Atom parts f (b ∷ t) x.rest x.tree x.depth × (x.depth ≤ room)) (is_one 123 c g.0) (part_sound f t x g.1)
                ]
              ]
            ]
          ]
        ]
      ]
    ]

    pub piece_sound : (f : Flags) (t : Text) (x : Part) → piece parts room inner f t ≡ Some x → Piece parts f t x.rest x.tree x.depth × (x.depth ≤ room)
    unfolding piece
    piece_sound f t x e =
        let a = bind_some (atom parts room inner f t) _ _ e in
        let h = atom_sound f t a.0 a.1 in
        operators_sound room (suc (length a.0.rest)) f a.0 x t a.2 (an_atom h.0) h.1

    pub directive_sound : (t : Text) (x : List ℕ × Text) → directive_at t ≡ Some x → (codes "(?" ▸ x.0 ▸ codes ")" ▸ x.1 ≡ t) × (0 < length x.0)
    unfolding directive_at
    directive_sound t x e =
        let g = guarded (begins "(" t) _ _ e in
        let k = go (drop 1 t) (opening (drop 1 t)) (opens (drop 1 t)) g.1 in
        (ap (λ (u : Text). 40 ∷ u) k.0 ∙ starts_is (codes "(") t g.0, k.1)
      where
        go : (u : Text) (o : Opening) → Opens u o → as_directive o ≡ Some x → (codes "?" ▸ x.0 ▸ codes ")" ▸ x.1 ≡ u) × (0 < length x.0)
        go u plain_group h q = absurd cc
        go u (named_group name v) h q = absurd cc
        go u (flagged_group letters v) h q = absurd cc
        go u (directive letters v) h q = subst (λ (y : List ℕ × Text). (codes "?" ▸ y.0 ▸ codes ")" ▸ y.1 ≡ u) × (0 < length y.0)) (some_is (letters, v) x q) h
        go u no_opening h q = absurd cc

    -- x is l with the pieces of a row after its own
    abbrev IsRow : Line → Line → Type 0
    IsRow l x = (es : List Tree) × (d : ℕ) × (x.parts ≡ l.parts ++ es) × (x.depth ≡ max l.depth d) × Row parts l.flags l.rest x.rest es x.flags d × (d ≤ room) × (ends_branch x.rest ≡ true)

    pub row_sound : (n : ℕ) (l x : Line) → row parts room inner n l ≡ Some x
        → IsRow l x
    unfolding row row_step
    row_sound zero l x e = absurd cc
    row_sound (suc n) l x e = elim (chosen (ends_branch l.rest) _ _ _ e) [
      | inl k ↦ subst (λ (y : Line). IsRow l y)
          (some_is l x k.1) ([], 0, sym (append-nil l.parts), omega arith, no_piece k.0, omega arith, k.0)
      | inr k ↦ go (λ m y q. row_sound n m y q) (directive_at l.rest) refl k.1
    ]
      where
        go : ((m y : Line) → row parts room inner n m ≡ Some y → IsRow m y) → (o : Option (List ℕ × Text)) → directive_at l.rest ≡ o → row_step parts room inner (row parts room inner n) o l ≡ Some x
            → IsRow l x
        go again (Some found) h q =
            let g = bind_some (flags_of l.flags found.0) _ _ q in
            let i = again (record l { flags = g.0; rest = found.1 }) x g.2 in
            let s = directive_sound l.rest found h in
            (i.0, i.1, i.2, i.3, subst (λ (u : Text). Row parts l.flags u x.rest i.0 x.flags i.1) s.0 (a_directive found.0 s.1 (flags_sound l.flags g.0 found.0 g.1) i.4), i.5, i.6)
        go again None h q =
            let p = bind_some (piece parts room inner l.flags l.rest) _ _ q in
            let w = piece_sound l.flags l.rest p.0 p.1 in
            let i = again (record { parts = l.parts ++ p.0.tree ∷ []; flags = l.flags; depth = max l.depth p.0.depth; rest = p.0.rest }) x p.2 in
            let le : p.0.depth ≤ room = w.1 in
            let k2 : x.depth ≡ max (max l.depth p.0.depth) i.1 = i.3 in
            let k3 : i.1 ≤ room = i.5 in
            (p.0.tree ∷ i.0, max p.0.depth i.1, i.2 ∙ append_assoc l.parts (p.0.tree ∷ []) i.0, omega arith, piece_then w.0 i.4, omega arith, i.6)

    ends_both : (t : Text) → ends_branch t ≡ true → begins "|" t ≡ false → ends_expression t ≡ true
    ends_both [] h k = refl
    ends_both (c ∷ t) h k = elim (or_cases (124 == c) ((41 == c) || false) h) [
      | inl e ↦ absurd (let q : true ≡ false = rw e at k in cc)
      | inr e ↦ e
    ]

    pub branches_sound : (n : ℕ) (l x : Line) → branches parts room inner n l ≡ Some x
        → (bs : List Tree) × (d : ℕ) × (x.parts ≡ l.parts ++ bs) × (x.depth ≡ max l.depth d) × Branches parts l.flags l.rest x.rest bs x.flags d × (d ≤ room)
    unfolding branches
    branches_sound zero l x e = absurd cc
    branches_sound (suc n) l x e =
        let o = bind_some (row parts room inner (suc (length l.rest)) (begin l.flags l.rest)) _ _ e in
        let r = row_sound (suc (length l.rest)) (begin l.flags l.rest) o.0 o.1 in
        let le : r.1 ≤ room = r.5 in
        let deep : o.0.depth ≡ max 0 r.1 = r.3 in
        let here : Row parts l.flags l.rest o.0.rest o.0.parts o.0.flags r.1 = subst (λ es. Row parts l.flags l.rest o.0.rest es o.0.flags r.1) (sym r.2) r.4 in
        elim (chosen (begins "|" o.0.rest) _ _ _ o.2) [
          | inl k ↦
              let i = branches_sound n (record { parts = l.parts ++ branch o.0.parts ∷ []; flags = o.0.flags; depth = max l.depth o.0.depth; rest = drop 1 o.0.rest }) x k.1 in
              let le2 : i.1 ≤ room = i.5 in
              let deep2 : x.depth ≡ max (max l.depth o.0.depth) i.1 = i.3 in (
                branch o.0.parts ∷ i.0,
                max r.1 i.1,
                i.2 ∙ append_assoc l.parts (branch o.0.parts ∷ []) i.0,
                omega arith,
                branch_then (subst (λ (u : Text). Row parts l.flags l.rest u o.0.parts o.0.flags r.1) (sym (starts_is (codes "|") o.0.rest k.0)) here) i.4,
                omega arith,
              )
          | inr k ↦ subst (λ (y : Line). (bs : List Tree) × (d : ℕ) × (y.parts ≡ l.parts ++ bs) × (y.depth ≡ max l.depth d) × Branches parts l.flags l.rest y.rest bs y.flags d × (d ≤ room))
              (some_is (record { parts = l.parts ++ branch o.0.parts ∷ []; flags = o.0.flags; depth = max l.depth o.0.depth; rest = o.0.rest }) x k.1)
              (branch o.0.parts ∷ [], r.1, refl, omega arith, last_branch here (ends_both o.0.rest r.6 k.0), le)
        ]

    expression_sound : (f : Flags) (t : Text) (w : Whole) → expression_with parts room inner f t ≡ Some w → Expression parts f t w.rest w.tree w.flags w.depth × (w.depth ≤ room)
    unfolding expression_with
    expression_sound f t w e =
        let l = bind_some (branches parts room inner (suc (length t)) (begin f t)) _ _ e in
        let b = branches_sound (suc (length t)) (begin f t) l.0 l.1 in
        let deep : l.0.depth ≡ max 0 b.1 = b.3 in
        let le : b.1 ≤ room = b.5 in
        let same : l.0.depth ≡ b.1 = omega arith in
        subst (λ (y : Whole). Expression parts f t y.rest y.tree y.flags y.depth × (y.depth ≤ room)) (some_is (record { tree = choice l.0.parts; flags = l.0.flags; depth = l.0.depth; rest = l.0.rest }) w l.2)
        (of_branches (subst (λ bs. Branches parts f t l.0.rest bs l.0.flags l.0.depth) (sym b.2) (subst (λ d. Branches parts f t l.0.rest b.0 l.0.flags d) (sym same) b.4)), omega arith)

  pub inside_sound : (room : ℕ) → IsSound room (inside parts room)
  unfolding inside
  inside_sound zero f t w e = absurd cc
  inside_sound (suc m) f t w e =
      let s = expression_sound m (inside parts m) (inside_sound m) f t w e in
      let le : w.depth ≤ m = s.1 in
      (s.0, omega arith)

  -- ---- complete

  pub operators_end : (room : ℕ) (f : Flags) (p : Part) → is_at_operator parts p.rest ≡ false → all_operators parts room f p ≡ Some p
  unfolding operators
  operators_end room f p h = rw h refl

  operators_go : (room : ℕ) {f : Flags} {g : Bool} {t r : Text} {n d : ℕ} {m : Option ℕ} (e : Tree) → Operator f t r n m g → d < room
      → all_operators parts room f (record { tree = e; depth = d; rest = t }) ≡ all_operators parts room f (record { tree = repetition n m g e; depth = d + 1; rest = r })
  unfolding operators
  operators_go room {f} {g} {t} {r} {n} {d} {m} e o lt =
      let s : length r < length t = Operator-shorter o in
      rw (Operator-starts parts o, operator_complete o, lt-ltb d room lt) (operators_enough room (length t) (suc (length r)) f (record { tree = repetition n m g e; depth = d + 1; rest = r }) s (omega arith))

  literal_complete : (room : ℕ) (inner : Reader) (f : Flags) (c : ℕ) (r : Text) → is_special c ≡ false → atom parts room inner f (c ∷ r) ≡ Some (record { tree = literal_tree f c; depth = 0; rest = r })
  unfolding atom
  literal_complete room inner f c r h = first_choice _ _ _ h
    where
      first_choice : (b : Bool) (x y : Option Part) → b ≡ false → cond (not b) x y ≡ x
      first_choice b x y e = rw e refl

  escape_complete : (room : ℕ) (inner : Reader) (f : Flags) (t r : Text) (e : Escaped) → escape t ≡ Some (e, r) → atom parts room inner f (92 ∷ t) ≡ Some (record { tree = escaped_tree f e; depth = 0; rest = r })
  unfolding atom
  escape_complete room inner f t r e h = rw h refl

  bracket_complete : (room : ℕ) (inner : Reader) (f : Flags) (t r : Text) (s : Set) (d : ℕ) → 91 ∷ drop 1 t ≡ t → bracket f room t ≡ Some (record { set = s; depth = d; rest = r }) → atom parts room inner f t ≡ Some (record { tree = set_tree s; depth = d; rest = r })
  unfolding atom
  bracket_complete room inner f t r s d q h =
      let k : bracket f room (91 ∷ drop 1 t) ≡ Some (record { set = s; depth = d; rest = r }) = subst (λ (u : Text). bracket f room u ≡ Some (record { set = s; depth = d; rest = r })) (sym q) h in
      subst (λ (u : Text). atom parts room inner f u ≡ Some (record { tree = set_tree s; depth = d; rest = r })) q (rw k refl)

  others_complete : (room : ℕ) (inner : Reader) (f : Flags) (r : Text) → (atom parts room inner f (46 ∷ r) ≡ Some (record { tree = dot_tree f; depth = 0; rest = r }))
      × (atom parts room inner f (94 ∷ r) ≡ Some (record { tree = look (cond f.multi_line StartLF Start); depth = 0; rest = r })) × (atom parts room inner f (36 ∷ r) ≡ Some (record { tree = look (cond f.multi_line EndLF End); depth = 0; rest = r }))
  unfolding atom
  others_complete room inner f r = (refl, refl, refl)

  group_complete : (room : ℕ) (inner : Reader) (f : Flags) (t : Text) (o : Opening) (x : Part) → opening t ≡ o → group parts room inner f o t ≡ Some x → atom parts room inner f (40 ∷ t) ≡ Some x
  unfolding atom
  group_complete room inner f t o x h k = ap (λ p. group parts room inner f p t) h ∙ k

  plain_complete : (room : ℕ) (inner : Reader) (f : Flags) (t r : Text) (e : Tree) (g : Flags) (d : ℕ) → inner f t ≡ Some (record { tree = e; flags = g; depth = d; rest = 41 ∷ r })
      → group parts room inner f plain_group t ≡ Some (record { tree = capture None e; depth = d + 1; rest = r })
  unfolding group enclosed
  plain_complete room inner f t r e g d h = rw h refl

  named_complete : (room : ℕ) (inner : Reader) (f : Flags) (name : List ℕ) (u t r : Text) (e : Tree) (g : Flags) (d : ℕ) → inner f u ≡ Some (record { tree = e; flags = g; depth = d; rest = 41 ∷ r })
      → group parts room inner f (named_group name u) t ≡ Some (record { tree = capture (Some (encode_utf8_all name)) e; depth = d + 1; rest = r })
  unfolding group enclosed
  named_complete room inner f name u t r e g d h = rw h refl

  flagged_complete : (room : ℕ) (inner : Reader) (f k : Flags) (letters : List ℕ) (u t r : Text) (e : Tree) (g : Flags) (d : ℕ) → flags_of f letters ≡ Some k → inner k u ≡ Some (record { tree = e; flags = g; depth = d; rest = 41 ∷ r })
      → group parts room inner f (flagged_group letters u) t ≡ Some (record { tree = e; depth = d + 1; rest = r })
  unfolding group enclosed
  flagged_complete room inner f k letters u t r e g d q h = rw (q, h) refl

  part_complete : (room : ℕ) (inner : Reader) (f : Flags) (t r : Text) (p : NamedPart) → part_after parts t ≡ Some (p, r) → has_flag f ≡ false → p.levels < room
      → atom parts room inner f (123 ∷ t) ≡ Some (record { tree = p.tree; depth = p.levels + 1; rest = r })
  unfolding atom
  part_complete room inner f t r p h k lt = rw (h, k, lt-ltb p.levels room lt) refl

  pub row_end : (room : ℕ) (inner : Reader) (n : ℕ) (l : Line) → ends_branch l.rest ≡ true → row parts room inner (suc n) l ≡ Some l
  unfolding row
  row_end room inner n l h = rw h refl

  row_directive : (room : ℕ) (inner : Reader) (n : ℕ) (l : Line) (g : Flags) (letters : List ℕ) (u : Text) → ends_branch l.rest ≡ false → directive_at l.rest ≡ Some (letters, u) → flags_of l.flags letters ≡ Some g
      → row parts room inner (suc n) l ≡ row parts room inner n (record l { flags = g; rest = u })
  unfolding row row_step
  row_directive room inner n l g letters u h k e = rw (h, k, e) refl

  row_piece : (room : ℕ) (inner : Reader) (n : ℕ) (l : Line) (p : Part) → ends_branch l.rest ≡ false → directive_at l.rest ≡ None → piece parts room inner l.flags l.rest ≡ Some p
      → row parts room inner (suc n) l ≡ row parts room inner n (record { parts = l.parts ++ p.tree ∷ []; flags = l.flags; depth = max l.depth p.depth; rest = p.rest })
  unfolding row row_step
  row_piece room inner n l p h k e = rw (h, k, e) refl

  same_line : (a b : List Tree) (g : Flags) (k l : ℕ) (r : Text) → a ≡ b → k ≡ l → Some (record { parts = a; flags = g; depth = k; rest = r }) ≡ Some (let x : Line = record { parts = b; flags = g; depth = l; rest = r } in x)
  same_line a b g k l r p q = cc

  no_bar : (t : Text) → ends_expression t ≡ true → begins "|" t ≡ false
  no_bar [] h = refl
  no_bar (c ∷ t) h = subst (λ b. begins "|" (b ∷ t) ≡ false) (is_one 41 c h) refl

  pub branches_end : (room : ℕ) (inner : Reader) (n : ℕ) (l o : Line) → row parts room inner (suc (length l.rest)) (begin l.flags l.rest) ≡ Some o → begins "|" o.rest ≡ false
      → branches parts room inner (suc n) l ≡ Some (record { parts = l.parts ++ branch o.parts ∷ []; flags = o.flags; depth = max l.depth o.depth; rest = o.rest })
  unfolding branches
  branches_end room inner n l o e h = rw (e, h) refl

  branches_go : (room : ℕ) (inner : Reader) (n : ℕ) (l : Line) (es : List Tree) (g : Flags) (d : ℕ) (u : Text) → row parts room inner (suc (length l.rest)) (begin l.flags l.rest) ≡ Some (record { parts = es; flags = g; depth = d; rest = 124 ∷ u })
      → branches parts room inner (suc n) l ≡ branches parts room inner n (record { parts = l.parts ++ branch es ∷ []; flags = g; depth = max l.depth d; rest = u })
  unfolding branches
  branches_go room inner n l es g d u e = rw e refl

  piece_is : (room : ℕ) (inner : Reader) (f : Flags) (t : Text) (p : Part) → atom parts room inner f t ≡ Some p → piece parts room inner f t ≡ all_operators parts room f p
  unfolding piece
  piece_is room inner f t p h = rw h refl

  inside_is : (room : ℕ) (f : Flags) (t : Text) (l : Line) → all_branches parts room (inside parts room) (begin f t) ≡ Some l
      → inside parts (suc room) f t ≡ Some (record { tree = choice l.parts; flags = l.flags; depth = l.depth; rest = l.rest })
  unfolding inside expression_with
  inside_is room f t l h = rw h refl

  deeper : (room : ℕ) (f : Flags) (t : Text) (w : Whole) → 0 < room → inside parts (suc (room - 1)) f t ≡ Some w → inside parts room f t ≡ Some w
  deeper room f t w lt h = let k : suc (room - 1) ≡ room = omega arith in subst (λ q. inside parts q f t ≡ Some w) k h

  mutual
    Atom-complete : {f : Flags} {t r : Text} {e : Tree} {d : ℕ} → Atom parts f t r e d → (room : ℕ) → d ≤ room → atom parts room (inside parts room) f t ≡ Some (record { tree = e; depth = d; rest = r })
    Atom-complete (a_literal {f = f} {c = c} {r = r} h) room le = literal_complete room (inside parts room) f c r h
    Atom-complete (a_dot {f = f} {r = r}) room le = (others_complete room (inside parts room) f r).0
    Atom-complete (a_start {f = f} {r = r}) room le = (others_complete room (inside parts room) f r).1
    Atom-complete (an_end {f = f} {r = r}) room le = (others_complete room (inside parts room) f r).2
    Atom-complete (an_escape {f = f} {t = t} {r = r} {e = e} h) room le = escape_complete room (inside parts room) f t r e (Escape-complete h)
    Atom-complete (a_bracket {f = f} {t = t} {r = r} {s = s} {d = d} b) room le = bracket_complete room (inside parts room) f t r s d (Bracket-opens b) (Bracket-complete b room le)
    Atom-complete (a_capture {f = f} {g = g} {t = t} {r = r} {e = e} {d = d} h) room le =
        group_complete room (inside parts room) f t plain_group _ (opening_plain t (no_mark t (Expression-starts h))) (plain_complete room (inside parts room) f t r e g d (deeper room f t _ (omega arith) (Expression-complete h (room - 1) (omega arith))))
    Atom-complete (a_named {f = f} {g = g} {t = t} {r = r} {e = e} {d = d} name n h) room le =
        group_complete room (inside parts room) f _ (named_group name t) _ (opening_named name t n) (named_complete room (inside parts room) f name t _ r e g d (deeper room f t _ (omega arith) (Expression-complete h (room - 1) (omega arith))))
    Atom-complete (a_named_too {f = f} {g = g} {t = t} {r = r} {e = e} {d = d} name n h) room le =
        group_complete room (inside parts room) f _ (named_group name t) _ (opening_named_too name t n) (named_complete room (inside parts room) f name t _ r e g d (deeper room f t _ (omega arith) (Expression-complete h (room - 1) (omega arith))))
    Atom-complete (a_group {f = f} {g = g} {h = k} {t = t} {r = r} {e = e} {d = d} letters s h) room le =
        group_complete room (inside parts room) f _ (flagged_group letters t) _ (opening_flagged letters t s) (flagged_complete room (inside parts room) f g letters t _ r e k d (FlagLetters-complete s) (deeper room g t _ (omega arith) (Expression-complete h (room - 1) (omega arith))))
    Atom-complete (a_part {f = f} {r = r} {p = p} name b n k) room le = part_complete room (inside parts room) f (name ++ 125 ∷ r) r p (part_after_is parts name r p n k) b (omega arith)

    Piece-complete : {f : Flags} {t u : Text} {e : Tree} {d : ℕ} → Piece parts f t u e d → (room : ℕ) → d ≤ room → piece parts room (inside parts room) f t ≡ all_operators parts room f (record { tree = e; depth = d; rest = u })
    Piece-complete (an_atom {f = f} {t = t} h) room le = piece_is room (inside parts room) f t _ (Atom-complete h room le)
    Piece-complete (repeated {e = e} {d = d} h o) room le = Piece-complete h room (omega arith) ∙ operators_go room e o (omega arith)

    Row-complete : {f g : Flags} {t r : Text} {es : List Tree} {d : ℕ} → Row parts f t r es g d → (room : ℕ) → d ≤ room → (n : ℕ) (front : List Tree) (k : ℕ) → length t < n
        → row parts room (inside parts room) n (record { parts = front; flags = f; depth = k; rest = t }) ≡ Some (record { parts = front ++ es; flags = g; depth = max k d; rest = r })
    Row-complete (no_piece {f = f} {r = r} h) room le n front k lt =
        let s : suc (n - 1) ≡ n = omega arith in
        subst (λ q. row parts room (inside parts room) q (record { parts = front; flags = f; depth = k; rest = r }) ≡ Some (record { parts = front ++ []; flags = f; depth = max k 0; rest = r })) s
        (row_end room (inside parts room) (n - 1) (record { parts = front; flags = f; depth = k; rest = r }) h ∙ same_line front (front ++ []) f k (max k 0) r (sym (append-nil front)) (omega arith))
    Row-complete (a_directive {f = f} {g = m} {h = g} {t = t} {r = r} {es = es} {d = d} letters z s h) room le n front k lt =
        let q : suc (n - 1) ≡ n = omega arith in
        let whole : Text = 40 ∷ 63 ∷ (letters ++ 41 ∷ t) in
        subst (λ q. row parts room (inside parts room) q (record { parts = front; flags = f; depth = k; rest = whole }) ≡ Some (record { parts = front ++ es; flags = g; depth = max k d; rest = r })) q
        (row_directive room (inside parts room) (n - 1) (record { parts = front; flags = f; depth = k; rest = whole }) m letters t refl (directive_at_opening (63 ∷ (letters ++ 41 ∷ t)) (directive letters t) (opening_directive letters t s z)) (FlagLetters-complete s)
        ∙ Row-complete h room le (n - 1) front k (omega (arith, longer letters (41 ∷ t))))
    Row-complete (piece_then {f = f} {g = g} {t = t} {u = u} {r = r} {e = e} {es = es} {d = d} {k = j} p h) room le n front k lt =
        let s : suc (n - 1) ≡ n = omega arith in
        let shorter : length u < length t = Piece-shorter p in
        let found : piece parts room (inside parts room) f t ≡ Some (record { tree = e; depth = d; rest = u }) = Piece-complete p room (omega arith) ∙ operators_end room f (record { tree = e; depth = d; rest = u }) (Row-starts h) in
        subst (λ q. row parts room (inside parts room) q (record { parts = front; flags = f; depth = k; rest = t }) ≡ Some (record { parts = front ++ e ∷ es; flags = g; depth = max k (max d j); rest = r })) s
        (row_piece room (inside parts room) (n - 1) (record { parts = front; flags = f; depth = k; rest = t }) (record { tree = e; depth = d; rest = u }) (Piece-starts p).1 (Piece-no_directive p) found
        ∙ Row-complete h room (omega arith) (n - 1) (front ++ e ∷ []) (max k d) (omega arith)
        ∙ same_line ((front ++ e ∷ []) ++ es) (front ++ e ∷ es) g (max (max k d) j) (max k (max d j)) r (append_assoc front (e ∷ []) es) (omega arith))

    Branches-complete : {f g : Flags} {t r : Text} {bs : List Tree} {d : ℕ} → Branches parts f t r bs g d → (room : ℕ) → d ≤ room → (n : ℕ) (front : List Tree) (k : ℕ) → length t < n
        → branches parts room (inside parts room) n (record { parts = front; flags = f; depth = k; rest = t }) ≡ Some (record { parts = front ++ bs; flags = g; depth = max k d; rest = r })
    Branches-complete (last_branch {f = f} {g = g} {t = t} {r = r} {es = es} {d = d} h e) room le n front k lt =
        let s : suc (n - 1) ≡ n = omega arith in
        subst (λ q. branches parts room (inside parts room) q (record { parts = front; flags = f; depth = k; rest = t }) ≡ Some (record { parts = front ++ branch es ∷ []; flags = g; depth = max k d; rest = r })) s
        (branches_end room (inside parts room) (n - 1) (record { parts = front; flags = f; depth = k; rest = t }) (record { parts = es; flags = g; depth = max 0 d; rest = r }) (Row-complete h room le (suc (length t)) [] 0 (omega arith)) (no_bar r e)
        ∙ same_line (front ++ branch es ∷ []) (front ++ branch es ∷ []) g (max k (max 0 d)) (max k d) r refl (omega arith))
    Branches-complete (branch_then {f = f} {g = g} {h = gg} {t = t} {u = u} {r = r} {es = es} {bs = bs} {d = d} {k = j} h b) room le n front k lt =
        let s : suc (n - 1) ≡ n = omega arith in
        let shorter : suc (length u) ≤ length t = Row-shorter h in
        subst (λ q. branches parts room (inside parts room) q (record { parts = front; flags = f; depth = k; rest = t }) ≡ Some (record { parts = front ++ branch es ∷ bs; flags = gg; depth = max k (max d j); rest = r })) s
        (branches_go room (inside parts room) (n - 1) (record { parts = front; flags = f; depth = k; rest = t }) es g (max 0 d) u (Row-complete h room (omega arith) (suc (length t)) [] 0 (omega arith))
        ∙ Branches-complete b room (omega arith) (n - 1) (front ++ branch es ∷ []) (max k (max 0 d)) (omega arith)
        ∙ same_line ((front ++ branch es ∷ []) ++ bs) (front ++ branch es ∷ bs) gg (max (max k (max 0 d)) j) (max k (max d j)) r (append_assoc front (branch es ∷ []) bs) (omega arith))

    pub Expression-complete : {f g : Flags} {t r : Text} {e : Tree} {d : ℕ} → Expression parts f t r e g d → (room : ℕ) → d ≤ room → inside parts (suc room) f t ≡ Some (record { tree = e; flags = g; depth = d; rest = r })
    Expression-complete (of_branches {f = f} {g = g} {t = t} {r = r} {bs = bs} {d = d} b) room le =
        inside_is room f t (record { parts = bs; flags = g; depth = d; rest = r }) (Branches-complete b room le (suc (length t)) [] 0 (omega arith) ∙ same_line bs bs g (max 0 d) d r refl (omega arith))

  -- ---- a text is read in one way

  one_reading : (s : Text) (a b : Tree) (p : PatternWith parts s a) (q : PatternWith parts s b) → (a ≡ b) × (p.levels ≡ q.levels)
  one_reading s a b p q =
      let same : ◌≡◌ {A = Option Whole} (Some (record { tree = a; flags = p.flags; depth = p.levels; rest = [] })) (Some (record { tree = b; flags = q.flags; depth = q.levels; rest = [] })) =
      sym (Expression-complete p.reads most_levels p.flat) ∙ Expression-complete q.reads most_levels q.flat in
      let whole = some_is _ _ same in
      (ap (λ (w : Whole). w.tree) whole, ap (λ (w : Whole). w.depth) whole)

  pub one_tree_with : (s : Text) (a b : Tree) → PatternWith parts s a → PatternWith parts s b → a ≡ b
  one_tree_with s a b p q = (one_reading s a b p q).0

  same_part : (n m : List ℕ) (t u : Tree) (k l : ℕ) → n ≡ m → t ≡ u → k ≡ l → ◌≡◌ {A = NamedPart} (record { name = n; tree = t; levels = k }) (record { name = m; tree = u; levels = l })
  same_part n m t u k l a b c = cc

  -- a text makes at most one part of a name
  pub one_part : (name : List ℕ) (s : Text) (p q : NamedPart) → IsPart parts name s p → IsPart parts name s q → p ≡ q
  one_part name s p q h k =
      let same = one_reading s p.tree q.tree h.spells k.spells in
      same_part p.name q.name p.tree q.tree p.levels q.levels (h.name ∙ sym k.name) same.0 (h.depth ∙ same.1 ∙ sym k.depth)

  -- ---- the reader finds the only tree of the pattern, and finds nothing only if there is none

  nothing_is : (t : Text) → is_nothing t ≡ true → t ≡ []
  nothing_is [] h = refl
  nothing_is (c ∷ t) h = absurd cc

  read_finds : (room : ℕ) {s : Text} {e : Tree} {g : Flags} {d : ℕ} → Expression parts no_flags s [] e g d → d ≤ room → are_distinct (names e) ≡ true
      → read_whole parts room s ≡ Some (record { tree = e; flags = g; depth = d; rest = [] })
  read_finds room h le k = rw (Expression-complete h room le, k) refl

  read_is : (room : ℕ) (s : Text) (w : Whole) → read_whole parts room s ≡ Some w → Expression parts no_flags s [] w.tree w.flags w.depth × (w.depth ≤ room) × (are_distinct (names w.tree) ≡ true)
  read_is room s w h =
      let v = bind_some (inside parts (suc room) no_flags s) _ _ h in
      let c = guarded (is_nothing v.0.rest && are_distinct (names v.0.tree)) _ _ v.2 in
      let both = and_parts (is_nothing v.0.rest) _ c.0 in
      let k = inside_sound (suc room) no_flags s v.0 v.1 in
      let lt : v.0.depth < suc room = k.1 in
      subst (λ (y : Whole). Expression parts no_flags s [] y.tree y.flags y.depth × (y.depth ≤ room) × (are_distinct (names y.tree) ≡ true)) (some_is v.0 w c.1)
      (subst (λ (r : Text). Expression parts no_flags s r v.0.tree v.0.flags v.0.depth) (nothing_is v.0.rest both.0) k.0, omega arith, both.1)

  pub found_with : (s : Text) (w : Whole) → read_whole parts most_levels s ≡ Some w → (p : PatternWith parts s w.tree) × (p.levels ≡ w.depth)
  found_with s w h =
      let k = read_is most_levels s w h in
      (record { flags = w.flags; levels = w.depth; reads = k.0; flat = k.1; distinct = k.2 }, refl)

  pub missing_with : (s : Text) → read_whole parts most_levels s ≡ None → (o : Tree) → PatternWith parts s o → ⊥
  missing_with s h o p = let k : Some _ ≡ None = sym (read_finds most_levels p.reads p.flat p.distinct) ∙ h in absurd cc

-- without parts
pub one_tree : (s : Text) (a b : Tree) → Pattern s a → Pattern s b → a ≡ b
one_tree = one_tree_with []

pub missing : (s : Text) → read most_levels s ≡ None → (o : Tree) → Pattern s o → ⊥
unfolding read
missing s h o p = missing_with [] s (nothing (read_whole [] most_levels s) h) o p
  where
    nothing : (w : Option Whole) → (w >>= λ y. Some y.tree) ≡ None → w ≡ None
    nothing None e = refl
    nothing (Some y) e = absurd cc

-- ---- parts change the meaning of no pattern that has none

module _ (parts : List NamedPart) where
  mutual
    Atom-with : {f : Flags} {t r : Text} {e : Tree} {d : ℕ} → Atom [] f t r e d → Atom parts f t r e d
    Atom-with (a_literal h) = a_literal h
    Atom-with a_dot = a_dot
    Atom-with a_start = a_start
    Atom-with an_end = an_end
    Atom-with (an_escape h) = an_escape h
    Atom-with (a_bracket b) = a_bracket b
    Atom-with (a_capture h) = a_capture (Expression-with h)
    Atom-with (a_named name n h) = a_named name n (Expression-with h)
    Atom-with (a_named_too name n h) = a_named_too name n (Expression-with h)
    Atom-with (a_group letters s h) = a_group letters s (Expression-with h)
    Atom-with (a_part name b n k) = absurd cc

    Piece-with : {f : Flags} {t r : Text} {e : Tree} {d : ℕ} → Piece [] f t r e d → Piece parts f t r e d
    Piece-with (an_atom h) = an_atom (Atom-with h)
    Piece-with (repeated h o) = repeated (Piece-with h) o

    Row-with : {f g : Flags} {t r : Text} {es : List Tree} {d : ℕ} → Row [] f t r es g d → Row parts f t r es g d
    Row-with (no_piece h) = no_piece h
    Row-with (a_directive letters z s h) = a_directive letters z s (Row-with h)
    Row-with (piece_then p h) = piece_then (Piece-with p) (Row-with h)

    Branches-with : {f g : Flags} {t r : Text} {bs : List Tree} {d : ℕ} → Branches [] f t r bs g d → Branches parts f t r bs g d
    Branches-with (last_branch h e) = last_branch (Row-with h) e
    Branches-with (branch_then h b) = branch_then (Row-with h) (Branches-with b)

    Expression-with : {f g : Flags} {t r : Text} {e : Tree} {d : ℕ} → Expression [] f t r e g d → Expression parts f t r e g d
    Expression-with (of_branches b) = of_branches (Branches-with b)

  pub same_meaning : (s : Text) (e : Tree) → Pattern s e → PatternWith parts s e
  same_meaning s e p = record { flags = p.flags; levels = p.levels; reads = Expression-with p.reads; flat = p.flat; distinct = p.distinct }
