-- The reader of brackets finds what the grammar has.
use Rattle.std.proofs.Common.{◌≡◌, ℕ, zero, suc, ◌+◌, ◌-◌, ◌<◌, ◌≤◌, max, Bool, true, false, cond, not, nat_le, ◌==◌, List, [], ◌∷◌, ◌++◌, length, drop, Option, Some, None, refl, arith, codes, sym, ap, ◌∙◌, subst, inl, inr, append_assoc, length-append, IsTrue}
use Rattle.std.specs.List.{list_all}
use Rattle.std.specs.Char.{is_ascii_lowercase}
use Rattle.std.proofs.lemmas.List.{append-nil}
use Rattle.std.proofs.lemmas.Bool.{leb-true, le-leb, and_parts, eqb-true}
use Rattle.lalrpop_re.specs.Text.{Text, ◌▸◌, begins}
use Rattle.lalrpop_re.specs.CharacterSet.{is_one_of, Set, range, union_all, complement}
use Rattle.lalrpop_re.specs.declared.flags.Flags.{Flags}
use Rattle.lalrpop_re.specs.Escape.{Escaped, character, set, assertion}
use Rattle.lalrpop_re.specs.Bracket.{leaf, leaves, leaf_or_complement, SetOperator, Intersection, Difference, SymmetricDifference, spelling, apply, ends_operand, begins_range, begins_primary, Posix, a_class, a_complement, NoPosix, Primary, escaped, plain, Stands, a_character, a_set, Hyphens, last, more, Lead, hyphens, closing, none, Item, a_posix, a_bracket, a_primary, a_range, Operand, no_item, item_then, Operands, first, operated, Bracket, a_bracket_of, a_negated_of}
use Rattle.lalrpop_re.specs.PosixSet.{posix_set}
use Rattle.lalrpop_re.specs.Internal.Reading.{◌>>=◌, span, posix_named, posix, primary, range_of, operator_of, past_hyphens, lead, SetPart, Union, stands, simple_item, item_or, item, operand, whole_operand, operations, all_operations, operands, bracket_with, bracket}
use Rattle.lalrpop_re.proofs.Steps.{bind_some, bind_same, some_is, chosen, guarded, decided, not_false, starts_is, span_joins, span_passes, span_is, is_one, or_parts}
use Rattle.lalrpop_re.proofs.Escapes.{Escape-shorter, escape_sound, Escape-complete}

-- ---- lengths

pub Posix-shorter : {t r : Text} {s : Set} {n : Bool} → Posix t r s n → length r < length t
Posix-shorter (a_class {r = r} name l e) = omega (arith, length-append name (58 ∷ 93 ∷ r))
Posix-shorter (a_complement {r = r} name l e) = omega (arith, length-append name (58 ∷ 93 ∷ r))

pub Primary-shorter : {t r : Text} {e : Escaped} → Primary t r e → length r < length t
Primary-shorter (escaped h) = let k = Escape-shorter h in omega arith
Primary-shorter (plain h) = omega arith

Hyphens-shorter : {t r : Text} → Hyphens t r → length r ≤ length t
Hyphens-shorter (last h) = omega arith
Hyphens-shorter (more h) = let k = Hyphens-shorter h in omega arith

pub Lead-shorter : {t r : Text} {cs : List ℕ} → Lead t r cs → length r ≤ length t
Lead-shorter (hyphens h) = Hyphens-shorter h
Lead-shorter closing = omega arith
Lead-shorter (none h k) = omega arith

pub spelling-shorter : (o : SetOperator) (u : Text) → length (spelling o ▸ u) ≡ suc (suc (length u))
spelling-shorter Intersection u = refl
spelling-shorter Difference u = refl
spelling-shorter SymmetricDifference u = refl

mutual
  pub Item-shorter : {f : Flags} {t r : Text} {s : Set} {d : ℕ} → Item f t r s d → length r < length t
  Item-shorter (a_posix p) = Posix-shorter p
  Item-shorter (a_bracket n b) = Bracket-shorter b
  Item-shorter (a_primary q p n s) = Primary-shorter p
  Item-shorter (a_range q p n o le) = let k = Primary-shorter p in let j = Primary-shorter o in omega arith

  pub Operand-shorter : {f : Flags} {t r : Text} {ss : List Set} {d : ℕ} → Operand f t r ss d → length r ≤ length t
  Operand-shorter (no_item h) = omega arith
  Operand-shorter (item_then i o) = let k = Item-shorter i in let j = Operand-shorter o in omega arith

  pub Operands-shorter : {f : Flags} {t r : Text} {s : Set} {d : ℕ} → Operands f t r s d → length r ≤ length t
  Operands-shorter (first l o) = let k = Lead-shorter l in let j = Operand-shorter o in omega arith
  Operands-shorter (operated {u = u} o h r) = let k = Operands-shorter h in let j = Operand-shorter r in omega (arith, spelling-shorter o u)

  pub Bracket-shorter : {f : Flags} {t r : Text} {s : Set} {d : ℕ} → Bracket f t r s d → length r < length t
  Bracket-shorter (a_bracket_of h o) = let k = Operands-shorter o in omega arith
  Bracket-shorter (a_negated_of o) = let k = Operands-shorter o in omega arith

-- ---- POSIX classes

posix_named_sound : (negated : Bool) (t : Text) (x : Set × Bool × Text) → posix_named negated t ≡ Some x
    → (name : List ℕ) × IsTrue (list_all is_ascii_lowercase name) × (posix_set name ≡ Some x.0) × (x.1 ≡ negated) × (name ++ 58 ∷ 93 ∷ x.2 ≡ t)
unfolding posix_named
posix_named_sound negated t x e =
    let g = guarded (begins ":]" (span is_ascii_lowercase t).1) _ _ e in
    let s = bind_some (posix_set (span is_ascii_lowercase t).0) _ _ g.1 in
    let whole = ap (λ (u : Text). (span is_ascii_lowercase t).0 ++ u) (starts_is (codes ":]") _ g.0) ∙ span_joins is_ascii_lowercase t in
    subst (λ (y : Set × Bool × Text). (name : List ℕ) × IsTrue (list_all is_ascii_lowercase name) × (posix_set name ≡ Some y.0) × (y.1 ≡ negated) × (name ++ 58 ∷ 93 ∷ y.2 ≡ t))
    (some_is (s.0, negated, drop 2 (span is_ascii_lowercase t).1) x s.2) ((span is_ascii_lowercase t).0, span_passes is_ascii_lowercase t, s.1, refl, whole)

pub posix_sound : (t : Text) (x : Set × Bool × Text) → posix t ≡ Some x → Posix t x.2 x.0 x.1
unfolding posix
posix_sound t x e = elim (chosen (begins "[:^" t) _ _ _ e) [
  | inl k ↦
      let n = posix_named_sound true (drop 3 t) x k.1 in
      subst (λ (u : Text). Posix u x.2 x.0 x.1) (ap (λ (u : Text). 91 ∷ 58 ∷ 94 ∷ u) n.4 ∙ starts_is (codes "[:^") t k.0)
      (subst (λ b. Posix (91 ∷ 58 ∷ 94 ∷ (n.0 ++ 58 ∷ 93 ∷ x.2)) x.2 x.0 b) (sym n.3) (a_complement n.0 n.1 n.2))
  | inr k ↦
      let g = guarded (begins "[:" t) _ _ k.1 in
      let n = posix_named_sound false (drop 2 t) x g.1 in
      subst (λ (u : Text). Posix u x.2 x.0 x.1) (ap (λ (u : Text). 91 ∷ 58 ∷ u) n.4 ∙ starts_is (codes "[:") t g.0)
      (subst (λ b. Posix (91 ∷ 58 ∷ (n.0 ++ 58 ∷ 93 ∷ x.2)) x.2 x.0 b) (sym n.3) (a_class n.0 n.1 n.2))
]

posix_named_complete : (negated : Bool) (name : List ℕ) (r : Text) (s : Set) → IsTrue (list_all is_ascii_lowercase name) → posix_set name ≡ Some s → posix_named negated (name ++ 58 ∷ 93 ∷ r) ≡ Some (s, negated, r)
unfolding posix_named
posix_named_complete negated name r s l e = rw (span_is is_ascii_lowercase name (58 ∷ 93 ∷ r) l refl, e) refl

no_caret : (name : List ℕ) (r : Text) → IsTrue (list_all is_ascii_lowercase name) → begins "[:^" (91 ∷ 58 ∷ (name ++ 58 ∷ 93 ∷ r)) ≡ false
no_caret [] r h = refl
no_caret (c ∷ name) r h = elim (decided (94 == c)) [
  | inl e ↦ absurd (not_lower (subst (λ b. is_ascii_lowercase b ≡ true) (sym (eqb-true 94 c e)) (and_parts (is_ascii_lowercase c) _ h).0))
  | inr e ↦ rw e refl
]
  where
    not_lower : is_ascii_lowercase 94 ≡ true → ⊥
    not_lower q = cc

pub Posix-complete : {t r : Text} {s : Set} {n : Bool} → Posix t r s n → posix t ≡ Some (s, n, r)
unfolding posix
Posix-complete (a_class {s = s} {r = r} name l e) = rw (no_caret name r l) (posix_named_complete false name r s l e)
Posix-complete (a_complement {s = s} {r = r} name l e) = posix_named_complete true name r s l e

pub no_posix : (t : Text) → posix t ≡ None → NoPosix t
no_posix t h = λ r s n p. let k : ◌≡◌ {A = Option (Set × Bool × Text)} (Some (s, n, r)) None = sym (Posix-complete p) ∙ h in absurd cc

-- where no class begins, the reader finds none
posix_none : (t : Text) → NoPosix t → posix t ≡ None
posix_none t h = go (posix t) refl
  where
    go : (o : Option (Set × Bool × Text)) → posix t ≡ o → posix t ≡ None
    go None e = e
    go (Some x) e = absurd (h x.2 x.0 x.1 (posix_sound t x e))

-- ---- primaries

pub primary_sound : (t : Text) (x : Escaped × Text) → primary t ≡ Some x → Primary t x.1 x.0
unfolding primary
primary_sound [] x e = absurd cc
primary_sound (c ∷ t) x e = elim (chosen (is_one_of "\\" c) _ _ _ e) [
  | inl k ↦ subst (λ b. Primary (b ∷ t) x.1 x.0) (is_one 92 c k.0) (escaped (escape_sound t x k.1))
  | inr k ↦ subst (λ (y : Escaped × Text). Primary (c ∷ t) y.1 y.0) (some_is (character c, t) x k.1) (plain k.0)
]

pub Primary-complete : {t r : Text} {e : Escaped} → Primary t r e → primary t ≡ Some (e, r)
unfolding primary
Primary-complete (escaped h) = Escape-complete h
Primary-complete (plain h) = rw h refl

stands_sound : (f : Flags) (e : Escaped) (s : Set) → stands f e ≡ Some s → Stands f e s
stands_sound f (character c) s h = subst (λ (q : Set). Stands f (character c) q) (some_is _ s h) a_character
stands_sound f (set q n) s h = subst (λ (p : Set). Stands f (set q n) p) (some_is _ s h) a_set
stands_sound f (assertion l) s h = absurd cc

Stands-complete : {f : Flags} {e : Escaped} {s : Set} → Stands f e s → stands f e ≡ Some s
Stands-complete a_character = refl
Stands-complete a_set = refl

hyphen_is : (t : Text) → begins_range t ≡ true → 45 ∷ drop 1 t ≡ t
hyphen_is [] h = absurd cc
hyphen_is (c ∷ []) h = absurd cc
hyphen_is (c ∷ d ∷ t) h = ap (λ b. b ∷ d ∷ t) (is_one 45 c (and_parts (is_one_of "-" c) _ h).0)

-- ---- operators and the lead

pub operator_sound : (t : Text) (o : SetOperator) → operator_of t ≡ Some o → spelling o ▸ drop 2 t ≡ t
unfolding operator_of
operator_sound t o e = elim (chosen (begins "&&" t) _ _ _ e) [
  | inl k ↦ subst (λ p. spelling p ▸ drop 2 t ≡ t) (some_is _ o k.1) (starts_is (codes "&&") t k.0)
  | inr k ↦ elim (chosen (begins "--" t) _ _ _ k.1) [
    | inl l ↦ subst (λ p. spelling p ▸ drop 2 t ≡ t) (some_is _ o l.1) (starts_is (codes "--") t l.0)
    | inr l ↦ let g = guarded (begins "~~" t) _ _ l.1 in subst (λ p. spelling p ▸ drop 2 t ≡ t) (some_is _ o g.1) (starts_is (codes "~~") t g.0)
  ]
]

operator_complete : (o : SetOperator) (u : Text) → operator_of (spelling o ▸ u) ≡ Some o
unfolding operator_of
operator_complete Intersection u = refl
operator_complete Difference u = refl
operator_complete SymmetricDifference u = refl

hyphens_sound : (t : Text) → Hyphens (45 ∷ t) (past_hyphens t)
hyphens_sound [] = last refl
hyphens_sound (c ∷ t) = elim (decided (is_one_of "-" c)) [
  | inl h ↦ rw h (more (subst (λ b. Hyphens (b ∷ t) (past_hyphens t)) (is_one 45 c h) (hyphens_sound t)))
  | inr h ↦ rw h (last (no_hyphen c t h))
]
  where
    no_hyphen : (c : ℕ) (t : Text) → is_one_of "-" c ≡ false → begins "-" (c ∷ t) ≡ false
    no_hyphen c t h = rw (or_parts (45 == c) false h).0 refl

lead_sound : (t : Text) → Lead t (lead t).1 (lead t).0
unfolding lead
lead_sound t = elim (decided (begins "-" t)) [
  | inl h ↦ rw h (hyphens (subst (λ (u : Text). Hyphens u (past_hyphens t)) (starts_is (codes "-") t h) (rw (past t h) (hyphens_sound (drop 1 t)))))
  | inr h ↦ elim (decided (begins "]" t)) [
    | inl k ↦ rw (h, k) (subst (λ (u : Text). Lead u (drop 1 t) (codes "]")) (starts_is (codes "]") t k) closing)
    | inr k ↦ rw (h, k) (none h k)
  ]
]
  where
    past : (t : Text) → begins "-" t ≡ true → past_hyphens t ≡ past_hyphens (drop 1 t)
    past [] h = absurd cc
    past (c ∷ t) h = rw (and_parts (45 == c) true h).0 refl

Hyphens-complete : {t r : Text} → Hyphens t r → past_hyphens t ≡ r
Hyphens-complete (last {r = r} h) = stay r h
  where
    stay : (u : Text) → begins "-" u ≡ false → past_hyphens u ≡ u
    stay [] k = refl
    stay (c ∷ u) k = elim (decided (45 == c)) [
      | inl e ↦ absurd (let q : true ≡ false = rw e at k in cc)
      | inr e ↦ rw e refl
    ]
Hyphens-complete (more h) = Hyphens-complete h

Lead-complete : {t r : Text} {cs : List ℕ} → Lead t r cs → lead t ≡ (cs, r)
unfolding lead
Lead-complete (hyphens (last h)) = ap (λ (u : Text). (codes "-", u)) (Hyphens-complete (last h))
Lead-complete (hyphens (more h)) = ap (λ (u : Text). (codes "-", u)) (Hyphens-complete h)
Lead-complete closing = refl
Lead-complete (none h k) = rw (h, k) refl

-- ---- sound

-- what is asked of the reading of the brackets inside
abbrev pub IsSound : Flags → ℕ → (Text → Option SetPart) → Type 0
IsSound f room inner = (t : Text) (p : SetPart) → inner t ≡ Some p → Bracket f t p.rest p.set p.depth × (p.depth ≤ room)

module _ (f : Flags) (room : ℕ) (inner : Text → Option SetPart) (sound : IsSound f room inner) where
  range_item : (t after r : Text) (a b : Escaped) (s : Set) → begins_primary t ≡ true → Primary t after a → begins_range after ≡ true → Primary (drop 1 after) r b → range_of a b ≡ Some s → Item f t r (leaf f s) 0
  range_item t after r (character a) (character b) s q p h o e =
      let g = guarded (nat_le a b) _ _ e in
      let same : 45 ∷ drop 1 after ≡ after = hyphen_is after h in
      subst (λ (k : Set). Item f t r (leaf f k) 0) (some_is _ s g.1)
      (a_range q (subst (λ (u : Text). Primary t u (character a)) (sym same) p) (subst (λ (u : Text). begins_range u ≡ true) (sym same) h) o (leb-true a b g.0))
  range_item t after r (character a) (set y n) s q p h o e = absurd cc
  range_item t after r (character a) (assertion l) s q p h o e = absurd cc
  range_item t after r (set y n) b s q p h o e = absurd cc
  range_item t after r (assertion l) b s q p h o e = absurd cc

  simple_sound : (t : Text) (x : SetPart) → begins_primary t ≡ true → simple_item f t ≡ Some x → Item f t x.rest x.set x.depth × (x.depth ≤ room)
  unfolding simple_item
  simple_sound t x q e =
      let low = bind_some (primary t) _ _ e in
      let p = primary_sound t low.0 low.1 in
      elim (chosen (begins_range low.0.1) _ _ _ low.2) [
        | inl k ↦
            let high = bind_some (primary (drop 1 low.0.1)) _ _ k.1 in
            let s = bind_some (range_of low.0.0 high.0.0) _ _ high.2 in
            subst (λ (y : SetPart). Item f t y.rest y.set y.depth × (y.depth ≤ room)) (some_is _ x s.2)
            (range_item t low.0.1 high.0.1 low.0.0 high.0.0 s.0 q p k.0 (primary_sound (drop 1 low.0.1) high.0 high.1) s.1, omega arith)
        | inr k ↦
            let s = bind_some (stands f low.0.0) _ _ k.1 in
            subst (λ (y : SetPart). Item f t y.rest y.set y.depth × (y.depth ≤ room)) (some_is _ x s.2) (a_primary q p k.0 (stands_sound f low.0.0 s.0 s.1), omega arith)
      ]

  pub item_sound : (t : Text) (x : SetPart) → ends_operand t ≡ false → item f inner t ≡ Some x → Item f t x.rest x.set x.depth × (x.depth ≤ room)
  unfolding item item_or
  item_sound t x q e = go (posix t) refl e
    where
      go : (o : Option (Set × Bool × Text)) → posix t ≡ o → item_or f inner o t ≡ Some x → Item f t x.rest x.set x.depth × (x.depth ≤ room)
      go (Some p) h k = subst (λ (y : SetPart). Item f t y.rest y.set y.depth × (y.depth ≤ room)) (some_is _ x k) (a_posix (posix_sound t p h), omega arith)
      go None h k = elim (chosen (begins "[" t) _ _ _ k) [
        | inl m ↦ let b = sound t x m.1 in (a_bracket (no_posix t h) b.0, b.1)
        | inr m ↦ simple_sound t x (rw (q, m.0) refl) m.1
      ]

  pub operand_sound : (n : ℕ) (u x : Union) → operand f inner n u ≡ Some x
      → (ss : List Set) × (d : ℕ) × (x.sets ≡ u.sets ++ ss) × (x.depth ≡ max u.depth d) × Operand f u.rest x.rest ss d × (d ≤ room) × (ends_operand x.rest ≡ true)
  unfolding operand
  operand_sound zero u x e = absurd cc
  operand_sound (suc n) u x e = elim (chosen (ends_operand u.rest) _ _ _ e) [
    | inl k ↦ subst (λ (y : Union). (ss : List Set) × (d : ℕ) × (y.sets ≡ u.sets ++ ss) × (y.depth ≡ max u.depth d) × Operand f u.rest y.rest ss d × (d ≤ room) × (ends_operand y.rest ≡ true))
        (some_is u x k.1) ([], 0, sym (append-nil u.sets), omega arith, no_item k.0, omega arith, k.0)
    | inr k ↦
        let i = bind_some (item f inner u.rest) _ _ k.1 in
        let h = item_sound u.rest i.0 k.0 i.1 in
        let o = operand_sound n (record { sets = u.sets ++ i.0.set ∷ []; depth = max u.depth i.0.depth; rest = i.0.rest }) x i.2 in
        let le : i.0.depth ≤ room = h.1 in
        let deep : x.depth ≡ max (max u.depth i.0.depth) o.1 = o.3 in
        let le2 : o.1 ≤ room = o.5 in
        (i.0.set ∷ o.0, max i.0.depth o.1, o.2 ∙ append_assoc u.sets (i.0.set ∷ []) o.0, omega arith, item_then h.0 o.4, omega arith, o.6)
  ]

  pub operations_sound : (n : ℕ) (p x : SetPart) (t : Text) → operations f inner n p ≡ Some x → Operands f t p.rest p.set p.depth → p.depth ≤ room
      → Operands f t x.rest x.set x.depth × (x.depth ≤ room) × (begins "]" x.rest ≡ true)
  unfolding operations
  operations_sound zero p x t e h le = absurd cc
  operations_sound (suc n) p x t e h le = elim (chosen (begins "]" p.rest) _ _ _ e) [
    | inl k ↦ subst (λ (y : SetPart). Operands f t y.rest y.set y.depth × (y.depth ≤ room) × (begins "]" y.rest ≡ true)) (some_is p x k.1) (h, le, k.0)
    | inr k ↦
        let o = bind_some (operator_of p.rest) _ _ k.1 in
        let r = bind_some (whole_operand f inner (record { sets = []; depth = 0; rest = drop 2 p.rest })) _ _ o.2 in
        let w = operand_sound (suc (length (drop 2 p.rest))) (record { sets = []; depth = 0; rest = drop 2 p.rest }) r.0 r.1 in
        let le2 : w.1 ≤ room = w.5 in
        let deep : r.0.depth ≡ max 0 w.1 = w.3 in
        let same : w.1 ≡ r.0.depth = omega arith in
        operations_sound n (record { set = apply o.0 p.set (union_all r.0.sets); depth = max p.depth r.0.depth; rest = r.0.rest }) x t r.2
        (operated o.0 (subst (λ (u : Text). Operands f t u p.set p.depth) (sym (operator_sound p.rest o.0 o.1)) h)
        (subst (λ d. Operand f (drop 2 p.rest) r.0.rest r.0.sets d) same (subst (λ (q : List Set). Operand f (drop 2 p.rest) r.0.rest q w.1) (sym w.2) w.4)))
        (omega arith)
  ]

  operands_sound : (t : Text) (x : SetPart) → operands f inner t ≡ Some x → Operands f t x.rest x.set x.depth × (x.depth ≤ room) × (begins "]" x.rest ≡ true)
  unfolding operands
  operands_sound t x e =
      let l = bind_some (whole_operand f inner (record { sets = leaves f (lead t).0; depth = 0; rest = (lead t).1 })) _ _ e in
      let w = operand_sound (suc (length (lead t).1)) (record { sets = leaves f (lead t).0; depth = 0; rest = (lead t).1 }) l.0 l.1 in
      let le2 : w.1 ≤ room = w.5 in
      let deep : l.0.depth ≡ max 0 w.1 = w.3 in
      let same : w.1 ≡ l.0.depth = omega arith in
      operations_sound (suc (length l.0.rest)) (record { set = union_all l.0.sets; depth = l.0.depth; rest = l.0.rest }) x t l.2
      (subst (λ d. Operands f t l.0.rest (union_all l.0.sets) d) same (subst (λ (q : List Set). Operands f t l.0.rest (union_all q) w.1) (sym w.2) (first (lead_sound t) w.4)))
      (omega arith)

  bracket_with_sound : (t : Text) (x : SetPart) → bracket_with f inner t ≡ Some x → Bracket f t x.rest x.set x.depth × (x.depth ≤ suc room)
  unfolding bracket_with
  bracket_with_sound t x e = elim (chosen (begins "[^" t) _ _ _ e) [
    | inl k ↦
        let o = bind_some (operands f inner (drop 2 t)) _ _ k.1 in
        let h = operands_sound (drop 2 t) o.0 o.1 in
        let le : o.0.depth ≤ room = h.1 in
        subst (λ (y : SetPart). Bracket f t y.rest y.set y.depth × (y.depth ≤ suc room)) (some_is _ x o.2) (
          subst (λ (u : Text). Bracket f u (drop 1 o.0.rest) (complement o.0.set) (o.0.depth + 1)) (starts_is (codes "[^") t k.0)
              (a_negated_of (subst (λ (u : Text). Operands f (drop 2 t) u o.0.set o.0.depth) (sym (starts_is (codes "]") o.0.rest h.2)) h.0)),
          omega arith,
        )
    | inr k ↦
        let g = guarded (begins "[" t) _ _ k.1 in
        let o = bind_some (operands f inner (drop 1 t)) _ _ g.1 in
        let h = operands_sound (drop 1 t) o.0 o.1 in
        let le : o.0.depth ≤ room = h.1 in
        subst (λ (y : SetPart). Bracket f t y.rest y.set y.depth × (y.depth ≤ suc room)) (some_is _ x o.2) (
          subst (λ (u : Text). Bracket f u (drop 1 o.0.rest) o.0.set (o.0.depth + 1)) (starts_is (codes "[") t g.0)
              (a_bracket_of (no_caret_after (drop 1 t) (subst (λ (u : Text). begins "[^" u ≡ false) (sym (starts_is (codes "[") t g.0)) k.0))
              (subst (λ (u : Text). Operands f (drop 1 t) u o.0.set o.0.depth) (sym (starts_is (codes "]") o.0.rest h.2)) h.0)),
          omega arith,
        )
  ]
    where
      no_caret_after : (u : Text) → begins "[^" (91 ∷ u) ≡ false → begins "^" u ≡ false
      no_caret_after [] q = refl
      no_caret_after (c ∷ u) q = q

pub bracket_sound : (f : Flags) (room : ℕ) → IsSound f room (bracket f room)
unfolding bracket
bracket_sound f zero t p e = absurd cc
bracket_sound f (suc m) t p e = bracket_with_sound f m (bracket f m) (bracket_sound f m) t p e

-- ---- a loop that may run more often than there are characters reads the same

module _ (f : Flags) (room : ℕ) (inner : Text → Option SetPart) (sound : IsSound f room inner) where
  pub operand_enough : (n m : ℕ) (u : Union) → length u.rest < n → length u.rest < m → operand f inner n u ≡ operand f inner m u
  unfolding operand
  operand_enough zero m u h k = absurd (omega arith)
  operand_enough (suc n) zero u h k = absurd (omega arith)
  operand_enough (suc n) (suc m) u h k = elim (decided (ends_operand u.rest)) [
    | inl e ↦ rw e refl
    | inr e ↦ rw e (bind_same (item f inner u.rest)
        (λ (i : SetPart). operand f inner n (record { sets = u.sets ++ i.set ∷ []; depth = max u.depth i.depth; rest = i.rest }))
        (λ (i : SetPart). operand f inner m (record { sets = u.sets ++ i.set ∷ []; depth = max u.depth i.depth; rest = i.rest }))
        (λ i q.
        let s : length i.rest < length u.rest = Item-shorter (item_sound f room inner sound u.rest i e q).0 in
        operand_enough n m (record { sets = u.sets ++ i.set ∷ []; depth = max u.depth i.depth; rest = i.rest }) (omega arith) (omega arith)))
  ]

  pub operations_enough : (n m : ℕ) (p : SetPart) → length p.rest < n → length p.rest < m → operations f inner n p ≡ operations f inner m p
  unfolding operations
  operations_enough zero m p h k = absurd (omega arith)
  operations_enough (suc n) zero p h k = absurd (omega arith)
  operations_enough (suc n) (suc m) p h k =
      ap (cond (begins "]" p.rest) (Some p)) (bind_same (operator_of p.rest)
      (λ o. whole_operand f inner (record { sets = []; depth = 0; rest = drop 2 p.rest }) >>= λ (r : Union). operations f inner n (record { set = apply o p.set (union_all r.sets); depth = max p.depth r.depth; rest = r.rest }))
      (λ o. whole_operand f inner (record { sets = []; depth = 0; rest = drop 2 p.rest }) >>= λ (r : Union). operations f inner m (record { set = apply o p.set (union_all r.sets); depth = max p.depth r.depth; rest = r.rest }))
      (λ o e. bind_same (whole_operand f inner (record { sets = []; depth = 0; rest = drop 2 p.rest }))
      (λ (r : Union). operations f inner n (record { set = apply o p.set (union_all r.sets); depth = max p.depth r.depth; rest = r.rest }))
      (λ (r : Union). operations f inner m (record { set = apply o p.set (union_all r.sets); depth = max p.depth r.depth; rest = r.rest }))
      (λ r q.
      let s : length r.rest ≤ length (drop 2 p.rest) = Operand-shorter (operand_sound f room inner sound (suc (length (drop 2 p.rest))) (record { sets = []; depth = 0; rest = drop 2 p.rest }) r q).4 in
      let long : suc (suc (length (drop 2 p.rest))) ≡ length p.rest = sym (spelling-shorter o (drop 2 p.rest)) ∙ ap length (operator_sound p.rest o e) in
      operations_enough n m (record { set = apply o p.set (union_all r.sets); depth = max p.depth r.depth; rest = r.rest }) (omega arith) (omega arith))))

-- ---- complete

posix_here : (t : Text) → begins "[" t ≡ false → posix t ≡ None
unfolding posix
posix_here [] h = refl
posix_here (c ∷ t) h = elim (decided (91 == c)) [
  | inl e ↦ absurd (let q : true ≡ false = rw e at h in cc)
  | inr e ↦ rw e refl
]

Item-no_end : {f : Flags} {t r : Text} {s : Set} {d : ℕ} → Item f t r s d → ends_operand t ≡ false
Item-no_end (a_posix (a_class name l e)) = refl
Item-no_end (a_posix (a_complement name l e)) = refl
Item-no_end (a_bracket n (a_bracket_of h o)) = refl
Item-no_end (a_bracket n (a_negated_of o)) = refl
Item-no_end (a_primary {t = t} q p n s) = not_false _ (and_parts (not (ends_operand t)) _ q).0
Item-no_end (a_range {t = t} q p n o le) = not_false _ (and_parts (not (ends_operand t)) _ q).0

pub item_is_posix : (f : Flags) (inner : Text → Option SetPart) (t : Text) (x : Set × Bool × Text) → posix t ≡ Some x → item f inner t ≡ Some (record { set = leaf_or_complement f x.0 x.1; depth = 0; rest = x.2 })
unfolding item item_or
item_is_posix f inner t x h = rw h refl

pub item_is_bracket : (f : Flags) (inner : Text → Option SetPart) (t : Text) → posix t ≡ None → begins "[" t ≡ true → item f inner t ≡ inner t
unfolding item item_or
item_is_bracket f inner t h k = rw (h, k) refl

item_is_simple : (f : Flags) (inner : Text → Option SetPart) (t : Text) → begins_primary t ≡ true → item f inner t ≡ simple_item f t
unfolding item item_or
item_is_simple f inner t q =
    let k : begins "[" t ≡ false = not_false _ (and_parts (not (ends_operand t)) _ q).1 in
    rw (posix_here t k, k) refl

simple_alone : (f : Flags) (t r : Text) (e : Escaped) (s : Set) → primary t ≡ Some (e, r) → begins_range r ≡ false → stands f e ≡ Some s → simple_item f t ≡ Some (record { set = s; depth = 0; rest = r })
unfolding simple_item
simple_alone f t r e s h k l = rw (h, k, l) refl

simple_range : (f : Flags) (t u r : Text) (a b : ℕ) → primary t ≡ Some (character a, 45 ∷ u) → begins_range (45 ∷ u) ≡ true → primary u ≡ Some (character b, r) → a ≤ b
    → simple_item f t ≡ Some (record { set = leaf f (range a b); depth = 0; rest = r })
unfolding simple_item
simple_range f t u r a b h k l le = rw (h, k, l, le-leb a b le) refl

pub operand_end : (f : Flags) (inner : Text → Option SetPart) (n : ℕ) (u : Union) → ends_operand u.rest ≡ true → operand f inner (suc n) u ≡ Some u
unfolding operand
operand_end f inner n u h = rw h refl

pub operand_go : (f : Flags) (inner : Text → Option SetPart) (n : ℕ) (u : Union) (i : SetPart) → ends_operand u.rest ≡ false → item f inner u.rest ≡ Some i
    → operand f inner (suc n) u ≡ operand f inner n (record { sets = u.sets ++ i.set ∷ []; depth = max u.depth i.depth; rest = i.rest })
unfolding operand
operand_go f inner n u i h k = rw (h, k) refl

same_union : (a b : List Set) (k l : ℕ) (r : Text) → a ≡ b → k ≡ l → Some (record { sets = a; depth = k; rest = r }) ≡ Some (let x : Union = record { sets = b; depth = l; rest = r } in x)
same_union a b k l r p q = cc

no_close : (o : SetOperator) (u : Text) → begins "]" (spelling o ▸ u) ≡ false
no_close Intersection u = refl
no_close Difference u = refl
no_close SymmetricDifference u = refl

two_on : (o : SetOperator) (u : Text) → drop 2 (spelling o ▸ u) ≡ u
two_on Intersection u = refl
two_on Difference u = refl
two_on SymmetricDifference u = refl

operations_go : (f : Flags) (inner : Text → Option SetPart) (n : ℕ) (s : Set) (d : ℕ) (o : SetOperator) (u : Text) (r : Union) → whole_operand f inner (record { sets = []; depth = 0; rest = u }) ≡ Some r
    → operations f inner (suc n) (record { set = s; depth = d; rest = spelling o ▸ u }) ≡ operations f inner n (record { set = apply o s (union_all r.sets); depth = max d r.depth; rest = r.rest })
unfolding operations
operations_go f inner n s d o u r h = rw (no_close o u, operator_complete o u, two_on o u, h) refl

operands_is : (f : Flags) (inner : Text → Option SetPart) (t : Text) (cs : List ℕ) (u : Text) (l : Union) → lead t ≡ (cs, u) → whole_operand f inner (record { sets = leaves f cs; depth = 0; rest = u }) ≡ Some l
    → operands f inner t ≡ all_operations f inner (record { set = union_all l.sets; depth = l.depth; rest = l.rest })
unfolding operands
operands_is f inner t cs u l h k = rw (h, k) refl

operations_end : (f : Flags) (inner : Text → Option SetPart) (s : Set) (d : ℕ) (r : Text) → all_operations f inner (record { set = s; depth = d; rest = 93 ∷ r }) ≡ Some (record { set = s; depth = d; rest = 93 ∷ r })
unfolding operations
operations_end f inner s d r = refl

bracket_plain : (f : Flags) (inner : Text → Option SetPart) (t : Text) (p : SetPart) → begins "^" t ≡ false → operands f inner t ≡ Some p → bracket_with f inner (91 ∷ t) ≡ Some (record { set = p.set; depth = p.depth + 1; rest = drop 1 p.rest })
unfolding bracket_with
bracket_plain f inner t p h k = rw (after_open t h, k) refl
  where
    after_open : (u : Text) → begins "^" u ≡ false → begins "[^" (91 ∷ u) ≡ false
    after_open [] q = refl
    after_open (c ∷ u) q = q

bracket_negated : (f : Flags) (inner : Text → Option SetPart) (t : Text) (p : SetPart) → operands f inner t ≡ Some p → bracket_with f inner (91 ∷ 94 ∷ t) ≡ Some (record { set = complement p.set; depth = p.depth + 1; rest = drop 1 p.rest })
unfolding bracket_with
bracket_negated f inner t p k = rw k refl

bracket_is : (f : Flags) (room m : ℕ) (t : Text) (p : SetPart) → suc m ≡ room → bracket_with f (bracket f m) t ≡ Some p → bracket f room t ≡ Some p
unfolding bracket
bracket_is f room m t p e h = subst (λ k. bracket f k t ≡ Some p) e h

opens : {f : Flags} {t r : Text} {s : Set} {d : ℕ} → Bracket f t r s d → begins "[" t ≡ true
opens (a_bracket_of h o) = refl
opens (a_negated_of o) = refl

mutual
  pub Item-complete : {f : Flags} {t r : Text} {s : Set} {d : ℕ} → Item f t r s d → (room : ℕ) → d ≤ room → item f (bracket f room) t ≡ Some (record { set = s; depth = d; rest = r })
  Item-complete {f = f} (a_posix {t = t} {r = r} {s = s} {negated = n} p) room le = item_is_posix f (bracket f room) t (s, n, r) (Posix-complete p)
  Item-complete {f = f} (a_bracket {t = t} n b) room le = item_is_bracket f (bracket f room) t (posix_none t n) (opens b) ∙ Bracket-complete b room le
  Item-complete {f = f} (a_primary {t = t} {r = r} {e = e} {s = s} q p n h) room le = item_is_simple f (bracket f room) t q ∙ simple_alone f t r e s (Primary-complete p) n (Stands-complete h)
  Item-complete {f = f} (a_range {t = t} {u = u} {r = r} {low = a} {high = b} q p n o k) room le = item_is_simple f (bracket f room) t q ∙ simple_range f t u r a b (Primary-complete p) n (Primary-complete o) k

  pub Operand-complete : {f : Flags} {t r : Text} {ss : List Set} {d : ℕ} → Operand f t r ss d → (room : ℕ) → d ≤ room → (n : ℕ) (front : List Set) (k : ℕ) → length t < n
      → operand f (bracket f room) n (record { sets = front; depth = k; rest = t }) ≡ Some (record { sets = front ++ ss; depth = max k d; rest = r })
  Operand-complete {f = f} (no_item {r = r} h) room le n front k lt =
      let s : suc (n - 1) ≡ n = omega arith in
      subst (λ q. operand f (bracket f room) q (record { sets = front; depth = k; rest = r }) ≡ Some (record { sets = front ++ []; depth = max k 0; rest = r })) s
      (operand_end f (bracket f room) (n - 1) (record { sets = front; depth = k; rest = r }) h ∙ same_union front (front ++ []) k (max k 0) r (sym (append-nil front)) (omega arith))
  Operand-complete {f = f} (item_then {t = t} {u = u} {r = r} {s = s} {ss = ss} {d = d} {e = e} i o) room le n front k lt =
      let q : suc (n - 1) ≡ n = omega arith in
      let shorter : length u < length t = Item-shorter i in
      subst (λ m. operand f (bracket f room) m (record { sets = front; depth = k; rest = t }) ≡ Some (record { sets = front ++ s ∷ ss; depth = max k (max d e); rest = r })) q
      (operand_go f (bracket f room) (n - 1) (record { sets = front; depth = k; rest = t }) (record { set = s; depth = d; rest = u }) (Item-no_end i) (Item-complete i room (omega arith))
      ∙ Operand-complete o room (omega arith) (n - 1) (front ++ s ∷ []) (max k d) (omega arith)
      ∙ same_union ((front ++ s ∷ []) ++ ss) (front ++ s ∷ ss) (max (max k d) e) (max k (max d e)) r (append_assoc front (s ∷ []) ss) (omega arith))

  pub Operands-complete : {f : Flags} {t r : Text} {s : Set} {d : ℕ} → Operands f t r s d → (room : ℕ) → d ≤ room
      → operands f (bracket f room) t ≡ all_operations f (bracket f room) (record { set = s; depth = d; rest = r })
  Operands-complete {f = f} (first {t = t} {u = u} {r = r} {cs = cs} {ss = ss} {d = d} l o) room le =
      let deep : max 0 d ≡ d = omega arith in
      operands_is f (bracket f room) t cs u (record { sets = leaves f cs ++ ss; depth = max 0 d; rest = r }) (Lead-complete l) (Operand-complete o room le (suc (length u)) (leaves f cs) 0 (omega arith))
      ∙ ap (λ k. all_operations f (bracket f room) (record { set = union_all (leaves f cs ++ ss); depth = k; rest = r })) deep
  Operands-complete {f = f} (operated {t = t} {u = u} {r = r} {s = s} {ss = ss} {d = d} {e = e} o h w) room le =
      let deep : max 0 e ≡ e = omega arith in
      let shorter : length r ≤ length u = Operand-shorter w in
      let long : length (spelling o ▸ u) ≡ suc (suc (length u)) = spelling-shorter o u in
      Operands-complete h room (omega arith)
      ∙ operations_go f (bracket f room) (length (spelling o ▸ u)) s d o u (record { sets = ss; depth = max 0 e; rest = r }) (Operand-complete w room (omega arith) (suc (length u)) [] 0 (omega arith))
      ∙ ap (λ k. operations f (bracket f room) (length (spelling o ▸ u)) (record { set = apply o s (union_all ss); depth = max d k; rest = r })) deep
      ∙ operations_enough f room (bracket f room) (bracket_sound f room) (length (spelling o ▸ u)) (suc (length r)) (record { set = apply o s (union_all ss); depth = max d e; rest = r }) (omega arith) (omega arith)

  pub Bracket-complete : {f : Flags} {t r : Text} {s : Set} {d : ℕ} → Bracket f t r s d → (room : ℕ) → d ≤ room → bracket f room t ≡ Some (record { set = s; depth = d; rest = r })
  Bracket-complete {f = f} (a_bracket_of {t = t} {r = r} {s = s} {d = d} h o) room le =
      bracket_is f room (room - 1) (91 ∷ t) _ (omega arith)
      (bracket_plain f (bracket f (room - 1)) t (record { set = s; depth = d; rest = 93 ∷ r }) h (Operands-complete o (room - 1) (omega arith) ∙ operations_end f (bracket f (room - 1)) s d r))
  Bracket-complete {f = f} (a_negated_of {t = t} {r = r} {s = s} {d = d} o) room le =
      bracket_is f room (room - 1) (91 ∷ 94 ∷ t) _ (omega arith)
      (bracket_negated f (bracket f (room - 1)) t (record { set = s; depth = d; rest = 93 ∷ r }) (Operands-complete o (room - 1) (omega arith) ∙ operations_end f (bracket f (room - 1)) s d r))
