-- The ranges of a bracket's items cover the union of their sets.
use Rattle.std.proofs.Common.{◌≡◌, ◌↔◌, ◌⊎◌, ℕ, zero, suc, ◌≤◌, min, max, Bool, true, false, ◌&&◌, ◌||◌, ◌==◌, List, [], ◌∷◌, ◌++◌, refl, sym, ap, ◌∙◌, subst, inl, inr, arith, Some, Result, Ok, Err, OnOk, is_ok, cond}
use Rattle.std.proofs.lemmas.Bool.{or_cases, le-leb}
use Rattle.std.proofs.lemmas.Bool.Decides.{nat_tests}
use Rattle.unicode.specs.CaseFolding.{simple_fold}
use Rattle.lalrpop_hir.specs.Range.{Range, Covered}
use Rattle.lalrpop_hir.specs.Runs.{IsScalar, IsCanon}
use Rattle.lalrpop_re.specs.CharacterSet.{Set, is_scalar, just, range, union_all, some_below, fold, Members, HasRuns}
use Rattle.lalrpop_re.proofs.CanonLaws.{IsScalar-is_scalar}
use Rattle.lalrpop_re.specs.declared.flags.Flags.{Flags}
use Rattle.lalrpop_re.specs.declared.escape_sequence.EscapedPart.{EscapedPart}
use Rattle.lalrpop_re.specs.declared.escape_sequence.EscapedPart.TheVariants as code
use Rattle.lalrpop_re.specs.Escape.{Escaped, character, set, assertion}
use Rattle.lalrpop_re.specs.Bracket.{leaf, leaf_or_complement}
use Rattle.lalrpop_re.specs.Internal.Reading.{stands, range_of}
use Rattle.lalrpop_re.specs.Internal.Views.{HasMembers, StandsForEscaped}
use Rattle.lalrpop_re.specs.Internal.Items.{Gains}

-- ---- what lists of ranges and unions of sets contain

Covered-append : (xs ys : List Range) (c : ℕ) → Covered (xs ++ ys) c ↔ (Covered xs c ⊎ Covered ys c)
Covered-append [] ys c = (λ h. inr h, λ h. elim h [ inl a ↦ absurd a | inr b ↦ b ])
Covered-append (x ∷ xs) ys c =
    let rest = Covered-append xs ys c in (
      λ h. elim h [ inl a ↦ inl (inl a) | inr b ↦ elim (rest.0 b) [ inl p ↦ inl (inr p) | inr q ↦ inr q ] ],
      λ h. elim h [ inl a ↦ elim a [ inl p ↦ inl p | inr q ↦ inr (rest.1 (inl q)) ] | inr b ↦ inr (rest.1 (inr b)) ],
    )

or-left : (a b : Bool) → a ≡ true → (a || b) ≡ true
or-left true b h = refl
or-left false b h = absurd cc

or-right : (a b : Bool) → b ≡ true → (a || b) ≡ true
or-right true b h = refl
or-right false b h = h

union_more : (ss : List Set) (s : Set) (c : ℕ) → Members (union_all (ss ++ s ∷ [])) c ↔ (Members (union_all ss) c ⊎ Members s c)
union_more [] s c = (
  λ h. elim (or_cases (s c) false h) [ inl a ↦ inr a | inr b ↦ absurd cc ],
  λ h. elim h [ inl a ↦ absurd cc | inr b ↦ or-left (s c) false b ],
)
union_more (q ∷ ss) s c =
    let rest = union_more ss s c in (
      λ h. elim (or_cases (q c) (union_all (ss ++ s ∷ []) c) h) [ inl a ↦ inl (or-left (q c) (union_all ss c) a) | inr b ↦ elim (rest.0 b) [ inl p ↦ inl (or-right (q c) (union_all ss c) p) | inr p ↦ inr p ] ],
      λ h. elim h [
        | inl a ↦ elim (or_cases (q c) (union_all ss c) a) [ inl p ↦ or-left (q c) (union_all (ss ++ s ∷ []) c) p | inr p ↦ or-right (q c) (union_all (ss ++ s ∷ []) c) (rest.1 (inl p)) ]
        | inr b ↦ or-right (q c) (union_all (ss ++ s ∷ []) c) (rest.1 (inr b))
      ],
    )

-- ---- gains

pub Gains-append : (rs qs : List Range) (s : Set) → HasMembers qs s → Gains rs (rs ++ qs) s
Gains-append rs qs s h = λ c k.
    let both = Covered-append rs qs c in
    let same = h c k in (
      λ a. elim (both.0 a) [ inl p ↦ inl p | inr p ↦ inr (same.1 p) ],
      λ a. elim a [ inl p ↦ both.1 (inl p) | inr p ↦ both.1 (inr (same.0 p)) ],
    )

pub Gains-same : (rs qs : List Range) (s t : Set) → ((c : ℕ) → IsScalar c → s c ≡ t c) → Gains rs qs s → Gains rs qs t
Gains-same rs qs s t e h = λ c k.
    let g = h c k in (
      λ a. elim (g.0 a) [ inl p ↦ inl p | inr p ↦ inr (sym (e c k) ∙ p) ],
      λ a. elim a [ inl p ↦ g.1 (inl p) | inr p ↦ g.1 (inr (e c k ∙ p)) ],
    )

pub HasMembers-gains : (rs qs : List Range) (ss : List Set) (s : Set) → HasMembers rs (union_all ss) → Gains rs qs s → HasMembers qs (union_all (ss ++ s ∷ []))
HasMembers-gains rs qs ss s h g = λ c k.
    let before = h c k in
    let gain = g c k in
    let more = union_more ss s c in (
      λ m. elim (more.0 m) [ inl p ↦ gain.1 (inl (before.0 p)) | inr p ↦ gain.1 (inr p) ],
      λ m. elim (gain.0 m) [ inl p ↦ more.1 (inl (before.1 p)) | inr p ↦ more.1 (inr p) ],
    )

-- the class of ranges has the runs of the set that they cover
pub HasRuns-from_members : (rs class : List Range) (s : Set) → IsCanon (Covered rs) class → HasMembers rs s → HasRuns class s
HasRuns-from_members rs class s h m = (h.0, λ c k. let a = h.1 c k in let b = m c k in (λ x. a.0 (b.0 x), λ x. b.1 (a.1 x)))

-- ---- leaves

range_members-one : (low high c : ℕ) → low ≤ high → IsScalar c → Members (range low high) c ↔ Covered (record { start = min low high; end = max low high } ∷ []) c
range_members-one low high c le k = (λ h. grind (arith, nat_tests), λ h. grind (arith, nat_tests))

pub range_members : (low high : ℕ) → low ≤ high → HasMembers (record { start = min low high; end = max low high } ∷ []) (range low high)
range_members low high le = λ c k. range_members-one low high c le k

just_range : (c d : ℕ) → is_scalar d ≡ true → just c d ≡ range c c d
just_range c d h = grind (arith, nat_tests)

and_same : (a b c : Bool) → (a ≡ true → b ≡ c) → (a && b) ≡ (a && c)
and_same true b c h = h refl
and_same false b c h = refl

some_below-same : (n : ℕ) (p q : Set) → ((c : ℕ) → is_scalar c ≡ true → p c ≡ q c) → some_below n p ≡ some_below n q
unfolding some_below
some_below-same zero p q h = refl
some_below-same (suc n) p q h = rw (and_same (is_scalar n) (p n) (q n) (h n), some_below-same n p q h) refl

fold-just : (c d : ℕ) → fold (just c) d ≡ fold (range c c) d
unfolding fold
fold-just c d = ap (λ b. is_scalar d && b) (some_below-same 0x11_0000 (λ e. just c e && (simple_fold e == simple_fold d)) (λ e. range c c e && (simple_fold e == simple_fold d)) (λ e k. ap (λ b. b && (simple_fold e == simple_fold d)) (just_range c e k)))

pub leaf-just : (f : Flags) (c d : ℕ) → IsScalar d → leaf f (range c c) d ≡ leaf f (just c) d
leaf-just f c d k = go f.case_insensitive
  where
    go : (b : Bool) → cond b (fold (range c c)) (range c c) d ≡ cond b (fold (just c)) (just c) d
    go true = sym (fold-just c d)
    go false = sym (just_range c d (IsScalar-is_scalar d k))

-- a leaf without folding
pub Gains-plain : (f : Flags) (low high : ℕ) (rs qs : List Range) → low ≤ high → f.case_insensitive ≡ false → qs ≡ rs ++ record { start = min low high; end = max low high } ∷ [] → Gains rs qs (leaf f (range low high))
Gains-plain f low high rs qs le plain e =
    let one : List Range = record { start = min low high; end = max low high } ∷ [] in
    let all : Gains rs (rs ++ one) (range low high) = Gains-append rs one (range low high) (range_members low high le) in
    let same : leaf f (range low high) ≡ range low high = rw plain refl in
    subst (λ (q : Set). Gains rs qs q) (sym same) (subst (λ (x : List Range). Gains rs x (range low high)) (sym e) all)

-- ---- what the functions that add a set return

pub where_ok : {T E P Q : Type 0} (r : Result T E) → OnOk r P → (P → Q) → OnOk r Q
where_ok (Ok a) h k = k h
where_ok (Err e) h k = tt

pub extended : {E : Type 0} (r : Result (Unit {0}) E) (rs qs others class : List Range) → qs ≡ cond (is_ok r) (rs ++ others) rs → others ≡ class → OnOk r ((s : Set) → HasRuns class s → Gains rs qs s)
extended (Ok a) rs qs others class e k = λ s h. subst (λ (x : List Range). Gains rs x s) (sym (e ∙ ap (λ (x : List Range). rs ++ x) k)) (Gains-append rs class s h.1)
extended (Err e) rs qs others class p k = tt

pub character_pushed : (f : Flags) (p : EscapedPart) (c : ℕ) (rs qs : List Range) → p ≡ code.Character c → Gains rs qs (leaf f (just c)) → (e : Escaped) → StandsForEscaped p e → (s : Set) × (stands f e ≡ Some s) × Gains rs qs s
character_pushed f p c rs qs is g = subst (λ (q : EscapedPart). (e : Escaped) → StandsForEscaped q e → (s : Set) × (stands f e ≡ Some s) × Gains rs qs s) (sym is) (here)
  where
    here : (e : Escaped) → StandsForEscaped (code.Character c) e → (s : Set) × (stands f e ≡ Some s) × Gains rs qs s
    here (character d) k = (leaf f (just d), refl, subst (λ b. Gains rs qs (leaf f (just b))) k g)
    here (set s n) k = absurd k
    here (assertion l) k = absurd k

pub set_pushed : (f : Flags) (p : EscapedPart) (class : List Range) (negated : Bool) (rs qs : List Range) → p ≡ code.Set class negated → ((s : Set) → HasRuns class s → Gains rs qs (leaf_or_complement f s negated))
    → (e : Escaped) → StandsForEscaped p e → (s : Set) × (stands f e ≡ Some s) × Gains rs qs s
set_pushed f p class negated rs qs is g = subst (λ (q : EscapedPart). (e : Escaped) → StandsForEscaped q e → (s : Set) × (stands f e ≡ Some s) × Gains rs qs s) (sym is) (here)
  where
    here : (e : Escaped) → StandsForEscaped (code.Set class negated) e → (s : Set) × (stands f e ≡ Some s) × Gains rs qs s
    here (character d) k = absurd k
    here (set s n) k = (leaf_or_complement f s n, refl, subst (λ b. Gains rs qs (leaf_or_complement f s b)) k.1 (g s k.0))
    here (assertion l) k = absurd k

pub range_pushed : (f : Flags) (p q : EscapedPart) (low high : ℕ) (rs qs : List Range) → p ≡ code.Character low → q ≡ code.Character high → low ≤ high → Gains rs qs (leaf f (range low high))
    → (e h : Escaped) → StandsForEscaped p e → StandsForEscaped q h → (s : Set) × (range_of e h ≡ Some s) × Gains rs qs (leaf f s)
range_pushed f p q low high rs qs is so le g =
    subst (λ (x : EscapedPart). (e h : Escaped) → StandsForEscaped x e → StandsForEscaped q h → (s : Set) × (range_of e h ≡ Some s) × Gains rs qs (leaf f s)) (sym is)
    (subst (λ (y : EscapedPart). (e h : Escaped) → StandsForEscaped (code.Character low) e → StandsForEscaped y h → (s : Set) × (range_of e h ≡ Some s) × Gains rs qs (leaf f s)) (sym so) here)
  where
    here : (e h : Escaped) → StandsForEscaped (code.Character low) e → StandsForEscaped (code.Character high) h → (s : Set) × (range_of e h ≡ Some s) × Gains rs qs (leaf f s)
    here (character a) (character b) k l =
        let both : a ≤ b = omega arith in
        (range a b, rw (le-leb a b both) refl, subst (λ n. Gains rs qs (leaf f (range a n))) l (subst (λ n. Gains rs qs (leaf f (range n high))) k g))
    here (character a) (set s n) k l = absurd l
    here (character a) (assertion m) k l = absurd l
    here (set s n) h k l = absurd k
    here (assertion m) h k l = absurd k
