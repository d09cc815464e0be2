-- The edges from one state after another.
use Rattle.std.proofs.Common.{◌≡◌, ◌≢◌, ℕ, zero, suc, ◌+◌, ◌<◌, ◌≤◌, ◌⊎◌, inl, inr, ◌↔◌, List, [], ◌∷◌, ◌++◌, length, get_or, take, All, None, refl, sym, ap, subst, ◌∙◌, arith}
use Rattle.std.specs.Str.{chars}
use Rattle.std.proofs.lemmas.Bool.{cases_lt, cases_eq}
use Rattle.std.proofs.lemmas.List.Elements.{All-head}
use Rattle.lalrpop_hir.specs.Range.{Range, Covers, Covered}
use Rattle.lalrpop_hir.specs.Tree.{class, unicode}
use Rattle.lalrpop_hir.specs.Fault.{fault}
use Rattle.lalrpop_hir.specs.Language.{Matches}
use Rattle.lalrpop_hir.specs.Parts.{of_text}
use Rattle.lalrpop_hir.specs.Runs.{IsScalar, IsCanon, HaveEndsIn}
use Rattle.lalrpop_hir.proofs.Languages.{Matches-of_text}
use Rattle.lalrpop_re.specs.declared.edge.Edge.{Edge}
use Rattle.lalrpop_re.specs.Internal.Walks.{Graph, Reads, IsWithin}
use Rattle.lalrpop_re.specs.Internal.Edges.{Labels, between}
use Rattle.lalrpop_re.specs.Internal.Steps.{IsStep, StepsTo, Automaton, AddsSteps}
use Rattle.lalrpop_re.proofs.EdgeLists.{between-push}
use Rattle.lalrpop_re.proofs.Searching.{ends-more, IsStep-unique, step_of}

-- ---- classes

-- a value of a class is a character, or lies among the surrogates: then the class has the characters beside them
scalar-or-between : (rs : List Range) (c : ℕ) → HaveEndsIn IsScalar rs → Covered rs c → IsScalar c ⊎ ((55295 < c) × (c < 57344) × Covered rs 55295 × Covered rs 57344)
scalar-or-between [] c ends none = absurd none
scalar-or-between (r ∷ rs) c ends (inr more) =
    elim (scalar-or-between rs c ends.2 more) [ inl s ↦ inl s | inr b ↦ inr (b.0, b.1, inr b.2, inr b.3) ]
scalar-or-between (r ∷ rs) c ends (inl here) = by_place (cases_lt 55295 c) (cases_lt c 57344)
  where
    by_place : (55295 < c) ⊎ (c ≤ 55295) → (c < 57344) ⊎ (57344 ≤ c) → IsScalar c ⊎ ((55295 < c) × (c < 57344) × Covered (r ∷ rs) 55295 × Covered (r ∷ rs) 57344)
    by_place (inr low) _ = inl (inl low)
    by_place (inl above) (inr high) = inl (inr (high, elim ends.1 [ inl e ↦ omega (arith, e, here.1, high) | inr e ↦ omega (arith, e.1, here.1) ]))
    by_place (inl above) (inl below) =
        let first : r.start ≤ 55295 = elim ends.0 [ inl e ↦ e | inr e ↦ omega (arith, e.0, here.0, below) ] in
        let last : 57344 ≤ r.end = elim ends.1 [ inl e ↦ omega (arith, e, here.1, above) | inr e ↦ e.0 ] in
        inr (above, below, inl (first, omega (arith, last)), inl (omega (arith, first), last))

-- the words of the class of one character
only-word : (d : ℕ) (rs : List Range) (w : List ℕ) → IsCanon (λ c. c ≡ d) rs → Matches (class (unicode rs)) w → w ≡ d ∷ []
only-word d rs w k (c, (e, h)) = by_kind (scalar-or-between rs c k.0.1 h)
  where
    by_kind : IsScalar c ⊎ ((55295 < c) × (c < 57344) × Covered rs 55295 × Covered rs 57344) → w ≡ d ∷ []
    by_kind (inl s) = e ∙ ap (λ x. x ∷ []) ((k.1 c s).1 h)
    by_kind (inr b) =
        let low : IsScalar 55295 = inl (omega arith) in
        let high : IsScalar 57344 = inr (omega arith, omega arith) in
        absurd (omega (arith, (k.1 55295 low).1 b.2, (k.1 57344 high).1 b.3))

-- a class has its words of characters
class-word : (S : ℕ → Type 0) (rs : List Range) (w : List ℕ) (c : ℕ) → IsCanon S rs → All IsScalar w → w ≡ c ∷ [] → S c → Matches (class (unicode rs)) w
class-word S rs w c k s e h = (c, (e, (k.1 c (All-head IsScalar c [] (subst (λ x. All IsScalar x) e s))).0 h))

-- the range of one character
abbrev pub IsOnly : Range → ℕ → Type 0
IsOnly r c = (r.start ≡ c) × (r.end ≡ c)

Covered-push : (rs : List Range) (r : Range) (d c : ℕ) → IsOnly r d → Covered (rs ++ r ∷ []) c ↔ (Covered rs c ⊎ (c ≡ d))
Covered-push [] r d c o = (front, back)
  where
    front : Covers r c ⊎ ⊥ → ⊥ ⊎ (c ≡ d)
    front (inl h) = inr (omega (arith, h.0, h.1, o.0, o.1))
    front (inr n) = absurd n

    back : ⊥ ⊎ (c ≡ d) → Covers r c ⊎ ⊥
    back (inl n) = absurd n
    back (inr e) = inl (omega (arith, e, o.0), omega (arith, e, o.1))
Covered-push (s ∷ rs) r d c o = step (Covered-push rs r d c o)
  where
    step : Covered (rs ++ r ∷ []) c ↔ (Covered rs c ⊎ (c ≡ d)) → (Covers s c ⊎ Covered (rs ++ r ∷ []) c) ↔ ((Covers s c ⊎ Covered rs c) ⊎ (c ≡ d))
    step (f, g) = (front, back)
      where
        front : Covers s c ⊎ Covered (rs ++ r ∷ []) c → (Covers s c ⊎ Covered rs c) ⊎ (c ≡ d)
        front (inl h) = inl (inl h)
        front (inr h) = elim (f h) [ inl a ↦ inl (inr a) | inr e ↦ inr e ]

        back : (Covers s c ⊎ Covered rs c) ⊎ (c ≡ d) → Covers s c ⊎ Covered (rs ++ r ∷ []) c
        back (inl (inl h)) = inl h
        back (inl (inr h)) = inr (g (inl h))
        back (inr e) = inr (g (inr e))

-- the class of one character
pub canon-only : (r : Range) (rs : List Range) (d : ℕ) → IsOnly r d → IsCanon (Covered (r ∷ [])) rs → IsCanon (λ c. c ≡ d) rs
canon-only r rs d o k = (k.0, λ c s. (λ e. (k.1 c s).0 ((Covered-push [] r d c o).1 (inr e)), λ h. elim ((Covered-push [] r d c o).0 ((k.1 c s).1 h)) [ inl n ↦ absurd n | inr e ↦ e ]))

-- the class of all others
pub canon-others : (rs cs others : List Range) → IsCanon (Covered rs) cs → IsCanon (λ c. ¬ Covered cs c) others → IsCanon (λ c. ¬ Covered rs c) others
canon-others rs cs others k n = (n.0, λ c s. (λ h. (n.1 c s).0 (λ m. h ((k.1 c s).1 m)), λ m h. (n.1 c s).1 m ((k.1 c s).0 h)))

-- ---- the steps from one state

-- the character leads on from state k to one of the states 1 to n
abbrev pub LeadsOnBelow : List ℕ → ℕ → ℕ → ℕ → Type 0
LeadsOnBelow end k n c = (j : ℕ) × ((j < n) × (get_or end j 0 ≡ c) × IsStep end k c (j + 1))

-- the words of the steps from state k to the states 1 to n
abbrev pub StepsBelow : List ℕ → ℕ → ℕ → Graph
StepsBelow end k n p q w =
    (p ≡ k) × ((j : ℕ) × ((j < n) × (q ≡ j + 1) × (w ≡ get_or end j 0 ∷ []) × IsStep end k (get_or end j 0) (j + 1)))

-- N reads the words of M, and those of these steps
abbrev pub AddsStepsBelow : List ℕ → ℕ → ℕ → Graph → Graph → Type 0
AddsStepsBelow end k n M N = Reads (λ p q w. M p q w ⊎ StepsBelow end k n p q w) N

-- the automaton with the steps from the states below n alone
abbrev pub AutomatonBelow : List ℕ → List ℕ → ℕ → Graph
AutomatonBelow start end n p q w = ((p ≡ length end + 1) × (q ≡ 0) × (w ≡ start)) ⊎ ((p < n) × StepsTo end p q w)

module _ (end : List ℕ) (k i s : ℕ) (step : IsStep end k (get_or end i 0) s) where
  -- the character at i leads to state i + 1
  pub below-one : (M : Graph) (es es' : List Edge) (x : Edge) (rs : List Range) → s ≡ i + 1 → x.from ≡ k → x.to ≡ i + 1 → x.tree ≡ class (unicode rs) → IsCanon (λ d. d ≡ get_or end i 0) rs → es' ≡ es ++ x ∷ [] → AddsStepsBelow end k i M (between es) → AddsStepsBelow end k (i + 1) M (between es')
  below-one M es es' x rs e f g t canon a h p q w = (front, back)
    where
      to : Labels x p q w → StepsBelow end k (i + 1) p q w
      to (b, c, m) =
          let word = only-word (get_or end i 0) rs w canon (subst (λ y. Matches y w) t m) in
          (sym b ∙ f, (i, (omega arith, sym c ∙ g, word, subst (IsStep end k (get_or end i 0)) e step)))

      from : All IsScalar w → (p ≡ k) → (q ≡ i + 1) → (w ≡ get_or end i 0 ∷ []) → Labels x p q w
      from sc b c y =
          (f ∙ sym b, g ∙ sym c, subst (λ v. Matches v w) (sym t) (class-word (λ d. d ≡ get_or end i 0) rs w (get_or end i 0) canon sc y refl))

      front : between es' p q w → M p q w ⊎ StepsBelow end k (i + 1) p q w
      front m =
          elim ((between-push es x p q w).0 (subst (λ l. between l p q w) a m)) [
            | inl b ↦ elim ((h p q w).0 b) [
              | inl c ↦ inl c
              | inr (b, (j, (l, c, y, z))) ↦ inr (b, (j, (omega arith, c, y, z)))
            ]
            | inr b ↦ inr (to b)
          ]

      by_place : All IsScalar w → (p ≡ k) → (j : ℕ) → (j < i + 1) → (q ≡ j + 1) → (w ≡ get_or end j 0 ∷ []) → IsStep end k (get_or end j 0) (j + 1) → (j ≡ i) ⊎ (j ≢ i) → between es p q w ⊎ Labels x p q w
      by_place sc b j l c y z (inl v) = inr (from sc b (c ∙ ap (λ n. n + 1) v) (y ∙ ap (λ n. get_or end n 0 ∷ []) v))
      by_place sc b j l c y z (inr v) = inl ((h p q w).1 sc (inr (b, (j, (omega arith, c, y, z)))))

      back : All IsScalar w → M p q w ⊎ StepsBelow end k (i + 1) p q w → between es' p q w
      back sc (inl m) = subst (λ l. between l p q w) (sym a) ((between-push es x p q w).1 (inl ((h p q w).1 sc (inl m))))
      back sc (inr (b, (j, (l, c, y, z)))) =
          subst (λ l. between l p q w) (sym a) ((between-push es x p q w).1 (by_place sc b j l c y z (cases_eq j i)))

  pub leads-one : (rs rs' : List Range) (r : Range) → s ≡ i + 1 → IsOnly r (get_or end i 0) → rs' ≡ rs ++ r ∷ [] → ((c : ℕ) → Covered rs c ↔ LeadsOnBelow end k i c) → (c : ℕ) → Covered rs' c ↔ LeadsOnBelow end k (i + 1) c
  leads-one rs rs' r e o a h c = (front, back)
    where
      front : Covered rs' c → LeadsOnBelow end k (i + 1) c
      front m =
          elim ((Covered-push rs r (get_or end i 0) c o).0 (subst (λ l. Covered l c) a m)) [
            | inl b ↦ (let t = (h c).0 b in (t.0, (omega (arith, t.1.0), t.1.1, t.1.2)))
            | inr b ↦ (i, (omega arith, sym b, subst (λ d. IsStep end k d (i + 1)) (sym b) (subst (IsStep end k (get_or end i 0)) e step)))
          ]

      by_place : (j : ℕ) → (j < i + 1) → (get_or end j 0 ≡ c) → IsStep end k c (j + 1) → (j ≡ i) ⊎ (j ≢ i) → Covered rs c ⊎ (c ≡ get_or end i 0)
      by_place j l y z (inl v) = inr (sym y ∙ ap (λ n. get_or end n 0) v)
      by_place j l y z (inr v) = inl ((h c).1 (j, (omega arith, y, z)))

      back : LeadsOnBelow end k (i + 1) c → Covered rs' c
      back (j, (l, y, z)) =
          subst (λ l. Covered l c) (sym a) ((Covered-push rs r (get_or end i 0) c o).1 (by_place j l y z (cases_eq j i)))

  -- the character at i doesn't
  pub below-none : (M N : Graph) → s ≢ i + 1 → AddsStepsBelow end k i M N → AddsStepsBelow end k (i + 1) M N
  below-none M N n h p q w = (front, back)
    where
      front : N p q w → M p q w ⊎ StepsBelow end k (i + 1) p q w
      front m =
          elim ((h p q w).0 m) [ inl c ↦ inl c | inr (b, (j, (l, c, y, z))) ↦ inr (b, (j, (omega arith, c, y, z))) ]

      by_place : (p ≡ k) → (j : ℕ) → (j < i + 1) → (q ≡ j + 1) → (w ≡ get_or end j 0 ∷ []) → IsStep end k (get_or end j 0) (j + 1) → (j ≡ i) ⊎ (j ≢ i) → StepsBelow end k i p q w
      by_place b j l c y z (inl v) =
          absurd (n (IsStep-unique end k (get_or end i 0) s (i + 1) step (subst (λ x. IsStep end k (get_or end x 0) (x + 1)) v z)))
      by_place b j l c y z (inr v) = (b, (j, (omega arith, c, y, z)))

      back : All IsScalar w → M p q w ⊎ StepsBelow end k (i + 1) p q w → N p q w
      back sc (inl m) = (h p q w).1 sc (inl m)
      back sc (inr (b, (j, (l, c, y, z)))) = (h p q w).1 sc (inr (by_place b j l c y z (cases_eq j i)))

  pub leads-not : (rs : List Range) → s ≢ i + 1 → ((c : ℕ) → Covered rs c ↔ LeadsOnBelow end k i c) → (c : ℕ) → Covered rs c ↔ LeadsOnBelow end k (i + 1) c
  leads-not rs n h c = (λ m. front ((h c).0 m), back)
    where
      front : LeadsOnBelow end k i c → LeadsOnBelow end k (i + 1) c
      front (j, (l, y, z)) = (j, (omega arith, y, z))

      by_place : (j : ℕ) → (j < i + 1) → (get_or end j 0 ≡ c) → IsStep end k c (j + 1) → (j ≡ i) ⊎ (j ≢ i) → LeadsOnBelow end k i c
      by_place j l y z (inl v) =
          let same : c ≡ get_or end i 0 = sym y ∙ ap (λ x. get_or end x 0) v in
          absurd (n (IsStep-unique end k (get_or end i 0) s (i + 1) step (subst (λ x. IsStep end k (get_or end i 0) (x + 1)) v (subst (λ d. IsStep end k d (j + 1)) same z))))
      by_place j l y z (inr v) = (j, (omega arith, y, z))

      back : LeadsOnBelow end k (i + 1) c → Covered rs c
      back (j, (l, y, z)) = (h c).1 (by_place j l y z (cases_eq j i))

-- all other characters lead back
pub all-steps : (end : List ℕ) (k n : ℕ) (M : Graph) (es es' : List Edge) (x : Edge) (rs others : List Range) → k < length end → All IsScalar end → n ≡ k + 1 → x.from ≡ k → x.to ≡ 0 → x.tree ≡ class (unicode others) → IsCanon (λ c. ¬ Covered rs c) others → es' ≡ es ++ x ∷ [] → AddsStepsBelow end k n M (between es) → ((c : ℕ) → Covered rs c ↔ LeadsOnBelow end k n c) → AddsSteps end k M (between es')
all-steps end k n M es es' x rs others within scalars whole f g t outside a h leads p q w = (front, back)
  where
    -- a character that doesn't lead on leads to state 0
    to_start : (c : ℕ) → ¬ LeadsOnBelow end k n c → ((j : ℕ) × IsStep end k c j) → IsStep end k c 0
    to_start c no_more (zero, s) = s
    to_start c no_more (suc j, s) =
        let e : suc j ≡ j + 1 = omega arith in
        let z : IsStep end k c (j + 1) = subst (IsStep end k c) e s in
        let r = ends-more end (take k end) c j (omega (arith, s.within)) z.read in
        absurd (no_more (j, (omega (arith, s.within), r.1, z)))

    to : Labels x p q w → (p ≡ k) × StepsTo end k q w
    to (b, d, m) = by_value (subst (λ y. Matches y w) t m)
      where
        -- no value of the class leads on: that is told of the characters, and the end has none but those
        by_kind : (c : ℕ) → IsScalar c ⊎ ((55295 < c) × (c < 57344) × Covered others 55295 × Covered others 57344) → Covered others c → ¬ LeadsOnBelow end k n c
        by_kind c (inl s) in_class l = (outside.1 c s).1 in_class ((leads c).1 l)
        by_kind c (inr between) in_class (j, (l, y, z)) =
            elim (scalars j 0 (omega arith)) [ inl low ↦ omega (arith, low, y, between.0) | inr high ↦ omega (arith, high.0, y, between.1) ]

        by_value : Matches (class (unicode others)) w → (p ≡ k) × StepsTo end k q w
        by_value (c, (e, in_class)) =
            let no_more : ¬ LeadsOnBelow end k n c = by_kind c (scalar-or-between others c outside.0.1 in_class) in_class in
            (sym b ∙ f, (c, (e, subst (IsStep end k c) (sym g ∙ d) (to_start c no_more (step_of end k c)))))

    front : between es' p q w → M p q w ⊎ ((p ≡ k) × StepsTo end k q w)
    front m =
        elim ((between-push es x p q w).0 (subst (λ l. between l p q w) a m)) [
          | inl b ↦ elim ((h p q w).0 b) [
            | inl c ↦ inl c
            | inr (b, (j, (l, c, y, z))) ↦ inr (b, (get_or end j 0, (y, subst (IsStep end k (get_or end j 0)) (sym c) z)))
          ]
          | inr b ↦ inr (to b)
        ]

    from : All IsScalar w → (p ≡ k) → (c : ℕ) → (w ≡ c ∷ []) → (s : ℕ) → IsStep end k c s → (q ≡ s) → between es p q w ⊎ Labels x p q w
    from sc b c e zero s d =
        let o : ¬ Covered rs c = λ v. by_other ((leads c).0 v) in
        inr (f ∙ sym b, g ∙ sym d, subst (λ y. Matches y w) (sym t) (class-word (λ c. ¬ Covered rs c) others w c outside sc e o))
      where
        by_other : LeadsOnBelow end k n c → ⊥
        by_other (j, (l, y, z)) = omega (arith, IsStep-unique end k c 0 (j + 1) s z)
    from sc b c e (suc j) s d =
        let v : suc j ≡ j + 1 = omega arith in
        let z : IsStep end k c (j + 1) = subst (IsStep end k c) v s in
        let r = ends-more end (take k end) c j (omega (arith, s.within)) z.read in
        inl ((h p q w).1 sc (inr (b, (j, (omega (arith, s.within), d ∙ v, e ∙ ap (λ y. y ∷ []) (sym r.1), subst (λ y. IsStep end k y (j + 1)) (sym r.1) z)))))

    back : All IsScalar w → M p q w ⊎ ((p ≡ k) × StepsTo end k q w) → between es' p q w
    back sc (inl m) = subst (λ l. between l p q w) (sym a) ((between-push es x p q w).1 (inl ((h p q w).1 sc (inl m))))
    back sc (inr (b, (c, (e, s)))) =
        subst (λ l. between l p q w) (sym a) ((between-push es x p q w).1 (from sc b c e q s refl))

-- ---- the whole automaton

pub automaton-start : (bs end : List ℕ) (x : Edge) → x.from ≡ length end + 1 → x.to ≡ 0 → x.tree ≡ of_text bs → Reads (AutomatonBelow (chars bs) end 0) (between (x ∷ []))
automaton-start bs end x f g t p q w = (front, λ _. back)
  where
    front : between (x ∷ []) p q w → AutomatonBelow (chars bs) end 0 p q w
    front (inl (b, c, m)) = inl (sym b ∙ f, sym c ∙ g, (Matches-of_text bs w).0 (subst (λ y. Matches y w) t m))
    front (inr n) = absurd n

    back : AutomatonBelow (chars bs) end 0 p q w → between (x ∷ []) p q w
    back (inl (b, c, e)) = inl (f ∙ sym b, g ∙ sym c, subst (λ y. Matches y w) (sym t) ((Matches-of_text bs w).1 e))
    back (inr (l, _)) = absurd (omega arith)

pub automaton-more : (start end : List ℕ) (k : ℕ) (M N : Graph) → AddsSteps end k M N → Reads (AutomatonBelow start end k) M → Reads (AutomatonBelow start end (k + 1)) N
automaton-more start end k M N adds r p q w = (front, back)
  where
    old : AutomatonBelow start end k p q w → AutomatonBelow start end (k + 1) p q w
    old (inl h) = inl h
    old (inr (l, h)) = inr (omega arith, h)

    front : N p q w → AutomatonBelow start end (k + 1) p q w
    front m =
        elim ((adds p q w).0 m) [
          | inl a ↦ old ((r p q w).0 a)
          | inr (e, h) ↦ inr (omega arith, subst (λ x. StepsTo end x q w) (sym e) h)
        ]

    by_place : All IsScalar w → p < k + 1 → StepsTo end p q w → (p ≡ k) ⊎ (p ≢ k) → N p q w
    by_place sc l h (inl e) = (adds p q w).1 sc (inr (e, subst (λ x. StepsTo end x q w) e h))
    by_place sc l h (inr n) = (adds p q w).1 sc (inl ((r p q w).1 sc (inr (omega arith, h))))

    back : All IsScalar w → AutomatonBelow start end (k + 1) p q w → N p q w
    back sc (inl h) = (adds p q w).1 sc (inl ((r p q w).1 sc (inl h)))
    back sc (inr (l, h)) = by_place sc l h (cases_eq p k)

pub automaton-within : (start end : List ℕ) (M : Graph) → 0 < length end → Reads (Automaton start end) M → IsWithin (length end) M
automaton-within start end M some r p q w m = by_edge ((r p q w).0 m)
  where
    by_place : (j : ℕ) → j ≤ length end → (j < length end) ⊎ (length end ≤ j) → (j ≡ length end) ⊎ (j < length end)
    by_place j h (inl l) = inr l
    by_place j h (inr l) = inl (omega arith)

    by_edge : Automaton start end p q w → ((p ≡ length end + 1) ⊎ (p < length end)) × ((q ≡ length end) ⊎ (q < length end))
    by_edge (inl (b, c, _)) = (inl b, inr (omega arith))
    by_edge (inr (l, (c, (_, s)))) = (inr l, by_place q (omega (arith, s.within)) (cases_lt q (length end)))

pub sound-of_text : (bs : List ℕ) → fault (of_text bs) ≡ None
sound-of_text [] = refl
sound-of_text (b ∷ bs) = refl
