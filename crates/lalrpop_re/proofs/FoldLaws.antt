-- What folding a set gives: its members, and their partners.
use Rattle.std.proofs.Common.{◌≡◌, ◌↔◌, ◌⊎◌, inl, inr, ℕ, zero, suc, ◌<◌, ◌≤◌, Bool, true, ◌&&◌, ◌==◌, List, [], ◌∷◌, ◌++◌, length, get_or, min, max, Contains, refl, sym, ap, subst, arith, not-suc-le-zero, le_of_suc-le-suc, eq-or-lt_of_le, zero-lt-suc, suc-le-suc, eqb-true, eq-eqb}
use Rattle.std.proofs.lemmas.Bool.{and_parts, and_from, or_cases, or_left, or_right, cases_eq}
use Rattle.unicode.specs.CaseFolding.{simple_fold}
use Rattle.lalrpop_hir.specs.Range.{Range, Covers, Covered}
use Rattle.lalrpop_hir.specs.Runs.{IsScalar, IsCanon}
use Rattle.lalrpop_re.specs.CharacterSet.{Set, is_scalar, some_below, fold, Members, HasRuns}
use Rattle.lalrpop_hir.proofs.Complements.{IsCanon-same}
use Rattle.lalrpop_re.specs.Internal.Sets.{AreAlike, HasPartner}
use Rattle.lalrpop_re.proofs.CanonLaws.{is_scalar-IsScalar, IsScalar-is_scalar, IsScalar-below}
use Rattle.lalrpop_re.proofs.SpanLaws.{Covered-push}

some_below-to : (n : ℕ) (test : ℕ → Bool) → some_below n test ≡ true → (d : ℕ) × IsScalar d × (test d ≡ true)
unfolding some_below
some_below-to zero test h = absurd cc
some_below-to (suc n) test h =
    elim (or_cases (is_scalar n && test n) (some_below n test) h) [
      | inl here ↦ let p = and_parts (is_scalar n) (test n) here in (n, is_scalar-IsScalar n p.0, p.1)
      | inr later ↦ some_below-to n test later
    ]

some_below-from : (n : ℕ) (test : ℕ → Bool) (d : ℕ) → d < n → IsScalar d → test d ≡ true → some_below n test ≡ true
unfolding some_below
some_below-from zero test d lt s t = absurd (not-suc-le-zero lt)
some_below-from (suc n) test d lt s t =
    elim (eq-or-lt_of_le (le_of_suc-le-suc lt)) [
      | inl e ↦ or_left _ _ (and_from _ _ (subst (λ x. is_scalar x ≡ true) e (IsScalar-is_scalar d s)) (subst (λ x. test x ≡ true) e t))
      | inr below ↦ or_right (is_scalar n && test n) _ (some_below-from n test d below s t)
    ]

-- some scalar value of the set has the same simple folding
abbrev Folds : Set → ℕ → Type 0
Folds s c = (d : ℕ) × IsScalar d × Members s d × (simple_fold d ≡ simple_fold c)

-- stated at a variable, so that the checker doesn't compute the test
folds_within : (n : ℕ) (s : Set) (c : ℕ) → ((d : ℕ) → IsScalar d → d < n) → (some_below n (λ d. s d && (simple_fold d == simple_fold c)) ≡ true) ↔ Folds s c
folds_within n s c all = (
  λ h. let f = some_below-to n _ h in let p = and_parts (s f.0) (simple_fold f.0 == simple_fold c) f.2 in
      (f.0, f.1, p.0, eqb-true _ _ p.1),
  λ f. some_below-from n _ f.0 (all f.0 f.1) f.1 (and_from _ _ f.2 (eq-eqb _ _ f.3)),
)

pub fold-is : (s : Set) (c : ℕ) → IsScalar c → Members (fold s) c ↔ Folds s c
unfolding fold
fold-is s c u =
    let k = folds_within 0x11_0000 s c IsScalar-below in
    (λ h. k.0 (and_parts _ _ h).1, λ f. and_from _ _ (IsScalar-is_scalar c u) (k.1 f))

-- folding gives what a class covers, and the partners of that
pub folded-is : (rs : List Range) (s : Set) → HasRuns rs s → (c : ℕ) → IsScalar c → Members (fold s) c ↔ (Covered rs c ⊎ HasPartner rs c)
folded-is rs s k c u = (
  λ h. by_same ((fold-is s c u).0 h),
  λ h. (fold-is s c u).1 (elim h [
    | inl m ↦ (c, u, (k.1 c u).1 m, refl)
    | inr p ↦ (p.0, p.2.0, (k.1 p.0 p.2.0).1 p.1, p.2.2)
  ]),
)
  where
    by_same : Folds s c → Covered rs c ⊎ HasPartner rs c
    by_same f = elim (cases_eq f.0 c) [
      | inl e ↦ inl (subst (Covered rs) e ((k.1 f.0 f.1).0 f.2))
      | inr apart ↦ inr (f.0, (k.1 f.0 f.1).0 f.2, (f.1, apart, f.3))
    ]

-- ---- pairs

-- some pair leads to the value
abbrev pub Leads : List (ℕ × ℕ) → ℕ → Type 0
Leads [] c = ⊥
Leads (p ∷ ps) c = (p.1 ≡ c) ⊎ Leads ps c

Leads-push : (ps : List (ℕ × ℕ)) (p : ℕ × ℕ) (c : ℕ) → Leads (ps ++ p ∷ []) c ↔ (Leads ps c ⊎ (p.1 ≡ c))
Leads-push [] p c = (λ h. elim h [ inl e ↦ inr e | inr n ↦ absurd n ], λ h. elim h [ inl n ↦ absurd n | inr e ↦ inl e ])
Leads-push (q ∷ ps) p c =
    let k = Leads-push ps p c in (
      λ h. elim h [ inl e ↦ inl (inl e) | inr l ↦ elim (k.0 l) [ inl m ↦ inl (inr m) | inr e ↦ inr e ] ],
      λ h. elim h [ inl l ↦ elim l [ inl e ↦ inl e | inr m ↦ inr (k.1 (inl m)) ] | inr e ↦ inr (k.1 (inr e)) ],
    )

Leads-Contains : (ps : List (ℕ × ℕ)) (c : ℕ) → Leads ps c ↔ ((d : ℕ) × Contains ps (d, c))
Leads-Contains [] c = (λ h. absurd h, λ h. absurd (not-suc-le-zero h.1.1))
Leads-Contains (p ∷ ps) c =
    let k = Leads-Contains ps c in (
      λ h. elim h [
        | inl e ↦ (p.0, (zero, zero-lt-suc _, ap (λ x. (p.0, x)) e))
        | inr l ↦ let m = k.0 l in (m.0, (suc m.1.0, suc-le-suc m.1.1, m.1.2))
      ],
      λ h. at h.0 h.1.0 k.1 h.1.1 h.1.2,
    )
  where
    at : (d i : ℕ) → ((d : ℕ) × Contains ps (d, c) → Leads ps c) → i < length (p ∷ ps) → get_or (p ∷ ps) i (d, c) ≡ (d, c) → Leads (p ∷ ps) c
    at d zero f lt e = inl (ap (λ q. q.1) e)
    at d (suc i) f lt e = inr (f (d, (i, le_of_suc-le-suc lt, e)))

-- the ranges cover what they covered at first, and what the pairs lead to
abbrev pub HasTaken : List Range → List (ℕ × ℕ) → List Range → Type 0
HasTaken base ps rs = (c : ℕ) → IsScalar c → Covered rs c ↔ (Covered base c ⊎ Leads ps c)

abbrev one : ℕ → Range
one p = record { start = min p p; end = max p p }

pub taken : (base rs : List Range) (ps : List (ℕ × ℕ)) (p : ℕ × ℕ) → HasTaken base ps rs → HasTaken base (ps ++ p ∷ []) (rs ++ record { start = min p.1 p.1; end = max p.1 p.1 } ∷ [])
taken base rs ps p k c u =
    let push = Covered-push rs (one p.1) c in
    let more = Leads-push ps p c in
    let old = k c u in (
      λ h. elim (push.0 h) [
        | inl x ↦ elim (old.0 x) [ inl b ↦ inl b | inr l ↦ inr (more.1 (inl l)) ]
        | inr e ↦ inr (more.1 (inr (omega (arith, e.0, e.1))))
      ],
      λ h. elim h [
        | inl b ↦ push.1 (inl (old.1 (inl b)))
        | inr l ↦ elim (more.0 l) [ inl m ↦ push.1 (inl (old.1 (inr m))) | inr e ↦ push.1 (inr (omega (arith, e), omega (arith, e))) ]
      ],
    )

pub not_taken : (base rs : List Range) (ps : List (ℕ × ℕ)) (p : ℕ × ℕ) → (IsScalar p.1 → ⊥) → HasTaken base ps rs → HasTaken base (ps ++ p ∷ []) rs
not_taken base rs ps p out k c u =
    let more = Leads-push ps p c in
    let old = k c u in (
      λ h. elim (old.0 h) [ inl b ↦ inl b | inr l ↦ inr (more.1 (inl l)) ],
      λ h. elim h [
        | inl b ↦ old.1 (inl b)
        | inr l ↦ elim (more.0 l) [ inl m ↦ old.1 (inr m) | inr e ↦ absurd (out (subst IsScalar (sym e) u)) ]
      ],
    )

only : (r : Range) (d : ℕ) → Covered (r ∷ []) d → Covers r d
only r d (inl h) = h
only r d (inr h) = absurd h

-- what pairs of the table lead to are partners of the range
pub all_taken : (base rs : List Range) (ps : List (ℕ × ℕ)) (r : Range) → HasTaken base ps rs → ((d c : ℕ) → Contains ps (d, c) ↔ ((r.start ≤ d) × (d ≤ r.end) × AreAlike d c)) → (c : ℕ) → IsScalar c → Covered rs c ↔ (Covered base c ⊎ HasPartner (r ∷ []) c)
all_taken base rs ps r k e c u =
    let leads = Leads-Contains ps c in
    let old = k c u in (
      λ h. elim (old.0 h) [
        | inl b ↦ inl b
        | inr l ↦ let f = leads.0 l in let p = (e f.0 c).0 f.1 in inr (f.0, inl (p.0, p.1), p.2)
      ],
      λ h. old.1 (elim h [ inl b ↦ inl b | inr p ↦ let f = only r p.0 p.1 in inr (leads.1 (p.0, (e p.0 c).1 (f.0, f.1, p.2))) ]),
    )

-- ---- ranges

-- after some ranges of the class: the partners of those are there
abbrev pub HasFolded : List Range → List Range → List Range → Type 0
HasFolded class seen rs = (c : ℕ) → IsScalar c → Covered rs c ↔ (Covered class c ⊎ HasPartner seen c)

pub one_folded : (class seen rs more : List Range) (r : Range) → HasFolded class seen rs → ((c : ℕ) → IsScalar c → Covered more c ↔ (Covered rs c ⊎ HasPartner (r ∷ []) c)) → HasFolded class (seen ++ r ∷ []) more
one_folded class seen rs more r k step c u =
    let old = k c u in
    let new = step c u in (
      λ h. elim (new.0 h) [
        | inl x ↦ elim (old.0 x) [ inl b ↦ inl b | inr p ↦ inr (p.0, (Covered-push seen r p.0).1 (inl p.1), p.2) ]
        | inr p ↦ inr (p.0, (Covered-push seen r p.0).1 (alone p.0 p.1), p.2)
      ],
      λ h. elim h [
        | inl b ↦ new.1 (inl (old.1 (inl b)))
        | inr p ↦ elim ((Covered-push seen r p.0).0 p.1) [
          | inl m ↦ new.1 (inl (old.1 (inr (p.0, m, p.2))))
          | inr m ↦ new.1 (inr (p.0, inl m, p.2))
        ]
      ],
    )
  where
    alone : (d : ℕ) → Covered (r ∷ []) d → Covered seen d ⊎ Covers r d
    alone d (inl h) = inr h
    alone d (inr h) = absurd h

pub all_folded : (class rs out : List Range) → HasFolded class class rs → IsCanon (Covered rs) out → (s : Set) → HasRuns class s → HasRuns out (fold s)
all_folded class rs out k canon s runs =
    IsCanon-same (Covered rs) (Members (fold s)) out
    (λ c u. let f = folded-is class s runs c u in let g = k c u in (λ h. g.1 (f.0 h), λ h. f.1 (g.0 h))) canon
