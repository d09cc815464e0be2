-- What the trees of characters match under the flag `i`.
use Rattle.std.proofs.Common.{◌≡◌, ◌↔◌, ◌⊎◌, inl, inr, ℕ, ◌≤◌, true, List, [], ◌∷◌, ◌++◌, map, None, refl, sym, ap, ◌∙◌, subst, arith, eqb-true}
use Rattle.std.proofs.Math.Utf8.{scalar, scalars}
use Rattle.std.specs.Str.{chars, IsUtf8}
use Rattle.std.proofs.lemmas.Str.{scalars-chars}
use Rattle.std.proofs.lemmas.List.{map-id}
use Rattle.std.proofs.lemmas.Bool.{and_parts, cases_lt}
use Rattle.unicode.specs.CaseFolding.{simple_fold}
use Rattle.unicode.proofs.CaseComputing.{ucd_case}
use Rattle.lalrpop_hir.specs.Range.{Range, Covered}
use Rattle.lalrpop_hir.specs.Tree.{Tree, concat}
use Rattle.lalrpop_hir.specs.Language.{Matches, MatchInTurn}
use Rattle.lalrpop_hir.specs.Fault.{fault, last_fault}
use Rattle.lalrpop_hir.specs.Parts.{trees}
use Rattle.lalrpop_hir.specs.Runs.{IsScalar, IsCanon, HaveEndsIn}
use Rattle.lalrpop_hir.proofs.Canons.{IsScalar-from_char}
use Rattle.lalrpop_re.specs.declared.flags.Flags.{Flags}
use Rattle.lalrpop_re.specs.CharacterSet.{Set, is_scalar, just, fold, canon}
use Rattle.lalrpop_re.specs.Pattern.{is_one_member, literal_tree}
use Rattle.lalrpop_re.specs.AnyCase.{SameButForCase}
use Rattle.lalrpop_re.proofs.CanonLaws.{is_scalar-IsScalar, canon-is}
use Rattle.lalrpop_re.proofs.FoldLaws.{fold-is}
use Rattle.lalrpop_re.proofs.Steps.{decided}

-- ---- the foldings of one character

fold-scalar : (s : Set) (c : ℕ) → fold s c ≡ true → IsScalar c
unfolding fold
fold-scalar s c h = is_scalar-IsScalar c (and_parts (is_scalar c) _ h).0

pub fold-self : (c : ℕ) → IsScalar c → fold (just c) c ≡ true
fold-self c u = (fold-is (just c) c u).1 (c, u, refl_just c, refl)
  where
    refl_just : (d : ℕ) → just d d ≡ true
    refl_just d = grind (arith)

pub fold-same : (c d : ℕ) → fold (just c) d ≡ true → simple_fold c ≡ simple_fold d
fold-same c d h =
    let found = (fold-is (just c) d (fold-scalar (just c) d h)).0 h in
    subst (λ e. simple_fold e ≡ simple_fold d) (eqb-true found.0 c found.2) found.3

-- ---- no class of foldings reaches over the surrogates

last_below : simple_fold 0xD7FF ≡ 0xD7FF
unfolding ucd_case
last_below = refl

first_above : simple_fold 0xE000 ≡ 0xE000
unfolding ucd_case
first_above = refl

not_both : (c : ℕ) → fold (just c) 0xD7FF ≡ true → fold (just c) 0xE000 ≡ true → ⊥
not_both c h k =
    let same : 0xD7FF ≡ 0xE000 = sym last_below ∙ sym (fold-same c 0xD7FF h) ∙ fold-same c 0xE000 k ∙ first_above in
    omega (arith, same)

-- a value between two scalar values is one too, or U+D7FF and U+E000 lie between them
covered_cases : (rs : List Range) (d : ℕ) → HaveEndsIn IsScalar rs → Covered rs d → IsScalar d ⊎ (Covered rs 0xD7FF × Covered rs 0xE000)
covered_cases [] d e h = absurd h
covered_cases (r ∷ rs) d e (inl h) = at r d e.0 e.1 h.0 h.1
  where
    at : (q : Range) (b : ℕ) → IsScalar q.start → IsScalar q.end → q.start ≤ b → b ≤ q.end → IsScalar b ⊎ (Covered (q ∷ rs) 0xD7FF × Covered (q ∷ rs) 0xE000)
    at q b (inl x) (inl y) l m = inl (inl (omega arith))
    at q b (inl x) (inr y) l m = elim (cases_lt 0xD7FF b) [
      | inr k ↦ inl (inl k)
      | inl k ↦ elim (cases_lt b 0xE000) [
        | inr n ↦ inl (inr (n, omega (arith, y.1)))
        | inl n ↦ inr (inl (omega arith, omega (arith, y.0)), inl (omega arith, omega (arith, y.0)))
      ]
    ]
    at q b (inr x) (inl y) l m = absurd (omega (arith, x.0))
    at q b (inr x) (inr y) l m = inl (inr (omega (arith, x.0), omega (arith, y.1)))
covered_cases (r ∷ rs) d e (inr h) = elim (covered_cases rs d e.2 h) [
  | inl u ↦ inl u
  | inr p ↦ inr (inr p.0, inr p.1)
]

fold-covered : (c d : ℕ) → Covered (canon (fold (just c))) d ↔ (fold (just c) d ≡ true)
fold-covered c d = (to, λ h. (k.1 d (fold-scalar (just c) d h)).0 h)
  where
    k : IsCanon (λ b. fold (just c) b ≡ true) (canon (fold (just c)))
    k = canon-is (fold (just c))

    to : Covered (canon (fold (just c))) d → fold (just c) d ≡ true
    to h = elim (covered_cases (canon (fold (just c))) d k.0.1 h) [
      | inl u ↦ (k.1 d u).1 h
      | inr p ↦ absurd (not_both c ((k.1 0xD7FF (inl (omega arith))).1 p.0) ((k.1 0xE000 (inr (omega arith, omega arith))).1 p.1))
    ]

one_covered : (rs : List Range) (c d : ℕ) → is_one_member rs ≡ true → Covered rs c → Covered rs d → c ≡ d
one_covered [] c d e h k = absurd h
one_covered (r ∷ []) c d e (inl h) (inl k) = let same = eqb-true r.start r.end e in omega (arith, h.0, h.1, k.0, k.1)
one_covered (r ∷ []) c d e (inr h) k = absurd h
one_covered (r ∷ []) c d e (inl h) (inr k) = absurd k
one_covered (r ∷ q ∷ rs) c d e h k = absurd cc

-- ---- the tree of one character

-- a word of one character, which is one of the foldings
abbrev IsFolding : ℕ → List ℕ → Type 0
IsFolding c w = (d : ℕ) × (w ≡ d ∷ []) × (fold (just c) d ≡ true)

one_matches : (f : Flags) (c : ℕ) (w : List ℕ) → f.case_insensitive ≡ true → IsScalar c → Matches (literal_tree f c) w ↔ IsFolding c w
one_matches f c w i u = elim (decided (is_one_member (canon (fold (just c))))) [
  | inl one ↦ rw (i, one) (λ h. (c, h, fold-self c u), λ p. p.1 ∙ ap (λ b. b ∷ []) (alone one p.0 p.2))
  | inr more ↦ rw (i, more) (λ h. (h.0, h.1.0, (fold-covered c h.0).0 h.1.1), λ p. (p.0, (p.1, (fold-covered c p.0).1 p.2)))
]
  where
    alone : is_one_member (canon (fold (just c))) ≡ true → (d : ℕ) → fold (just c) d ≡ true → d ≡ c
    alone one d h = one_covered (canon (fold (just c))) d c one ((fold-covered c d).1 h) ((fold-covered c c).1 (fold-self c u))

one_faultless : (f : Flags) (c : ℕ) → f.case_insensitive ≡ true → fault (literal_tree f c) ≡ None
one_faultless f c i = elim (decided (is_one_member (canon (fold (just c))))) [
  | inl one ↦ rw (i, one) refl
  | inr more ↦ rw (i, more) refl
]

-- ---- the tree of a text

pub row_matches : (f : Flags) → f.case_insensitive ≡ true → (cs w : List ℕ) → scalars cs ≡ true → MatchInTurn (trees (map (literal_tree f) cs)) w ↔ SameButForCase cs w
row_matches f i [] [] s = (λ h. tt, λ h. refl)
row_matches f i [] (d ∷ w) s = (λ h. cc, λ h. absurd h)
row_matches f i (c ∷ cs) w s = (to (λ y. row_matches f i cs y both.1) w, from (λ y. row_matches f i cs y both.1) w)
  where
    both : (scalar c ≡ true) × (scalars cs ≡ true)
    both = and_parts (scalar c) _ s

    u : IsScalar c
    u = IsScalar-from_char c both.0

    Others : Type 0
    Others = (y : List ℕ) → MatchInTurn (trees (map (literal_tree f) cs)) y ↔ SameButForCase cs y

    to : Others → (v : List ℕ) → MatchInTurn (trees (map (literal_tree f) (c ∷ cs))) v → SameButForCase (c ∷ cs) v
    to others v (x, y, (e, m, n)) =
        let p = (one_matches f c x i u).0 m in
        subst (SameButForCase (c ∷ cs)) (sym (e ∙ ap (λ b. b ++ y) p.1)) (p.2, (others y).0 n)

    from : Others → (v : List ℕ) → SameButForCase (c ∷ cs) v → MatchInTurn (trees (map (literal_tree f) (c ∷ cs))) v
    from others [] h = absurd h
    from others (d ∷ v) h = (d ∷ [], v, (refl, (one_matches f c (d ∷ []) i u).1 (d, refl, h.0), (others v).1 h.1))

pub row_faultless : (f : Flags) → f.case_insensitive ≡ true → (cs : List ℕ) → last_fault (trees (map (literal_tree f) cs)) ≡ None
row_faultless f i [] = refl
row_faultless f i (c ∷ cs) = rw (row_faultless f i cs, one_faultless f c i) refl

-- ---- the call

pub any_case_matches : (f : Flags) (trees_made : List Tree) (seen : List ℕ) (text : List ℕ) (t : Tree) → f.case_insensitive ≡ true → trees_made ≡ map (literal_tree f) seen → map (λ (c : ℕ). c) seen ≡ chars text → IsUtf8 text
    → t ≡ concat (trees trees_made) → (w : List ℕ) → Matches t w ↔ SameButForCase (chars text) w
any_case_matches f trees_made seen text t i made all u is w =
    let same : seen ≡ chars text = sym (map-id seen) ∙ all in
    rw (is, made, same) (row_matches f i (chars text) w (scalars-chars text u))

pub any_case_faultless : (f : Flags) (trees_made : List Tree) (seen : List ℕ) (t : Tree) → f.case_insensitive ≡ true → trees_made ≡ map (literal_tree f) seen → t ≡ concat (trees trees_made) → fault t ≡ None
any_case_faultless f trees_made seen t i made is = rw (is, made) (row_faultless f i seen)
