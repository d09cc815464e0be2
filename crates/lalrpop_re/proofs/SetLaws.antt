-- What the operations on classes make of sets, and the trees of sets.
use Rattle.std.proofs.Common.{◌≡◌, ◌↔◌, ◌⊎◌, inl, inr, ℕ, ◌≤◌, Bool, true, false, not, List, [], ◌∷◌, length, refl, sym, ap, ◌∙◌, arith, encode_utf8, encode_utf8_all}
use mathlib.Core.Bool.{xor}
use Rattle.std.specs.Str.{chars}
use Rattle.std.proofs.Math.Utf8.{scalar}
use Rattle.std.proofs.lemmas.List.{append-nil}
use Rattle.std.proofs.lemmas.Str.{chars-encodes}
use Rattle.std.proofs.lemmas.Bool.{and_parts, and_from, both_ways}
use Rattle.std.proofs.lemmas.Bool.Decides.{nat_tests}
use Rattle.lalrpop_hir.specs.Range.{Range, Covered}
use Rattle.lalrpop_hir.specs.Runs.{IsScalar, IsCanon}
use Rattle.lalrpop_hir.specs.Tree.{literal, class, unicode}
use Rattle.lalrpop_hir.specs.Parts.{of_text}
use Rattle.lalrpop_hir.proofs.Complements.{IsCanon-same}
use Rattle.lalrpop_re.specs.declared.flags.Flags.{Flags}
use Rattle.lalrpop_re.specs.CharacterSet.{Set, is_scalar, nothing, just, range, complement, fold, canon, set_tree, Members, HasRuns}
use Rattle.lalrpop_re.specs.Bracket.{leaf}
use Rattle.lalrpop_re.specs.Pattern.{is_one_member, literal_tree}
use Rattle.lalrpop_re.proofs.CanonLaws.{IsScalar-is_scalar, HasRuns-canon}
use Rattle.lalrpop_re.proofs.SpanLaws.{HasRuns-same}

is_not : (b : Bool) → (not b ≡ true) ↔ (¬ (b ≡ true))
is_not true = (λ h. absurd cc, λ h. absurd (h refl))
is_not false = (λ h g. both_ways _ refl g, λ h. refl)

is_xor : (a b : Bool) → (xor a b ≡ true) ↔ (((a ≡ true) × (¬ (b ≡ true))) ⊎ ((b ≡ true) × (¬ (a ≡ true))))
unfolding xor
is_xor true true = (λ h. absurd cc, λ h. elim h [ inl p ↦ absurd (p.1 refl) | inr p ↦ absurd (p.1 refl) ])
is_xor true false = (λ h. inl (refl, λ g. both_ways _ refl g), λ h. refl)
is_xor false true = (λ h. inr (refl, λ g. both_ways _ refl g), λ h. refl)
is_xor false false = (λ h. absurd cc, λ h. elim h [ inl p ↦ p.0 | inr p ↦ p.0 ])

pub HasRuns-complement : (rs out : List Range) (s : Set) → HasRuns rs s → IsCanon (λ c. ¬ Covered rs c) out → HasRuns out (complement s)
HasRuns-complement rs out s k canon =
    IsCanon-same (λ c. ¬ Covered rs c) (Members (complement s)) out
    (λ c u. let n = is_not (s c) in let m = k.1 c u in (
      λ h g. (n.0 (and_parts (is_scalar c) _ h).1) (m.1 g),
      λ h. and_from _ _ (IsScalar-is_scalar c u) (n.1 (λ t. h (m.0 t))),
    )) canon

pub HasRuns-xor : (xs ys out : List Range) (s t : Set) → HasRuns xs s → HasRuns ys t → IsCanon (λ c. (Covered xs c × ¬ Covered ys c) ⊎ (Covered ys c × ¬ Covered xs c)) out → HasRuns out (λ c. xor (s c) (t c))
HasRuns-xor xs ys out s t k l canon =
    IsCanon-same (λ c. (Covered xs c × ¬ Covered ys c) ⊎ (Covered ys c × ¬ Covered xs c)) (λ c. xor (s c) (t c) ≡ true) out
    (λ c u. let x = is_xor (s c) (t c) in let m = k.1 c u in let n = l.1 c u in (
      λ h. elim (x.0 h) [ inl p ↦ inl (m.0 p.0, λ g. p.1 (n.1 g)) | inr p ↦ inr (n.0 p.0, λ g. p.1 (m.1 g)) ],
      λ h. x.1 (elim h [ inl p ↦ inl (m.1 p.0, λ g. p.1 (n.0 g)) | inr p ↦ inr (n.1 p.0, λ g. p.1 (m.0 g)) ]),
    )) canon

range-just : (d c : ℕ) → IsScalar c → range d d c ≡ just d c
range-just d c u = let e = IsScalar-is_scalar c u in grind (arith, nat_tests, e)

pub HasRuns-just : (rs : List Range) (d : ℕ) → HasRuns rs (range d d) → HasRuns rs (just d)
HasRuns-just rs d k = HasRuns-same rs (range d d) (just d) (range-just d) k

pub HasRuns-nothing : (rs : List Range) → IsCanon (Covered []) rs → HasRuns rs nothing
HasRuns-nothing rs k = IsCanon-same (Covered []) (Members nothing) rs (λ c u. (λ h. absurd cc, λ h. absurd h)) k

-- under the flag i a leaf is folded, and otherwise it is the set itself
pub HasRuns-folded : (f : Flags) (rs : List Range) (s : Set) → f.case_insensitive ≡ true → HasRuns rs (fold s) → HasRuns rs (leaf f s)
HasRuns-folded f rs s h k = rw h k

pub HasRuns-unfolded : (f : Flags) (rs : List Range) (s : Set) → f.case_insensitive ≡ false → HasRuns rs s → HasRuns rs (leaf f s)
HasRuns-unfolded f rs s h k = rw h k

-- ---- trees

pub tree-of_set : (rs : List Range) (s : Set) → HasRuns rs s → class (unicode rs) ≡ set_tree s
tree-of_set rs s k = ap (λ l. class (unicode l)) (HasRuns-canon rs s k)

text-chars : (bs : List ℕ) → 1 ≤ length bs → of_text bs ≡ literal (chars bs)
text-chars [] h = absurd (omega arith)
text-chars (b ∷ bs) h = refl

pub text-one : (c : ℕ) (bs : List ℕ) → scalar c ≡ true → bs ≡ encode_utf8 c → 1 ≤ length bs → of_text bs ≡ literal (c ∷ [])
text-one c bs s e h =
    let all : bs ≡ encode_utf8_all (c ∷ []) = e ∙ sym (append-nil (encode_utf8 c)) in
    let one : chars bs ≡ c ∷ [] = ap chars all ∙ chars-encodes (c ∷ []) (and_from _ _ s refl) in
    text-chars bs h ∙ ap literal one

-- a literal, under the flag i too where the character folds alone
pub literal-plain : (f : Flags) (c : ℕ) → f.case_insensitive ≡ false → literal_tree f c ≡ literal (c ∷ [])
literal-plain f c h = rw h refl

pub literal-alone : (f : Flags) (c : ℕ) (rs : List Range) → f.case_insensitive ≡ true → HasRuns rs (fold (just c)) → is_one_member rs ≡ true → literal_tree f c ≡ literal (c ∷ [])
literal-alone f c rs h k one =
    let e : is_one_member (canon (fold (just c))) ≡ true = ap is_one_member (sym (HasRuns-canon rs (fold (just c)) k)) ∙ one in rw (h, e) refl

pub literal-folded : (f : Flags) (c : ℕ) (rs : List Range) → f.case_insensitive ≡ true → HasRuns rs (fold (just c)) → is_one_member rs ≡ false → literal_tree f c ≡ set_tree (fold (just c))
literal-folded f c rs h k one =
    let e : is_one_member (canon (fold (just c))) ≡ false = ap is_one_member (sym (HasRuns-canon rs (fold (just c)) k)) ∙ one in rw (h, e) refl
