-- Patterns that name a part, one after another.
use Rattle.std.proofs.Common.{◌≡◌, ℕ, ◌+◌, ◌<◌, ◌≤◌, ◌↔◌, inl, inr, Bool, true, false, List, length, get_or, refl, sym, ap, subst, ◌∙◌, arith, eq-or-lt_of_le}
use Rattle.std.specs.Prelude.{Some, slice_get, IsTrue, not}
use Rattle.std.specs.Str.Iter.{HasSubslice}
use Rattle.std.proofs.lemmas.Option.{slice_get-get_or, slice_get_within}
use Rattle.lalrpop_rule_file.specs.declared.file_rule.FileRule.{FileRule}
use Rattle.lalrpop_rule_file.specs.declared.part_line.PartLine.{PartLine}
use Rattle.lalrpop_rule_file.specs.Warnings.{IsUnused, StandsIn, StandsInPart, StandsInRule, reference}
use Rattle.lalrpop_rule_file.specs.declared.file.RuleFile.{RuleFile}
use Rattle.std.proofs.lemmas.Bool.{false≢true}

-- ---- parts

-- the bytes stand in no pattern after the part, up to this one
abbrev pub NoneInParts : List ℕ → ℕ → List PartLine → ℕ → Type 0
NoneInParts bytes i ps k = (j : ℕ) (p : PartLine) → i < j → j < k → slice_get ps j ≡ Some p → HasSubslice p.pattern.now bytes → ⊥

part_at : (ps : List PartLine) (k : ℕ) (p : PartLine) → k < length ps → p ≡ get_or ps k p → slice_get ps k ≡ Some p
part_at ps k p within is = slice_get-get_or ps k p within ∙ ap Some (sym is)

pub no_part_more : (bytes : List ℕ) (i k : ℕ) (ps : List PartLine) (p : PartLine) (found : Bool) → k < length ps → p ≡ get_or ps k p → NoneInParts bytes i ps k → IsTrue found ↔ HasSubslice p.pattern.now bytes → found ≡ false
    → NoneInParts bytes i ps (k + 1)
no_part_more bytes i k ps p found within item none is lacks j q behind below at stands =
    let least : j ≤ k = omega arith in
    elim (eq-or-lt_of_le least) [
      | inl e ↦
          let both : Some q ≡ Some p = sym at ∙ ap (slice_get ps) e ∙ part_at ps k p within item in
          let same : q ≡ p = cc in
          let yes : found ≡ true = is.1 (subst (λ (x : PartLine). HasSubslice x.pattern.now bytes) same stands) in
          cc
      | inr less ↦ none j q behind less at stands
    ]

pub in_part : (bytes : List ℕ) (i k : ℕ) (ps : List PartLine) (p : PartLine) (found : Bool) → k < length ps → p ≡ get_or ps k p → i < k → IsTrue found ↔ HasSubslice p.pattern.now bytes → found ≡ true → StandsInPart bytes i ps
in_part bytes i k ps p found within item behind is holds = (k, (p, (behind, part_at ps k p within item, is.0 holds)))

pub in_no_part : (bytes : List ℕ) (i k : ℕ) (ps : List PartLine) → NoneInParts bytes i ps k → length ps ≤ k → StandsInPart bytes i ps → ⊥
in_no_part bytes i k ps none all (j, (p, (behind, at, stands))) = none j p behind (omega (arith, slice_get_within ps j p at)) at stands

-- ---- rules

abbrev pub NoneInRules : List ℕ → ℕ → List FileRule → ℕ → Type 0
NoneInRules bytes i rs k = (j : ℕ) (r : FileRule) → j < k → slice_get rs j ≡ Some r → i < r.known → StandsIn bytes r.rule.text → ⊥

rule_at : (rs : List FileRule) (k : ℕ) (r : FileRule) → k < length rs → r ≡ get_or rs k r → slice_get rs k ≡ Some r
rule_at rs k r within is = slice_get-get_or rs k r within ∙ ap Some (sym is)

pub no_rule_more : (bytes : List ℕ) (i k : ℕ) (rs : List FileRule) (r : FileRule) → k < length rs → r ≡ get_or rs k r → NoneInRules bytes i rs k → (i < r.known → StandsIn bytes r.rule.text → ⊥) → NoneInRules bytes i rs (k + 1)
no_rule_more bytes i k rs r within item none lacks j q below at known stands =
    let least : j ≤ k = omega arith in
    elim (eq-or-lt_of_le least) [
      | inl e ↦
          let both : Some q ≡ Some r = sym at ∙ ap (slice_get rs) e ∙ rule_at rs k r within item in
          let same : q ≡ r = cc in
          lacks (subst (λ (x : FileRule). i < x.known) same known) (subst (λ (x : FileRule). StandsIn bytes x.rule.text) same stands)
      | inr less ↦ none j q less at known stands
    ]

pub in_rule : (bytes : List ℕ) (i k : ℕ) (rs : List FileRule) (r : FileRule) → k < length rs → r ≡ get_or rs k r → i < r.known → StandsIn bytes r.rule.text → StandsInRule bytes i rs
in_rule bytes i k rs r within item known stands = (k, (r, (known, rule_at rs k r within item, stands)))

pub in_no_rule : (bytes : List ℕ) (i k : ℕ) (rs : List FileRule) → NoneInRules bytes i rs k → length rs ≤ k → StandsInRule bytes i rs → ⊥
in_no_rule bytes i k rs none all (j, (r, (known, at, stands))) = none j r (omega (arith, slice_get_within rs j r at)) at known stands

-- ---- unused parts

same_part : (ps : List PartLine) (i : ℕ) (p q : PartLine) → slice_get ps i ≡ Some p → slice_get ps i ≡ Some q → p ≡ q
same_part ps i p q at too = let both : Some p ≡ Some q = sym at ∙ too in cc

pub is_used : (file : RuleFile) (i : ℕ) (p : PartLine) (bytes : List ℕ) → slice_get file.part_lines.items i ≡ Some p → bytes ≡ reference p.name.now → StandsInPart bytes i file.part_lines.items → IsUnused file i → ⊥
is_used file i p bytes at is stands (q, (too, none, none_below)) =
    none (subst (λ (x : List ℕ). StandsInPart x i file.part_lines.items) (is ∙ ap (λ (x : PartLine). reference x.name.now) (same_part file.part_lines.items i p q at too)) stands)

pub is_unused : (file : RuleFile) (i : ℕ) (p : PartLine) (bytes : List ℕ) (found : Bool) → slice_get file.part_lines.items i ≡ Some p → bytes ≡ reference p.name.now → ¬ StandsInPart bytes i file.part_lines.items
    → IsTrue found ↔ StandsInRule bytes i file.rules.items → IsTrue (not found) ↔ IsUnused file i
is_unused file i p bytes true at is none below = (λ e. absurd (false≢true e), λ unused. absurd (in_a_rule unused))
  where
    in_a_rule : IsUnused file i → ⊥
    in_a_rule (q, (too, no_part, no_rule)) =
        no_rule (subst (λ (x : List ℕ). StandsInRule x i file.rules.items) (is ∙ ap (λ (x : PartLine). reference x.name.now) (same_part file.part_lines.items i p q at too)) (below.0 refl))
is_unused file i p bytes false at is none below = (
  λ _. (p, (at, subst (λ (x : List ℕ). ¬ StandsInPart x i file.part_lines.items) is none, subst (λ (x : List ℕ). ¬ StandsInRule x i file.rules.items) is (λ stands. false≢true (below.1 stands)))),
  λ _. refl,
)
