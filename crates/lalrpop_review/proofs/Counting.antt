-- The counts of kinds, one rule after another.
use Rattle.std.proofs.Common.{◌≡◌, ℕ, ◌+◌, ◌<◌, ◌≤◌, ◌⊎◌, inl, inr, List, length, get_or, set, sym, ap, ◌∙◌, subst, arith, eq-or-lt_of_le, length-set, get_or-set_other, get_or-set_same, replicate}
use Rattle.std.specs.Prelude.{Some, slice_get}
use Rattle.std.proofs.lemmas.Bool.{cases_eq}
use Rattle.std.proofs.lemmas.List.{get_or-replicate, length-replicate}
use Rattle.std.proofs.lemmas.Option.{get_or_from_slice_get, same_Some, slice_get-get_or, slice_get_within}
use Rattle.lalrpop_rules.specs.Modes.{ModeRules}
use Rattle.bajofeki_rules.specs.EnteredModes.{Belongs}
use Rattle.lalrpop_review.specs.Internal.Kinds.{IsCount, IsMember}

-- by kind, how many of the rules below n are of the kind and belong to the mode
abbrev pub AreCounts : ModeRules → ℕ → ℕ → List ℕ → Type 0
AreCounts r m n counts = (k c : ℕ) → slice_get counts k ≡ Some c → IsCount r m n k c

pub none_counted : (r : ModeRules) (m count : ℕ) (counts : List ℕ) → counts ≡ replicate count 0 → AreCounts r m 0 counts
none_counted r m count counts same k c at =
    let within : k < length counts = slice_get_within counts k c at in
    let below : k < count = omega (arith, within, ap length same, length-replicate {A = ℕ} count 0) in
    let zero : c ≡ 0 = sym (get_or_from_slice_get counts k c 1 at) ∙ ap (λ xs. get_or xs k 1) same ∙ get_or-replicate count k 0 1 below in
    record {
      most = omega (arith, zero);
      none = λ e i early. absurd (omega (arith, early));
      one = λ e i j early late. absurd (omega (arith, early));
    }

module _ (r : ModeRules) (m n : ℕ) where
  -- the next rule isn't of the kind, or doesn't belong to the mode
  passed : (k c : ℕ) → ¬ IsMember r m k n → IsCount r m n k c → IsCount r m (n + 1) k c
  passed k c not h = record {
    most = omega (arith, h.most);
    none = λ e i below is. h.none e i (before i below is) is;
    one = λ e i j early late is own. h.one e i j (before i early is) (before j late own) is own;
  }
    where
      before : (i : ℕ) → i < n + 1 → IsMember r m k i → i < n
      before i below is =
          let least : i ≤ n = omega (arith, below) in
          elim (eq-or-lt_of_le least) [ inl same ↦ absurd (not (subst (IsMember r m k) same is)) | inr less ↦ less ]

  -- it is, and does
  counted : (k c : ℕ) → IsCount r m n k c → IsCount r m (n + 1) k (c + 1)
  counted k c h = record {
    most = omega (arith, h.most);
    none = λ e. absurd (omega (arith, e));
    one = λ e i j early late is own. one (omega (arith, e)) i j early late is own;
  }
    where
      one : c ≡ 0 → (i j : ℕ) → i < n + 1 → j < n + 1 → IsMember r m k i → IsMember r m k j → i ≡ j
      one none i j early late is own = last i early is ∙ sym (last j late own)
        where
          last : (i : ℕ) → i < n + 1 → IsMember r m k i → i ≡ n
          last i below is =
              let least : i ≤ n = omega (arith, below) in
              elim (eq-or-lt_of_le least) [ inl same ↦ same | inr less ↦ absurd (h.none none i less is) ]

  module _ (kind : ℕ) (counts : List ℕ) (at : slice_get r.kinds n ≡ Some kind) (h : AreCounts r m n counts) where
    other_kind : (k : ℕ) → ¬ (k ≡ kind) → ¬ IsMember r m k n
    other_kind k differ is = differ (same_Some _ _ (sym is.1 ∙ at))

    -- the next rule is left out
    pub rule_passed : (length counts ≤ kind) ⊎ (¬ Belongs r.members m n) → AreCounts r m (n + 1) counts
    rule_passed why k c there = passed k c (not why) (h k c there)
      where
        not : (length counts ≤ kind) ⊎ (¬ Belongs r.members m n) → ¬ IsMember r m k n
        not (inl past) is =
            let within : k < length counts = slice_get_within counts k c there in
            other_kind k (λ e. omega (arith, e, within, past)) is
        not (inr none) is = none is.0

    -- or it is counted
    pub rule_counted : (new : List ℕ) (c : ℕ) → Belongs r.members m n → kind < length counts → c ≡ get_or counts kind c → new ≡ set counts kind (c + 1) → AreCounts r m (n + 1) new
    rule_counted new c belongs within old same k d there = elim (cases_eq k kind) [
      | inl e ↦
          let value : d ≡ c + 1 = sym (get_or_from_slice_get new k d 0 there) ∙ ap (λ xs. get_or xs k 0) same ∙ ap (λ q. get_or (set counts kind (c + 1)) q 0) e ∙ get_or-set_same counts kind (c + 1) 0 within in
          let before : slice_get counts k ≡ Some c = ap (slice_get counts) e ∙ slice_get-get_or counts kind c within ∙ ap (λ x. Some x) (sym old) in
          subst (IsCount r m (n + 1) k) (sym value) (counted k c (h k c before))
      | inr differ ↦
          let inside : k < length counts = omega (arith, slice_get_within new k d there, ap length same, length-set counts kind (c + 1)) in
          let value : get_or counts k 0 ≡ d = sym (get_or-set_other counts kind k (c + 1) 0 differ) ∙ ap (λ xs. get_or xs k 0) (sym same) ∙ get_or_from_slice_get new k d 0 there in
          passed k d (other_kind k differ) (h k d (slice_get-get_or counts k 0 inside ∙ ap (λ x. Some x) value))
    ]
