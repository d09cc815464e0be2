-- States that lead most values where an earlier state leads them.
use Rattle.std.proofs.Common.{◌≡◌, ℕ, zero, suc, ◌+◌, ◌-◌, ◌<◌, ◌≤◌, ⊎_elim, List, [], ◌∷◌, length, drop, get_or, refl, sym, ap, ap₂, ◌∙◌, arith, drop-cons}
use Rattle.std.specs.Prelude.{slice_get, Some}
use Rattle.lalrpop_hir.specs.Range.{Range}
use Rattle.std.proofs.lemmas.Bool.{cases_lt}
use Rattle.lalrpop_dfa.specs.Dfa.{edge_target, AreAscendingTests}
use Rattle.lalrpop_dfa.specs.Stored.{EndBefore}
use Rattle.lalrpop_dfa.proofs.EdgeTargets.{leads_later, before_at, has_value_at}
use Rattle.lalrpop_dense.specs.Internal.Alikes.{SameEnd}

-- edges with one range and one target
pub same_edge : (t u : Range × ℕ) → t.0.start ≡ u.0.start → t.0.end ≡ u.0.end → t.1 ≡ u.1 → t ≡ u
same_edge t u start end target =
    let range : t.0 ≡ u.0 = (let make : ℕ → ℕ → Range = λ a b. record { start = a; end = b } in ap₂ make start end) in
    let make : Range → ℕ → Range × ℕ = λ r n. (r, n) in
    ap₂ make range target

-- one more edge at the ends of both lists
pub same_end_more : (left right : List (Range × ℕ)) (n : ℕ) (t u : Range × ℕ) → SameEnd left right n → n < length left → n < length right
    → get_or left (length left - 1 - n) t ≡ get_or right (length right - 1 - n) u → SameEnd left right (n + 1)
same_end_more left right n t u h l r e =
    let i : length left - (n + 1) ≡ length left - 1 - n = omega arith in
    let j : length right - (n + 1) ≡ length right - 1 - n = omega arith in
    let i2 : suc (length left - 1 - n) ≡ length left - n = omega arith in
    let j2 : suc (length right - 1 - n) ≡ length right - n = omega arith in
    record {
      in_left = omega arith;
      in_right = omega arith;
      same = ap (λ k. drop k left) i
          ∙ drop-cons left (length left - 1 - n) t (omega arith)
          ∙ ap₂ (λ (x : Range × ℕ) (xs : List (Range × ℕ)). x ∷ xs) e (ap (λ k. drop k left) i2 ∙ h.same ∙ sym (ap (λ k. drop k right) j2))
          ∙ sym (drop-cons right (length right - 1 - n) u (omega arith))
          ∙ sym (ap (λ k. drop k right) j);
    }

-- edges that end before a value don't say where it leads
pub leads_past : (ts : List (Range × ℕ)) (place o v c : ℕ) → EndBefore ts place v → v ≤ c → edge_target ts o c ≡ edge_target (drop place ts) o c
leads_past ts zero o v c passed l = refl
leads_past [] (suc k) o v c passed l = refl
leads_past (t ∷ ts) (suc k) o v c passed l =
    leads_later t ts o c (λ h. omega (arith, passed 0 t (omega arith) refl, h.1))
    ∙ leads_past ts k o v c (λ j u m e. passed (suc j) u (omega arith) e) l

-- behind the edges that they don't share, both lists lead alike
pub lead_alike : (left right : List (Range × ℕ)) (n o v c : ℕ) → SameEnd left right n → EndBefore left (length left - n) v → EndBefore right (length right - n) v
    → v ≤ c → edge_target left o c ≡ edge_target right o c
lead_alike left right n o v c h a b l =
    leads_past left (length left - n) o v c a l
    ∙ ap (λ (ts : List (Range × ℕ)). edge_target ts o c) h.same
    ∙ sym (leads_past right (length right - n) o v c b l)

-- the edges up to one end before the value behind it
pub end_before : (ts : List (Range × ℕ)) → AreAscendingTests ts → (count : ℕ) (t : Range × ℕ) → 0 < count → slice_get ts (count - 1) ≡ Some t → EndBefore ts count (t.0.end + 1)
end_before ts a count t some at k u l e =
    ⊎_elim (λ (x : k < count - 1). omega (arith, before_at ts a k (count - 1) u t x e at, has_value_at ts a (count - 1) t at))
    (λ (x : count - 1 ≤ k).
    let i : k ≡ count - 1 = omega arith in
    let same : u ≡ t = (let f : Some u ≡ Some t = sym e ∙ (ap (slice_get ts) i ∙ at) in cc) in
    omega (arith, ap (λ (x : Range × ℕ). x.0.end) same))
    (cases_lt k (count - 1))
