-- Each covered value lies in a run.
use Rattle.std.proofs.Common.{◌≡◌, ℕ, zero, suc, ◌+◌, ◌-◌, ◌≤◌, ◌↔◌, ◌⊎◌, inl, inr, List, refl, ap₂, arith, Bool, true, false, not, ◌&&◌, nat_le, leb-true, le-leb, get_or}
use Rattle.std.specs.List.{Contains, list_all}
use Rattle.std.proofs.lemmas.Bool.{and_parts, and_from, cases_lt}
use Rattle.std.proofs.lemmas.List.Elements.{All-contains, Contains-get_or}
use Rattle.std.proofs.lemmas.List.Sums.{AllPass-from_list_all, list_all-from_AllPass}
use Rattle.lalrpop_hir.specs.Range.{Range, Covers}
use Rattle.lalrpop_nfa.specs.Partition.{Ranges, IsCovered, Alike, IsUniform, IsBlock, IsPartition}

-- sets of ranges with the same members have the same runs
module _ (R S : Ranges) (same : (r : Range) → R r ↔ S r) where
  uniform_like : (x : Range) → IsUniform R x → IsUniform S x
  uniform_like x b = record {
    holds_one = b.holds_one;
    covered = λ c k. (let u = b.covered c k in (u.0, ((same u.0).0 u.1.0, u.1.1)));
    constant = λ c d k l r h. b.constant c d k l r ((same r).1 h);
  }

pub block_like : (R S : Ranges) → ((r : Range) → R r ↔ S r) → (x : Range) → IsBlock R x → IsBlock S x
block_like R S same x a = record {
  uniform = uniform_like R S same x a.uniform;
  maximal = λ y b. a.maximal y (uniform_like S R (λ r. ((same r).1, (same r).0)) y b);
}

pub partition_like : (R S : Ranges) → ((r : Range) → R r ↔ S r) → (xs : List Range) → IsPartition R xs → IsPartition S xs
partition_like R S same xs a = record {
  ascending = a.ascending;
  are_blocks = λ x h. block_like R S same x (a.are_blocks x h);
  all_blocks = λ x h. a.all_blocks x (block_like S R (λ r. ((same r).1, (same r).0)) x h);
}

-- the last value up to c + n, and the first value, between which and c the test holds
module _ (p : ℕ → Bool) (c : ℕ) (at : p c ≡ true) where
  abbrev HoldsFrom : ℕ → ℕ → Type 0
  HoldsFrom a b = (k : ℕ) → a ≤ k → k ≤ b → p k ≡ true

  abbrev UpTo : ℕ → Type 0
  UpTo n = (b : ℕ) × ((c ≤ b) × HoldsFrom c b × ((b ≡ c + n) ⊎ (p (b + 1) ≡ false)))

  abbrev DownBy : ℕ → Type 0
  DownBy n = (a : ℕ) × ((a ≤ c) × HoldsFrom a c × ((a + n ≡ c) ⊎ ((m : ℕ) × ((a ≡ m + 1) × (p m ≡ false)))))

  up_step : (n b : ℕ) → c ≤ b → HoldsFrom c b → b ≡ c + n → (t : Bool) → p (b + 1) ≡ t → UpTo (suc n)
  up_step n b l h e true t = (b + 1, (omega arith, more, inl (omega arith)))
    where
      more : HoldsFrom c (b + 1)
      more k x y = elim (cases_lt b k) [ inl above ↦ (let e2 : k ≡ b + 1 = omega arith in rw e2 t) | inr under ↦ h k x under ]
  up_step n b l h e false t = (b, (l, h, inr t))

  up : (n : ℕ) → UpTo n
  up zero = (c, (omega arith, (λ k x y. let e : k ≡ c = omega arith in rw e at), inl (omega arith)))
  up (suc n) = (let u : UpTo n = up n in elim u.1.2 [
    | inl e ↦ up_step n u.0 u.1.0 u.1.1 e (p (u.0 + 1)) refl
    | inr f ↦ (u.0, (u.1.0, u.1.1, inr f))
  ])

  down_step : (n a m : ℕ) → a ≤ c → HoldsFrom a c → a + n ≡ c → a ≡ m + 1 → (t : Bool) → p m ≡ t → DownBy (suc n)
  down_step n a m l h e s true t = (m, (omega arith, more, inl (omega arith)))
    where
      more : HoldsFrom m c
      more k x y = elim (cases_lt m k) [ inl above ↦ h k (omega arith) y | inr under ↦ (let e2 : k ≡ m = omega arith in rw e2 t) ]
  down_step n a m l h e s false t = (a, (l, h, inr (m, (s, t))))

  down : (n : ℕ) → n ≤ c → DownBy n
  down zero l = (c, (omega arith, (λ k x y. let e : k ≡ c = omega arith in rw e at), inl (omega arith)))
  down (suc n) l = (let d : DownBy n = down n (omega arith) in elim d.1.2 [
    | inl e ↦ down_step n d.0 (d.0 - 1) d.1.0 d.1.1 e (omega arith) (p (d.0 - 1)) refl
    | inr f ↦ (d.0, (d.1.0, d.1.1, inr f))
  ])

-- whether the ranges of a list contain both values or neither
abbrev inside : ℕ → Range → Bool
inside c r = nat_le r.start c && nat_le c r.end

abbrev agree : Bool → Bool → Bool
agree true b = b
agree false b = not b

abbrev alike_by : List Range → ℕ → ℕ → Bool
alike_by rs c d = list_all (λ r. agree (inside c r) (inside d r)) rs

inside_true : (c : ℕ) (r : Range) → Covers r c → inside c r ≡ true
inside_true c r k = and_from (nat_le r.start c) (nat_le c r.end) (le-leb r.start c k.0) (le-leb c r.end k.1)

true_inside : (c : ℕ) (r : Range) → inside c r ≡ true → Covers r c
true_inside c r t = let b = and_parts (nat_le r.start c) (nat_le c r.end) t in (leb-true r.start c b.0, leb-true c r.end b.1)

agree_to : (a b : Bool) → agree a b ≡ true → a ≡ true → b ≡ true
agree_to true b h t = h
agree_to false b h t = cc

agree_back : (a b : Bool) → agree a b ≡ true → b ≡ true → a ≡ true
agree_back true b h t = refl
agree_back false true h t = cc
agree_back false false h t = cc

agree_from : (a b : Bool) → (a ≡ true → b ≡ true) → (b ≡ true → a ≡ true) → agree a b ≡ true
agree_from true b f g = f refl
agree_from false true f g = g refl
agree_from false false f g = refl

-- a test that each element of a list passes
module _ (p : Range → Bool) (rs : List Range) where
  all_has : list_all p rs ≡ true → (r : Range) → Contains rs r → p r ≡ true
  all_has t r h = All-contains (λ r. p r ≡ true) rs r (AllPass-from_list_all p rs t) h

  all_from_has : ((r : Range) → Contains rs r → p r ≡ true) → list_all p rs ≡ true
  all_from_has f = list_all-from_AllPass p rs (λ k d l. f (get_or rs k d) (Contains-get_or rs k d l))

module _ (R : Ranges) (rs : List Range) (same : (r : Range) → R r ↔ Contains rs r) where
  alike_from : (c d : ℕ) → alike_by rs c d ≡ true → Alike R c d
  alike_from c d t r h =
      let a : agree (inside c r) (inside d r) ≡ true = all_has (λ r. agree (inside c r) (inside d r)) rs t r ((same r).0 h) in
      ((λ k. true_inside d r (agree_to (inside c r) (inside d r) a (inside_true c r k))), (λ k. true_inside c r (agree_back (inside c r) (inside d r) a (inside_true d r k))))

  alike_to : (c d : ℕ) → Alike R c d → alike_by rs c d ≡ true
  alike_to c d a = all_from_has (λ r. agree (inside c r) (inside d r)) rs (λ r h.
      agree_from (inside c r) (inside d r)
      (λ t. inside_true d r ((a r ((same r).1 h)).0 (true_inside c r t)))
      (λ t. inside_true c r ((a r ((same r).1 h)).1 (true_inside d r t))))

  not_alike : (c d : ℕ) → alike_by rs c d ≡ false → Alike R c d → ⊥
  not_alike c d f a = let t : alike_by rs c d ≡ true = alike_to c d a in cc

  alike_join : (c d e : ℕ) → Alike R c d → Alike R c e → Alike R d e
  alike_join c d e a b r h = ((λ k. (b r h).0 ((a r h).1 k)), (λ k. (a r h).0 ((b r h).1 k)))

  alike_itself : (c : ℕ) → alike_by rs c c ≡ true
  alike_itself c = alike_to c c (λ r h. ((λ k. k), (λ k. k)))

  -- the run of a covered value
  block_around : (c : ℕ) → IsCovered R c → (x : Range) × (IsBlock R x × Covers x c)
  block_around c held = (x, (record { uniform = uniform; maximal = maximal }, (d.1.0, u.1.0)))
    where
      u : UpTo (alike_by rs c) c (alike_itself c) (held.0.end + 1)
      u = up (alike_by rs c) c (alike_itself c) (held.0.end + 1)

      d : DownBy (alike_by rs c) c (alike_itself c) c
      d = down (alike_by rs c) c (alike_itself c) c (omega arith)

      x : Range
      x = record { start = d.0; end = u.0 }

      near : (k : ℕ) → Covers x k → Alike R c k
      near k l = elim (cases_lt c k) [
        | inl above ↦ alike_from c k (u.1.1 k (omega arith) l.1)
        | inr under ↦ alike_from c k (d.1.1 k l.0 under)
      ]

      uniform : IsUniform R x
      uniform = record {
        holds_one = omega (arith, d.1.0, u.1.0);
        covered = λ k l. (held.0, (held.1.0, (near k l held.0 held.1.0).0 held.1.1));
        constant = λ k l a b. alike_join c k l (near k a) (near l b);
      }

      top : alike_by rs c (u.0 + 1) ≡ false
      top = elim u.1.2 [
        | inl e ↦ (let far : c ≤ u.0 = u.1.0 in
            let k : Covers held.0 u.0 = (alike_from c u.0 (u.1.1 u.0 far (omega arith)) held.0 held.1.0).0 held.1.1 in
            absurd (omega (arith, e, k.1)))
        | inr f ↦ f
      ]

      maximal : (y : Range) → IsUniform R y → y.start ≤ d.0 → u.0 ≤ y.end → y ≡ x
      maximal y b l m = ap₂ (λ (i j : ℕ). record { start = i; end = j }) low high
        where
          mid : Covers y c
          mid = (omega (arith, d.1.0), omega (arith, u.1.0))

          high : y.end ≡ u.0
          high = elim (cases_lt u.0 y.end) [
            | inl over ↦ absurd (not_alike c (u.0 + 1) top (b.constant c (u.0 + 1) mid (omega (arith, d.1.0, u.1.0), omega arith)))
            | inr at ↦ omega arith
          ]

          low : y.start ≡ d.0
          low = elim (cases_lt y.start d.0) [
            | inl under ↦ elim d.1.2 [
              | inl e ↦ absurd (omega (arith, e))
              | inr f ↦ absurd (not_alike c f.0 f.1.1 (b.constant c f.0 mid (omega (arith, f.1.0), omega (arith, f.1.0, d.1.0, u.1.0))))
            ]
            | inr at ↦ omega arith
          ]

  pub block_of_covered : (xs : List Range) → IsPartition R xs → (c : ℕ) → IsCovered R c → (x : Range) × (Contains xs x × Covers x c)
  block_of_covered xs a c held = let r = block_around c held in (r.0, (a.all_blocks r.0 r.1.0, r.1.1))
