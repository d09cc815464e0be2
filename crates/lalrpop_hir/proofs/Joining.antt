-- Joining ascending ranges into runs: a run takes in each next range that starts inside it or next to it.
-- `next` gives the next value, and `S` is the set of values.
use Rattle.std.proofs.Common.{◌≡◌, ℕ, zero, suc, ◌+◌, ◌<◌, ◌≤◌, ◌⊎◌, ◌↔◌, inl, inr, List, [], ◌∷◌, ◌++◌, length, get_or, take, drop, max, true, refl, sym, ap, subst, ◌∙◌, append_assoc, add-one, drop-cons, arith}
use Rattle.std.specs.List.{All, Contains}
use Rattle.std.specs.List.Sorted.{IsNonDecreasingBy, IsPermutation}
use Rattle.std.specs.Ordering.{ord_max, nat_cmp}
use Rattle.std.proofs.lemmas.Grind.{common_steps}
use Rattle.std.proofs.lemmas.Bool.{cases_lt}
use Rattle.std.proofs.lemmas.List.{take_all, drop_all}
use Rattle.std.proofs.lemmas.List.Elements.{All-nil, All-head, All-tail, All-more}
use Rattle.std.proofs.lemmas.List.Sorted.{IsNonDecreasingBy-drop, IsPermutation-sym, Contains-permutation}
use Rattle.std.proofs.Math.Utf8.{scalar}
use Rattle.lalrpop_hir.specs.Range.{Range, Covers, Covered}
use Rattle.lalrpop_hir.specs.Runs.{IsScalar, IsByte, AreApart, HaveEndsIn}
use Rattle.lalrpop_hir.proofs.Canons.{Steps, AreKept, IsScalar-from_char}

-- a range that is not empty, with both ends in the set
abbrev pub IsProper : (ℕ → Type 0) → Range → Type 0
IsProper S r = S r.start × S r.end × (r.start ≤ r.end)

-- from the first range's start to the greater of both ends
abbrev pub joined : Range → Range → Range
joined r s = record { start = r.start; end = max r.end s.end }

-- what `a.max(b)` gives for two numbers
pub max-is : (a b : ℕ) → ord_max nat_cmp a b ≡ max a b
max-is a b = grind (arith, common_steps)

-- the runs of a range and the ranges after it
abbrev pub join : (ℕ → ℕ) → Range → List Range → List Range
join next r [] = r ∷ []
join next r (s ∷ ss) =
    elim (cases_lt (next r.end) s.start) as (λ _. List Range) [ inl h ↦ r ∷ join next s ss | inr h ↦ join next (joined r s) ss ]

-- no range of the list starts before a, or before the range before it
abbrev pub Ascend : ℕ → List Range → Type 0
Ascend a [] = Unit {0}
Ascend a (s ∷ ss) = (a ≤ s.start) × Ascend s.start ss

join-behind : (next : ℕ → ℕ) (r s : Range) (ss : List Range) → next r.end < s.start → join next r (s ∷ ss) ≡ r ∷ join next s ss
join-behind next r s ss h =
    elim (cases_lt (next r.end) s.start) as (λ o. elim o as (λ _. List Range) [ inl _ ↦ r ∷ join next s ss | inr _ ↦ join next (joined r s) ss ] ≡ r ∷ join next s ss)
    [ inl _ ↦ refl | inr g ↦ absurd (omega arith) ]

join-beside : (next : ℕ → ℕ) (r s : Range) (ss : List Range) → s.start ≤ next r.end → join next r (s ∷ ss) ≡ join next (joined r s) ss
join-beside next r s ss h =
    elim (cases_lt (next r.end) s.start) as (λ o. elim o as (λ _. List Range) [ inl _ ↦ r ∷ join next s ss | inr _ ↦ join next (joined r s) ss ] ≡ join next (joined r s) ss)
    [ inl g ↦ absurd (omega arith) | inr _ ↦ refl ]

-- a statement about the runs of ranges may be shown for each place of the second range
by_place : (next : ℕ → ℕ) (P : List Range → Type 0) (r s : Range) (ss : List Range) → (next r.end < s.start → P (r ∷ join next s ss)) → (s.start ≤ next r.end → P (join next (joined r s) ss)) → P (join next r (s ∷ ss))
by_place next P r s ss f g =
    elim (cases_lt (next r.end) s.start)
    [ inl h ↦ subst P (sym (join-behind next r s ss h)) (f h) | inr h ↦ subst P (sym (join-beside next r s ss h)) (g h) ]

-- a range stays in front of runs that start where s does
in_front : (next : ℕ → ℕ) (r s : Range) (ss : List Range) → r.start ≤ r.end → next r.end < s.start → AreApart next (join next s ss) → AreApart next (r ∷ join next s ss)
in_front next r s [] f h = λ a. (f, h, a)
in_front next r s (t ∷ ts) f h =
    by_place next (λ l. AreApart next l → AreApart next (r ∷ l)) s t ts (λ _ a. (f, h, a)) (λ _. in_front next r (joined s t) ts f h)

max-in : (S : ℕ → Type 0) (a b : ℕ) → S a → S b → S (max a b)
max-in S a b p q = by_order (cases_lt a b)
  where
    by_order : (a < b) ⊎ (b ≤ a) → S (max a b)
    by_order (inl h) =
        let e : max a b ≡ b = omega arith in subst S (sym e) q
    by_order (inr h) =
        let e : max a b ≡ a = omega arith in subst S (sym e) p

joined-filled : (r s : Range) → r.start ≤ r.end → r.start ≤ max r.end s.end
joined-filled r s h = omega arith

joined-proper : (S : ℕ → Type 0) (r s : Range) → IsProper S r → IsProper S s → IsProper S (joined r s)
joined-proper S r s p q = (p.0, max-in S r.end s.end p.1 q.1, joined-filled r s p.2)

join-apart : (next : ℕ → ℕ) (S : ℕ → Type 0) (r : Range) (ss : List Range) → IsProper S r → All (IsProper S) ss → AreApart next (join next r ss)
join-apart next S r [] p q = p.2
join-apart next S r (s ∷ ss) p q =
    let first = All-head (IsProper S) s ss q in
    let others = All-tail (IsProper S) s ss q in
    by_place next (AreApart next) r s ss (λ h. in_front next r s ss p.2 h (join-apart next S s ss first others)) (λ _. join-apart next S (joined r s) ss (joined-proper S r s p first) others)

join-ends : (next : ℕ → ℕ) (S : ℕ → Type 0) (r : Range) (ss : List Range) → IsProper S r → All (IsProper S) ss → HaveEndsIn S (join next r ss)
join-ends next S r [] p q = (p.0, p.1, tt)
join-ends next S r (s ∷ ss) p q =
    let first = All-head (IsProper S) s ss q in
    let others = All-tail (IsProper S) s ss q in
    by_place next (HaveEndsIn S) r s ss (λ _. (p.0, p.1, join-ends next S s ss first others)) (λ _. join-ends next S (joined r s) ss (joined-proper S r s p first) others)

-- two neighbours cover what they cover when joined into one range
joined-covers : (next : ℕ → ℕ) (S : ℕ → Type 0) (r s : Range) (c : ℕ) → Steps next S → IsProper S r → S c → s.start ≤ next r.end → Covers (joined r s) c → Covers r c ⊎ Covers s c
joined-covers next S r s c steps p m h g = by_order (cases_lt r.end c)
  where
    by_order : (r.end < c) ⊎ (c ≤ r.end) → Covers r c ⊎ Covers s c
    by_order (inr l) = inl (g.0, l)
    by_order (inl l) =
        let n : next r.end ≤ c = steps.reaches r.end c p.1 m l in inr (omega arith, omega (arith, g.1))

covers-joined : (r s : Range) (c : ℕ) → r.start ≤ s.start → Covers r c ⊎ Covers s c → Covers (joined r s) c
covers-joined r s c up (inl h) = (h.0, omega (arith, h.1))
covers-joined r s c up (inr h) = (omega (arith, h.0), omega (arith, h.1))

pub ascend-below : (a b : ℕ) (ss : List Range) → a ≤ b → Ascend b ss → Ascend a ss
ascend-below a b [] h up = tt
ascend-below a b (s ∷ ss) h up = (omega (arith, up.0), up.1)

at_front : (r : Range) (c : ℕ) (xs ys : List Range) → (Covered xs c → Covered ys c) → Covered (r ∷ xs) c → Covered (r ∷ ys) c
at_front r c xs ys f (inl h) = inl h
at_front r c xs ys f (inr h) = inr (f h)

apart_again : (r s : Range) (c : ℕ) (ss : List Range) → (Covers (joined r s) c → Covers r c ⊎ Covers s c) → Covered (joined r s ∷ ss) c → Covered (r ∷ s ∷ ss) c
apart_again r s c ss f (inl h) = elim (f h) [ inl k ↦ inl k | inr k ↦ inr (inl k) ]
apart_again r s c ss f (inr h) = inr (inr h)

as_one : (r s : Range) (c : ℕ) (ss : List Range) → r.start ≤ s.start → Covered (r ∷ s ∷ ss) c → Covered (joined r s ∷ ss) c
as_one r s c ss up (inl h) = inl (covers-joined r s c up (inl h))
as_one r s c ss up (inr (inl h)) = inl (covers-joined r s c up (inr h))
as_one r s c ss up (inr (inr h)) = inr h

-- the runs cover nothing but what the ranges cover
join-sound : (next : ℕ → ℕ) (S : ℕ → Type 0) (c : ℕ) → Steps next S → S c → (r : Range) (ss : List Range) → IsProper S r → All (IsProper S) ss → Covered (join next r ss) c → Covered (r ∷ ss) c
join-sound next S c steps m r [] p q = λ g. g
join-sound next S c steps m r (s ∷ ss) p q =
    let first = All-head (IsProper S) s ss q in
    let others = All-tail (IsProper S) s ss q in
    by_place next (λ l. Covered l c → Covered (r ∷ s ∷ ss) c) r s ss
    (λ _. at_front r c (join next s ss) (s ∷ ss) (join-sound next S c steps m s ss first others))
    (λ h g. apart_again r s c ss (joined-covers next S r s c steps p m h) (join-sound next S c steps m (joined r s) ss (joined-proper S r s p first) others g))

-- the runs cover all that the ranges cover
join-complete : (next : ℕ → ℕ) (c : ℕ) (r : Range) (ss : List Range) → Ascend r.start ss → Covered (r ∷ ss) c → Covered (join next r ss) c
join-complete next c r [] up = λ g. g
join-complete next c r (s ∷ ss) up =
    by_place next (λ l. Covered (r ∷ s ∷ ss) c → Covered l c) r s ss
    (λ _. at_front r c (s ∷ ss) (join next s ss) (join-complete next c s ss up.1))
    (λ _ g. join-complete next c (joined r s) ss (ascend-below r.start s.start ss up.0 up.1) (as_one r s c ss up.0 g))

ascend-from_order : (r : Range) (ss : List Range) → IsNonDecreasingBy (λ x. x.start) (r ∷ ss) → Ascend r.start ss
ascend-from_order r [] up = tt
ascend-from_order r (s ∷ ss) up =
    (up 0 1 r (omega arith) (omega arith), ascend-from_order s ss (IsNonDecreasingBy-drop (λ x. x.start) 1 (r ∷ s ∷ ss) up))

-- ranges that are apart, have ends in the set, and cover the values that the others cover
abbrev pub AreRuns : (ℕ → ℕ) → (ℕ → Type 0) → List Range → List Range → Type 0
AreRuns next S ranges runs =
    AreKept next S runs × ((c : ℕ) → S c → Covered ranges c ↔ Covered runs c)

-- the runs of ascending ranges
join-runs : (next : ℕ → ℕ) (S : ℕ → Type 0) (r : Range) (ss : List Range) → Steps next S → IsProper S r → All (IsProper S) ss → IsNonDecreasingBy (λ x. x.start) (r ∷ ss) → AreRuns next S (r ∷ ss) (join next r ss)
join-runs next S r ss steps p q order =
    let up = ascend-from_order r ss order in
    ((join-apart next S r ss p q, join-ends next S r ss p q), λ c m. (join-complete next c r ss up, join-sound next S c steps m r ss p q))

-- after i ranges of the rest: the finished runs, with the runs of the last run and what is left, are the runs of all
pub record IsJoining (next : ℕ → ℕ) (S : ℕ → Type 0) (first : Range) (rest : List Range) (i : ℕ) (done : List Range) (run : Range) : Type 0 where
  pub joins : done ++ join next run (drop i rest) ≡ join next first rest
  pub proper : IsProper S run
  pub seen : All (IsProper S) (take i rest)

pub IsJoining-start : (next : ℕ → ℕ) (S : ℕ → Type 0) (first : Range) (rest : List Range) → IsProper S first → IsJoining next S first rest 0 [] first
IsJoining-start next S first rest p = record { joins = refl; proper = p; seen = All-nil (IsProper S) }

-- s is the range of the rest at i
abbrev pub IsAt : List Range → ℕ → Range → Type 0
IsAt rest i s = (i < length rest) × (s ≡ get_or rest i s)

pub left : (rest : List Range) (i : ℕ) (s : Range) → IsAt rest i s → drop i rest ≡ s ∷ drop (i + 1) rest
left rest i s a = rw add-one (drop-cons rest i s a.0 ∙ ap (λ x. x ∷ drop (suc i) rest) (sym a.1))

seen-more : (S : ℕ → Type 0) (rest : List Range) (i : ℕ) (s : Range) → IsAt rest i s → IsProper S s → All (IsProper S) (take i rest) → All (IsProper S) (take (i + 1) rest)
seen-more S rest i s a p q = All-more (IsProper S) rest i s a.0 q (subst (IsProper S) a.1 p)

-- a range after a gap begins a run
pub IsJoining-behind : (next : ℕ → ℕ) (S : ℕ → Type 0) (first : Range) (rest : List Range) (i : ℕ) (done : List Range) (run s : Range) → IsJoining next S first rest i done run → IsAt rest i s → IsProper S s → next run.end < s.start → IsJoining next S first rest (i + 1) (done ++ run ∷ []) s
IsJoining-behind next S first rest i done run s k a p h =
    let turn : join next run (drop i rest) ≡ run ∷ join next s (drop (i + 1) rest) =
    ap (join next run) (left rest i s a) ∙ join-behind next run s (drop (i + 1) rest) h in
    record {
      joins = append_assoc done (run ∷ []) (join next s (drop (i + 1) rest)) ∙ (ap (λ x. done ++ x) (sym turn) ∙ k.joins);
      proper = p;
      seen = seen-more S rest i s a p k.seen;
    }

-- any other range is taken into the run, which ends at the greater of both ends
pub IsJoining-beside : (next : ℕ → ℕ) (S : ℕ → Type 0) (first : Range) (rest : List Range) (i : ℕ) (done : List Range) (run s : Range) → IsJoining next S first rest i done run → IsAt rest i s → IsProper S s → s.start ≤ next run.end → IsJoining next S first rest (i + 1) done (joined run s)
IsJoining-beside next S first rest i done run s k a p h =
    let turn : join next run (drop i rest) ≡ join next (joined run s) (drop (i + 1) rest) =
    ap (join next run) (left rest i s a) ∙ join-beside next run s (drop (i + 1) rest) h in
    record {
      joins = ap (λ x. done ++ x) (sym turn) ∙ k.joins;
      proper = joined-proper S run s k.proper p;
      seen = seen-more S rest i s a p k.seen;
    }

-- after all ranges, the finished runs and the last run are the runs of all
pub IsJoining-end : (next : ℕ → ℕ) (S : ℕ → Type 0) (first : Range) (rest : List Range) (i : ℕ) (done : List Range) (run : Range) → Steps next S → IsProper S first → IsNonDecreasingBy (λ x. x.start) (first ∷ rest) → IsJoining next S first rest i done run → length rest ≤ i → AreRuns next S (first ∷ rest) (done ++ run ∷ [])
IsJoining-end next S first rest i done run steps p order k h =
    let all : All (IsProper S) rest = subst (All (IsProper S)) (take_all i rest h) k.seen in
    let same : join next first rest ≡ done ++ run ∷ [] =
    sym k.joins ∙ ap (λ x. done ++ join next run x) (drop_all i rest h) in
    subst (AreRuns next S (first ∷ rest)) same (join-runs next S first rest steps p all order)

covered-at : (rs : List Range) (k : ℕ) (r : Range) (c : ℕ) → k < length rs → get_or rs k r ≡ r → Covers r c → Covered rs c
covered-at [] k r c l e h = absurd (omega arith)
covered-at (s ∷ rs) zero r c l e h = inl (subst (λ x. Covers x c) (sym e) h)
covered-at (s ∷ rs) (suc k) r c l e h = inr (covered-at rs k r c (omega arith) e h)

pub covering : (rs : List Range) (c : ℕ) → Covered rs c → (r : Range) × (Contains rs r × Covers r c)
covering [] c h = absurd h
covering (s ∷ rs) c (inl h) = (s, ((0, omega arith, refl), h))
covering (s ∷ rs) c (inr h) =
    let g = covering rs c h in (g.0, ((suc g.1.0.0, omega (arith, g.1.0.1), g.1.0.2), g.1.1))

covered-moved : (rs ss : List Range) (c : ℕ) → IsPermutation rs ss → Covered rs c → Covered ss c
covered-moved rs ss c moved h =
    let g = covering rs c h in
    let k = Contains-permutation rs ss g.0 moved g.1.0 in
    covered-at ss k.0 g.0 c k.1 k.2 g.1.1

-- runs of ranges are runs of the ranges in any other order
pub AreRuns-permutation : (next : ℕ → ℕ) (S : ℕ → Type 0) (ranges sorted runs : List Range) → IsPermutation ranges sorted → AreRuns next S sorted runs → AreRuns next S ranges runs
AreRuns-permutation next S ranges sorted runs moved k =
    (k.0, λ c m. (λ h. (k.1 c m).0 (covered-moved ranges sorted c moved h), λ h. covered-moved sorted ranges c (IsPermutation-sym ranges sorted moved) ((k.1 c m).1 h)))

pub IsProper-characters : (r : Range) → scalar r.start ≡ true → scalar r.end ≡ true → r.start ≤ r.end → IsProper IsScalar r
IsProper-characters r s e h = (IsScalar-from_char r.start s, IsScalar-from_char r.end e, h)

pub IsProper-bytes : (r : Range) → r.start < 256 → r.end < 256 → r.start ≤ r.end → IsProper IsByte r
IsProper-bytes r s e h = (omega arith, omega arith, h)
