-- The automaton of the end finds its first occurrence.
use Rattle.std.proofs.Common.{◌≡◌, ◌≢◌, ℕ, zero, suc, ◌+◌, ◌-◌, ◌<◌, ◌≤◌, ◌⊎◌, inl, inr, ◌↔◌, Bool, true, false, eqb, List, [], ◌∷◌, ◌++◌, length, get_or, take, All, append_assoc, length-append, refl, sym, ap, subst, ◌∙◌, arith}
use Rattle.std.proofs.lemmas.Bool.{cases_lt, false≢true}
use Rattle.std.proofs.lemmas.Bool.Decides.{Decides-eqb}
use Rattle.std.proofs.lemmas.List.{append-nil, length-take-le, length_push, take_at, take_more, take-append-le, take_all, same_from_push, nil_from_length}
use Rattle.std.proofs.lemmas.Slice.Eq.{ends_is}
use Rattle.std.specs.List.{ends_with}
use Rattle.lalrpop_re.specs.UpTo.{OccursOnlyLast, IsFromTo}
use Rattle.lalrpop_re.specs.Internal.Walks.{Graph, Steps, Walk, Reads}
use Rattle.lalrpop_re.specs.Internal.Steps.{EndsWith, IsStep, Automaton}
use Rattle.lalrpop_hir.specs.Tree.{Tree}
use Rattle.lalrpop_hir.specs.Language.{Matches}
use Rattle.lalrpop_hir.specs.Runs.{IsScalar}
use Rattle.std.specs.Str.{chars, IsUtf8}
use Rattle.std.proofs.Math.Utf8.{encodes}
use Rattle.std.proofs.lemmas.Str.{encodes-chars}
use Rattle.lalrpop_re.proofs.Walks.{Walk-cons, Walk-inside, Walk-reads}

-- ---- lists

-- two ways to split a list: the longer front begins with the shorter one
pub split-behind : (d v t z : List ℕ) → v ++ t ≡ d ++ z → length d ≤ length v → (x : List ℕ) × ((v ≡ d ++ x) × (x ++ t ≡ z))
split-behind [] v t z e h = (v, (refl, e))
split-behind (a ∷ d) [] t z e h = absurd (omega arith)
split-behind (a ∷ d) (b ∷ v) t z e h =
    let first : b ≡ a = cc in
    let rest : v ++ t ≡ d ++ z = cc in
    let r = split-behind d v t z rest (omega arith) in
    (r.0, (cc, r.1.1))

take-past : (v z : List ℕ) (i n : ℕ) → n ≡ length v + i → take n (v ++ z) ≡ v ++ take i z
take-past [] z i n e = let same : n ≡ i = omega arith in ap (λ m. take m z) same
take-past (a ∷ v) z i zero e = absurd (omega arith)
take-past (a ∷ v) z i (suc n) e = ap (λ l. a ∷ l) (take-past v z i n (omega arith))

-- ---- one step

-- one character more at both ends
pub more-ends : (end t : List ℕ) (c j : ℕ) → j < length end → EndsWith t (take j end) → get_or end j 0 ≡ c → EndsWith (t ++ c ∷ []) (take (j + 1) end)
more-ends end t c j h (b, e) g =
    (b, ap (λ x. x ++ c ∷ []) e ∙ (append_assoc b (take j end) (c ∷ []) ∙ ap (λ x. b ++ x) (ap (λ x. take j end ++ x ∷ []) (sym g) ∙ sym (take_more end j 0 h))))

pub ends-more : (end t : List ℕ) (c j : ℕ) → j < length end → EndsWith (t ++ c ∷ []) (take (j + 1) end) → EndsWith t (take j end) × (get_or end j 0 ≡ c)
ends-more end t c j h (b, e) =
    let at : t ++ c ∷ [] ≡ (b ++ take j end) ++ get_or end j 0 ∷ [] = e ∙ (ap (λ x. b ++ x) (take_more end j 0 h) ∙ sym (append_assoc b (take j end) (get_or end j 0 ∷ []))) in
    let r = same_from_push t (b ++ take j end) c (get_or end j 0) at in
    ((b, r.0), sym r.1)

pub IsStep-unique : (end : List ℕ) (k c i j : ℕ) → IsStep end k c i → IsStep end k c j → i ≡ j
IsStep-unique end k c i j f g = omega (arith, f.most j g.within g.read, g.most i f.within f.read)

-- what the test of slices says
pub ends-tested : (text last : List ℕ) (r : Bool) → r ≡ ends_with eqb text last → (r ≡ true → EndsWith text last) × (EndsWith text last → r ≡ true)
ends-tested text last r e =
    let t = ends_is Decides-eqb text last r e in
    (λ h. (take (length text - length last) text, t.0 h), λ h. t.1 h.0 h.1)

by_test : (P : Type 0) (b : Bool) → (b ≡ true → P) × (P → b ≡ true) → P ⊎ (¬ P)
by_test P true h = inl (h.0 refl)
by_test P false h = inr (λ p. false≢true (h.1 p))

-- the greatest number up to m of which a fact holds that can be tested
greatest : (Q : ℕ → Type 0) → ((i : ℕ) → Q i ⊎ (¬ Q i)) → Q 0 → (m : ℕ) → (j : ℕ) × ((j ≤ m) × Q j × ((i : ℕ) → i ≤ m → Q i → i ≤ j))
greatest Q test at zero = (0, (omega arith, at, λ i h _. h))
greatest Q test at (suc m) = by_case (test (suc m)) (greatest Q test at m)
  where
    by_case : (Q (suc m) ⊎ (¬ Q (suc m))) → ((j : ℕ) × ((j ≤ m) × Q j × ((i : ℕ) → i ≤ m → Q i → i ≤ j))) → (j : ℕ) × ((j ≤ suc m) × Q j × ((i : ℕ) → i ≤ suc m → Q i → i ≤ j))
    by_case (inl q) r = (suc m, (omega arith, q, λ i h _. h))
    by_case (inr nope) (j, (h, q, most)) = (j, (omega arith, q, λ i g p. below i g p (cases_lt m i)))
      where
        below : (i : ℕ) → i ≤ suc m → Q i → (m < i) ⊎ (i ≤ m) → i ≤ j
        below i g p (inr l) = most i l p
        below i g p (inl l) = let same : i ≡ suc m = omega arith in absurd (nope (subst Q same p))

-- each character leads on from each state
pub step_of : (end : List ℕ) (k c : ℕ) → (j : ℕ) × IsStep end k c j
step_of end k c =
    let x = take k end ++ c ∷ [] in
    let r = greatest (λ i. EndsWith x (take i end)) (λ i. by_test (EndsWith x (take i end)) (ends_with eqb x (take i end)) (ends-tested x (take i end) (ends_with eqb x (take i end)) refl)) (x, sym (append-nil x)) (k + 1) in
    (r.0, record { within = r.1.0; read = r.1.1; most = r.1.2 })

pub length-read : (end : List ℕ) (k c : ℕ) → k < length end → length (take k end ++ c ∷ []) ≡ k + 1
length-read end k c h = length_push (take k end) c ∙ ap (λ n. n + 1) (length-take-le k end (omega arith))

-- ---- the first occurrence

-- the text ends with the end, which occurs only there
abbrev pub EndsFirst : List ℕ → List ℕ → Type 0
EndsFirst end text = EndsWith text end × OccursOnlyLast end text

module _ (end : List ℕ) (k c j : ℕ) (w : List ℕ) (within : k < length end) (s : IsStep end k c j) where
  whole : take k end ++ c ∷ w ≡ s.read.0 ++ (take j end ++ w)
  whole = sym (append_assoc (take k end) (c ∷ []) w) ∙ (ap (λ x. x ++ w) s.read.1 ∙ append_assoc s.read.0 (take j end) w)

  -- no occurrence begins before the last j characters that are read
  begins-behind : (v y : List ℕ) → take k end ++ c ∷ w ≡ v ++ end ++ y → length s.read.0 ≤ length v
  begins-behind v y e = by_place (cases_lt (length v) (length s.read.0))
    where
      sum : length s.read.0 + length (take j end) ≡ k + 1
      sum = sym (length-append s.read.0 (take j end)) ∙ (ap length (sym s.read.1) ∙ length-read end k c within)

      ends : (i : ℕ) → k + 1 ≡ length v + i → EndsWith (take k end ++ c ∷ []) (take i end)
      ends i n =
          let all : (take k end ++ c ∷ []) ++ w ≡ v ++ (end ++ y) = append_assoc (take k end) (c ∷ []) w ∙ (e ∙ append_assoc v end y) in
          (v, sym (take_at (take k end ++ c ∷ []) w (k + 1) (length-read end k c within)) ∙ (ap (take (k + 1)) all ∙ (take-past v (end ++ y) i (k + 1) n ∙ ap (λ x. v ++ x) (take-append-le i end y (omega arith)))))

      by_place : (length v < length s.read.0) ⊎ (length s.read.0 ≤ length v) → length s.read.0 ≤ length v
      by_place (inr h) = h
      by_place (inl h) =
          let i : ℕ = (k + 1) - length v in
          let size : length (take j end) ≡ j = length-take-le j end (omega (arith, s.within)) in
          let n : k + 1 ≡ length v + i = omega (arith, sum) in
          absurd (omega (arith, sum, size, n, s.most i (omega arith) (ends i n)))

  -- what was read before them doesn't matter
  EndsFirst-step : EndsFirst end (take k end ++ c ∷ w) ↔ EndsFirst end (take j end ++ w)
  EndsFirst-step = (front, back)
    where
      front : EndsFirst end (take k end ++ c ∷ w) → EndsFirst end (take j end ++ w)
      front ((u, e), only) =
          let at = begins-behind u [] (e ∙ sym (append-nil (u ++ end))) in
          let r = split-behind s.read.0 u end (take j end ++ w) (sym e ∙ whole) at in
          ((r.0, sym r.1.1), λ v y f. only (s.read.0 ++ v) y (whole ∙ (ap (λ x. s.read.0 ++ x) (f ∙ append_assoc v end y) ∙ (sym (append_assoc s.read.0 v (end ++ y)) ∙ sym (append_assoc (s.read.0 ++ v) end y)))))

      back : EndsFirst end (take j end ++ w) → EndsFirst end (take k end ++ c ∷ w)
      back ((u, e), only) =
          ((s.read.0 ++ u, whole ∙ (ap (λ x. s.read.0 ++ x) e ∙ sym (append_assoc s.read.0 u end))), λ v y f. over v y (split-behind s.read.0 v (end ++ y) (take j end ++ w) (sym (append_assoc v end y) ∙ (sym f ∙ whole)) (begins-behind v y f)))
        where
          over : (v y : List ℕ) → ((x : List ℕ) × ((v ≡ s.read.0 ++ x) × (x ++ (end ++ y) ≡ take j end ++ w))) → y ≡ []
          over v y (x, (f, g)) = only x y (sym g ∙ sym (append_assoc x end y))

-- a step into the last state: the end is read
pub read-end : (end : List ℕ) (k c j : ℕ) → k < length end → length end ≤ j → IsStep end k c j → take k end ++ c ∷ [] ≡ end
read-end end k c j h g s =
    let n = length-append s.read.0 (take j end) in
    let all : take j end ≡ end = take_all j end g in
    let m : length (s.read.0 ++ take j end) ≡ k + 1 = ap length (sym s.read.1) ∙ length-read end k c h in
    let none : s.read.0 ≡ [] = nil_from_length s.read.0 (omega (arith, ap length all, s.within)) in
    s.read.1 ∙ (ap (λ x. x ++ take j end) none ∙ all)

-- the end itself ends first
EndsFirst-itself : (end : List ℕ) → EndsFirst end end
EndsFirst-itself end =
    (([], refl), λ v y e. nil_from_length y (omega (arith, ap length e, length-append (v ++ end) y, length-append v end)))

module _ (start end : List ℕ) where
  nothing-behind : (j : ℕ) (w : List ℕ) → Steps (Automaton start end) (length end) j (length end) w → w ≡ []
  nothing-behind zero w h = h.1
  nothing-behind (suc j) w (q, (u, v, (e, inl m, h))) = absurd (omega (arith, m.0))
  nothing-behind (suc j) w (q, (u, v, (e, inr m, h))) = absurd (omega (arith, m.0))

  -- a walk from state k finds the first end
  walk-finds : (j k : ℕ) (w : List ℕ) → k < length end → Steps (Automaton start end) (length end) j k w → EndsFirst end (take k end ++ w)
  walk-finds zero k w l h = absurd (omega (arith, h.0))
  walk-finds (suc j) k w l (q, (u, v, (e, inl m, h))) = absurd (omega (arith, m.0))
  walk-finds (suc j) k w l (q, (u, v, (e, inr (_, (c, (f, s))), h))) =
      subst (λ x. EndsFirst end (take k end ++ x)) (sym (e ∙ ap (λ x. x ++ v) f)) (by_place (cases_lt q (length end)) (λ g. walk-finds j q v g h))
    where
      by_place : (q < length end) ⊎ (length end ≤ q) → (q < length end → EndsFirst end (take q end ++ v)) → EndsFirst end (take k end ++ c ∷ v)
      by_place (inl g) r = (EndsFirst-step end k c q v l s).1 (r g)
      by_place (inr g) r =
          let same : q ≡ length end = omega (arith, s.within) in
          let none : v ≡ [] = nothing-behind j v (subst (λ x. Steps (Automaton start end) (length end) j x v) same h) in
          subst (EndsFirst end) (sym (ap (λ x. take k end ++ c ∷ x) none ∙ read-end end k c q l g s)) (EndsFirst-itself end)

  -- and where it is, a walk leads
  finds-walk : (w : List ℕ) (k : ℕ) → k < length end → EndsFirst end (take k end ++ w) → Walk (Automaton start end) (length end) k w
  finds-walk [] k l ((u, e), only) =
      absurd (omega (arith, ap length e, length-append (take k end) [], length-append u end, length-take-le k end (omega arith)))
  finds-walk (c ∷ w) k l first = by_step (step_of end k c) (λ q g r. finds-walk w q g r)
    where
      by_step : ((q : ℕ) × IsStep end k c q) → ((q : ℕ) → q < length end → EndsFirst end (take q end ++ w) → Walk (Automaton start end) (length end) q w) → Walk (Automaton start end) (length end) k (c ∷ w)
      by_step (q, s) on = Walk-cons (Automaton start end) (length end) k q (c ∷ []) w (c ∷ w) refl (inr (l, (c, (refl, s)))) (by_place (cases_lt q (length end)))
        where
          by_place : (q < length end) ⊎ (length end ≤ q) → Walk (Automaton start end) (length end) q w
          by_place (inl g) = on q g ((EndsFirst-step end k c q w l s).0 first)
          by_place (inr g) =
              let at : take k end ++ c ∷ w ≡ [] ++ end ++ w = sym (append_assoc (take k end) (c ∷ []) w) ∙ ap (λ x. x ++ w) (read-end end k c q l g s) in
              (0, (omega (arith, s.within), first.1 [] w at))

  -- the walks from the first state are the words from the beginning to the end
  pub Walk-IsFromTo : 0 < length end → (w : List ℕ) → Walk (Automaton start end) (length end) (length end + 1) w ↔ IsFromTo start end w
  Walk-IsFromTo l w = (λ h. front h.0 h.1, back)
    where
      by_first : (v : List ℕ) → w ≡ start ++ v → EndsFirst end v → IsFromTo start end w
      by_first v e ((u, f), only) = (u, (e ∙ (ap (λ x. start ++ x) f ∙ sym (append_assoc start u end)), subst (OccursOnlyLast end) f only))

      front : (j : ℕ) → Steps (Automaton start end) (length end) j (length end + 1) w → IsFromTo start end w
      front zero h = absurd (omega (arith, h.0))
      front (suc j) (q, (u, v, (e, inr m, h))) = absurd (omega (arith, m.0))
      front (suc j) (q, (u, v, (e, inl (_, z, f), h))) =
          by_first v (e ∙ ap (λ x. x ++ v) f) (walk-finds j 0 v l (subst (λ x. Steps (Automaton start end) (length end) j x v) z h))

      back : IsFromTo start end w → Walk (Automaton start end) (length end) (length end + 1) w
      back (u, (e, only)) =
          Walk-cons (Automaton start end) (length end) (length end + 1) 0 start (u ++ end) w (e ∙ append_assoc start u end) (inl (refl, refl, refl)) (finds-walk (u ++ end) 0 l ((u, refl), only))

-- a tree with the words of all walks
module _ (t : Tree) (start end : List ℕ) (n : ℕ) (M : Graph) (e : n ≡ length end) (some : 0 < length end) (reads : Reads (Automaton start end) M)
    (words : (w : List ℕ) → Matches t w ↔ Walk M n (n + 1) w) where
  walked : (w : List ℕ) → Matches t w ↔ Walk M (length end) (length end + 1) w
  walked w = subst (λ m. Matches t w ↔ Walk M m (m + 1) w) e (words w)

  -- has no others than from the beginning to the end
  pub only-IsFromTo : (w : List ℕ) → Matches t w → IsFromTo start end w
  only-IsFromTo w h = (Walk-IsFromTo start end some w).0 (Walk-inside (Automaton start end) M (length end) (length end + 1) w reads ((walked w).0 h))

  -- and all of those that are characters
  pub Matches-IsFromTo : (w : List ℕ) → All IsScalar w → Matches t w ↔ IsFromTo start end w
  Matches-IsFromTo w s =
      (only-IsFromTo w, λ h. (walked w).1 (Walk-reads (Automaton start end) M (length end) (length end + 1) w reads s ((Walk-IsFromTo start end some w).1 h)))

-- a text that isn't empty has a character
pub some-character : (bs : List ℕ) → IsUtf8 bs → bs ≢ [] → 0 < length (chars bs)
some-character bs u n = by_length (cases_lt 0 (length (chars bs)))
  where
    by_length : (0 < length (chars bs)) ⊎ (length (chars bs) ≤ 0) → 0 < length (chars bs)
    by_length (inl h) = h
    by_length (inr h) = absurd (n (sym (encodes-chars bs u) ∙ ap encodes (nil_from_length (chars bs) (omega arith))))
