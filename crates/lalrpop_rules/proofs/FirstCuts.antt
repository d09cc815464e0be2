-- What cuts a text in each mode, at first.
use Rattle.std.proofs.Common.{◌≡◌, ℕ, zero, suc, ◌+◌, ◌*◌, ◌<◌, ◌≤◌, inl, inr, List, [], ◌∷◌, ◌++◌, map, length, take, refl, sym, ap, subst, ◌∙◌, arith, length-append}
use Rattle.std.specs.Prelude.{Some, slice_get, sum_by}
use Rattle.std.specs.Str.{chars, IsUtf8}
use Rattle.std.proofs.Math.Nat.{mul-le-mul_right}
use Rattle.std.proofs.lemmas.List.Sums.{sum_by-cons, sum_by_push, sum_by-take-le}
use Rattle.std.proofs.lemmas.Str.{IsCharBoundary-start}
use Rattle.lalrpop_lexer.specs.Matching.{open_states}
use Rattle.lalrpop_lexer.specs.Rules.{Rules}
use Rattle.lalrpop_rules.specs.Internal.CutToEnd.{CutToEnd, uncut}
use Rattle.bajofeki_rules.specs.declared.action.Action.{Action}
use Rattle.lalrpop_rules.specs.Modes.{ModeRules, trees_in}
use Rattle.lalrpop_rules.specs.ModeCut.{open_in_all}
use Rattle.lalrpop_rules.specs.Internal.Cutting.{spare_of, memo_in, steps_in, IsCutIn, AreUncut, IsCutting, HasAtMost}
use Rattle.lalrpop_rules.proofs.ModeByMode.{slice_end}
use Rattle.lalrpop_rules.proofs.ModeRuns.{no_actions}

-- ---- one more

sum_take : {A : Type 0} (f : A → ℕ) (xs : List A) (n : ℕ) (x : A) → slice_get xs n ≡ Some x → sum_by f (take (suc n) xs) ≡ sum_by f (take n xs) + f x
sum_take f [] zero x is = absurd (cc)
sum_take f [] (suc n) x is = absurd (cc)
sum_take f (y ∷ xs) zero x is =
    let same : y ≡ x = cc in
    omega (arith, sum_by-cons f y [], ap f same)
sum_take f (y ∷ xs) (suc n) x is = omega (arith, sum_take f xs n x is, sum_by-cons f y (take (suc n) xs), sum_by-cons f y (take n xs))

sum_take_next : {A : Type 0} (f : A → ℕ) (xs : List A) (n : ℕ) (x : A) → slice_get xs n ≡ Some x → sum_by f (take (n + 1) xs) ≡ sum_by f (take n xs) + f x
sum_take_next f xs n x is =
    let next : suc n ≡ n + 1 = omega arith in
    subst (λ (k : ℕ). sum_by f (take k xs) ≡ sum_by f (take n xs) + f x) next (sum_take f xs n x is)

more_spare : (count chars known new bytes spare one : ℕ) → spare ≤ count * chars + known * bytes → one ≤ chars + new * bytes
    → spare + one ≤ (count + 1) * chars + (known + new) * bytes
more_spare count chars known new bytes spare one all few =
    let modes : (count + 1) * chars ≡ count * chars + chars = grind arith in
    let states : (known + new) * bytes ≡ known * bytes + new * bytes = grind arith in
    omega (arith, all, few, modes, states)

-- what cuts the text in the next mode
pub one_more : (r : ModeRules) (rules : Rules) (text : List ℕ) (count : ℕ) (cs new : List CutToEnd) (d : CutToEnd) → AreUncut r text count cs
    → d ≡ uncut rules r.skips text d.memo → rules.trees ≡ trees_in r count → rules.precedences ≡ r.precedences → slice_get r.automata count ≡ Some rules.automaton
    → d.memo.unsought ≡ length (chars text) → d.memo.spare ≤ length (chars text) + length text + open_states rules.automaton * (length text + 64)
    → new ≡ cs ++ d ∷ [] → AreUncut r text (count + 1) new
one_more r rules text count cs new d are e trees precedences automaton unsought few more =
    let size : length new ≡ count + 1 = omega (arith, ap length more, length-append cs (d ∷ []), are.many) in
    let here : IsCutIn r text 0 count d = record {
      trees = ap (λ (c : CutToEnd). c.rules.trees) e ∙ trees;
      precedences = ap (λ (c : CutToEnd). c.rules.precedences) e ∙ precedences;
      skips = ap (λ (c : CutToEnd). c.skips) e;
      same_text = ap (λ (c : CutToEnd). c.text) e;
      behind = omega (arith, ap (λ (c : CutToEnd). c.at) e);
    } in
    record {
      many = size;
      each = λ m c at. elim (slice_end cs d c m (ap (λ (xs : List CutToEnd). slice_get xs m) (sym more) ∙ at)) [
        | inl h ↦ are.each m c h
        | inr p ↦
            let there : IsCutIn r text 0 m d = subst (λ (k : ℕ). IsCutIn r text 0 k d) (sym (p.0 ∙ are.many)) here in
            subst (λ (w : CutToEnd). IsCutIn r text 0 m w × (w.at ≡ 0) × (w.memo.unsought ≡ length (chars text))) p.1
            (there, ap (λ (c : CutToEnd). c.at) e, unsought)
      ];
      unread =
          omega (arith, ap (λ (xs : List CutToEnd). steps_in xs) more, sum_by_push (λ (c : CutToEnd). c.steps) cs d, are.unread, ap (λ (c : CutToEnd). c.steps) e);
      spare = omega (
        arith,
        ap (λ (xs : List CutToEnd). sum_by spare_of xs) more,
        sum_by_push spare_of cs d,
        ap (λ (n : ℕ). n * (length text + 64)) (sum_take_next open_states r.automata count rules.automaton automaton),
        more_spare count (length (chars text) + length text) (sum_by open_states (take count r.automata)) (open_states rules.automaton) (length text + 64) (sum_by spare_of cs) (spare_of d) are.spare few,
      );
    }

-- ---- all of them

pub cutting_at_first : (r : ModeRules) (text : List ℕ) (cs : List CutToEnd) → IsUtf8 text → 0 < r.modes → AreUncut r text r.modes cs → IsCutting r text 0 0 cs
cutting_at_first r text cs u some are = record {
  utf8 = u;
  boundary = IsCharBoundary-start text u;
  there = some;
  cuts = record {
    all = are.many;
    each = λ m c is. (are.each m c is).0;
    here = λ c is. (are.each 0 c is).1;
    others = λ m c is other. omega (arith, (are.each m c is).2, ap (λ (t : List ℕ). length (chars t)) (are.each m c is).0.same_text);
  };
}

-- the memo that they have together
pub unsought_at_first : (r : ModeRules) (text : List ℕ) (cs : List CutToEnd) → 0 < r.modes → AreUncut r text r.modes cs
    → (memo_in 0 cs).unsought ≡ length (chars text)
unsought_at_first r text [] some are = absurd (none are.many)
  where
    none : 0 ≡ r.modes → ⊥
    none e = omega (arith, e, some)
unsought_at_first r text (c ∷ cs) some are = (are.each 0 c refl).2

pub spare_at_first : (r : ModeRules) (text : List ℕ) (cs : List CutToEnd) → AreUncut r text r.modes cs
    → sum_by spare_of cs ≤ r.modes * (length (chars text) + length text) + open_in_all r * (length text + 64)
spare_at_first r text cs are = omega (arith, are.spare, mul-le-mul_right (length text + 64) (sum_by-take-le open_states r.automata r.modes))

-- ---- the most actions of a rule

most_next : {K : Type 0} (f : K → List Action) (ks : List K) (n most next : ℕ) (k : K) → slice_get ks n ≡ Some k → HasAtMost most (map f (take n ks)) → most ≤ next
    → length (f k) ≤ next → HasAtMost next (map f (take (suc n) ks))
most_next f [] zero most next k is all up few i = absurd (cc)
most_next f [] (suc n) most next k is all up few i = absurd (cc)
most_next f (j ∷ ks) zero most next k is all up few zero =
    let same : j ≡ k = cc in
    omega (arith, few, ap (λ x. length (f x)) same)
most_next f (j ∷ ks) zero most next k is all up few (suc i) = omega (arith, ap length (no_actions f [] i (omega arith)))
most_next f (j ∷ ks) (suc n) most next k is all up few zero = omega (arith, all 0, up)
most_next f (j ∷ ks) (suc n) most next k is all up few (suc i) = most_next f ks n most next k is (λ m. all (suc m)) up few i

pub most_more : {K : Type 0} (f : K → List Action) (ks : List K) (n most next : ℕ) (k : K) → slice_get ks n ≡ Some k → HasAtMost most (map f (take n ks)) → most ≤ next
    → length (f k) ≤ next → HasAtMost next (map f (take (n + 1) ks))
most_more f ks n most next k is all up few =
    let behind : suc n ≡ n + 1 = omega arith in
    subst (λ (m : ℕ). HasAtMost next (map f (take m ks))) behind (most_next f ks n most next k is all up few)
