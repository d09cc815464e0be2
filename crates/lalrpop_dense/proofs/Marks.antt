-- Marks that are set, and states that are given marks.
use Rattle.std.proofs.Common.{◌≡◌, ℕ, ◌+◌, ◌*◌, ◌<◌, ◌≤◌, ◌⊎◌, ⊎_elim, inl, inr, List, [], ◌∷◌, ◌++◌, length, take, refl, sym, ap, subst, ◌∙◌, arith, Bool, true, false, get_or, length-append}
use Rattle.std.specs.Prelude.{slice_get, Option, Some, None, sum_by, count_by, if◌then◌else◌}
use Rattle.std.proofs.Math.ListN.{set, replicate}
use Rattle.std.proofs.lemmas.Bool.{cases_eq}
use Rattle.std.proofs.lemmas.List.{length-set, get_or-set_other, length-replicate, get_or-replicate, take_all}
use Rattle.std.proofs.lemmas.List.Folds.{sum_by-replicate}
use Rattle.std.proofs.lemmas.List.Sums.{sum_by-set, count_by_more_yes, count_by_more_no}
use Rattle.std.proofs.lemmas.Option.{slice_get_within, slice_get-get_or, get_or_from_slice_get, slice_get_read, slice_get_cases}
use Rattle.lalrpop_hir.proofs.Pushed.{pushed_cases, pushed_keeps, pushed_last}
use Rattle.lalrpop_dfa.specs.Dfa.{Row, StoredState, AreStored}
use Rattle.lalrpop_dfa.specs.Lookahead.{IsOpen}
use Rattle.lalrpop_dfa.specs.declared.Kind.{Kind}
use Rattle.lalrpop_dfa.specs.declared.Kind.TheVariants.{Neither}
use Rattle.lalrpop_dense.specs.Matching.{is_open_kind, open_states}
use Rattle.lalrpop_dense.specs.Internal.Memory.{Memory, BeginAt, AreApart, HasMark, IsNoted, IsFor}

-- where the marks of a state begin, as it is read
pub begins_read : (firsts : List (Option ℕ)) (state i long first : ℕ) (o : Option ℕ) → i ≡ state → long ≡ length firsts → i < long → o ≡ get_or firsts i o → o ≡ Some first → BeginAt firsts state first
begins_read firsts state i long first o same all within read is =
    subst (λ (q : ℕ). slice_get firsts q ≡ Some (Some first)) same (slice_get_read firsts long i o all within read ∙ ap (λ (x : Option ℕ). Some x) is)

-- ---- one mark is set
set_cases : (marks : List Bool) (s n : ℕ) → slice_get (set marks s true) n ≡ Some true → (n ≡ s) ⊎ (slice_get marks n ≡ Some true)
set_cases marks s n h =
    ⊎_elim (λ (a : n ≡ s). inl a)
    (λ (a : n ≡ s → ⊥).
    let within : n < length marks = omega (arith, slice_get_within (set marks s true) n true h, length-set marks s true) in
    let value : get_or marks n false ≡ true = sym (get_or-set_other marks s n true false a) ∙ get_or_from_slice_get (set marks s true) n true false h in
    inr (slice_get-get_or marks n false within ∙ ap (λ (b : Bool). Some b) value))
    (cases_eq n s)

-- no other pair is noted by it
pub noted_only : (firsts : List (Option ℕ)) (places : ℕ) (marks : List Bool) (state place a : ℕ) → AreApart firsts places marks → BeginAt firsts state a → place < places
    → (p k : ℕ) → IsNoted (record { firsts = firsts; places = places; marks = set marks (a + place) true }) p k
    → IsNoted (record { firsts = firsts; places = places; marks = marks }) p k ⊎ ((p ≡ state) × (k ≡ place))
noted_only firsts places marks state place a h begins within p k n =
    ⊎_elim
    (λ (e : n.first + k ≡ a + place).
    let same : p ≡ state = h.apart p state n.first a k place n.begins begins n.within within e in
    let first : Some (Some n.first) ≡ Some (Some a) = sym n.begins ∙ ap (slice_get firsts) same ∙ begins in
    let equal : n.first ≡ a = cc in
    inr (same, omega arith))
    (λ (e : slice_get marks (n.first + k) ≡ Some true).
    inl (record { first = n.first; begins = n.begins; within = n.within; marked = e }))
    (set_cases marks (a + place) (n.first + k) n.marked)

pub room_less : (marks : List Bool) (s : ℕ) (d : Bool) → s < length marks → get_or marks s d ≡ false
    → sum_by (λ (b : Bool). if b then 0 else 1) (set marks s true) + 1 ≡ sum_by (λ (b : Bool). if b then 0 else 1) marks
room_less marks s d within unset =
    let e = sum_by-set (λ (b : Bool). if b then 0 else 1) marks s true d within in
    let one : ℕ = 1 in
    let was : (if get_or marks s d then 0 else one) ≡ one = rw unset refl in
    omega (arith, e, was)

-- ---- states are given marks, one state after another
pub record AreLaid (d : List Row) (n : ℕ) (firsts : List (Option ℕ)) (places end : ℕ) : Type 0 where
  pub same_length : length firsts ≡ n
  pub fits : (p a : ℕ) → BeginAt firsts p a → a + places ≤ end
  pub apart : (p q a b i j : ℕ) → BeginAt firsts p a → BeginAt firsts q b → i < places → j < places → a + i ≡ b + j → p ≡ q
  pub each : (p : ℕ) → p < n → IsOpen d p → (a : ℕ) × BeginAt firsts p a
  pub count : end ≤ count_by (λ r. is_open_kind r.kind) (take n d) * places

pushed_ways : (firsts : List (Option ℕ)) (o : Option ℕ) (p a : ℕ) → BeginAt (firsts ++ o ∷ []) p a → BeginAt firsts p a ⊎ ((p ≡ length firsts) × (o ≡ Some a))
pushed_ways firsts o p a h =
    ⊎_elim (λ (x : slice_get firsts p ≡ Some (Some a)). inl x) (λ (x : (p ≡ length firsts) × (Some a ≡ o)). inr (x.0, sym x.1)) (pushed_cases firsts o p (Some a) h)

-- an open state, whose marks begin after those of the states before it
pub laid_open : (d : List Row) (n : ℕ) (firsts : List (Option ℕ)) (places end : ℕ) (r : Row) → slice_get d n ≡ Some r → is_open_kind r.kind ≡ true → AreLaid d n firsts places end
    → AreLaid d (n + 1) (firsts ++ Some end ∷ []) places (end + places)
laid_open d n firsts places end r at kind h = record {
  same_length = omega (arith, length-append firsts (Some end ∷ []), h.same_length);
  fits = λ p a b. ⊎_elim (λ (x : BeginAt firsts p a). omega (arith, h.fits p a x)) (λ (x : (p ≡ length firsts) × (Some end ≡ Some a)). (let e : end ≡ a = cc in omega arith)) (pushed_ways firsts (Some end) p a b);
  apart = λ p q a b i j x y l k e.
      ⊎_elim
      (λ (u : BeginAt firsts p a).
      ⊎_elim (λ (v : BeginAt firsts q b). h.apart p q a b i j u v l k e)
      (λ (v : (q ≡ length firsts) × (Some end ≡ Some b)). absurd (let f : end ≡ b = cc in omega (arith, h.fits p a u)))
      (pushed_ways firsts (Some end) q b y))
      (λ (u : (p ≡ length firsts) × (Some end ≡ Some a)).
      ⊎_elim (λ (v : BeginAt firsts q b). absurd (let f : end ≡ a = cc in omega (arith, h.fits q b v)))
      (λ (v : (q ≡ length firsts) × (Some end ≡ Some b)). u.0 ∙ sym v.0)
      (pushed_ways firsts (Some end) q b y))
      (pushed_ways firsts (Some end) p a x);
  each = λ p l o.
      ⊎_elim (λ (e : p ≡ n). (end, subst (λ (q : ℕ). BeginAt (firsts ++ Some end ∷ []) q end) (h.same_length ∙ sym e) (pushed_last firsts (Some end))))
      (λ (e : p ≡ n → ⊥). (let was = h.each p (omega arith) o in (was.0, pushed_keeps firsts (Some end) p (Some was.0) was.1)))
      (cases_eq p n);
  count =
      let within : n < length d = slice_get_within d n r at in
      let more = count_by_more_yes (λ (x : Row). is_open_kind x.kind) d n r within (ap (λ (x : Row). is_open_kind x.kind) (get_or_from_slice_get d n r r at) ∙ kind) in
      let sum : (count_by (λ (x : Row). is_open_kind x.kind) (take n d) + 1) * places ≡ count_by (λ (x : Row). is_open_kind x.kind) (take n d) * places + places = grind arith in
      rw more (omega (arith, h.count, sum));
}

-- another state, which has none
pub laid_other : (d : List Row) (n : ℕ) (firsts : List (Option ℕ)) (places end : ℕ) (r : Row) → slice_get d n ≡ Some r → is_open_kind r.kind ≡ false → AreLaid d n firsts places end
    → AreLaid d (n + 1) (firsts ++ None ∷ []) places end
laid_other d n firsts places end r at kind h = record {
  same_length = omega (arith, length-append firsts (None ∷ []), h.same_length);
  fits = λ p a b. h.fits p a (was p a b);
  apart = λ p q a b i j x y. h.apart p q a b i j (was p a x) (was q b y);
  each = λ p l o.
      ⊎_elim
      (λ (e : p ≡ n).
      absurd (let yes : is_open_kind r.kind ≡ true = ap is_open_kind (open_kind d n r at (subst (IsOpen d) e o)) in cc))
      (λ (e : p ≡ n → ⊥). (let was = h.each p (omega arith) o in (was.0, pushed_keeps firsts None p (Some was.0) was.1)))
      (cases_eq p n);
  count =
      let within : n < length d = slice_get_within d n r at in
      let more = count_by_more_no (λ (x : Row). is_open_kind x.kind) d n r within (ap (λ (x : Row). is_open_kind x.kind) (get_or_from_slice_get d n r r at) ∙ kind) in
      rw more h.count;
}
  where
    was : (p a : ℕ) → BeginAt (firsts ++ None ∷ []) p a → BeginAt firsts p a
    was p a b = ⊎_elim (λ (x : BeginAt firsts p a). x) (λ (x : (p ≡ length firsts) × (None ≡ Some a)). absurd (cc x.1)) (pushed_ways firsts None p a b)

    open_kind : (d : List Row) (n : ℕ) (r : Row) → slice_get d n ≡ Some r → IsOpen d n → r.kind ≡ Neither
    open_kind d n r at o = rw at at o

-- the state at a number, as it is read
pub row_read : (d : List Row) (states : List StoredState) (n : ℕ) (s : StoredState) (kind : Kind) → AreStored d states → n < length states → s ≡ get_or states n s → kind ≡ s.kind
    → (r : Row) × ((slice_get d n ≡ Some r) × (kind ≡ r.kind))
row_read d states n s kind are l is same = elim (slice_get_cases d n).1 [
  | inl x ↦ (
      let at : slice_get states n ≡ Some s = slice_get-get_or states n s l ∙ ap (λ (y : StoredState). Some y) (sym is) in
      (x.0, (x.2, same ∙ (are.each n x.0 s x.2 at).kind)))
  | inr past ↦ absurd (omega (arith, past.0, are.same_length))
]

pub laid_next : (d : List Row) (n : ℕ) (firsts firsts2 : List (Option ℕ)) (places end end2 : ℕ) (kind : Kind) (b : Bool) (at : (r : Row) × ((slice_get d n ≡ Some r) × (kind ≡ r.kind))) → b ≡ is_open_kind kind → b ≡ true
    → firsts2 ≡ firsts ++ Some end ∷ [] → end2 ≡ end + places → AreLaid d n firsts places end → AreLaid d (n + 1) firsts2 places end2
laid_next d n firsts firsts2 places end end2 kind b at told was e f h =
    rw (e, f) (laid_open d n firsts places end at.0 at.1.0 (ap is_open_kind (sym at.1.1) ∙ sym told ∙ was) h)

pub laid_pass : (d : List Row) (n : ℕ) (firsts firsts2 : List (Option ℕ)) (places end end2 : ℕ) (kind : Kind) (b : Bool) (at : (r : Row) × ((slice_get d n ≡ Some r) × (kind ≡ r.kind))) → b ≡ is_open_kind kind → b ≡ false
    → firsts2 ≡ firsts ++ None ∷ [] → end2 ≡ end → AreLaid d n firsts places end → AreLaid d (n + 1) firsts2 places end2
laid_pass d n firsts firsts2 places end end2 kind b at told was e f h =
    rw (e, f) (laid_other d n firsts places end at.0 at.1.0 (ap is_open_kind (sym at.1.1) ∙ sym told ∙ was) h)

-- all states are there
pub laid_all : (d : List Row) (n : ℕ) (firsts : List (Option ℕ)) (places end : ℕ) → length d ≤ n → AreLaid d n firsts places end → (p : ℕ) → IsOpen d p → (a : ℕ) × BeginAt firsts p a
laid_all d n firsts places end all h p o = elim (slice_get_cases d p).1 [
  | inl x ↦ h.each p (omega (arith, slice_get_within d p x.0 x.2)) o
  | inr past ↦ absurd (rw past.1 at o)
]

-- ---- nothing is noted yet
pub fresh_apart : (d : List Row) (n : ℕ) (firsts : List (Option ℕ)) (places end : ℕ) (marks : List Bool) → length marks ≡ end → AreLaid d n firsts places end → AreApart firsts places marks
fresh_apart d n firsts places end marks long h = record {
  fits = λ p a b. omega (arith, h.fits p a b, long);
  apart = h.apart;
}

pub fresh_room : (d : List Row) (n : ℕ) (firsts : List (Option ℕ)) (places end : ℕ) (marks : List Bool) → marks ≡ replicate end false → length d ≤ n → AreLaid d n firsts places end
    → sum_by (λ (b : Bool). if b then 0 else 1) marks ≤ open_states d * places
fresh_room d n firsts places end marks is all h =
    let all_unset : sum_by (λ (b : Bool). if b then 0 else 1) (replicate end false) ≡ end * 1 = sum_by-replicate (λ (b : Bool). if b then 0 else 1) end false in
    let whole : take n d ≡ d = take_all n d all in
    let most : end ≤ open_states d * places = subst (λ (rows : List Row). end ≤ open_states rows * places) whole h.count in
    rw is (omega (arith, all_unset, most))

pub none_noted : (m : Memory) (end : ℕ) → m.marks ≡ replicate end false → (p k : ℕ) → ¬ IsNoted m p k
none_noted m end is p k n =
    let marked : slice_get (replicate end false) (n.first + k) ≡ Some true = ap (λ (bs : List Bool). slice_get bs (n.first + k)) (sym is) ∙ n.marked in
    let within : n.first + k < end = omega (arith, slice_get_within (replicate end false) (n.first + k) true marked, length-replicate end false) in
    let value : get_or (replicate end false) (n.first + k) false ≡ false = get_or-replicate end (n.first + k) false false within in
    let read : get_or (replicate end false) (n.first + k) false ≡ true = get_or_from_slice_get (replicate end false) (n.first + k) true false marked in
    cc (value, read)

-- ---- all but the marks stays the same
pub same_twice : (m m1 m2 : Memory) → m1 ≡ record m { marks = m1.marks } → m2 ≡ record m1 { marks = m2.marks } → m2 ≡ record m { marks = m2.marks }
same_twice m m1 m2 e f = f ∙ ap (λ (x : Memory). record x { marks = m2.marks }) e

pub has_mark : (d : List Row) (m0 m : Memory) (state k : ℕ) → m ≡ record m0 { marks = m.marks } → IsFor d m0 → IsOpen d state → k < m0.places → HasMark m state k
has_mark d m0 m state k e fits o within =
    let begins = fits state o in
    record {
      first = begins.0;
      begins = subst (λ (fs : List (Option ℕ)). BeginAt fs state begins.0) (sym (ap (λ (x : Memory). x.firsts) e)) begins.1;
      within = subst (λ (n : ℕ). k < n) (sym (ap (λ (x : Memory). x.places) e)) within;
    }
