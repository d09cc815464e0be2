-- One more character that is told apart from the others.
use Rattle.std.proofs.Common.{◌≡◌, ℕ, ◌<◌, ◌≤◌, ◌+◌, ◌-◌, ◌*◌, ◌^◌, ◌∙◌, replicate, inl, inr, List, [], ◌∷◌, ◌++◌, length, map, get_or, refl, sym, ap, subst, arith, true, false, eqb, ne_eqb, eqb-true}
use Rattle.std.specs.List.{list_any}
use Rattle.std.proofs.Math.Nat.{mul-le-mul_left}
use Rattle.std.proofs.lemmas.Bool.{cases_lt}
use Rattle.std.proofs.lemmas.Map.Steps.{length-le_from_distinct_below}
use Rattle.std.proofs.lemmas.Map.Keys.{IsDistinct-from_apart}
use Rattle.std.proofs.lemmas.Map.Views.{Contains-from_any}
use Rattle.std.proofs.lemmas.List.{get_or-map, length-map, get_or_append_left, get_or-append_right, get_or-replicate, length-append, length-replicate}
use Rattle.std.proofs.lemmas.List.Elements.{All-nil, All-push}
use Rattle.lalrpop_dfa.specs.Dfa.{Row, step}
use Rattle.lalrpop_dense.specs.DenseTable.{AreAlikeInClasses, IsTableFor, TableNumbers, character_class}
use Rattle.lalrpop_emit.specs.EmitErrors.{AreToldApart, IsTooLarge, TellsApart}
use Rattle.lalrpop_emit.specs.Internal.Classes.{AreAlike, AreClassesOf}
use Rattle.lalrpop_emit.specs.declared.classes.CharacterClasses.{CharacterClasses}
use Rattle.lalrpop_emit.proofs.Walks.{class_below}

at_left : (cs : List ℕ) (v k : ℕ) → k < length cs → get_or (cs ++ v ∷ []) k 0 ≡ get_or cs k 0
at_left cs v k l = get_or_append_left cs (v ∷ []) 0 k l

at_end : (cs : List ℕ) (v k : ℕ) → k ≡ length cs → get_or (cs ++ v ∷ []) k 0 ≡ v
at_end cs v k e = let none : k - length cs ≡ 0 = omega (arith, e) in get_or-append_right cs (v ∷ []) (length cs) k 0 refl (omega (arith, e)) ∙ ap (λ (n : ℕ). get_or (v ∷ []) n 0) none

pub one_more : (d : List Row) (cs : List ℕ) (v : ℕ) → AreToldApart d cs → v < 1114112 → ((k : ℕ) → k < length cs → TellsApart d (get_or cs k 0) v) → AreToldApart d (cs ++ v ∷ [])
one_more d cs v h l new = record {
  characters = All-push (λ c. c < 1114112) cs v h.characters l;
  apart = λ i j less within.
      let size = length-append cs (v ∷ []) in
      let first : get_or (cs ++ v ∷ []) i 0 ≡ get_or cs i 0 = at_left cs v i (omega (arith, size)) in
      subst (λ (n : ℕ). TellsApart d n (get_or (cs ++ v ∷ []) j 0)) (sym first) (elim (cases_lt j (length cs)) [
        | inl small ↦ subst (TellsApart d (get_or cs i 0)) (sym (at_left cs v j small)) (h.apart i j less small)
        | inr past ↦ subst (TellsApart d (get_or cs i 0)) (sym (at_end cs v j (omega (arith, size)))) (new i (omega (arith, size)))
      ]);
}

-- the characters below the value have classes
pub record AreClassed (d : List Row) (firsts classes : List ℕ) (value : ℕ) : Type 0 where
  pub all : length classes ≡ value
  pub within : (v : ℕ) → v < value → get_or classes v 0 < length firsts
  pub alike : (v : ℕ) → v < value → AreAlike d v (get_or firsts (get_or classes v 0) 0)

-- the first characters stay
abbrev pub Stay : List ℕ → List ℕ → Type 0
Stay firsts new = (k : ℕ) → k < length firsts → (k < length new) × (get_or new k 0 ≡ get_or firsts k 0)

module _ (d : List Row) (firsts new classes more : List ℕ) (value end class : ℕ) (h : AreClassed d firsts classes value) (stay : Stay firsts new) (further : value < end)
    (is : more ≡ classes ++ replicate (end - value) class) (there : class < length new) (first : AreAlike d value (get_or new class 0))
    (like : (c : ℕ) → value ≤ c → c < end → AreAlike d c value) where
  old_class : (v : ℕ) → v < value → get_or more v 0 ≡ get_or classes v 0
  old_class v l = ap (λ (xs : List ℕ). get_or xs v 0) is ∙ get_or_append_left classes (replicate (end - value) class) 0 v (omega (arith, l, h.all))

  new_class : (v : ℕ) → value ≤ v → v < end → get_or more v 0 ≡ class
  new_class v l k =
      ap (λ (xs : List ℕ). get_or xs v 0) is ∙ get_or-append_right classes (replicate (end - value) class) value v 0 h.all l ∙ get_or-replicate {A = ℕ} (end - value) (v - value) class 0 (omega (arith, l, k))

  pub classed_more : AreClassed d new more end
  classed_more = record {
    all = omega (arith, ap length is, length-append classes (replicate (end - value) class), length-replicate {A = ℕ} (end - value) class, h.all, further);
    within = λ v l. elim (cases_lt v value) [
      | inl small ↦ omega (arith, old_class v small, (stay (get_or classes v 0) (h.within v small)).0)
      | inr past ↦ omega (arith, new_class v past l, there)
    ];
    alike = λ v l. elim (cases_lt v value) [
      | inl small ↦
          subst (λ (n : ℕ). AreAlike d v (get_or new n 0)) (sym (old_class v small))
          (subst (AreAlike d v) (sym (stay (get_or classes v 0) (h.within v small)).1) (h.alike v small))
      | inr past ↦ subst (λ (n : ℕ). AreAlike d v (get_or new n 0)) (sym (new_class v past l)) (λ p within. like v past l p within ∙ first p within)
    ];
  }

-- no character is told apart from another where there is none
pub none_apart : (d : List Row) → AreToldApart d []
none_apart d = record { characters = All-nil (λ c. c < 1114112); apart = λ i j less within. absurd (omega (arith, within)) }

-- characters that are told apart are in different classes, so there are no more of them than classes
module _ (d : List Row) (class_of : ℕ → ℕ) (count : ℕ) (below : (c : ℕ) → c < 1114112 → class_of c < count)
    (alike : (c e : ℕ) → c < 1114112 → e < 1114112 → class_of c ≡ class_of e → AreAlike d c e) (cs : List ℕ) (told : AreToldApart d cs) where
  at : (i e : ℕ) → i < length cs → get_or (map class_of cs) i e ≡ class_of (get_or cs i 0)
  at i e l = get_or-map class_of cs i 0 e l

  apart : (i j e : ℕ) → i < j → j < length (map class_of cs) → eqb (get_or (map class_of cs) i e) (get_or (map class_of cs) j e) ≡ false
  apart i j e less l =
      let long = length-map cs class_of in
      let il : i < length cs = omega (arith, less, l, long) in
      let jl : j < length cs = omega (arith, l, long) in
      ne_eqb (get_or (map class_of cs) i e) (get_or (map class_of cs) j e) (λ same.
      let two = told.apart i j less jl in
      two.apart (alike (get_or cs i 0) (get_or cs j 0) (told.characters i 0 il) (told.characters j 0 jl) (sym (at i e il) ∙ same ∙ at j e jl) two.state two.there))

  within : (q : ℕ) → list_any (eqb q) (map class_of cs) ≡ true → q < count
  within q any =
      let (i, l, e) = Contains-from_any {eq = eqb} eqb-true q (map class_of cs) any in
      let il : i < length cs = omega (arith, l, length-map cs class_of) in
      rw (← e, at i q il) (below (get_or cs i 0) (told.characters i 0 il))

  no_more : length cs ≤ count
  no_more = omega (arith, length-map cs class_of, length-le_from_distinct_below (map class_of cs) count (IsDistinct-from_apart eqb (map class_of cs) apart) within)

small_by : (d : List Row) (count : ℕ) → ((cs : List ℕ) → AreToldApart d cs → length cs ≤ count) → count ≤ 255 → length d * (count + 131) ≤ 2 ^ 27
    → ¬ IsTooLarge d
small_by d count most few room large =
    let less = most large.told_apart large.are in
    let narrow : length large.told_apart + 131 ≤ count + 131 = omega (arith, less) in
    elim large.many [
      | inl many ↦ omega (arith, many, less, few)
      | inr many ↦ omega (arith, many, room, mul-le-mul_left (length d) narrow)
    ]

-- an automaton with few classes isn't too large
pub small_by_classes : (d : List Row) (c : CharacterClasses) → AreClassesOf d c → length d * (length c.firsts.items + 131) ≤ 2 ^ 27
    → ¬ IsTooLarge d
small_by_classes d c h =
    let class_of : ℕ → ℕ = λ v. get_or c.classes.items v 0 in
    let first : ℕ → ℕ = λ class. get_or c.firsts.items class 0 in
    small_by d (length c.firsts.items)
    (no_more d class_of (length c.firsts.items) h.within (λ v u vl ul same state l.
    h.alike v vl state l ∙ ap (λ (class : ℕ). step d state (first class)) same ∙ sym (h.alike u ul state l))) h.few

-- nor is one with a table of few classes
pub small_by_table : (d : List Row) (t : TableNumbers) → IsTableFor t d → AreAlikeInClasses t d → t.width ≤ 255 → length d * (t.width + 131) ≤ 2 ^ 27
    → ¬ IsTooLarge d
small_by_table d t right alike =
    small_by d t.width (no_more d (character_class t) t.width (λ c l. class_below t c right.classes) (λ c e cl el same state l. alike c e state cl el same l))
