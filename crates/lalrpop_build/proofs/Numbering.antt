-- Groups are given classes, and signatures numbers.
use Rattle.std.proofs.Common.{◌≡◌, ℕ, suc, ◌+◌, ◌<◌, ◌⊎◌, inl, inr, List, [], ◌∷◌, ◌++◌, length, slice_set, get_or, take, refl, ap, sym, ◌∙◌, subst, arith}
use Rattle.std.specs.Prelude.{slice_get, Some, None, ◌↔◌}
use Rattle.std.specs.Map.{lookup}
use Rattle.std.specs.List.{Contains}
use Rattle.std.specs.BTreeMap.{BTreeMap, get, Updates}
use Rattle.std.specs.Cmp.{Equal-is}
use Rattle.std.specs.Ordering.{is_eq}
use Rattle.std.proofs.lemmas.Bool.{cases_lt, cases_Bool}
use Rattle.std.proofs.lemmas.Option.{get_or_from_slice_get, slice_get-get_or}
use Rattle.std.proofs.lemmas.List.Elements.{Contains-append_left, Contains-append_right, Contains-append_cases}
use Rattle.lalrpop_hir.proofs.Pushed.{pushed_cases}
use Rattle.lalrpop_hir.proofs.Contained.{contains_none}
use Rattle.lalrpop_hir.proofs.Orders.{nat_exact, lists_exact}
use Rattle.lalrpop_build.specs.declared.alphabet.Cell.{Cell}
use Rattle.lalrpop_build.specs.declared.alphabet.Group.{Group}
use Rattle.lalrpop_build.specs.declared.alphabet.signatures.Signature.{Signature}
use Rattle.lalrpop_build.specs.Internal.Alphabet.{HasClass, HasBoundary}
use Rattle.lalrpop_build.specs.Internal.Signatures.{HaveNoClasses}
use Rattle.lalrpop_build.specs.Internal.Numbered.{signature_cmp, GotClasses, IsClassOf, AreNumbered, IsNumbered, AreClassed}
use Rattle.lalrpop_build.proofs.Marking.{set_at, set_there, set_elsewhere, set_length, one_has, taken_more}

-- ---- a class is given to groups
pub got_none : (groups : List Group) (numbers : List ℕ) (class : ℕ) → GotClasses groups groups (λ n c. Contains (take 0 numbers) n × (c ≡ class))
got_none groups numbers class = record {
  same_length = refl;
  boundaries = λ n k. (λ h. h, λ h. h);
  classes = λ n c. (λ h. inl h, λ h. elim h [ inl x ↦ x | inr x ↦ absurd (contains_none n x.0) ]);
}

-- one group gets it
module _ (groups : List Group) (i class : ℕ) (now new : Group) (within : i < length groups) (at : slice_get groups i ≡ Some now) (boundaries : new.boundaries ≡ now.boundaries) (classes : new.classes.items ≡ now.classes.items ++ class ∷ []) where
  group_boundaries : (n k : ℕ) → HasBoundary (slice_set groups i new) n k ↔ HasBoundary groups n k
  group_boundaries n k = (
    λ (x, (here, has)). elim (set_at groups i new n x within here) [
      | inl e ↦ (now, (rw e.0 at, subst (λ ys. Contains ys.items k) boundaries (subst (λ (y : Group). Contains y.boundaries.items k) e.1 has)))
      | inr e ↦ (x, (e.1, has))
    ],
    λ (x, (here, has)). elim (cases_lt n i) [
      | inl l ↦ (x, (set_elsewhere groups i new n x (λ e. omega (arith, l, e)) here, has))
      | inr l ↦ elim (cases_lt i n) [
        | inl m ↦ (x, (set_elsewhere groups i new n x (λ e. omega (arith, m, e)) here, has))
        | inr m ↦
            (let e : n ≡ i = omega (arith, l, m) in
            let same : x ≡ now = (let both : slice_get groups i ≡ Some x = rw (← e) here in cc) in
            (new, (rw e (set_there groups i new within), subst (λ ys. Contains ys.items k) (sym boundaries) (subst (λ (y : Group). Contains y.boundaries.items k) same has))))
      ]
    ],
  )

  group_classes : (n c : ℕ) → HasClass (slice_set groups i new) n c ↔ (HasClass groups n c ⊎ ((n ≡ i) × (c ≡ class)))
  group_classes n c = (to, from)
    where
      to : HasClass (slice_set groups i new) n c → HasClass groups n c ⊎ ((n ≡ i) × (c ≡ class))
      to (x, (here, has)) = elim (set_at groups i new n x within here) [
        | inl e ↦ elim (Contains-append_cases now.classes.items (class ∷ []) c (subst (λ ys. Contains ys c) classes (subst (λ (y : Group). Contains y.classes.items c) e.1 has))) [
          | inl a ↦ inl (now, (rw e.0 at, a))
          | inr b ↦ inr (e.0, one_has class c b)
        ]
        | inr e ↦ inl (x, (e.1, has))
      ]

      here_has : n ≡ i → Contains now.classes.items c ⊎ (c ≡ class) → HasClass (slice_set groups i new) n c
      here_has e (inl a) = (new, (rw e (set_there groups i new within), subst (λ ys. Contains ys c) (sym classes) (Contains-append_left now.classes.items (class ∷ []) c a)))
      here_has e (inr b) = (new, (rw e (set_there groups i new within), subst (λ ys. Contains ys c) (sym classes) (Contains-append_right now.classes.items (class ∷ []) c (rw b (0, omega arith, refl)))))

      from : HasClass groups n c ⊎ ((n ≡ i) × (c ≡ class)) → HasClass (slice_set groups i new) n c
      from (inl (x, (here, has))) = elim (cases_lt n i) [
        | inl l ↦ (x, (set_elsewhere groups i new n x (λ e. omega (arith, l, e)) here, has))
        | inr l ↦ elim (cases_lt i n) [
          | inl m ↦ (x, (set_elsewhere groups i new n x (λ e. omega (arith, m, e)) here, has))
          | inr m ↦
              (let e : n ≡ i = omega (arith, l, m) in
              let same : x ≡ now = (let both : slice_get groups i ≡ Some x = rw (← e) here in cc) in
              here_has e (inl (subst (λ (y : Group). Contains y.classes.items c) same has)))
        ]
      ]
      from (inr (e, b)) = here_has e (inr b)

pub got_more : (old cur : List Group) (numbers : List ℕ) (j i class : ℕ) (now new : Group) → GotClasses old cur (λ n c. Contains (take j numbers) n × (c ≡ class)) → j < length numbers → i ≡ get_or numbers j 0 → i < length cur → slice_get cur i ≡ Some now
    → new.boundaries ≡ now.boundaries → new.classes.items ≡ now.classes.items ++ class ∷ [] → GotClasses old (slice_set cur i new) (λ n c. Contains (take (j + 1) numbers) n × (c ≡ class))
got_more old cur numbers j i class now new got l is within at boundaries classes = record {
  same_length = set_length cur i new ∙ got.same_length;
  boundaries = λ n k. (let a = group_boundaries cur i class now new within at boundaries classes n k in let b = got.boundaries n k in (λ h. b.0 (a.0 h), λ h. a.1 (b.1 h)));
  classes = λ n c.
      let a = group_classes cur i class now new within at boundaries classes n c in
      let b = got.classes n c in
      let same : get_or numbers j i ≡ get_or numbers j 0 = get_or_from_slice_get numbers j (get_or numbers j 0) i (slice_get-get_or numbers j 0 l) in
      let t = taken_more numbers j i n l (is ∙ sym same) in (
        λ h. elim (a.0 h) [ inl x ↦ elim (b.0 x) [ inl y ↦ inl y | inr y ↦ inr (t.1 (inl y.0), y.1) ] | inr x ↦ inr (t.1 (inr x.0), x.1) ],
        λ h. a.1 (elim h [ inl x ↦ inl (b.1 (inl x)) | inr x ↦ elim (t.0 x.0) [ inl y ↦ inl (b.1 (inr (y, x.1))) | inr y ↦ inr (y, x.1) ] ]),
      );
}

-- ---- numbers of signatures
module _ (groups groups2 : List Group) (count : ℕ) (s : Signature) (known known2 : BTreeMap Signature ℕ) (got : GotClasses groups groups2 (λ n c. Contains s.lists.items n × (c ≡ count))) (numbered : AreNumbered known groups count) where
  kept_class : (n d : ℕ) → d < count → HasClass groups2 n d ↔ HasClass groups n d
  kept_class n d l = (λ h. elim ((got.classes n d).0 h) [ inl x ↦ x | inr x ↦ absurd (omega (arith, l, x.1)) ], λ h. (got.classes n d).1 (inl h))

  new_class : IsClassOf groups2 s count
  new_class n = (
    λ h. elim ((got.classes n count).0 h) [ inl x ↦ absurd (let l = numbered.counted n count x in omega (arith, l)) | inr x ↦ x.0 ],
    λ h. (got.classes n count).1 (inr (h, refl)),
  )

  pub numbered_more : Updates signature_cmp known known2 s (Some count) → AreNumbered known2 groups2 (count + 1)
  numbered_more u = record {
    counted = λ n c h. elim ((got.classes n c).0 h) [ inl x ↦ (let l = numbered.counted n c x in omega (arith, l)) | inr x ↦ omega (arith, x.1) ];
    classes = λ t c h. elim (cases_Bool (is_eq (signature_cmp s t))) [
      | inl same ↦
          (let e : s.lists.items ≡ t.lists.items = lists_exact nat_exact s.lists.items t.lists.items ((Equal-is (signature_cmp s t)).0 same) in
          let found : Some count ≡ Some c = sym (u.0 t ∙ rw same refl) ∙ h in
          let number : c ≡ count = cc in
          (omega (arith, number), rw number (λ n. (λ x. subst (λ xs. Contains xs n) e ((new_class n).0 x), λ x. (new_class n).1 (subst (λ xs. Contains xs n) (sym e) x)))))
      | inr apart ↦
          (let old = numbered.classes t c (sym (u.0 t ∙ rw apart refl) ∙ h) in
          (omega (arith, old.0), λ n. (let k = kept_class n c old.0 in let o = old.1 n in (λ x. o.0 (k.0 x), λ x. k.1 (o.1 x)))))
    ];
  }

  pub number_new : IsNumbered groups groups2 count (count + 1) s count
  number_new = record {
    same_length = got.same_length;
    boundaries = got.boundaries;
    kept = kept_class;
    more = (omega arith, omega arith);
    within = omega arith;
    class = new_class;
  }

pub number_known : (groups : List Group) (count : ℕ) (s : Signature) (known : BTreeMap Signature ℕ) (c : ℕ) → AreNumbered known groups count → get signature_cmp known s ≡ Some c → IsNumbered groups groups count count s c
number_known groups count s known c numbered found = record {
  same_length = refl;
  boundaries = λ n k. (λ h. h, λ h. h);
  kept = λ n d l. (λ h. h, λ h. h);
  more = (omega arith, omega arith);
  within = (numbered.classes s c found).0;
  class = (numbered.classes s c found).1;
}

-- ---- cell by cell
pub classed_more : (boundaries : List ℕ) (signatures : List Signature) (cells : List Cell) (groups groups2 : List Group) (count count2 : ℕ) (s : Signature) (c : ℕ) (cell : Cell) → AreClassed boundaries signatures cells groups count → IsNumbered groups groups2 count count2 s c
    → slice_get signatures (length cells) ≡ Some s → slice_get boundaries (length cells) ≡ Some cell.first → cell.class ≡ c → AreClassed boundaries signatures (cells ++ cell ∷ []) groups2 count2
classed_more boundaries signatures cells groups groups2 count count2 s c cell classed numbered here first is = record {
  firsts = λ k x at. elim (pushed_cases cells cell k x at) [ inl was ↦ classed.firsts k x was | inr new ↦ rw (new.0, new.1) first ];
  classes = λ k x t at sig. elim (pushed_cases cells cell k x at) [
    | inl was ↦
        (let old = classed.classes k x t was sig in
        (omega (arith, old.0, numbered.more), λ n. (let a = numbered.kept n x.class old.0 in let b = old.1 n in (λ h. b.0 (a.0 h), λ h. a.1 (b.1 h)))))
    | inr new ↦
        (let same : t ≡ s = (let both : slice_get signatures (length cells) ≡ Some t = rw (← new.0) sig in cc) in
        let class : x.class ≡ c = ap (λ (y : Cell). y.class) new.1 ∙ is in
        rw (same, class) (numbered.within, numbered.class))
  ];
}

pub classed_none : (boundaries : List ℕ) (signatures : List Signature) (groups : List Group) → AreClassed boundaries signatures [] groups 0
classed_none boundaries signatures groups = record {
  firsts = λ k x at. cc;
  classes = λ k x s at sig. cc;
}

pub numbered_none : (known : BTreeMap Signature ℕ) (groups : List Group) → known.entries ≡ [] → HaveNoClasses groups → AreNumbered known groups 0
numbered_none known groups empty no_classes = record {
  counted = λ n c h. absurd (no_classes n c h);
  classes = λ s c h. (let none : get signature_cmp known s ≡ None = ap (λ es. lookup (λ k. is_eq (signature_cmp s k)) es) empty in let never : Some c ≡ None = sym h ∙ none in cc);
}

pub rest_here : (signatures rest rest2 : List Signature) (place : ℕ) (s : Signature) → ((k : ℕ) (t : Signature) → slice_get rest k ≡ Some t → slice_get signatures (place + k) ≡ Some t) → rest ≡ s ∷ rest2 → slice_get signatures place ≡ Some s
rest_here signatures rest rest2 place s there is = let e : place + 0 ≡ place = omega arith in subst (λ k. slice_get signatures k ≡ Some s) e (there 0 s (rw is refl))

pub rest_on : (signatures rest rest2 : List Signature) (place place2 : ℕ) (s : Signature) → ((k : ℕ) (t : Signature) → slice_get rest k ≡ Some t → slice_get signatures (place + k) ≡ Some t) → rest ≡ s ∷ rest2 → place2 ≡ place + 1
    → (k : ℕ) (t : Signature) → slice_get rest2 k ≡ Some t → slice_get signatures (place2 + k) ≡ Some t
rest_on signatures rest rest2 place place2 s there is next k t at = let e : place + suc k ≡ place2 + k = omega (arith, next) in subst (λ j. slice_get signatures j ≡ Some t) e (there (suc k) t (rw is at))
