-- Small laws: options, tests and characters.
use Rattle.std.proofs.Common.{◌≡◌, ℕ, Bool, true, false, cond, not, ◌||◌, ◌==◌, ◌⊎◌, inl, inr, [], ◌∷◌, ◌++◌, length, drop, Option, Some, None, refl, ap, ◌∙◌, nat_eq}
use Rattle.std.specs.List.{starts_with, list_all}
use Rattle.std.proofs.lemmas.Bool.{eqb-true, and_parts}
use Rattle.lalrpop_re.specs.Text.{Text}
use Rattle.lalrpop_re.specs.Internal.Reading.{◌>>=◌, span}

pub bind_some : {A B : Type 0} (o : Option A) (f : A → Option B) (y : B) → (o >>= f) ≡ Some y → (x : A) × (o ≡ Some x) × (f x ≡ Some y)
bind_some (Some x) f y e = (x, refl, e)
bind_some None f y e = absurd cc

pub bind_same : {A B : Type 0} (o : Option A) (f g : A → Option B) → ((x : A) → o ≡ Some x → f x ≡ g x) → (o >>= f) ≡ (o >>= g)
bind_same (Some x) f g h = h x refl
bind_same None f g h = refl

pub some_is : {A : Type 0} (x y : A) → Some x ≡ Some y → x ≡ y
some_is x y e = cc

pub chosen : {A : Type 0} (b : Bool) (x y z : A) → cond b x y ≡ z → ((b ≡ true) × (x ≡ z)) ⊎ ((b ≡ false) × (y ≡ z))
chosen true x y z e = inl (refl, e)
chosen false x y z e = inr (refl, e)

-- where the other choice is None
pub guarded : {A : Type 0} (b : Bool) (x : Option A) (z : A) → cond b x None ≡ Some z → (b ≡ true) × (x ≡ Some z)
guarded true x z e = (refl, e)
guarded false x z e = absurd cc

pub decided : (b : Bool) → (b ≡ true) ⊎ (b ≡ false)
decided true = inl refl
decided false = inr refl

pub not_true : (b : Bool) → not b ≡ false → b ≡ true
not_true true e = refl
not_true false e = absurd cc

pub not_false : (b : Bool) → not b ≡ true → b ≡ false
not_false true e = absurd cc
not_false false e = refl

pub or_cases : (x y : Bool) → (x || y) ≡ true → (x ≡ true) ⊎ (y ≡ true)
or_cases true y h = inl refl
or_cases false y h = inr h

pub or_none : (x y : Bool) → x ≡ false → y ≡ false → (x || y) ≡ false
or_none x y h k = rw (h, k) refl

pub or_parts : (x y : Bool) → (x || y) ≡ false → (x ≡ false) × (y ≡ false)
or_parts true y h = absurd cc
or_parts false y h = (refl, h)

-- the only character of a word of one, and of two
pub is_one : (k c : ℕ) → ((k == c) || false) ≡ true → k ≡ c
is_one k c h = elim (or_cases (k == c) false h) [ inl e ↦ eqb-true k c e | inr e ↦ absurd cc ]

-- the text begins with the word
pub starts_is : (w t : Text) → starts_with nat_eq t w ≡ true → w ++ drop (length w) t ≡ t
starts_is [] t h = refl
starts_is (c ∷ w) [] h = absurd cc
starts_is (c ∷ w) (d ∷ t) h =
    let both = and_parts (nat_eq c d) _ h in
    let first : c ≡ d = eqb-true c d both.0 in
    let others : w ++ drop (length w) t ≡ t = starts_is w t both.1 in
    ap (λ (u : Text). c ∷ u) others ∙ ap (λ b. b ∷ t) first

-- ---- spans

pub span_joins : (test : ℕ → Bool) (t : Text) → (span test t).0 ++ (span test t).1 ≡ t
span_joins test [] = refl
span_joins test (c ∷ t) = elim (decided (test c)) [
  | inl h ↦ rw h (ap (λ (u : Text). c ∷ u) (span_joins test t))
  | inr h ↦ rw h refl
]

pub span_passes : (test : ℕ → Bool) (t : Text) → list_all test (span test t).0 ≡ true
span_passes test [] = refl
span_passes test (c ∷ t) = elim (decided (test c)) [
  | inl h ↦ rw (h, h) (span_passes test t)
  | inr h ↦ rw h refl
]

-- the text begins with a character that fails the test, or it is empty
abbrev pub stops : (ℕ → Bool) → Text → Bool
stops test [] = true
stops test (c ∷ t) = not (test c)

pub span_is : (test : ℕ → Bool) (w r : Text) → list_all test w ≡ true → stops test r ≡ true → span test (w ++ r) ≡ (w, r)
span_is test [] [] h k = refl
span_is test [] (c ∷ r) h k = rw (not_false (test c) k) refl
span_is test (c ∷ w) r h k =
    let both = and_parts (test c) _ h in
    let others : span test (w ++ r) ≡ (w, r) = span_is test w r both.1 k in
    rw (both.0, others) refl
