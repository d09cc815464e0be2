-- What begins or ends wherever a number stands in a list: in a list that is joined of others, and in one that lacks it.
use Rattle.std.proofs.Common.{◌≡◌, ℕ, ◌⊎◌, inl, inr, List, [], ◌∷◌, ◌++◌, refl, sym, ap, subst, ◌∙◌, append_assoc, flat_map}
use Rattle.std.proofs.lemmas.List.{append-nil}
use Rattle.bajofeki.specs.Places.{EachBegins, EachEnds}
use Rattle.bajofeki.proofs.Characters.{Lacks}

pub lacks_append : (c : ℕ) (xs ys : List ℕ) → Lacks c xs → Lacks c ys → Lacks c (xs ++ ys)
lacks_append c [] ys one two = two
lacks_append c (x ∷ xs) ys one two = (one.0, lacks_append c xs ys one.1 two)

pub lacks_flat_map : {A : Type 0} (c : ℕ) (f : A → List ℕ) → ((x : A) → Lacks c (f x)) → (xs : List A) → Lacks c (flat_map f xs)
lacks_flat_map c f each [] = tt
lacks_flat_map c f each (x ∷ xs) = lacks_append c (f x) (flat_map f xs) (each x) (lacks_flat_map c f each xs)

stands_nowhere : (c : ℕ) (front rest : List ℕ) → Lacks c (front ++ c ∷ rest) → ⊥
stands_nowhere c [] rest lacks = lacks.0 refl
stands_nowhere c (x ∷ front) rest lacks = stands_nowhere c front rest lacks.1

-- a number that stands in a joined list stands in one of the two
abbrev InFirst : List ℕ → List ℕ → List ℕ → ℕ → List ℕ → Type 0
InFirst xs ys front c rest = (more : List ℕ) × ((xs ≡ front ++ c ∷ more) × (rest ≡ more ++ ys))

abbrev InSecond : List ℕ → List ℕ → List ℕ → ℕ → List ℕ → Type 0
InSecond xs ys front c rest = (more : List ℕ) × ((front ≡ xs ++ more) × (ys ≡ more ++ c ∷ rest))

in_either : (xs ys front : List ℕ) (c : ℕ) (rest : List ℕ) → xs ++ ys ≡ front ++ c ∷ rest → InFirst xs ys front c rest ⊎ InSecond xs ys front c rest
in_either [] ys front c rest e = inr (front, (refl, e))
in_either (x ∷ xs) ys [] c rest e =
    let head : x ≡ c = cc in
    let tail : xs ++ ys ≡ rest = cc in
    inl (xs, (ap (λ (h : ℕ). h ∷ xs) head, sym tail))
in_either (x ∷ xs) ys (y ∷ front) c rest e =
    let head : x ≡ y = cc in
    let tail : xs ++ ys ≡ front ++ c ∷ rest = cc in
    by head (in_either xs ys front c rest tail)
  where
    by : x ≡ y → InFirst xs ys front c rest ⊎ InSecond xs ys front c rest → InFirst (x ∷ xs) ys (y ∷ front) c rest ⊎ InSecond (x ∷ xs) ys (y ∷ front) c rest
    by head (inl (more, (here, after))) = inl (more, (cc, after))
    by head (inr (more, (before, here))) = inr (more, (cc, here))

-- ---- what begins

pub begins_append : (c : ℕ) (P : List ℕ → Type 0) (xs ys : List ℕ) → EachBegins c P xs → EachBegins c P ys → EachBegins c P (xs ++ ys)
begins_append c P xs ys one two front rest e = by (in_either xs ys front c rest e)
  where
    by : InFirst xs ys front c rest ⊎ InSecond xs ys front c rest → (part : List ℕ) × ((behind : List ℕ) × ((c ∷ rest ≡ part ++ behind) × P part))
    by (inl (more, (here, after))) =
        let found = one front more here in
        (found.0, (found.1.0 ++ ys, (ap (λ (r : List ℕ). c ∷ r) after ∙ ap (λ (r : List ℕ). r ++ ys) found.1.1.0 ∙ append_assoc found.0 found.1.0 ys, found.1.1.1)))
    by (inr (more, (before, here))) = two more rest here

pub begins_nowhere : (c : ℕ) (P : List ℕ → Type 0) (xs : List ℕ) → Lacks c xs → EachBegins c P xs
begins_nowhere c P xs lacks front rest e = absurd (stands_nowhere c front rest (subst (Lacks c) e lacks))

-- it stands at most at the front
pub begins_whole : (c x : ℕ) (P : List ℕ → Type 0) (xs : List ℕ) → P (x ∷ xs) → Lacks c xs → EachBegins c P (x ∷ xs)
begins_whole c x P xs is lacks [] rest e = (x ∷ xs, ([], (sym e ∙ sym (append-nil (x ∷ xs)), is)))
begins_whole c x P xs is lacks (y ∷ front) rest e =
    let tail : xs ≡ front ++ c ∷ rest = cc in
    absurd (stands_nowhere c front rest (subst (Lacks c) tail lacks))

-- ---- what ends

pub ends_append : (c : ℕ) (P : List ℕ → Type 0) (xs ys : List ℕ) → EachEnds c P xs → EachEnds c P ys → EachEnds c P (xs ++ ys)
ends_append c P xs ys one two front rest e = by (in_either xs ys front c rest e)
  where
    by : InFirst xs ys front c rest ⊎ InSecond xs ys front c rest → (before : List ℕ) × ((part : List ℕ) × ((front ++ c ∷ [] ≡ before ++ part) × P part))
    by (inl (more, (here, after))) = one front more here
    by (inr (more, (before, here))) =
        let found = two more rest here in
        (xs ++ found.0, (found.1.0, (ap (λ (l : List ℕ). l ++ c ∷ []) before ∙ append_assoc xs more (c ∷ []) ∙ ap (λ (l : List ℕ). xs ++ l) found.1.1.0 ∙ sym (append_assoc xs found.0 found.1.0), found.1.1.1)))

pub ends_nowhere : (c : ℕ) (P : List ℕ → Type 0) (xs : List ℕ) → Lacks c xs → EachEnds c P xs
ends_nowhere c P xs lacks front rest e = absurd (stands_nowhere c front rest (subst (Lacks c) e lacks))

never_empty : (xs ys : List ℕ) (c : ℕ) → [] ≡ xs ++ c ∷ ys → ⊥
never_empty [] ys c none = cc
never_empty (x ∷ xs) ys c none = cc

-- it stands at the end alone
pub ends_whole : (c : ℕ) (P : List ℕ → Type 0) (xs : List ℕ) → P (xs ++ c ∷ []) → Lacks c xs → EachEnds c P (xs ++ c ∷ [])
ends_whole c P xs is lacks front rest e = by (in_either xs (c ∷ []) front c rest e)
  where
    last : (more : List ℕ) → front ≡ xs ++ more → c ∷ [] ≡ more ++ c ∷ rest → (before : List ℕ) × ((part : List ℕ) × ((front ++ c ∷ [] ≡ before ++ part) × P part))
    last [] before here = ([], (xs ++ c ∷ [], (ap (λ (l : List ℕ). l ++ c ∷ []) (before ∙ append-nil xs), is)))
    last (y ∷ more) before here = let none : [] ≡ more ++ c ∷ rest = cc in absurd (never_empty more rest c none)

    by : InFirst xs (c ∷ []) front c rest ⊎ InSecond xs (c ∷ []) front c rest → (before : List ℕ) × ((part : List ℕ) × ((front ++ c ∷ [] ≡ before ++ part) × P part))
    by (inl (more, (here, after))) = absurd (stands_nowhere c front more (subst (Lacks c) here lacks))
    by (inr (more, (before, here))) = last more before here

-- ---- parts, one after another

pub of_all : {A : Type 0} (P : List ℕ → Type 0) (f : A → List ℕ) → P [] → ((xs ys : List ℕ) → P xs → P ys → P (xs ++ ys)) → ((x : A) → P (f x)) → (xs : List A) → P (flat_map f xs)
of_all P f none join each [] = none
of_all P f none join each (x ∷ xs) = join (f x) (flat_map f xs) (each x) (of_all P f none join each xs)
