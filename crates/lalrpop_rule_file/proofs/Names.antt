-- Names of modes, each once, in the order in which they first appear.
use Rattle.std.proofs.Common.{◌≡◌, ℕ, zero, suc, ◌<◌, ◌⊎◌, inl, inr, Bool, true, false, List, [], ◌∷◌, ◌++◌, length, Contains, refl, sym, ap, subst, ◌∙◌, append_assoc, append-nil, arith, Bor}
use Rattle.std.specs.Str.{bytes_eq}
use Rattle.std.proofs.lemmas.Bool.{false≢true}
use Rattle.std.proofs.lemmas.Slice.Eq.{bytes_eq-Decides}
use Rattle.std.proofs.lemmas.List.Elements.{Contains-append_right}
use Rattle.lalrpop_rule_file.specs.FileModes.{firsts, or_initial, without}
use Rattle.lalrpop_rule_file.specs.Internal.Lines.{AllIn, add_name, add_names, has, names_in}
use Rattle.lalrpop_rule_file.proofs.Actions.{map_more}

-- ---- a name among others

abbrev pub Or : List ℕ → List ℕ → Type 0
Or x y = (bytes_eq x y ≡ true) ⊎ (bytes_eq x y ≡ false)

pub eq_or_not : (x y : List ℕ) → Or x y
eq_or_not x y = by (bytes_eq x y) refl
  where
    by : (b : Bool) → bytes_eq x y ≡ b → Or x y
    by true e = inl e
    by false e = inr e

same : (x y : List ℕ) → bytes_eq x y ≡ true → x ≡ y
same x y e = (bytes_eq-Decides x y).0 e

is_eq : (x y : List ℕ) → x ≡ y → bytes_eq x y ≡ true
is_eq x y e = (bytes_eq-Decides x y).1 e

contains_here : (x : List ℕ) (xs : List (List ℕ)) → Contains (x ∷ xs) x
contains_here x xs = (0, omega arith, refl)

contains_more : (x y : List ℕ) (xs : List (List ℕ)) → Contains xs y → Contains (x ∷ xs) y
contains_more x y xs h = Contains-append_right (x ∷ []) xs y h

pub has_contains : (xs : List (List ℕ)) (y : List ℕ) → has xs y ≡ true → Contains xs y
has_contains [] y e = absurd (false≢true e)
has_contains (x ∷ xs) y e = by (eq_or_not x y) (has_contains xs y)
  where
    by : Or x y → (has xs y ≡ true → Contains xs y) → Contains (x ∷ xs) y
    by (inl is) more = subst (λ (z : List ℕ). Contains (x ∷ xs) z) (same x y is) (contains_here x xs)
    by (inr no_eq) more =
        let there : has xs y ≡ true = rw no_eq at e in contains_more x y xs (more there)

pub contains_has : (xs : List (List ℕ)) (y : List ℕ) → Contains xs y → has xs y ≡ true
contains_has [] y (k, less, e) = absurd (omega (arith, less))
contains_has (x ∷ xs) y (zero, less, e) = rw (is_eq x y e) refl
contains_has (x ∷ xs) y (suc k, less, e) = by (eq_or_not x y) (contains_has xs y (k, omega (arith, less), e))
  where
    by : Or x y → has xs y ≡ true → has (x ∷ xs) y ≡ true
    by (inl is) more = rw is refl
    by (inr no_eq) more = rw no_eq more

pub has_not : (xs : List (List ℕ)) (y : List ℕ) → ¬ Contains xs y → has xs y ≡ false
has_not xs y none = by (has xs y) refl
  where
    by : (b : Bool) → has xs y ≡ b → has xs y ≡ false
    by true e = absurd (none (has_contains xs y e))
    by false e = e

-- ---- the first of each

-- without x the names are the same, but x
has_without : (x : List ℕ) (xs : List (List ℕ)) (y : List ℕ) → bytes_eq x y ≡ false → has (without x xs) y ≡ has xs y
has_without x [] y other = refl
has_without x (z ∷ xs) y other = by (eq_or_not z x) (has_without x xs y other)
  where
    not_z : bytes_eq z x ≡ true → bytes_eq z y ≡ false
    not_z e = subst (λ (w : List ℕ). bytes_eq w y ≡ false) (sym (same z x e)) other

    inner : Or z y → bytes_eq z x ≡ false → has (without x xs) y ≡ has xs y → has (without x (z ∷ xs)) y ≡ has (z ∷ xs) y
    inner (inl is) e more = rw (e, is) refl
    inner (inr no_eq) e more = rw (e, no_eq) more

    by : Or z x → has (without x xs) y ≡ has xs y → has (without x (z ∷ xs)) y ≡ has (z ∷ xs) y
    by (inl e) more = rw (e, not_z e) more
    by (inr e) more = inner (eq_or_not z y) e more

pub has_firsts : (xs : List (List ℕ)) (y : List ℕ) → has (firsts xs) y ≡ has xs y
has_firsts [] y = refl
has_firsts (x ∷ xs) y = by (eq_or_not x y) (has_firsts xs y)
  where
    by : Or x y → has (firsts xs) y ≡ has xs y → has (firsts (x ∷ xs)) y ≡ has (x ∷ xs) y
    by (inl e) more = rw e refl
    by (inr e) more = rw e (has_without x (firsts xs) y e ∙ more)

without_append : (x : List ℕ) (xs ys : List (List ℕ)) → without x (xs ++ ys) ≡ without x xs ++ without x ys
without_append x [] ys = refl
without_append x (z ∷ xs) ys = by (eq_or_not z x) (without_append x xs ys)
  where
    by : Or z x → without x (xs ++ ys) ≡ without x xs ++ without x ys → without x ((z ∷ xs) ++ ys) ≡ without x (z ∷ xs) ++ without x ys
    by (inl e) more = rw e more
    by (inr e) more = rw e (ap (λ (w : List (List ℕ)). z ∷ w) more)

kept_name : (x y : List ℕ) → Or y x → bytes_eq x y ≡ false → without x (y ∷ []) ≡ y ∷ []
kept_name x y (inl e) h = absurd (false≢true (sym h ∙ is_eq x y (sym (same y x e))))
kept_name x y (inr e) h = rw e refl

-- a name that isn't there yet comes after them
firsts_new : (xs : List (List ℕ)) (y : List ℕ) → has xs y ≡ false → firsts (xs ++ y ∷ []) ≡ firsts xs ++ y ∷ []
firsts_new [] y e = refl
firsts_new (x ∷ xs) y e = by (eq_or_not x y) (firsts_new xs y)
  where
    there : bytes_eq x y ≡ true → has (x ∷ xs) y ≡ true
    there is = rw is refl

    by : Or x y → (has xs y ≡ false → firsts (xs ++ y ∷ []) ≡ firsts xs ++ y ∷ []) → firsts ((x ∷ xs) ++ y ∷ []) ≡ firsts (x ∷ xs) ++ y ∷ []
    by (inl is) more = absurd (false≢true (sym e ∙ there is))
    by (inr no_eq) more =
        let none : has xs y ≡ false = rw no_eq at e in
        ap (λ (w : List (List ℕ)). x ∷ without x w) (more none)
        ∙ ap (λ (w : List (List ℕ)). x ∷ w) (without_append x (firsts xs) (y ∷ []) ∙ ap (λ (w : List (List ℕ)). without x (firsts xs) ++ w) (kept_name x y (eq_or_not y x) no_eq))

-- one that is there already is none of the first
firsts_old : (xs : List (List ℕ)) (y : List ℕ) → has xs y ≡ true → firsts (xs ++ y ∷ []) ≡ firsts xs
firsts_old [] y e = absurd (false≢true e)
firsts_old (x ∷ xs) y e = by (eq_or_not x y) (firsts_old xs y) (has xs y) refl
  where
    gone : bytes_eq x y ≡ true → without x (y ∷ []) ≡ []
    gone is = rw (is_eq y x (sym (same x y is))) refl

    by : Or x y → (has xs y ≡ true → firsts (xs ++ y ∷ []) ≡ firsts xs) → (b : Bool) → has xs y ≡ b → firsts ((x ∷ xs) ++ y ∷ []) ≡ firsts (x ∷ xs)
    by own more true h = ap (λ (w : List (List ℕ)). x ∷ without x w) (more h)
    by (inl is) more false h =
        ap (λ (w : List (List ℕ)). x ∷ without x w) (firsts_new xs y h)
        ∙ ap (λ (w : List (List ℕ)). x ∷ w) (without_append x (firsts xs) (y ∷ []) ∙ ap (λ (w : List (List ℕ)). without x (firsts xs) ++ w) (gone is) ∙ append-nil (without x (firsts xs)))
    by (inr no_eq) more false h =
        let there : has xs y ≡ true = rw no_eq at e in absurd (false≢true (sym h ∙ there))

pub add_first : (xs : List (List ℕ)) (y : List ℕ) → add_name (firsts xs) y ≡ firsts (xs ++ y ∷ [])
add_first xs y = by (has xs y) refl
  where
    by : (b : Bool) → has xs y ≡ b → add_name (firsts xs) y ≡ firsts (xs ++ y ∷ [])
    by true e = rw (has_firsts xs y, e) (sym (firsts_old xs y e))
    by false e = rw (has_firsts xs y, e) (sym (firsts_new xs y e))

pub add_firsts : (xs ys : List (List ℕ)) → add_names (firsts xs) ys ≡ firsts (xs ++ ys)
add_firsts xs [] = ap firsts (sym (append-nil xs))
add_firsts xs (y ∷ ys) =
    ap (λ (w : List (List ℕ)). add_names w ys) (add_first xs y) ∙ add_firsts (xs ++ y ∷ []) ys ∙ ap firsts (append_assoc xs (y ∷ []) ys)

-- one name more
pub add_names_more : (xs ys : List (List ℕ)) (y : List ℕ) → add_names xs (ys ++ y ∷ []) ≡ add_name (add_names xs ys) y
add_names_more xs [] y = refl
add_names_more xs (z ∷ ys) y = add_names_more (add_name xs z) ys y

-- ---- all of them are there

pub in_append_left : (modes xs ys : List (List ℕ)) → AllIn modes (xs ++ ys) → AllIn modes xs
in_append_left modes [] ys all = tt
in_append_left modes (x ∷ xs) ys all = (all.0, in_append_left modes xs ys all.1)

pub in_append_right : (modes xs ys : List (List ℕ)) → AllIn modes (xs ++ ys) → AllIn modes ys
in_append_right modes [] ys all = all
in_append_right modes (x ∷ xs) ys all = in_append_right modes xs ys all.1

all_in : (modes xs : List (List ℕ)) → ((y : List ℕ) → Contains xs y → Contains modes y) → AllIn modes xs
all_in modes [] each = tt
all_in modes (x ∷ xs) each = (each x (contains_here x xs), all_in modes xs (λ y h. each y (contains_more x y xs h)))

or_initial_contains : (names : List (List ℕ)) (y : List ℕ) → Contains names y → Contains (or_initial names) y
or_initial_contains [] y (k, less, e) = absurd (omega (arith, less))
or_initial_contains (x ∷ xs) y h = h

pub named_are_in : (xs : List (List ℕ)) → AllIn (or_initial (firsts xs)) xs
named_are_in xs = all_in (or_initial (firsts xs)) xs (λ y h. or_initial_contains (firsts xs) y (has_contains (firsts xs) y (has_firsts xs y ∙ contains_has xs y h)))

-- some name is there
pub some_mode : (names : List (List ℕ)) → 0 < length (or_initial names)
some_mode [] = omega arith
some_mode (x ∷ xs) = omega arith

-- ---- one name more, or none

add_new : (xs : List (List ℕ)) (y : List ℕ) → ¬ Contains xs y → add_name xs y ≡ xs ++ y ∷ []
add_new xs y none = rw (has_not xs y none) refl

pub add_old : (xs : List (List ℕ)) (y : List ℕ) → Contains xs y → add_name xs y ≡ xs
add_old xs y there = rw (contains_has xs y there) refl

pub added : (names more : List (Bor (List ℕ))) (name : Bor (List ℕ)) → ¬ Contains (names_in names) name.now → more ≡ names ++ name ∷ [] → names_in more ≡ add_name (names_in names) name.now
added names more name none is = ap names_in is ∙ map_more (λ m. m.now) names name ∙ sym (add_new (names_in names) name.now none)

pub add_further : (first now next names all : List (List ℕ)) (name : List ℕ) → now ≡ add_names first names → next ≡ add_name now name → all ≡ names ++ name ∷ [] → next ≡ add_names first all
add_further first now next names all name is more same =
    more ∙ ap (λ (x : List (List ℕ)). add_name x name) is ∙ sym (add_names_more first names name) ∙ ap (add_names first) (sym same)
