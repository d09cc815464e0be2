-- Runs of edges to which an edge is added last.
use Rattle.std.proofs.Common.{◌≡◌, ◌≢◌, ℕ, suc, ◌<◌, ◌≤◌, List, [], ◌∷◌, ◌++◌, length, drop, take, refl, ap, sym, ◌∙◌, subst, arith, length-append, length-drop, get_or, Bool, true, false, cond}
use Rattle.std.specs.Prelude.{Option, Some, None}
use Rattle.std.specs.List.{filter}
use Rattle.std.proofs.lemmas.Bool.{eq-eqb, ne_eqb}
use Rattle.std.proofs.lemmas.List.Elements.{filter-append}
use Rattle.std.proofs.lemmas.List.{drop-append-le, take-append-drop}
use Rattle.std.proofs.Math.Seq.{drop-append_seam, drop-cons}
use Rattle.lalrpop_nfa.specs.declared.edge.Edge.{Edge}
use Rattle.lalrpop_nfa.specs.Walk.{leaves}
use Rattle.lalrpop_nfa.specs.Contiguous.{walk, IsAt, IsContiguous}

module _ {X : Type 0} (p : X → Bool) where
  filter_last_other : (xs : List X) (e : X) → p e ≡ false → filter p (xs ++ e ∷ []) ≡ filter p xs
  filter_last_other [] e h = rw h
  filter_last_other (x ∷ xs) e h = elim (p x) as (λ b. cond b (x ∷ filter p (xs ++ e ∷ [])) (filter p (xs ++ e ∷ [])) ≡ cond b (x ∷ filter p xs) (filter p xs)) [ true ↦ ap (λ ys. x ∷ ys) (filter_last_other xs e h) | false ↦ filter_last_other xs e h ]

  pub filter_last_this : (xs : List X) (e : X) → p e ≡ true → filter p (xs ++ e ∷ []) ≡ filter p xs ++ e ∷ []
  filter_last_this xs e h = filter-append p xs (e ∷ []) ∙ (rw h)

  walk_last_other : (xs : List X) (e : X) → p e ≡ false → walk p (xs ++ e ∷ []) ≡ walk p xs
  walk_last_other [] e h = rw h
  walk_last_other (x ∷ xs) e h = elim (p x) as (λ b. cond b (x ∷ walk p (xs ++ e ∷ [])) [] ≡ cond b (x ∷ walk p xs) []) [ true ↦ ap (λ ys. x ∷ ys) (walk_last_other xs e h) | false ↦ refl ]

  pub not_nil : (xs : List X) (e : X) → xs ++ e ∷ [] ≡ [] → ⊥
  not_nil [] e h = cc
  not_nil (x ∷ xs) e h = cc

  tail_same : (x : X) (xs ys : List X) → x ∷ xs ≡ x ∷ ys → xs ≡ ys
  tail_same x xs ys h = cc

  -- if a walk takes all that pass, and the last one passes, all pass: so another one that passes is taken too
  walk_goes_on : (xs : List X) (e f : X) → p e ≡ true → p f ≡ true → filter p (xs ++ e ∷ []) ≡ walk p (xs ++ e ∷ []) → filter p ((xs ++ e ∷ []) ++ f ∷ []) ≡ walk p ((xs ++ e ∷ []) ++ f ∷ [])
  walk_goes_on [] e f h k w = rw (h, k)
  walk_goes_on (x ∷ xs) e f h k w = walk_step (p x) x xs e f h k (λ v. walk_goes_on xs e f h k v) w
    where
      walk_step : (b : Bool) (x : X) (xs : List X) (e f : X) → p e ≡ true → p f ≡ true
          → (filter p (xs ++ e ∷ []) ≡ walk p (xs ++ e ∷ []) → filter p ((xs ++ e ∷ []) ++ f ∷ []) ≡ walk p ((xs ++ e ∷ []) ++ f ∷ []))
          → cond b (x ∷ filter p (xs ++ e ∷ [])) (filter p (xs ++ e ∷ [])) ≡ cond b (x ∷ walk p (xs ++ e ∷ [])) []
          → cond b (x ∷ filter p ((xs ++ e ∷ []) ++ f ∷ [])) (filter p ((xs ++ e ∷ []) ++ f ∷ [])) ≡ cond b (x ∷ walk p ((xs ++ e ∷ []) ++ f ∷ [])) []
      walk_step true x xs e f h k ih w = ap (λ ys. x ∷ ys) (ih (tail_same x _ _ w))
      walk_step false x xs e f h k ih w = absurd (not_nil (filter p xs) e (sym (filter_last_this xs e h) ∙ w))

  walk_shorter : (xs : List X) → length (walk p xs) ≤ length (filter p xs)
  walk_shorter [] = omega arith
  walk_shorter (x ∷ xs) = elim (p x) as (λ b. length (cond b (x ∷ walk p xs) []) ≤ length (cond b (x ∷ filter p xs) (filter p xs))) [ true ↦ omega (arith, walk_shorter xs) | false ↦ omega arith ]

  filter_is_walk : (ys xs : List X) → ys ++ filter p xs ≡ walk p xs → filter p xs ≡ walk p xs
  filter_is_walk [] xs h = h
  filter_is_walk (y ∷ ys) xs h = absurd (omega (arith, walk_shorter xs, length-append (y ∷ ys) (filter p xs), ap length h))

drop_inside : {X : Type 0} (i : ℕ) (xs : List X) (x : X) (others : List X) → drop i xs ≡ x ∷ others → i < length xs
drop_inside i xs x others h = omega (arith, length-drop i xs, ap length h)

module _ {L : Type 0} (q : ℕ) (es : List (Edge L)) (f : Edge L) where
  -- an edge of another state leaves the run as it is
  pub IsContiguous-other : (first : Option ℕ) → f.from ≢ q → IsContiguous q es first → IsContiguous q (es ++ f ∷ []) first
  IsContiguous-other None ne r = record { at = tt; all = filter_last_other (leaves q) es f (ne_eqb f.from q ne) ∙ r.all }
  IsContiguous-other (Some i) ne r =
      let cut : drop i (es ++ f ∷ []) ≡ drop i es ++ f ∷ [] = drop-append-le i es (f ∷ []) (let h = drop_inside i es r.at.0 r.at.1 r.at.2 in omega arith) in
      record {
        at = (r.at.0, r.at.1 ++ f ∷ [], cut ∙ ap (λ ys. ys ++ f ∷ []) r.at.2, r.at.3);
        all = filter_last_other (leaves q) es f (ne_eqb f.from q ne) ∙ (r.all ∙ sym (ap (walk (leaves q)) cut ∙ walk_last_other (leaves q) (drop i es) f (ne_eqb f.from q ne)));
      }

  -- the first edge of a state begins its run
  pub IsContiguous-first : f.from ≡ q → filter (leaves q) es ≡ [] → IsContiguous q (es ++ f ∷ []) (Some (length es))
  IsContiguous-first same none =
      let yes = eq-eqb f.from q same in
      let cut = drop-append_seam es (f ∷ []) in
      record {
        at = (f, [], cut, same);
        all = filter_last_this (leaves q) es f yes ∙ (ap (λ ys. ys ++ f ∷ []) none ∙ sym (ap (walk (leaves q)) cut ∙ (rw yes)));
      }

  -- another edge of the state goes to the end of the run, which is the end of the list
  pub IsContiguous-next : (first : Option ℕ) (before : List (Edge L)) (e : Edge L) → f.from ≡ q → es ≡ before ++ e ∷ [] → e.from ≡ q → IsContiguous q es first → IsContiguous q (es ++ f ∷ []) first
  IsContiguous-next None before e same is here r =
      absurd (not_nil (leaves q) (filter (leaves q) before) e (sym (filter_last_this (leaves q) before e (eq-eqb e.from q here)) ∙ (ap (filter (leaves q)) (sym is) ∙ r.all)))
  IsContiguous-next (Some i) before e same is here r =
      let p : Edge L → Bool = leaves q in
      let yes = eq-eqb f.from q same in
      let inside = drop_inside i es r.at.0 r.at.1 r.at.2 in
      let ahead : i ≤ length before = omega (arith, ap length is, length-append before (e ∷ [])) in
      let shown : drop i es ≡ drop i before ++ e ∷ [] = ap (drop i) is ∙ drop-append-le i before (e ∷ []) ahead in
      let cut : drop i (es ++ f ∷ []) ≡ drop i es ++ f ∷ [] = drop-append-le i es (f ∷ []) (omega arith) in
      let apart : filter p (take i es) ++ filter p (drop i es) ≡ walk p (drop i es) = sym (filter-append p (take i es) (drop i es)) ∙ (ap (filter p) (take-append-drop i es) ∙ r.all) in
      let tied = filter_is_walk p (filter p (take i es)) (drop i es) apart in
      let goes = walk_goes_on p (drop i before) e f (eq-eqb e.from q here) yes (subst (λ zs. filter p zs ≡ walk p zs) shown tied) in
      record {
        at = (r.at.0, r.at.1 ++ f ∷ [], cut ∙ ap (λ ys. ys ++ f ∷ []) r.at.2, r.at.3);
        all = filter_last_this p es f yes ∙ (ap (λ ys. ys ++ f ∷ []) (r.all ∙ sym tied) ∙ (sym (filter_last_this p (drop i es) f yes) ∙ (subst (λ zs. filter p (zs ++ f ∷ []) ≡ walk p (zs ++ f ∷ [])) (sym shown) goes ∙ ap (walk p) (sym cut))));
      }

-- an element of this state that is read at an index
pub IsAt-read : {L : Type 0} (q i : ℕ) (es : List (Edge L)) (x : Edge L) → i < length es → x ≡ get_or es i x → x.from ≡ q → IsAt q es (Some i)
IsAt-read q i es x inside read same = (x, drop (suc i) es, drop-cons es i x inside ∙ ap (λ y. y ∷ drop (suc i) es) (sym read), same)

-- what an iterator over the run has left, and that it is at an edge
pub IsContiguous-elsewhere : {L : Type 0} (q r : ℕ) (es fs : List (Edge L)) (i j : Option ℕ) → q ≡ r → es ≡ fs → i ≡ j → IsContiguous q es i → IsContiguous r fs j
IsContiguous-elsewhere q r es fs i j a b d run = rw (← a, ← b, ← d) run
