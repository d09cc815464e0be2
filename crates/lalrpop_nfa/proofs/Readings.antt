-- What is read from a state to ACCEPT, in terms of what is read from other states.
use Rattle.std.proofs.Common.{◌≡◌, ◌≢◌, ℕ, zero, suc, ◌<◌, ◌≤◌, List, [], ◌∷◌, ◌++◌, refl, ap, sym, ◌∙◌, subst, arith, ◌⊎◌, inl, inr, append_assoc}
use Rattle.std.specs.List.{Contains}
use Rattle.std.proofs.Math.Nat.{le_refl}
use Rattle.lalrpop_hir.specs.Range.{Range, Covers, Covered}
use Rattle.lalrpop_hir.specs.Language.{Words, Then, Power}
use Rattle.lalrpop_hir.proofs.Joining.{covering}
use Rattle.lalrpop_hir.proofs.Powers.{Optional, Star}
use Rattle.lalrpop_nfa.specs.Graph.{Lists}
use Rattle.lalrpop_nfa.specs.Path.{noop, test, other, Path, here, epsilon, read, otherwise}
use Rattle.lalrpop_hir.specs.States.{accept_state, reject_state}
use Rattle.lalrpop_hir.proofs.Contained.{contains_none, contains_cases, contains_first, contains_later, contains_only}

-- the number of edges of a path
abbrev pub steps : (e : Lists) (last p : ℕ) (w : List ℕ) → Path e last p w → ℕ
steps e last _ _ (here p s) = 0
steps e last _ _ (epsilon p q w m h) = suc (steps e last q w h)
steps e last _ _ (read p q w r c m k h) = suc (steps e last q w h)
steps e last _ _ (otherwise p q w c m k h) = suc (steps e last q w h)

-- a word of one value that some range of the list covers
abbrev pub OneOf : List Range → Words
OneOf rs w = (c : ℕ) × ((w ≡ c ∷ []) × Covered rs c)

covered_in : (rs : List Range) (r : Range) (c : ℕ) → Contains rs r → Covers r c → Covered rs c
covered_in [] r c m k = absurd (contains_none r m)
covered_in (s ∷ rs) r c m k = elim (contains_cases s rs r m) [
  | inl e ↦ inl (subst (λ (x : Range). Covers x c) (sym e) k)
  | inr j ↦ inr (covered_in rs r c j k)
]

joined_words : (w u v a b : List ℕ) → w ≡ u ++ v → v ≡ a ++ b → w ≡ (u ++ a) ++ b
joined_words w u v a b i j = i ∙ ap (λ z. u ++ z) j ∙ sym (append_assoc u a b)

module _ (e : Lists) where
  -- the word is one with P followed by one that is read from target, in at most `most` steps
  pub record Cut (P : Words) (target : ℕ) (w : List ℕ) (most : ℕ) : Type 0 where
    pub first : List ℕ
    pub rest : List ℕ
    pub path : Path e accept_state target rest
    pub same : w ≡ first ++ rest
    pub is : P first
    pub few : steps e accept_state target rest path ≤ most

  -- a word is read from entry exactly if it is one with P followed by one that is read from target, in no more steps
  pub record Reads (P : Words) (target entry : ℕ) : Type 0 where
    pub into : (u v : List ℕ) → P u → Path e accept_state target v → Path e accept_state entry (u ++ v)
    pub out : (w : List ℕ) (h : Path e accept_state entry w) → Cut P target w (steps e accept_state entry w h)

  -- the same, from some of the states
  pub record ReadsFromSome (P : Words) (target : ℕ) (qs : List ℕ) : Type 0 where
    pub into : (u v : List ℕ) → P u → Path e accept_state target v → (q : ℕ) × (Contains qs q × Path e accept_state q (u ++ v))
    pub out : (q : ℕ) → Contains qs q → (w : List ℕ) (h : Path e accept_state q w) → Cut P target w (steps e accept_state q w h)

  -- only `Noop` edges to these states leave s
  pub record Forks (s : ℕ) (qs : List ℕ) : Type 0 where
    pub all : (q : ℕ) → Contains qs q → Contains e.noops (noop s q)
    pub only : (q : ℕ) → Contains e.noops (noop s q) → Contains qs q
    pub no_test : (r : Range) (q : ℕ) → Contains e.tests (test s r q) → ⊥
    pub no_other : (q : ℕ) → Contains e.others (other s q) → ⊥
    pub on : s ≢ accept_state

  -- the edges that leave s lead to target on these ranges, and to REJECT otherwise
  pub record Tests (rs : List Range) (target s : ℕ) : Type 0 where
    pub all : (r : Range) → Contains rs r → Contains e.tests (test s r target)
    pub only : (r : Range) (q : ℕ) → Contains e.tests (test s r q) → (q ≡ target) × Contains rs r
    pub no_noop : (q : ℕ) → Contains e.noops (noop s q) → ⊥
    pub others : (q : ℕ) → Contains e.others (other s q) → q ≡ reject_state
    pub on : s ≢ accept_state

  pub Reads-empty : (p : ℕ) → Reads (λ w. w ≡ []) p p
  Reads-empty p = record {
    into = λ u v h g. rw h g;
    out = λ w h. record { first = []; rest = w; path = h; same = refl; is = refl; few = le_refl (steps e accept_state p w h) };
  }

  Cut-weaker : (P Q : Words) (target : ℕ) (w : List ℕ) (j k : ℕ) → ((u : List ℕ) → P u → Q u) → j ≤ k → Cut P target w j → Cut Q target w k
  Cut-weaker P Q target w j k f l c = record { first = c.first; rest = c.rest; path = c.path; same = c.same; is = f c.first c.is; few = omega (arith, c.few) }

  pub Reads-same : (P Q : Words) (target entry : ℕ) → ((w : List ℕ) → P w → Q w) → ((w : List ℕ) → Q w → P w) → Reads P target entry → Reads Q target entry
  Reads-same P Q target entry f g r = record {
    into = λ u v h k. r.into u v (g u h) k;
    out = λ w h. Cut-weaker P Q target w (steps e accept_state entry w h) (steps e accept_state entry w h) f (le_refl (steps e accept_state entry w h)) (r.out w h);
  }

  pub Reads-then : (P Q : Words) (target mid entry : ℕ) → Reads P mid entry → Reads Q target mid → Reads (Then P Q) target entry
  Reads-then P Q target mid entry x y = record {
    into = λ u v h g.
        subst (λ w. Path e accept_state entry w) (sym (ap (λ z. z ++ v) h.2.0 ∙ append_assoc h.0 h.1 v))
        (x.into h.0 (h.1 ++ v) h.2.1 (y.into h.1 v h.2.2 g));
    out = λ w h.
        let a = x.out w h in
        let b = y.out a.rest a.path in
        record {
          first = a.first ++ b.first;
          rest = b.rest;
          path = b.path;
          same = joined_words w a.first a.rest b.first b.rest a.same b.same;
          is = (a.first, b.first, (refl, a.is, b.is));
          few = omega (arith, a.few, b.few);
        };
  }

  alternation_out : (s : ℕ) (qs : List ℕ) → Forks s qs → (w : List ℕ) (h : Path e accept_state s w)
      → (q : ℕ) × (m : Contains qs q) × (g : Path e accept_state q w) × (steps e accept_state q w g < steps e accept_state s w h)
  alternation_out _ qs f _ (here s x) = absurd (f.on x)
  alternation_out _ qs f _ (epsilon s q w m h) = (q, f.only q m, h, omega arith)
  alternation_out _ qs f _ (read s q w r c m k h) = absurd (f.no_test r q m)
  alternation_out _ qs f _ (otherwise s q w c m k h) = absurd (f.no_other q m)

  pub FromSome-none : (target : ℕ) → ReadsFromSome (λ w. ⊥) target []
  FromSome-none target = record { into = λ u v h g. absurd h; out = λ q m w h. absurd (contains_none q m) }

  pub FromSome-also : (P Q : Words) (target p : ℕ) (qs : List ℕ) → Reads P target p → ReadsFromSome Q target qs → ReadsFromSome (λ w. P w ⊎ Q w) target (p ∷ qs)
  FromSome-also P Q target p qs x y = record { into = into; out = out }
    where
      into : (u v : List ℕ) → P u ⊎ Q u → Path e accept_state target v → (q : ℕ) × (Contains (p ∷ qs) q × Path e accept_state q (u ++ v))
      into u v (inl h) g = (p, (contains_first p qs, x.into u v h g))
      into u v (inr h) g = let r = y.into u v h g in (r.0, (contains_later p qs r.0 r.1.0, r.1.1))

      out : (q : ℕ) → Contains (p ∷ qs) q → (w : List ℕ) (h : Path e accept_state q w) → Cut (λ w. P w ⊎ Q w) target w (steps e accept_state q w h)
      out q m w = elim (contains_cases p qs q m) [
        | inl same ↦ subst (λ z. (h : Path e accept_state z w) → Cut (λ w. P w ⊎ Q w) target w (steps e accept_state z w h)) same
            (λ h. Cut-weaker P (λ w. P w ⊎ Q w) target w (steps e accept_state p w h) (steps e accept_state p w h) (λ u k. inl k) (le_refl (steps e accept_state p w h)) (x.out w h))
        | inr k ↦ (λ h. Cut-weaker Q (λ w. P w ⊎ Q w) target w (steps e accept_state q w h) (steps e accept_state q w h) (λ u k. inr k) (le_refl (steps e accept_state q w h)) (y.out q k w h))
      ]

  pub Reads-alternation_expr : (P : Words) (target s : ℕ) (qs : List ℕ) → Forks s qs → ReadsFromSome P target qs → Reads P target s
  Reads-alternation_expr P target s qs f x = record {
    into = λ u v h g. let r = x.into u v h g in epsilon s r.0 (u ++ v) (f.all r.0 r.1.0) r.1.1;
    out = λ w h.
        let o = alternation_out s qs f w h in
        Cut-weaker P P target w (steps e accept_state o.0 w o.2) (steps e accept_state s w h) (λ u k. k) (omega (arith, o.3)) (x.out o.0 o.1 w o.2);
  }

  pub Reads-optional_expr : (P : Words) (target s p : ℕ) → Forks s (target ∷ p ∷ []) → Reads P target p → Reads (Optional P) target s
  Reads-optional_expr P target s p f x =
      Reads-same (λ w. (w ≡ []) ⊎ (P w ⊎ ⊥)) (Optional P) target s given taken
      (Reads-alternation_expr (λ w. (w ≡ []) ⊎ (P w ⊎ ⊥)) target s (target ∷ p ∷ []) f
      (FromSome-also (λ w. w ≡ []) (λ w. P w ⊎ ⊥) target target (p ∷ []) (Reads-empty target)
      (FromSome-also P (λ w. ⊥) target p [] x (FromSome-none target))))
    where
      given : (w : List ℕ) → (w ≡ []) ⊎ (P w ⊎ ⊥) → Optional P w
      given w (inl h) = inl h
      given w (inr (inl h)) = inr h
      given w (inr (inr h)) = absurd h

      taken : (w : List ℕ) → Optional P w → (w ≡ []) ⊎ (P w ⊎ ⊥)
      taken w (inl h) = inl h
      taken w (inr h) = inr (inl h)

  module _ (P : Words) (target s p : ℕ) (f : Forks s (target ∷ p ∷ [])) (x : Reads P s p) where
    star_into : (k : ℕ) (u v : List ℕ) → Power k P u → Path e accept_state target v → Path e accept_state s (u ++ v)
    star_into zero u v h g = epsilon s target (u ++ v) (f.all target (contains_first target (p ∷ []))) (rw h g)
    star_into (suc k) u v h g =
        epsilon s p (u ++ v) (f.all p (contains_later target (p ∷ []) p (contains_first p [])))
        (subst (λ w. Path e accept_state p w) (sym (ap (λ z. z ++ v) h.2.0 ∙ append_assoc h.0 h.1 v))
        (x.into h.0 (h.1 ++ v) h.2.1 (star_into k h.1 v h.2.2 g)))

    star_out : (n : ℕ) (w : List ℕ) (h : Path e accept_state s w) → steps e accept_state s w h ≤ n → Cut (Star P) target w (steps e accept_state s w h)
    star_out zero w h le = absurd (omega (arith, (alternation_out s (target ∷ p ∷ []) f w h).3))
    star_out (suc n) w h le =
        let o = alternation_out s (target ∷ p ∷ []) f w h in
        elim (contains_cases target (p ∷ []) o.0 o.1) [
          | inl same ↦ subst (λ z. (g : Path e accept_state z w) → steps e accept_state z w g < steps e accept_state s w h → Cut (Star P) target w (steps e accept_state s w h)) same
              (λ g l. record { first = []; rest = w; path = g; same = refl; is = (0, refl); few = omega arith }) o.2 o.3
          | inr k ↦ subst (λ z. (g : Path e accept_state z w) → steps e accept_state z w g < steps e accept_state s w h → Cut (Star P) target w (steps e accept_state s w h)) (contains_only p o.0 k)
              (λ g l.
              let a = x.out w g in
              let b = star_out n a.rest a.path (omega (arith, a.few)) in
              record {
                first = a.first ++ b.first;
                rest = b.rest;
                path = b.path;
                same = joined_words w a.first a.rest b.first b.rest a.same b.same;
                is = (suc b.is.0, (a.first, b.first, (refl, a.is, b.is.1)));
                few = omega (arith, a.few, b.few);
              }) o.2 o.3
        ]

    pub Reads-star : Reads (Star P) target s
    Reads-star = record {
      into = λ u v h g. star_into h.0 u v h.1 g;
      out = λ w h. star_out (steps e accept_state s w h) w h (le_refl (steps e accept_state s w h));
    }

  module _ (dead : (w : List ℕ) → Path e accept_state reject_state w → ⊥) (rs : List Range) (target : ℕ) where
    test_out : (s : ℕ) (f : Tests rs target s) (w : List ℕ) (h : Path e accept_state s w) → Cut (OneOf rs) target w (steps e accept_state s w h)
    test_out _ f _ (here s x) = absurd (f.on x)
    test_out _ f _ (epsilon s q w m h) = absurd (f.no_noop q m)
    test_out _ f _ (read s q w r c m k h) =
        let o = f.only r q m in
        subst (λ z. (g : Path e accept_state z w) → steps e accept_state z w g ≤ steps e accept_state q w h → Cut (OneOf rs) target (c ∷ w) (suc (steps e accept_state q w h))) (sym o.0)
        (λ g l. record { first = c ∷ []; rest = w; path = g; same = refl; is = (c, (refl, covered_in rs r c o.1 k)); few = omega arith }) h (le_refl (steps e accept_state q w h))
    test_out _ f _ (otherwise s q w c m k h) = absurd (dead w (subst (λ z. Path e accept_state z w) (f.others q m) h))

    pub Reads-test : (s : ℕ) → Tests rs target s → Reads (OneOf rs) target s
    Reads-test s f = record {
      into = λ u v h g.
          let r = covering rs h.0 h.1.1 in
          subst (λ w. Path e accept_state s w) (sym (ap (λ z. z ++ v) h.1.0)) (read s target v r.0 h.0 (f.all r.0 r.1.0) r.1.1 g);
      out = λ w h. test_out s f w h;
    }
