-- What a fragment reads, if the edges of its states are the graph's.
use Rattle.std.proofs.Common.{◌≡◌, ℕ, zero, suc, ◌<◌, ◌≤◌, ◌+◌, ◌-◌, ◌↔◌, List, [], ◌∷◌, ◌++◌, refl, ap, sym, ◌∙◌, subst, arith, ◌⊎◌, inl, inr}
use Rattle.std.specs.Prelude.{Some, None, Bool}
use Rattle.std.specs.List.{Contains}
use Rattle.std.proofs.lemmas.List.Elements.{Contains-append_left, Contains-append_right, Contains-append_cases}
use Rattle.lalrpop_hir.specs.Range.{Range, Covers}
use Rattle.lalrpop_hir.specs.Tree.{Class, unicode, bytes, Tree, empty, literal, class, look, repetition, capture, concat, alternation, Trees, none, also}
use Rattle.lalrpop_hir.specs.Language.{Words, Then, Power, Matches, MatchInTurn, SomeMatches}
use Rattle.lalrpop_hir.proofs.Powers.{Optional, Star, Matches-counted, Matches-open}
use Rattle.lalrpop_nfa.specs.declared.edge.Edge.{Edge}
use Rattle.lalrpop_nfa.specs.declared.edge.Noop.{Noop}
use Rattle.lalrpop_nfa.specs.declared.edge.Other.{Other}
use Rattle.lalrpop_nfa.specs.Graph.{Lists}
use Rattle.lalrpop_nfa.specs.Path.{noop, test, other, Path}
use Rattle.lalrpop_hir.specs.States.{accept_state, reject_state}
use Rattle.lalrpop_nfa.specs.Internal.Fragment.{Construction, noops_to, joined, nothing, before, one_of, literal_expr, copies, optional_expr, optional_copies, star_expr, plus_expr, repeat_expr, Branches, alternation_expr, class_construction, fragment_of, concat_expr, branches}
use Rattle.lalrpop_hir.proofs.Contained.{contains_none, contains_only, contains_map, contains_from_map}
use Rattle.lalrpop_nfa.proofs.Compilable.{IsCompilableWithin, AreCompilableWithin, only}
use Rattle.lalrpop_nfa.proofs.Readings.{Reads, ReadsFromSome, Forks, Tests, OneOf, Reads-empty, Reads-same, Reads-then, Reads-alternation_expr, Reads-optional_expr, Reads-star, Reads-test, FromSome-none, FromSome-also}
use Rattle.lalrpop_nfa.proofs.Fragments.{Anywhere, construction_within, Joins, Within, Fits-noops_to, Leads, Leads-nothing, Leads-one_of, Leads-literal_expr, Leads-copies, Leads-optional_expr, Leads-optional_copies, Leads-star_expr, fragment_leads, concat_leads, fragment_within, branches_within}

-- the two lists have the same edges from the states from a up to b
abbrev pub SameBetween : {L : Type 0} → ℕ → ℕ → List (Edge L) → List (Edge L) → Type 0
SameBetween {L} a b es fs = (x : Edge L) → a ≤ x.from → x.from < b → Contains es x ↔ Contains fs x

pub record Agrees (a b : ℕ) (e s : Lists) : Type 0 where
  pub noops : SameBetween a b e.noops s.noops
  pub tests : SameBetween a b e.tests s.tests
  pub others : SameBetween a b e.others s.others

module _ {L : Type 0} (P : ℕ → Type 0) (a b p q c d : ℕ) (xs ys es : List (Edge L)) (same : SameBetween a b es (xs ++ ys)) (low : a ≤ p) (high : q ≤ b) (apart : (d ≤ p) ⊎ (q ≤ c)) where
  same_left : Joins P c d ys → SameBetween p q es xs
  same_left f x l h = (
    λ m. elim (Contains-append_cases xs ys x ((same x (omega arith) (omega arith)).0 m)) [ inl k ↦ k | inr k ↦ (let w = f x k in elim apart [ inl z ↦ absurd (omega (arith, w.0, w.1)) | inr z ↦ absurd (omega (arith, w.0, w.1)) ]) ],
    λ m. (same x (omega arith) (omega arith)).1 (Contains-append_left xs ys x m),
  )

  same_right : Joins P c d xs → SameBetween p q es ys
  same_right f x l h = (
    λ m. elim (Contains-append_cases xs ys x ((same x (omega arith) (omega arith)).0 m)) [ inr k ↦ k | inl k ↦ (let w = f x k in elim apart [ inl z ↦ absurd (omega (arith, w.0, w.1)) | inr z ↦ absurd (omega (arith, w.0, w.1)) ]) ],
    λ m. (same x (omega arith) (omega arith)).1 (Contains-append_right xs ys x m),
  )

abbrev Rejects : ℕ → Type 0
Rejects q = q ≡ reject_state

module _ (e : Lists) where
  pub Agrees-left : (a b p q c d : ℕ) (x y : Lists) → Agrees a b e (joined x y) → a ≤ p → q ≤ b → (d ≤ p) ⊎ (q ≤ c) → Within c d y → Agrees p q e x
  Agrees-left a b p q c d x y same low high apart w = record {
    noops = same_left Anywhere a b p q c d x.noops y.noops e.noops same.noops low high apart w.noops;
    tests = same_left Anywhere a b p q c d x.tests y.tests e.tests same.tests low high apart w.tests;
    others = same_left Rejects a b p q c d x.others y.others e.others same.others low high apart w.others;
  }

  pub Agrees-right : (a b p q c d : ℕ) (x y : Lists) → Agrees a b e (joined x y) → a ≤ p → q ≤ b → (d ≤ p) ⊎ (q ≤ c) → Within c d x → Agrees p q e y
  Agrees-right a b p q c d x y same low high apart w = record {
    noops = same_right Anywhere a b p q c d x.noops y.noops e.noops same.noops low high apart w.noops;
    tests = same_right Anywhere a b p q c d x.tests y.tests e.tests same.tests low high apart w.tests;
    others = same_right Rejects a b p q c d x.others y.others e.others same.others low high apart w.others;
  }

  pub alternates_at : (s : ℕ) (qs : List ℕ) → Agrees s (s + 1) e (noops_to s qs) → 0 < s → Forks e s qs
  alternates_at s qs same up = record {
    all = λ q m. (same.noops (noop s q) (omega arith) (omega arith)).1 (contains_map (noop s) qs q m);
    only = λ q m.
        let r = contains_from_map (noop s) qs (noop s q) ((same.noops (noop s q) (omega arith) (omega arith)).0 m) in
        subst (Contains qs) (ap (λ (z : Edge Noop). z.to) r.1.1) r.1.0;
    no_test = λ r q m. contains_none (test s r q) ((same.tests (test s r q) (omega arith) (omega arith)).0 m);
    no_other = λ q m. contains_none (other s q) ((same.others (other s q) (omega arith) (omega arith)).0 m);
    on = λ h. absurd (omega arith);
  }

  tests_at : (rs : List Range) (target s : ℕ) → Agrees s (s + 1) e (one_of rs target s).edges → 0 < s → Tests e rs target s
  tests_at rs target s same up = record {
    all = λ r m. (same.tests (test s r target) (omega arith) (omega arith)).1 (contains_map (λ z. test s z target) rs r m);
    only = λ r q m.
        let o = contains_from_map (λ z. test s z target) rs (test s r q) ((same.tests (test s r q) (omega arith) (omega arith)).0 m) in
        (ap (λ (z : Edge Range). z.to) (sym o.1.1), subst (Contains rs) (ap (λ (z : Edge Range). z.label) o.1.1) o.1.0);
    no_noop = λ q m. contains_none (noop s q) ((same.noops (noop s q) (omega arith) (omega arith)).0 m);
    others = λ q m. ap (λ (z : Edge Other). z.to) (sym (contains_only (other s reject_state) (other s q) ((same.others (other s q) (omega arith) (omega arith)).0 m)));
    on = λ h. absurd (omega arith);
  }

  module _ (dead : (w : List ℕ) → Path e accept_state reject_state w → ⊥) where
    -- if the graph agrees with the fragment's edges on the new states, the entry reads L up to the target
    abbrev pub ReadsBy : Words → Construction → Type 0
    ReadsBy L x = (target n : ℕ) → 0 < n → Agrees n (n + (x target n).size) e (x target n).edges → Reads e L target (x target n).entry

    abbrev pub ReadsByEach : Words → (ℕ → ℕ → Branches) → Type 0
    ReadsByEach L bs = (target n : ℕ) → 0 < n → Agrees n (n + (bs target n).size) e (bs target n).edges → ReadsFromSome e L target (bs target n).entries

    By-same : (L M : Words) (x : Construction) → ((w : List ℕ) → L w ↔ M w) → ReadsBy L x → ReadsBy M x
    By-same L M x f r target n up same = Reads-same e L M target (x target n).entry (λ w. (f w).0) (λ w. (f w).1) (r target n up same)

    By-nothing : ReadsBy (λ w. w ≡ []) nothing
    By-nothing target n up same = Reads-empty e target

    By-before : (L M : Words) (x y : Construction) → Leads Anywhere x → Leads Anywhere y → ReadsBy L x → ReadsBy M y → ReadsBy (Then L M) (before x y)
    By-before L M x y f g r t target n up same =
        let s = y target n in
        let a = x s.entry (n + s.size) in
        Reads-then e L M target s.entry a.entry
        (r s.entry (n + s.size) (omega arith)
        (Agrees-right n (n + (s.size + a.size)) (n + s.size) (n + s.size + a.size) n (n + s.size) s.edges a.edges same (omega arith) (omega arith) (inl (omega arith)) (construction_within y g target n)))
        (t target n up
        (Agrees-left n (n + (s.size + a.size)) n (n + s.size) (n + s.size) (n + s.size + a.size) s.edges a.edges same (omega arith) (omega arith) (inr (omega arith)) (construction_within x f s.entry (n + s.size))))

    By-one_of : (rs : List Range) → ReadsBy (OneOf rs) (one_of rs)
    By-one_of rs target n up same = Reads-test e dead rs target n (tests_at rs target n same up)

    character_expr : (c : ℕ) (cs w : List ℕ) → Then (OneOf (only c ∷ [])) (λ v. v ≡ cs) w ↔ (w ≡ c ∷ cs)
    character_expr c cs w = (given, λ h. (c ∷ [], cs, (h, (c, (refl, inl (omega arith, omega arith))), refl)))
      where
        same_value : (d : ℕ) → Covers (only c) d ⊎ ⊥ → d ≡ c
        same_value d (inl k) = omega (arith, k.0, k.1)
        same_value d (inr k) = absurd k

        given : Then (OneOf (only c ∷ [])) (λ v. v ≡ cs) w → w ≡ c ∷ cs
        given h = h.2.0 ∙ (ap (λ u. u ++ h.1) (h.2.1.1.0 ∙ ap (λ d. d ∷ []) (same_value h.2.1.0 h.2.1.1.1)) ∙ ap (λ v. c ∷ v) h.2.2)

    By-literal_expr : (cs : List ℕ) → ReadsBy (λ w. w ≡ cs) (literal_expr cs)
    By-literal_expr [] = By-nothing
    By-literal_expr (c ∷ cs) =
        By-same (Then (OneOf (only c ∷ [])) (λ v. v ≡ cs)) (λ w. w ≡ c ∷ cs) (literal_expr (c ∷ cs)) (character_expr c cs)
        (By-before (OneOf (only c ∷ [])) (λ v. v ≡ cs) (one_of (only c ∷ [])) (literal_expr cs) (Leads-one_of Anywhere (only c ∷ [])) (Leads-literal_expr Anywhere cs) (By-one_of (only c ∷ [])) (By-literal_expr cs))

    module _ (L : Words) (x : Construction) (f : Leads Anywhere x) (r : ReadsBy L x) where
      By-copies : (k : ℕ) → ReadsBy (Power k L) (copies x k)
      By-copies zero = By-nothing
      By-copies (suc k) = By-before L (Power k L) x (copies x k) f (Leads-copies Anywhere x f k) r (By-copies k)

      By-optional_expr : ReadsBy (Optional L) (optional_expr x)
      By-optional_expr target n up same =
          let a = x target n in
          let s : ℕ = n + a.size in
          let qs = target ∷ a.entry ∷ [] in
          Reads-optional_expr e L target s a.entry
          (alternates_at s qs (Agrees-right n (n + (a.size + 1)) s (s + 1) n s a.edges (noops_to s qs) same (omega arith) (omega arith) (inl (omega arith)) (construction_within x f target n)) (omega arith))
          (r target n up
          (Agrees-left n (n + (a.size + 1)) n s s (s + 1) a.edges (noops_to s qs) same (omega arith) (omega arith) (inr (omega arith)) (Fits-noops_to Anywhere s (s + 1) s qs (omega arith) (omega arith) (λ q m. tt))))

      By-optional_copies : (k : ℕ) → ReadsBy (Power k (Optional L)) (optional_copies x k)
      By-optional_copies zero = By-nothing
      By-optional_copies (suc k) = By-before (Optional L) (Power k (Optional L)) (optional_expr x) (optional_copies x k) (Leads-optional_expr Anywhere x f) (Leads-optional_copies Anywhere x f k) By-optional_expr (By-optional_copies k)

      -- the state of a loop, and the repetition that leads back to it
      looped : (target n : ℕ) → 0 < n → Agrees n (n + ((x n (n + 1)).size + 1)) e (star_expr x target n).edges
          → Forks e n (target ∷ (x n (n + 1)).entry ∷ []) × Reads e L n (x n (n + 1)).entry
      looped target n up same =
          let a = x n (n + 1) in
          let qs = target ∷ a.entry ∷ [] in
          let end : ℕ = n + (a.size + 1) in (
            alternates_at n qs (Agrees-right n end n (n + 1) (n + 1) (n + 1 + a.size) a.edges (noops_to n qs) same (omega arith) (omega arith) (inr (omega arith)) (construction_within x f n (n + 1))) up,
            r n (n + 1) (omega arith)
                (Agrees-left n end (n + 1) (n + 1 + a.size) n (n + 1) a.edges (noops_to n qs) same (omega arith) (omega arith) (inl (omega arith)) (Fits-noops_to Anywhere n (n + 1) n qs (omega arith) (omega arith) (λ q m. tt))),
          )

      By-star_expr : ReadsBy (Star L) (star_expr x)
      By-star_expr target n up same = let g = looped target n up same in Reads-star e L target n (x n (n + 1)).entry g.0 g.1

      By-plus_expr : ReadsBy (Then L (Star L)) (plus_expr x)
      By-plus_expr target n up same =
          let g = looped target n up same in
          Reads-then e L (Star L) target n (x n (n + 1)).entry g.1 (Reads-star e L target n (x n (n + 1)).entry g.0 g.1)

    By-never : (L : Words) (x : Construction) → ReadsBy (Then (Power 0 L) (Power 0 (Optional L))) (repeat_expr x 0 (Some 0))
    By-never L x = By-before (Power 0 L) (Power 0 (Optional L)) nothing nothing (Leads-nothing Anywhere) (Leads-nothing Anywhere) By-nothing By-nothing

    module _ (t : Tree) (greedy : Bool) (r : ReadsBy (Matches t) (fragment_of t)) where
      By-counted : (min max : ℕ) → min ≤ max → ReadsBy (Matches (repetition min (Some max) greedy t)) (repeat_expr (fragment_of t) min (Some max))
      By-counted min max o =
          By-same (Then (Power min (Matches t)) (Power (max - min) (Optional (Matches t)))) (Matches (repetition min (Some max) greedy t)) (repeat_expr (fragment_of t) min (Some max))
          (λ w. ((Matches-counted min max greedy t w o).1, (Matches-counted min max greedy t w o).0))
          (By-before (Power min (Matches t)) (Power (max - min) (Optional (Matches t))) (copies (fragment_of t) min) (optional_copies (fragment_of t) (max - min))
          (Leads-copies Anywhere (fragment_of t) (fragment_leads Anywhere t) min) (Leads-optional_copies Anywhere (fragment_of t) (fragment_leads Anywhere t) (max - min))
          (By-copies (Matches t) (fragment_of t) (fragment_leads Anywhere t) r min) (By-optional_copies (Matches t) (fragment_of t) (fragment_leads Anywhere t) r (max - min)))

      one_more : (k : ℕ) (w : List ℕ) → 1 ≤ k → Power k (Matches t) w → Then (Matches t) (Star (Matches t)) w
      one_more zero w l p = absurd (omega arith)
      one_more (suc k) w l p = (p.0, p.1, (p.2.0, p.2.1, (k, p.2.2)))

      By-open : (min : ℕ) → ReadsBy (Matches (repetition min None greedy t)) (repeat_expr (fragment_of t) min None)
      By-open zero =
          By-same (Star (Matches t)) (Matches (repetition 0 None greedy t)) (star_expr (fragment_of t))
          (λ w. (λ h. (h.0, (omega arith, h.1)), λ h. (h.0, h.1.1)))
          (By-star_expr (Matches t) (fragment_of t) (fragment_leads Anywhere t) r)
      By-open (suc zero) =
          By-same (Then (Matches t) (Star (Matches t))) (Matches (repetition 1 None greedy t)) (plus_expr (fragment_of t))
          (λ w. (λ h. (suc h.2.2.0, (omega arith, (h.0, h.1, (h.2.0, h.2.1, h.2.2.1)))), λ h. one_more h.0 w h.1.0 h.1.1))
          (By-plus_expr (Matches t) (fragment_of t) (fragment_leads Anywhere t) r)
      By-open (suc (suc k)) =
          By-same (Then (Power (suc (suc k)) (Matches t)) (Star (Matches t))) (Matches (repetition (suc (suc k)) None greedy t)) (repeat_expr (fragment_of t) (suc (suc k)) None)
          (λ w. ((Matches-open (suc (suc k)) greedy t w).1, (Matches-open (suc (suc k)) greedy t w).0))
          (By-before (Power (suc (suc k)) (Matches t)) (Star (Matches t)) (copies (fragment_of t) (suc (suc k))) (star_expr (fragment_of t))
          (Leads-copies Anywhere (fragment_of t) (fragment_leads Anywhere t) (suc (suc k))) (Leads-star_expr Anywhere (fragment_of t) (fragment_leads Anywhere t))
          (By-copies (Matches t) (fragment_of t) (fragment_leads Anywhere t) r (suc (suc k))) (By-star_expr (Matches t) (fragment_of t) (fragment_leads Anywhere t) r))

    By-class : (a : Class) → ReadsBy (Matches (class a)) (class_construction a)
    By-class (unicode rs) = By-one_of rs
    By-class (bytes rs) = By-one_of rs

    By-alternation_expr : (ts : Trees) → ReadsByEach (SomeMatches ts) (branches ts) → ReadsBy (SomeMatches ts) (alternation_expr (branches ts))
    By-alternation_expr ts r target n up same =
        let s = branches ts target (n + 1) in
        let end : ℕ = n + (s.size + 1) in
        Reads-alternation_expr e (SomeMatches ts) target n s.entries
        (alternates_at n s.entries (Agrees-right n end n (n + 1) (n + 1) (n + 1 + s.size) s.edges (noops_to n s.entries) same (omega arith) (omega arith) (inr (omega arith)) (branches_within ts target (n + 1))) up)
        (r target (n + 1) (omega arith)
        (Agrees-left n end (n + 1) (n + 1 + s.size) n (n + 1) s.edges (noops_to n s.entries) same (omega arith) (omega arith) (inl (omega arith)) (Fits-noops_to Anywhere n (n + 1) n s.entries (omega arith) (omega arith) (λ q m. tt))))

    By-also : (t : Tree) (ts : Trees) → ReadsBy (Matches t) (fragment_of t) → ReadsByEach (SomeMatches ts) (branches ts) → ReadsByEach (SomeMatches (also t ts)) (branches (also t ts))
    By-also t ts r q target n up same =
        let a = fragment_of t target n in
        let s = branches ts target (n + a.size) in
        let end : ℕ = n + (a.size + s.size) in
        FromSome-also e (Matches t) (SomeMatches ts) target a.entry s.entries
        (r target n up
        (Agrees-left n end n (n + a.size) (n + a.size) (n + a.size + s.size) a.edges s.edges same (omega arith) (omega arith) (inr (omega arith)) (branches_within ts target (n + a.size))))
        (q target (n + a.size) (omega arith)
        (Agrees-right n end (n + a.size) (n + a.size + s.size) n (n + a.size) a.edges s.edges same (omega arith) (omega arith) (inl (omega arith)) (fragment_within t target n)))

    module _ (K : Range → Type 0) where
      mutual
        pub fragment_reads : (t : Tree) → IsCompilableWithin K t → ReadsBy (Matches t) (fragment_of t)
        fragment_reads empty p = By-nothing
        fragment_reads (literal cs) p = By-literal_expr cs
        fragment_reads (class a) p = By-class a
        fragment_reads (look l) p = absurd p
        fragment_reads (repetition min None greedy t) p = By-open t greedy (fragment_reads t p) min
        fragment_reads (repetition min (Some zero) greedy t) p =
            rw p (By-same (Then (Power 0 (Matches t)) (Power 0 (Optional (Matches t)))) (Matches (repetition 0 (Some 0) greedy t)) (repeat_expr (fragment_of t) 0 (Some 0))
            (λ w. ((Matches-counted 0 0 greedy t w (omega arith)).1, (Matches-counted 0 0 greedy t w (omega arith)).0)) (By-never (Matches t) (fragment_of t)))
        fragment_reads (repetition min (Some (suc max)) greedy t) p = By-counted t greedy (fragment_reads t p.1) min (suc max) p.0
        fragment_reads (capture name t) p = fragment_reads t p
        fragment_reads (concat ts) p = concat_reads ts p
        fragment_reads (alternation ts) p = By-alternation_expr ts (branches_read ts p)

        pub concat_reads : (ts : Trees) → AreCompilableWithin K ts → ReadsBy (MatchInTurn ts) (concat_expr ts)
        concat_reads none p = By-nothing
        concat_reads (also t ts) p = By-before (Matches t) (MatchInTurn ts) (fragment_of t) (concat_expr ts) (fragment_leads Anywhere t) (concat_leads Anywhere ts) (fragment_reads t p.0) (concat_reads ts p.1)

        pub branches_read : (ts : Trees) → AreCompilableWithin K ts → ReadsByEach (SomeMatches ts) (branches ts)
        branches_read none p = λ target n up same. FromSome-none e target
        branches_read (also t ts) p = By-also t ts (fragment_reads t p.0) (branches_read ts p.1)
