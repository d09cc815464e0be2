-- Automata whose dead states reject.
use Rattle.std.proofs.Common.{◌≡◌, ℕ, ◌+◌, ◌<◌, ◌≤◌, ◌⊎◌, inl, inr, ⊎_elim, List, [], ◌∷◌, length, refl, sym, ap, ◌∙◌, subst, arith, Bool}
use Rattle.std.specs.Prelude.{slice_get, Option, Some, IsSomeAnd}
use Rattle.std.specs.List.{Contains}
use Rattle.std.proofs.lemmas.Bool.{cases_lt}
use Rattle.std.proofs.lemmas.Option.{slice_get_cases, slice_get_within}
use Rattle.lalrpop_hir.specs.Tree.{Tree}
use Rattle.lalrpop_dfa.specs.declared.Kind.TheVariants.{Reject, Neither}
use Rattle.lalrpop_dfa.specs.Dfa.{Row, step, run, after, edge_target, IsReject, IsRightKind, IsWellFormed, RecognizesAll, AreAscendingTests}
use Rattle.lalrpop_dfa.specs.Lookahead.{IsAccepting, IsLive, IsTrim, IsTrimmed}
use Rattle.lalrpop_dfa.specs.Internal.Marks.{AreLive, Marked}
use Rattle.lalrpop_dfa.specs.Stored.{AreListed, IsRejecting}
use Rattle.lalrpop_dfa.proofs.EdgeTargets.{step_of, step_within, the_some}
use Rattle.lalrpop_dfa.proofs.Recognized.{matched_accepts}

-- ---- state by state: those before the place n are done
pub record IsTrimmedTo (d e : List Row) (live : List Bool) (n : ℕ) : Type 0 where
  pub same_length : length e ≡ length d
  pub done : (p : ℕ) (r : Row) → p < n → slice_get d p ≡ Some r
      → (Marked live p × (slice_get e p ≡ Some r)) ⊎ ((¬ Marked live p) × (slice_get e p ≡ Some (record r { kind = Reject })))
  pub left : (p : ℕ) → n ≤ p → slice_get e p ≡ slice_get d p

pub trim_first : (d : List Row) (live : List Bool) → IsTrimmedTo d d live 0
trim_first d live = record { same_length = refl; done = λ p r l. absurd (omega arith); left = λ p l. refl }

module _ (d e : List Row) (live : List Bool) (n : ℕ) (h : IsTrimmedTo d e live n) where
  pub trim_kept : Marked live n → IsTrimmedTo d e live (n + 1)
  trim_kept m = record {
    same_length = h.same_length;
    done = λ p r l at.
        ⊎_elim (λ (x : p < n). h.done p r x at)
        (λ (x : n ≤ p). let e : n ≡ p = omega arith in inl (subst (Marked live) e m, h.left p x ∙ at))
        (cases_lt p n);
    left = λ p l. h.left p (omega arith);
  }

  pub trim_rejected : (e2 : List Row) → ¬ Marked live n → IsRejecting e n e2 → IsTrimmedTo d e2 live (n + 1)
  trim_rejected e2 not one = record {
    same_length = one.same_length ∙ h.same_length;
    done = λ p r l at.
        ⊎_elim
        (λ (x : p < n). let same : slice_get e2 p ≡ slice_get e p = one.others p (omega arith) in rw same (h.done p r x at))
        (λ (x : n ≤ p).
        let e : n ≡ p = omega arith in
        let here : slice_get d n ≡ Some r = subst (λ q. slice_get d q ≡ Some r) (sym e) at in
        inr (subst (λ q. (¬ Marked live q) × (slice_get e2 q ≡ Some (record r { kind = Reject }))) e (not, one.rejects r (h.left n (omega arith) ∙ here))))
        (cases_lt p n);
    left = λ p l. one.others p (omega arith) ∙ h.left p (omega arith);
  }

pub trim_end : (d e : List Row) (live : List Bool) (n : ℕ) → length d ≤ n → AreLive d live → IsTrimmedTo d e live n → IsTrimmed d e
trim_end d e live n all are h = record {
  same_length = h.same_length;
  each = λ p r s at there.
      let l : p < length d = slice_get_within d p r at in
      elim (h.done p r (omega arith) at) [
        | inl (m, same) ↦ inl ((are.each p l).0 m, (let g : Some s ≡ Some r = sym there ∙ same in cc))
        | inr (not, is) ↦ inr (λ live. not ((are.each p l).1 live), (let g : Some s ≡ Some (record r { kind = Reject }) = sym there ∙ is in cc))
      ];
}

-- ---- the edges stay
module _ (d e : List Row) (h : IsTrimmed d e) where
  pub row_before : (p : ℕ) (s : Row) → slice_get e p ≡ Some s → (r : Row) × ((slice_get d p ≡ Some r) × (s.tests ≡ r.tests) × (s.other ≡ r.other))
  row_before p s there = elim (slice_get_cases d p).1 [
    | inl x ↦ (
      x.0,
      (
        x.2,
        elim (h.each p x.0 s x.2 there) [ inl a ↦ ap (λ (u : Row). u.tests) a.1 | inr a ↦ ap (λ (u : Row). u.tests) a.1 ],
        elim (h.each p x.0 s x.2 there) [ inl a ↦ ap (λ (u : Row). u.other) a.1 | inr a ↦ ap (λ (u : Row). u.other) a.1 ],
      ),
    )
    | inr past ↦ absurd (omega (arith, past.0, slice_get_within e p s there, h.same_length))
  ]

  pub row_after : (p : ℕ) (r : Row) → slice_get d p ≡ Some r → (s : Row) × (slice_get e p ≡ Some s)
  row_after p r at = elim (slice_get_cases e p).1 [
    | inl x ↦ (x.0, x.2)
    | inr past ↦ absurd (omega (arith, past.0, slice_get_within d p r at, h.same_length))
  ]

  pub same_step : (p c : ℕ) → step e p c ≡ step d p c
  same_step p c = elim (slice_get_cases e p).1 [
    | inl x ↦ (let (r, (at, tests, other)) = row_before p x.0 x.2 in
        step_of e p c x.0 x.2 ∙ ap (λ ts. edge_target ts x.0.other c) tests ∙ ap (λ o. edge_target r.tests o c) other ∙ sym (step_of d p c r at))
    | inr past ↦ elim (slice_get_cases d p).1 [
      | inl y ↦ absurd (omega (arith, past.0, y.1, h.same_length))
      | inr also ↦ rw (past.1, also.1) refl
    ]
  ]

  pub same_run : (p : ℕ) (w : List ℕ) → run e p w ≡ run d p w
  same_run p [] = refl
  same_run p (c ∷ w) = ap (λ q. run e q w) (same_step p c) ∙ same_run (step d p c) w

  pub trimmed_well : IsWellFormed d → IsWellFormed e
  trimmed_well well = record {
    some = omega (arith, well.some, h.same_length);
    ascending = λ p s there. (let (r, (at, tests, other)) = row_before p s there in subst AreAscendingTests (sym tests) (well.ascending p r at));
    tests_in = λ p s t there has.
        (let (r, (at, tests, other)) = row_before p s there in omega (arith, well.tests_in p r t at (subst (λ ts. Contains ts t) tests has), h.same_length));
    others_in = λ p s there. (let (r, (at, tests, other)) = row_before p s there in omega (arith, other, well.others_in p r at, h.same_length));
  }

  pub trimmed_listed : (places : List (Option ℕ)) (lists : List (List ℕ)) → AreListed d places lists → AreListed e places lists
  trimmed_listed places lists are = record {
    same_length = are.same_length ∙ sym h.same_length;
    each = λ p k at.
        (let (targets, (there, steps)) = are.each p k at in
        (targets, (there, λ c l. steps c l ∙ ap (λ q. Some q) (sym (same_step p c)))));
  }

  -- ---- what accepts is live, so it stays
  pub accepts_after : (p : ℕ) → IsAccepting d p → IsAccepting e p
  accepts_after p a = elim (slice_get_cases d p).1 [
    | inl x ↦ (let (s, there) = row_after p x.0 x.2 in
        elim (h.each p x.0 s x.2 there) [
          | inl (live, same) ↦ rw (there, same) (rw x.2 at a)
          | inr (dead, is) ↦ absurd (dead ([], a))
        ])
    | inr past ↦ absurd (rw past.1 at a)
  ]

  pub live_after : (p : ℕ) → IsLive d p → IsLive e p
  live_after p (z, a) = (z, rw (same_run p z) (accepts_after (run d p z) a))

  -- only reject states are dead
  pub trimmed_trim : IsTrim e
  trimmed_trim p o = elim (slice_get_cases e p).1 [
    | inl x ↦ (let (r, (at, tests, other)) = row_before p x.0 x.2 in
        elim (h.each p r x.0 at x.2) [
          | inl (live, same) ↦ live_after p live
          | inr (dead, is) ↦ absurd (let kind : x.0.kind ≡ Neither = rw x.2 at o in let no : Reject ≡ Neither = sym (ap (λ (u : Row). u.kind) is) ∙ kind in cc)
        ])
    | inr past ↦ absurd (rw past.1 at o)
  ]

  reject_after : (p : ℕ) → IsReject d p → IsReject e p
  reject_after p j = elim (slice_get_cases d p).1 [
    | inl x ↦ (let (s, there) = row_after p x.0 x.2 in
        elim (h.each p x.0 s x.2 there) [
          | inl (live, same) ↦ rw (there, same) (rw x.2 at j)
          | inr (dead, is) ↦ rw (there, is) refl
        ])
    | inr past ↦ absurd (rw past.1 at j)
  ]

  dead_rejects : IsWellFormed d → (p : ℕ) → p < length d → ¬ IsLive d p → IsReject e p
  dead_rejects well p l dead = elim (slice_get_cases d p).1 [
    | inl x ↦ (let (s, there) = row_after p x.0 x.2 in
        elim (h.each p x.0 s x.2 there) [
          | inl (live, same) ↦ absurd (dead live)
          | inr (not, is) ↦ rw (there, is) refl
        ])
    | inr past ↦ absurd (omega (arith, past.0))
  ]

  -- it recognizes what d does
  pub trimmed_recognizes : IsWellFormed d → (ts : List Tree) (ps : List ℕ) → RecognizesAll d ts ps → RecognizesAll e ts ps
  trimmed_recognizes well ts ps stands = record { kinds = kinds; stays = stays }
    where
      kinds : (w : List ℕ) → IsSomeAnd (slice_get e (after e w)) (λ s. IsRightKind ts ps w s.kind)
      kinds w =
          let (r, (at, right)) = the_some (slice_get d (after d w)) (λ x. IsRightKind ts ps w x.kind) (stands.kinds w) in
          let (s, there) = row_after (after d w) r at in
          let here : slice_get e (after e w) ≡ Some s = ap (slice_get e) (same_run 0 w) ∙ there in
          elim (h.each (after d w) r s at there) [
            | inl (live, same) ↦ rw (here, same) right
            | inr (dead, is) ↦ rw (here, is) (λ m. dead ([], matched_accepts d ts ps stands w m))
          ]

      stays : (p c : ℕ) → IsReject e p → IsReject e (step e p c)
      stays p c j = elim (slice_get_cases e p).1 [
        | inl x ↦ (let (r, (at, tests, other)) = row_before p x.0 x.2 in
            let l : p < length d = slice_get_within d p r at in
            rw (same_step p c)
            (elim (h.each p r x.0 at x.2) [
              | inl (live, same) ↦
                  reject_after (step d p c) (stands.stays p c (let kind : x.0.kind ≡ Reject = rw x.2 at j in rw at (sym (ap (λ (u : Row). u.kind) same) ∙ kind)))
              | inr (dead, is) ↦ dead_rejects well (step d p c) (step_within d p c well l) (λ (z, a). dead (c ∷ z, a))
            ]))
        | inr past ↦ absurd (rw past.1 at j)
      ]
