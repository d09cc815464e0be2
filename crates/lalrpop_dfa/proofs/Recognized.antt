-- What the states of an automaton say of the words that lead to them, if it recognizes some trees.
use Rattle.std.proofs.Common.{◌≡◌, ℕ, ◌⊎◌, ◌↔◌, inl, inr, List, refl, sym, ap, ◌∙◌, subst}
use Rattle.std.specs.Prelude.{slice_get, Option, Some, None, IsSomeAnd}
use Rattle.lalrpop_hir.specs.Tree.{Tree}
use Rattle.lalrpop_hir.specs.Winners.{IsOnlyStrongest, Matched}
use Rattle.lalrpop_dfa.specs.Dfa.{Row, after, Recognizes, RecognizesAll, IsRightKind}
use Rattle.lalrpop_dfa.specs.Lookahead.{Accepted, AcceptedAs, IsAccepting}
use Rattle.lalrpop_dfa.proofs.EdgeTargets.{the_some}
use Rattle.lalrpop_dfa.specs.declared.Kind.{Kind}
use Rattle.lalrpop_dfa.specs.declared.Kind.TheVariants.{Accepts, Reject, Neither}

-- a state is of one of the three kinds
kind_ways : (o : Option Row) (P : Kind → Type 0) → IsSomeAnd o (λ r. P r.kind)
    → IsSomeAnd o (λ r. (i : ℕ) × ((r.kind ≡ Accepts i) × P (Accepts i))) ⊎ (IsSomeAnd o (λ r. r.kind ≡ Neither) ⊎ IsSomeAnd o (λ r. r.kind ≡ Reject))
kind_ways None P h = absurd h
kind_ways (Some r) P h = at r.kind refl h
  where
    at : (k : Kind) → r.kind ≡ k → P k → ((i : ℕ) × ((r.kind ≡ Accepts i) × P (Accepts i))) ⊎ ((r.kind ≡ Neither) ⊎ (r.kind ≡ Reject))
    at (Accepts i) e p = inl (i, (e, p))
    at Neither e p = inr (inl e)
    at Reject e p = inr (inr e)

accepting_of : (o : Option Row) (P : Kind → Type 0) → IsSomeAnd o (λ r. (i : ℕ) × ((r.kind ≡ Accepts i) × P (Accepts i))) → IsSomeAnd o (λ r. (i : ℕ) × (r.kind ≡ Accepts i))
accepting_of None P h = h
accepting_of (Some r) P h = (h.0, h.1.0)

its_tree : (o : Option Row) (P : Kind → Type 0) → IsSomeAnd o (λ r. (i : ℕ) × ((r.kind ≡ Accepts i) × P (Accepts i))) → (i : ℕ) × P (Accepts i)
its_tree None P h = absurd h
its_tree (Some r) P h = (h.0, h.1.1)

pub not_matched : (o : Option Row) (ts : List Tree) (ps w : List ℕ) → IsSomeAnd o (λ r. IsRightKind ts ps w r.kind) → IsSomeAnd o (λ r. r.kind ≡ Neither) ⊎ IsSomeAnd o (λ r. r.kind ≡ Reject) → ¬ Matched ts w
not_matched None ts ps w h (inl e) = absurd e
not_matched None ts ps w h (inr e) = absurd e
not_matched (Some r) ts ps w h (inl e) = subst (IsRightKind ts ps w) e h
not_matched (Some r) ts ps w h (inr e) = subst (IsRightKind ts ps w) e h

not_accepting : (o : Option Row) → IsSomeAnd o (λ r. r.kind ≡ Neither) ⊎ IsSomeAnd o (λ r. r.kind ≡ Reject) → ¬ IsSomeAnd o (λ r. (i : ℕ) × (r.kind ≡ Accepts i))
not_accepting None (inl e) a = e
not_accepting None (inr e) a = e
not_accepting (Some r) (inl e) (i, a) = let f : Neither ≡ Accepts i = sym e ∙ a in cc
not_accepting (Some r) (inr e) (i, a) = let f : Reject ≡ Accepts i = sym e ∙ a in cc

module _ (d : List Row) (ts : List Tree) (ps : List ℕ) (h : RecognizesAll d ts ps) where
  -- what is right after all lists of numbers is right after words
  pub on_words : Recognizes d ts ps
  on_words = record { kinds = λ w word. h.kinds w; stays = λ p c fits. h.stays p c }

  -- if a word matches, the state after it accepts
  pub matched_accepts : (w : List ℕ) → Matched ts w → IsAccepting d (after d w)
  matched_accepts w m = elim (kind_ways (slice_get d (after d w)) (IsRightKind ts ps w) (h.kinds w)) [
    | inl a ↦ accepting_of (slice_get d (after d w)) (IsRightKind ts ps w) a
    | inr o ↦ absurd (not_matched (slice_get d (after d w)) ts ps w (h.kinds w) o m)
  ]

  -- and if the state accepts, the word matches
  pub accepted_matched : (w : List ℕ) → Accepted d w → Matched ts w
  accepted_matched w a = elim (kind_ways (slice_get d (after d w)) (IsRightKind ts ps w) (h.kinds w)) [
    | inl b ↦ (let (i, only) = its_tree (slice_get d (after d w)) (IsRightKind ts ps w) b in (i, only.0.0))
    | inr o ↦ absurd (not_accepting (slice_get d (after d w)) o a)
  ]

  -- it accepts just the words that match, and as words of the one strongest tree
  pub recognized_words : (w : List ℕ) → Accepted d w ↔ Matched ts w
  recognized_words w = (accepted_matched w, matched_accepts w)

  pub recognized_by : (i : ℕ) (w : List ℕ) → AcceptedAs d i w ↔ IsOnlyStrongest ts ps w i
  recognized_by i w = (
    λ a. (let (r, (at, kind)) = the_some (slice_get d (after d w)) (λ r. r.kind ≡ Accepts i) a in
        let right : IsRightKind ts ps w r.kind = rw at at (h.kinds w) in subst (IsRightKind ts ps w) kind right),
    λ only. elim (kind_ways (slice_get d (after d w)) (IsRightKind ts ps w) (h.kinds w)) [
      | inl b ↦ (let (r, (at, (j, (kind, strongest)))) = the_some (slice_get d (after d w)) (λ r. (i : ℕ) × ((r.kind ≡ Accepts i) × IsOnlyStrongest ts ps w i)) b in
          rw at (kind ∙ ap (λ k. Accepts k) (sym (strongest.1 i only.0))))
      | inr o ↦ absurd (not_matched (slice_get d (after d w)) ts ps w (h.kinds w) o (i, only.0.0))
    ],
  )
