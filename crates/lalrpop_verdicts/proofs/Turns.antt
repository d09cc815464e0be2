-- A text that grew by the text of one element of a list, with the texts of the elements that are left.
use Rattle.std.proofs.Common.{◌≡◌, ℕ, ◌+◌, ◌<◌, ◌≤◌, Bool, false, List, ◌∷◌, ◌++◌, length, drop, get_or, inl, inr, refl, sym, ap, ◌∙◌, append_assoc, arith}
use Rattle.std.specs.Prelude.{slice_get, Some, None, IsSomeAnd}
use Rattle.std.proofs.lemmas.List.{at_drop_more}
use Rattle.std.proofs.lemmas.Option.{slice_get_within, slice_get-get_or, slice_get_cases, slice_get_past, get_or_from_slice_get}
use Rattle.lalrpop_dfa.specs.Dfa.{Row, StoredState, AreStored}
use Rattle.lalrpop_dfa.specs.declared.Kind.{Kind}
use Rattle.lalrpop_verdicts.specs.Picture.{edges_from, is_live, is_live_at, row_edges, state_line, states_from}

module _ {X : Type 0} (F : ℕ → List X → List ℕ) (f : ℕ → X → List ℕ) (step : (n : ℕ) (x : X) (xs : List X) → F n (x ∷ xs) ≡ f n x ++ F (n + 1) xs) where
  turn : (d : List X) (n : ℕ) (x : X) (old new whole : List ℕ) → slice_get d n ≡ Some x → new ≡ old ++ f n x → old ++ F n (drop n d) ≡ whole
      → new ++ F (n + 1) (drop (n + 1) d) ≡ whole
  turn d n x old new whole at grown was =
      let rest = drop (n + 1) d in
      let first : F n (drop n d) ≡ F n (get_or d n x ∷ rest) = at_drop_more (F n) d n x (slice_get_within d n x at) in
      let same : F n (get_or d n x ∷ rest) ≡ F n (x ∷ rest) = ap (λ (y : X). F n (y ∷ rest)) (get_or_from_slice_get d n x x at) in
      ap (λ (t : List ℕ). t ++ F (n + 1) rest) grown ∙ append_assoc old (f n x) (F (n + 1) rest)
      ∙ ap (λ (t : List ℕ). old ++ t) (sym (first ∙ same ∙ step n x rest)) ∙ was

-- ---- states
-- the state at a number, as it is read
module _ (d : List Row) (states : List StoredState) (n : ℕ) (s : StoredState) (kind : Kind)
    (are : AreStored d states) (l : n < length states) (is : s ≡ get_or states n s) (same : kind ≡ s.kind) where
  pub row_read : (r : Row) × ((slice_get d n ≡ Some r) × (kind ≡ r.kind))
  row_read = elim (slice_get_cases d n).1 [
    | inl x ↦ (
        let at : slice_get states n ≡ Some s = slice_get-get_or states n s l ∙ ap (λ (y : StoredState). Some y) (sym is) in
        (x.0, (x.2, same ∙ (are.each n x.0 s x.2 at).kind)))
    | inr past ↦ absurd (omega (arith, past.0, are.same_length))
  ]

  pub live_read : (b : Bool) → b ≡ is_live kind → b ≡ is_live_at d n
  live_read b told = told ∙ ap is_live row_read.1.1 ∙ rw (row_read.1.0, is_live_at) refl

  pub states_turn : (names : List (List ℕ)) (old new whole : List ℕ) → new ≡ old ++ state_line names n kind
      → old ++ states_from names n (drop n d) ≡ whole → new ++ states_from names (n + 1) (drop (n + 1) d) ≡ whole
  states_turn names old new whole grown was =
      turn (states_from names) (λ k r. state_line names k r.kind) (λ k r rs. refl) d n row_read.0 old new whole row_read.1.0
      (grown ∙ ap (λ (k : Kind). old ++ state_line names n k) row_read.1.1) was

pub live_past : (d : List Row) (states : List StoredState) (n : ℕ) → AreStored d states → length states ≤ n → false ≡ is_live_at d n
live_past d states n are past = let none : slice_get d n ≡ None = slice_get_past d n (omega (arith, are.same_length)) in rw (none, is_live_at) refl

-- ---- edges
pub edges_turn : (d : List Row) (n : ℕ) (old new whole : List ℕ) → IsSomeAnd (slice_get d n) (λ r. new ≡ old ++ row_edges d n r)
    → old ++ edges_from d n (drop n d) ≡ whole → new ++ edges_from d (n + 1) (drop (n + 1) d) ≡ whole
edges_turn d n old new whole grown was = elim (slice_get_cases d n).1 [
  | inl x ↦ turn (edges_from d) (row_edges d) (λ k r rs. refl) d n x.0 old new whole x.2 (rw x.2 at grown) was
  | inr past ↦ absurd (rw past.1 at grown)
]
