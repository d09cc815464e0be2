-- The least tokens side by side, from the first pairs of states at which they end.
use Rattle.std.proofs.Common.{◌≡◌, ◌≢◌, ℕ, ◌++◌, List, [], slice_get, sym, ap, ◌∙◌, subst}
use Rattle.std.specs.Prelude.{◌↔◌}
use Rattle.lalrpop_dfa.specs.Dfa.{Row, run, after}
use Rattle.lalrpop_dfa.specs.Lookahead.{IsAccepting}
use Rattle.lalrpop_dfa.specs.Witness.{IsLeast}
use Rattle.lalrpop_dfa.proofs.AfterLaws.{run_append}
use Rattle.lalrpop_verdicts.specs.Answers.{IsTextWord, accepted_at, answer}
use Rattle.lalrpop_verdicts.specs.Beside.{IsToken, RunsOn, IsLeastPair}
use Rattle.lalrpop_verdicts.specs.Internal.Beside.{AreBeside, EndsHead, EndsTail, Fits, IsAhead, IsTail, Passes}
use Rattle.lalrpop_verdicts.specs.Internal.Pairs.{LeadTo}
use Rattle.lalrpop_verdicts.specs.declared.pairs.Pair.{Pair}
use Rattle.lalrpop_verdicts.specs.declared.pairs.Follow.TheVariants.{All}
use Rattle.lalrpop_verdicts.specs.declared.side_by_side.Cut.{Cut}
use Rattle.lalrpop_verdicts.specs.declared.side_by_side.Cut.TheVariants.{Kept, Lost}
use Rattle.lalrpop_verdicts.proofs.AheadLaws.{to_passes, from_passes}
use Rattle.lalrpop_verdicts.proofs.Differing.{accepted_after}

alike_fits : (cut : Cut) (A B : Type 0) → A ↔ B → Fits cut A → Fits cut B
alike_fits Kept A B h fits = λ b. fits (h.1 b)
alike_fits Lost A B h fits = h.0 fits

turned : (A B : Type 0) → A ↔ B → B ↔ A
turned A B h = (h.1, h.0)

-- ---- the second token
module _ (cut : Cut) (d : List Row) (p : ℕ) (e : List Row) (j : ℕ) (h : IsAhead d p e) where
  pub tail_text : (b : List ℕ) → IsTail cut d p j b → IsTextWord b × (b ≢ [])
  tail_text b t = (t.0.0, t.0.1)

  pub tail_pair : (x : Pair) (b : List ℕ) → LeadTo All e d x.left x.right b → IsTail cut d p j b ↔ EndsTail cut e d j x
  tail_pair x b lead = (
    λ t. (alike_fits cut (Passes d p b) (IsAccepting e x.left) passes t.1, by ∙ t.0.2),
    λ s. ((lead.text, lead.some, sym by ∙ s.1), alike_fits cut (IsAccepting e x.left) (Passes d p b) (turned (Passes d p b) (IsAccepting e x.left) passes) s.0),
  )
    where
      by : accepted_at (slice_get d x.right) ≡ answer d b
      by = accepted_after d x.right b lead.right

      passes : Passes d p b ↔ IsAccepting e x.left
      passes = (λ s. subst (IsAccepting e) lead.left (from_passes d p e h b s), λ a. to_passes d p e h b lead.some (subst (IsAccepting e) (sym lead.left) a))

-- ---- the first token
runs_as_passes : (d : List Row) (p : ℕ) (a b : List ℕ) → after d a ≡ p → RunsOn d a b ↔ Passes d p b
runs_as_passes d p a b led = (
  λ (u, v, is, some, x). (u, v, is, some, subst (IsAccepting d) (same u) x),
  λ (u, v, is, some, x). (u, v, is, some, subst (IsAccepting d) (sym (same u)) x),
)
  where
    same : (u : List ℕ) → after d (a ++ u) ≡ run d p u
    same u = run_append d 0 a u ∙ ap (λ q. run d q u) led

module _ (cut : Cut) (d : List Row) (i j : ℕ) where
  -- some token of j is cut so after the word
  abbrev pub IsHead : List ℕ → Type 0
  IsHead a = (b : List ℕ) × AreBeside cut d i j a b

  pub head_text : (a : List ℕ) → IsHead a → IsTextWord a × (a ≢ [])
  head_text a (b, t) = (t.0.0, t.0.1)

  -- what comes after a token that leads to the state
  tail_of : (p : ℕ) (a b : List ℕ) → after d a ≡ p → AreBeside cut d i j a b → IsTail cut d p j b
  tail_of p a b led t = (t.1, alike_fits cut (RunsOn d a b) (Passes d p b) (runs_as_passes d p a b led) t.2)

  with_tail : (p : ℕ) (a b : List ℕ) → after d a ≡ p → IsToken d i a → IsTail cut d p j b → AreBeside cut d i j a b
  with_tail p a b led token t = (token, t.0, alike_fits cut (Passes d p b) (RunsOn d a b) (turned (RunsOn d a b) (Passes d p b) (runs_as_passes d p a b led)) t.1)

  pub head_pair : (x : Pair) (a : List ℕ) → LeadTo All d d x.left x.right a → IsHead a ↔ EndsHead cut d i j x
  head_pair x a lead = (
    λ (b, t). (by ∙ t.0.2, (b, tail_of x.left a b lead.left t)),
    λ (is, (b, t)). (b, with_tail x.left a b lead.left (lead.text, lead.some, sym by ∙ is) t),
  )
    where
      by : accepted_at (slice_get d x.left) ≡ answer d a
      by = accepted_after d x.left a lead.left

  pub least_of_both : (p : ℕ) (a b : List ℕ) → after d a ≡ p → IsLeast IsHead a → IsLeast (IsTail cut d p j) b → IsLeastPair (AreBeside cut d i j) (record { first = a; second = b })
  least_of_both p a b led head tail = record {
    first = head;
    second = record {
      holds = with_tail p a b led (let (c, t) = head.holds in t.0) tail.holds;
      least = λ u less t. tail.least u less (tail_of p a u led t);
    };
  }
