-- What a run that remembers knows about the noted pairs: no match comes from them, or they led, along open states, to where it is.
use Rattle.std.proofs.Common.{◌≡◌, ℕ, ◌+◌, ◌-◌, ◌*◌, ◌≤◌, ◌⊎◌, ⊎_elim, inl, inr, List, [], ◌∷◌, ◌++◌, length, drop, sym, ap, subst, ◌∙◌, arith, append_assoc, length-append, length-drop}
use Rattle.std.proofs.lemmas.List.{drop-drop}
use Rattle.lalrpop_dfa.specs.Dfa.{Row, step, run}
use Rattle.lalrpop_dfa.specs.Lookahead.{IsOpen}
use Rattle.lalrpop_dfa.specs.Internal.Marks.{StaysOpen}
use Rattle.lalrpop_dfa.proofs.AfterLaws.{run_append}
use Rattle.lalrpop_dense.specs.Internal.Memory.{Memory, IsNoted}
use Rattle.lalrpop_dense.specs.Internal.Hopeless.{IsHopeless, IsSound}
use Rattle.lalrpop_dense.proofs.Hopes.{hopeless_join, stays_join}

-- the word `from` leads from the state p along open states to the state here, where `rest` is left of it
pub record IsPending (d : List Row) (p : ℕ) (from rest : List ℕ) (state : ℕ) : Type 0 where
  pub along : List ℕ
  pub split : from ≡ along ++ rest
  pub stays : StaysOpen d p along
  pub leads : run d p along ≡ state

-- `all` is what was left of the text after `at` characters, `rest` is what is left now: this holds of the pairs noted after the first `bound` characters of `all`
abbrev pub IsKept : List Row → Memory → ℕ → List ℕ → ℕ → List ℕ → ℕ → Type 0
IsKept d m at all bound rest state =
    (p k i : ℕ) → IsNoted m p k → 64 * k ≡ at + i → bound ≤ i → IsHopeless d p (drop i all) ⊎ IsPending d p (drop i all) rest state

-- how long `rest` may be where a pair is pending
pending_length : (d : List Row) (p i state : ℕ) (all rest : List ℕ) → IsPending d p (drop i all) rest state → length rest ≤ length all - i
pending_length d p i state all rest h = omega (arith, ap length h.split, length-append h.along rest, length-drop i all)

pub kept_start : (d : List Row) (m : Memory) (at bound : ℕ) (all rest : List ℕ) (state : ℕ) → IsSound d m at all → IsKept d m at all bound rest state
kept_start d m at bound all rest state s = λ p k i n e l. inl (s p k i n e)

-- a match ends here, after the first j characters
pub kept_accept : (d : List Row) (m : Memory) (at bound j c state state2 : ℕ) (all rest : List ℕ) → length all ≡ j + length rest → bound ≤ j
    → IsKept d m at all bound (c ∷ rest) state → IsKept d m at all j rest state2
kept_accept d m at bound j c state state2 all rest long up h = λ p k i n e l.
    ⊎_elim (λ (a : IsHopeless d p (drop i all)). inl a)
    (λ (a : IsPending d p (drop i all) (c ∷ rest) state).
    absurd (let some : length (c ∷ rest) ≤ length all - i = pending_length d p i state all (c ∷ rest) a in omega arith))
    (h p k i n e (omega arith))

onward : (d : List Row) (p c state : ℕ) (from rest : List ℕ) → IsOpen d (step d state c) → IsPending d p from (c ∷ rest) state → IsPending d p from rest (step d state c)
onward d p c state from rest o h = record {
  along = h.along ++ c ∷ [];
  split = h.split ∙ sym (append_assoc h.along (c ∷ []) rest);
  stays = stays_join d p h.along c h.stays (subst (λ (q : ℕ). IsOpen d (step d q c)) (sym h.leads) o);
  leads = run_append d p h.along (c ∷ []) ∙ ap (λ (q : ℕ). step d q c) h.leads;
}

-- one more character leads to an open state, which may have been noted
pub kept_open : (d : List Row) (m m2 : Memory) (at bound j index c state state2 : ℕ) (all rest : List ℕ) → drop j all ≡ rest → index ≡ at + j → state2 ≡ step d state c → IsOpen d state2
    → ((p k : ℕ) → IsNoted m2 p k → IsNoted m p k ⊎ ((p ≡ state2) × (64 * k ≡ index)))
    → IsKept d m at all bound (c ∷ rest) state → IsKept d m2 at all bound rest state2
kept_open d m m2 at bound j index c state state2 all rest here place leads o only h = λ p k i n e l.
    ⊎_elim
    (λ (a : IsNoted m p k).
    ⊎_elim (λ (b : IsHopeless d p (drop i all)). inl b)
    (λ (b : IsPending d p (drop i all) (c ∷ rest) state).
    inr (subst (IsPending d p (drop i all) rest) (sym leads) (onward d p c state (drop i all) rest (subst (IsOpen d) leads o) b)))
    (h p k i a e l))
    (λ (a : (p ≡ state2) × (64 * k ≡ index)).
    let same : i ≡ j = omega arith in
    inr (record {
      along = [];
      split = ap (λ (n : ℕ). drop n all) same ∙ here;
      stays = tt;
      leads = a.0;
    }))
    (only p k n)

-- where no match comes from here, none comes from what is pending
pub settled : (d : List Row) (m : Memory) (at bound state : ℕ) (all rest : List ℕ) → IsHopeless d state rest → IsKept d m at all bound rest state
    → (n j : ℕ) → n ≡ at + j → bound ≡ j → IsSound d m n (drop j all)
settled d m at bound state all rest none h n j is e = λ p k i noted place.
    let both : drop i (drop j all) ≡ drop (j + i) all = drop-drop i j all in
    subst (IsHopeless d p) (sym both)
    (⊎_elim (λ (a : IsHopeless d p (drop (j + i) all)). a)
    (λ (a : IsPending d p (drop (j + i) all) rest state).
    subst (IsHopeless d p) (sym a.split) (hopeless_join d p a.along rest a.stays (subst (λ (q : ℕ). IsHopeless d q rest) (sym a.leads) none)))
    (h p k (j + i) noted (omega arith) (omega arith)))

-- a pair that is met again is hopeless: what is pending was noted before
pub known_hopeless : (d : List Row) (m : Memory) (at bound j index c k state state2 : ℕ) (all rest : List ℕ) → length all ≡ j + length rest → drop j all ≡ rest → bound ≤ j
    → index ≡ at + j → IsNoted m state2 k → 64 * k ≡ index → IsKept d m at all bound (c ∷ rest) state → IsHopeless d state2 rest
known_hopeless d m at bound j index c k state state2 all rest long here up is noted place h =
    subst (IsHopeless d state2) here
    (⊎_elim (λ (a : IsHopeless d state2 (drop j all)). a)
    (λ (a : IsPending d state2 (drop j all) (c ∷ rest) state).
    absurd (let some : length (c ∷ rest) ≤ length all - j = pending_length d state2 j state all (c ∷ rest) a in omega arith))
    (h state2 k j noted (place ∙ is) up))
