-- Words that are read off, each value the least that leads on: the least words.
use Rattle.std.proofs.Common.{◌≡◌, ◌≢◌, ℕ, zero, suc, inl, inr, ◌<◌, ◌≤◌, List, [], ◌∷◌, ◌++◌, length, refl, ap, ◌∙◌, subst, arith, append_assoc}
use Rattle.std.specs.Prelude.{Some}
use Rattle.lalrpop_hir.specs.Word.{IsWord, FirstDifferenceLess, Shortlex}
use Rattle.lalrpop_dfa.specs.Dfa.{Row, step, run, after, IsWellFormed}
use Rattle.lalrpop_dfa.specs.Lookahead.{Accepted}
use Rattle.lalrpop_dfa.specs.Witness.{IsOpenMatch, IsWitness}
use Rattle.lalrpop_dfa.specs.Internal.Marks.{WaitsAlong}
use Rattle.lalrpop_dfa.proofs.Openness.{opened, waits_of}
use Rattle.lalrpop_dfa.specs.Internal.Ranks.{IsLeastInto, StaysFor, IsGoal, IsNear, IsGreedy}

module _ (d : List Row) (Q : ℕ → ℕ → Type 0) where
  pub greedy_length : (n p : ℕ) (w : List ℕ) → IsGreedy d Q n p w → length w ≡ n
  greedy_length zero p [] g = refl
  greedy_length zero p (c ∷ w) g = absurd g
  greedy_length (suc n) p [] g = absurd g
  greedy_length (suc n) p (c ∷ w) g = omega (arith, greedy_length n (step d p c) w g.1)

  pub greedy_word : (n p : ℕ) (w : List ℕ) → IsGreedy d Q n p w → IsWord w
  greedy_word zero p [] g = tt
  greedy_word zero p (c ∷ w) g = absurd g
  greedy_word (suc n) p [] g = absurd g
  greedy_word (suc n) p (c ∷ w) g = (g.0.0, greedy_word n (step d p c) w g.1)

  -- one more value
  pub greedy_more : (m p n q c : ℕ) (w : List ℕ) → IsLeastInto d (Q n) q (Some c) → ((z : List ℕ) → IsGreedy d Q (suc n) q z → IsGreedy d Q m p (w ++ z))
      → (z : List ℕ) → IsGreedy d Q n (step d q c) z → IsGreedy d Q m p ((w ++ c ∷ []) ++ z)
  greedy_more m p n q c w least so_far z g = rw (append_assoc w (c ∷ []) z) (so_far (c ∷ z) (least, g))

  -- no word with T of the same length is less, if a first value of such a word leads to Q
  module _ (T : ℕ → List ℕ → Type 0) (first : (p b : ℕ) (u : List ℕ) → IsWord u → T p (b ∷ u) → Q (length u) (step d p b)) (rest : (p b : ℕ) (u : List ℕ) → T p (b ∷ u) → T (step d p b) u) where
    pub greedy_least : (n p : ℕ) (w u : List ℕ) → IsGreedy d Q n p w → IsWord u → length u ≡ n → T p u → ¬ FirstDifferenceLess u w
    greedy_least n p w [] g f e t less = absurd less
    greedy_least zero p [] (b ∷ u) g f e t less = absurd less
    greedy_least zero p (c ∷ w) (b ∷ u) g f e t less = absurd g
    greedy_least (suc n) p [] (b ∷ u) g f e t less = absurd g
    greedy_least (suc n) p (c ∷ w) (b ∷ u) g f e t (inl less) =
        let long : length u ≡ n = omega arith in
        g.0.2 b less (subst (λ (k : ℕ). Q k (step d p b)) long (first p b u f.1 t))
    greedy_least (suc n) p (c ∷ w) (b ∷ u) g f e t (inr (same, less)) =
        let here : T (step d p c) u = subst (λ (x : ℕ). T (step d p x) u) same (rest p b u t) in
        greedy_least n (step d p c) w u g.1 f.1 (omega arith) here less

module _ (d : List Row) where
  -- ---- values along states that wait
  pub greedy_stays : (n p : ℕ) (w : List ℕ) → IsGreedy d (StaysFor d) n p w → WaitsAlong d p w
  greedy_stays zero p [] g = tt
  greedy_stays zero p (c ∷ w) g = absurd g
  greedy_stays (suc n) p [] g = absurd g
  greedy_stays (suc n) p (c ∷ w) g = (g.0.1.0, greedy_stays n (step d p c) w g.1)

  no_less_values : (n p : ℕ) (w u : List ℕ) → IsGreedy d (StaysFor d) n p w → IsWord u → length u ≡ n → WaitsAlong d p u → ¬ FirstDifferenceLess u w
  no_less_values = greedy_least d (StaysFor d) (WaitsAlong d) (λ p b u f s. (s.0, (u, (f, s.1, refl)))) (λ p b u s. s.1)

  -- ---- a word that leads to a goal
  pub greedy_goal : (n m p : ℕ) (w : List ℕ) → IsNear d n m p → IsGreedy d (IsNear d n) m p w → IsGoal d n (run d p w)
  greedy_goal n zero p [] ([], (f, goal, l)) g = goal
  greedy_goal n zero p [] (b ∷ u, (f, goal, l)) g = absurd (omega arith)
  greedy_goal n zero p (c ∷ w) near g = absurd g
  greedy_goal n (suc m) p [] near g = absurd g
  greedy_goal n (suc m) p (c ∷ w) near g = greedy_goal n m (step d p c) w g.0.1 g.1

  no_less_word : (n m p : ℕ) (w u : List ℕ) → IsGreedy d (IsNear d n) m p w → IsWord u → length u ≡ m → IsGoal d n (run d p u) → ¬ FirstDifferenceLess u w
  no_less_word n = greedy_least d (IsNear d n) (λ p u. IsGoal d n (run d p u)) (λ p b u f goal. (u, (f, goal, omega arith))) (λ p b u goal. goal)

  module _ (well : IsWellFormed d) where
    pub goal_of : (n : ℕ) (v x : List ℕ) → IsOpenMatch (Accepted d) n v x → IsGoal d n (after d v)
    goal_of n v x o = (o.leaves_open.word, (x, (o.values, waits_of d well n v x o.leaves_open, o.leaves_open.long)))

    -- the word that leads to the nearest goal, and the values after it, are the witness
    pub greedy_witness : (n m : ℕ) (v x : List ℕ) → 0 < m → IsNear d n m 0 → ((u : List ℕ) → IsWord u → u ≢ [] → IsGoal d n (after d u) → m ≤ length u)
        → IsGreedy d (IsNear d n) m 0 v → IsGreedy d (StaysFor d) n (after d v) x → IsWitness (Accepted d) n v x
    greedy_witness n m v x more near none g h = record {
      word = record { holds = (x, left_open); least = λ u less (y, o). below u less (y, o) };
      after = record { holds = left_open; least = λ u less o. behind u less o };
    }
      where
        some : v ≢ []
        some e = absurd (omega (arith, greedy_length d (IsNear d n) m 0 v g, ap length e))

        left_open : IsOpenMatch (Accepted d) n v x
        left_open = record {
          word = greedy_word d (IsNear d n) m 0 v g;
          values = greedy_word d (StaysFor d) n (after d v) x h;
          leaves_open =
              opened d n v x some (greedy_goal n m 0 v near g).0 (greedy_stays n (after d v) x h) (greedy_length d (StaysFor d) n (after d v) x h);
        }

        below : (u : List ℕ) → Shortlex u v → ((y : List ℕ) × IsOpenMatch (Accepted d) n u y) → ⊥
        below u (inl less) (y, o) =
            let a : m ≤ length u = none u o.word o.leaves_open.some (goal_of n u y o) in
            let b : length v ≡ m = greedy_length d (IsNear d n) m 0 v g in
            omega arith
        below u (inr (same, less)) (y, o) =
            let b : length v ≡ m = greedy_length d (IsNear d n) m 0 v g in
            no_less_word n m 0 v u g o.word (same ∙ b) (goal_of n u y o) less

        behind : (u : List ℕ) → Shortlex u x → IsOpenMatch (Accepted d) n v u → ⊥
        behind u (inl less) o =
            let a : length u ≡ n = o.leaves_open.long in
            let b : length x ≡ n = greedy_length d (StaysFor d) n (after d v) x h in
            omega arith
        behind u (inr (same, less)) o = no_less_values n (after d v) x u h o.values o.leaves_open.long (waits_of d well n v u o.leaves_open) less
