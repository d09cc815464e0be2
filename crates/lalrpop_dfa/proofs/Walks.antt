-- Reading off the least word that leads to a goal, and the least values after it.
use Rattle.std.proofs.Common.{◌≡◌, ◌≢◌, ℕ, suc, ◌↔◌, ◌+◌, ◌<◌, ◌≤◌, ⊎_elim, List, [], ◌∷◌, ◌++◌, length, refl, subst, arith}
use Rattle.std.specs.Prelude.{Option, Some, None, IsSome}
use Rattle.std.proofs.lemmas.List.{append-nil}
use Rattle.lalrpop_hir.specs.Word.{IsWord}
use Rattle.lalrpop_dfa.specs.Dfa.{Row, step, after, IsWellFormed}
use Rattle.lalrpop_dfa.specs.Lookahead.{Accepted}
use Rattle.lalrpop_dfa.specs.Internal.Marks.{WaitsAlong}
use Rattle.lalrpop_dfa.proofs.EdgeTargets.{step_within}
use Rattle.lalrpop_dfa.specs.Witness.{IsOpenMatch, IsWitness}
use Rattle.lalrpop_dfa.specs.Internal.Ranks.{IsLeastInto, IsWanted, StaysFor, IsGoal, IsNear, AreDepths, AreNearest, IsGreedy}
use Rattle.lalrpop_dfa.proofs.LeastValues.{least_same}
use Rattle.lalrpop_dfa.proofs.Greedy.{greedy_more, greedy_goal, greedy_witness, goal_of}
use Rattle.lalrpop_dfa.proofs.Ranked.{wanted_depth, near_on, near_by}

-- ---- the values that leave it open
-- some n values leave it open
abbrev pub CanStay : List Row → ℕ → ℕ → Type 0
CanStay d n p = (w : List ℕ) × (IsWord w × WaitsAlong d p w × (length w ≡ n))

-- from the goal the values so far lead to the state, and `left` values are to come
pub record IsFollowing (d : List Row) (count goal : ℕ) (values : List ℕ) (state left : ℕ) : Type 0 where
  pub within : state < length d
  pub low : left ≤ count
  pub rest : CanStay d left state
  pub so_far : (z : List ℕ) → IsGreedy d (StaysFor d) left state z → IsGreedy d (StaysFor d) count goal (values ++ z)

pub following_first : (d : List Row) (count goal : ℕ) (values : List ℕ) → goal < length d → IsGoal d count goal → values ≡ [] → IsFollowing d count goal values goal count
following_first d count goal values l g e = record { within = l; low = omega arith; rest = g.1; so_far = λ z h. rw e h }

module _ (d : List Row) (well : IsWellFormed d) (count goal : ℕ) (depths : List ℕ) (h : AreDepths d count depths) (values : List ℕ) (state left i : ℕ) (is : left ≡ suc i)
    (f : IsFollowing d count goal values state left) (o : Option ℕ) (least : IsLeastInto d (IsWanted depths left 18446744073709551615) state o) where
  agree : (c : ℕ) → IsWanted depths left 18446744073709551615 (step d state c) ↔ StaysFor d i (step d state c)
  agree c =
      let w = wanted_depth d count left depths h (omega arith) f.low (step d state c) (step_within d state c well f.within) in (
        λ x. w.0 x i (omega arith),
        λ s. w.1 (λ j e. subst (λ k. StaysFor d k (step d state c)) (omega (arith, e)) s),
      )

  by_depth : IsLeastInto d (StaysFor d i) state o
  by_depth = least_same d (IsWanted depths left 18446744073709551615) (StaysFor d i) state o agree least

  pub following_some : IsSome o
  following_some = at o by_depth f.rest
    where
      at : (o : Option ℕ) → IsLeastInto d (StaysFor d i) state o → CanStay d left state → IsSome o
      at (Some c) b r = refl
      at None b ([], (g, s, e)) = absurd (omega arith)
      at None b (c ∷ w, (g, s, e)) = absurd (b c g.0 (s.0, (w, (g.1, s.1, omega arith))))

  pub following_more : (c : ℕ) (values2 : List ℕ) (state2 : ℕ) → o ≡ Some c → values2 ≡ values ++ c ∷ [] → state2 ≡ step d state c → IsFollowing d count goal values2 state2 i
  following_more c values2 state2 e pushed led =
      let b : IsLeastInto d (StaysFor d i) state (Some c) = subst (IsLeastInto d (StaysFor d i) state) e by_depth in
      let before : (z : List ℕ) → IsGreedy d (StaysFor d) (suc i) state z → IsGreedy d (StaysFor d) count goal (values ++ z) =
      subst (λ k. (z : List ℕ) → IsGreedy d (StaysFor d) k state z → IsGreedy d (StaysFor d) count goal (values ++ z)) is f.so_far in
      rw (pushed, led) record {
        within = step_within d state c well f.within;
        low = omega (arith, f.low);
        rest = b.1.1;
        so_far = greedy_more d (StaysFor d) count goal i state c values b before;
      }

pub following_end : (d : List Row) (count goal : ℕ) (values : List ℕ) (state left : ℕ) → left ≡ 0 → IsFollowing d count goal values state left → IsGreedy d (StaysFor d) count goal values
following_end d count goal values state left e f =
    let last : (z : List ℕ) → IsGreedy d (StaysFor d) 0 state z → IsGreedy d (StaysFor d) count goal (values ++ z) =
    subst (λ k. (z : List ℕ) → IsGreedy d (StaysFor d) k state z → IsGreedy d (StaysFor d) count goal (values ++ z)) e f.so_far in
    subst (IsGreedy d (StaysFor d) count goal) (append-nil values) (last [] tt)

-- ---- the word that leads to a goal
-- the word so far leads to the state, from which words of `left` more values lead to a goal, and no shorter nonempty ones
pub record IsLeading (d : List Row) (n far : ℕ) (word : List ℕ) (state left : ℕ) : Type 0 where
  pub near : (i : ℕ) → left ≡ suc i → (c : ℕ) × ((c ≤ 4294967295) × IsNear d n i (step d state c))
  pub least : (i j c : ℕ) → left ≡ suc i → c ≤ 4294967295 → IsNear d n j (step d state c) → i ≤ j
  pub so_far : (z : List ℕ) → IsGreedy d (IsNear d n) left state z → IsGreedy d (IsNear d n) far 0 (word ++ z)

pub leading_first : (d : List Row) (n k : ℕ) (distances word : List ℕ) → AreNearest d n k distances → word ≡ [] → IsLeading d n (k + 1) word 0 (k + 1)
leading_first d n k distances word h e = record {
  near = λ i is. subst (λ j. (c : ℕ) × ((c ≤ 4294967295) × IsNear d n j (step d 0 c))) (omega (arith, is)) h.near;
  least = λ i j c is l near. omega (arith, is, h.least j c l near);
  so_far = λ z g. rw e g;
}

module _ (d : List Row) (well : IsWellFormed d) (n k : ℕ) (distances : List ℕ) (h : AreNearest d n k distances) (word : List ℕ) (state left i : ℕ) (is : left ≡ suc i)
    (l : state < length d) (low : left ≤ k + 1) (f : IsLeading d n (k + 1) word state left) (o : Option ℕ)
    (least : IsLeastInto d (IsWanted distances 0 i) state o) where
  agree_near : (c : ℕ) → IsWanted distances 0 i (step d state c) ↔ IsNear d n i (step d state c)
  agree_near c =
      let w = h.are.each (step d state c) (step_within d state c well l) i (omega arith) in
      (λ x. w.0 x.1, λ s. (omega arith, w.1 s))

  by_distance : IsLeastInto d (IsNear d n i) state o
  by_distance = least_same d (IsWanted distances 0 i) (IsNear d n i) state o agree_near least

  pub leading_some : IsSome o
  leading_some = at o by_distance (f.near i is)
    where
      at : (o : Option ℕ) → IsLeastInto d (IsNear d n i) state o → (c : ℕ) × ((c ≤ 4294967295) × IsNear d n i (step d state c)) → IsSome o
      at (Some c) b x = refl
      at None b x = absurd (b x.0 x.1.0 x.1.1)

  pub leading_more : (c : ℕ) (word2 : List ℕ) (state2 : ℕ) → o ≡ Some c → word2 ≡ word ++ c ∷ [] → state2 ≡ step d state c → IsLeading d n (k + 1) word2 state2 i
  leading_more c word2 state2 e pushed led =
      let b : IsLeastInto d (IsNear d n i) state (Some c) = subst (IsLeastInto d (IsNear d n i) state) e by_distance in
      let before : (z : List ℕ) → IsGreedy d (IsNear d n) (suc i) state z → IsGreedy d (IsNear d n) (k + 1) 0 (word ++ z) =
      subst (λ m. (z : List ℕ) → IsGreedy d (IsNear d n) m state z → IsGreedy d (IsNear d n) (k + 1) 0 (word ++ z)) is f.so_far in
      rw (pushed, led) record {
        near = λ j more.
            ⊎_elim (λ (x : IsNear d n j (step d state c)). absurd (let m : i ≤ j = f.least i j c is b.0 x in omega arith))
            (λ (x : (a : ℕ) × ((a ≤ 4294967295) × IsNear d n j (step d (step d state c) a))). x)
            (near_by d n j (step d state c) (subst (λ m. IsNear d n m (step d state c)) (omega arith) b.1));
        least = λ j m a more fits near.
            let x : i ≤ m + 1 = f.least i (m + 1) c is b.0 (near_on d n m (step d state c) a fits near) in omega arith;
        so_far = greedy_more d (IsNear d n) (k + 1) 0 i state c word b before;
      }

pub leading_end : (d : List Row) (n far : ℕ) (word : List ℕ) (state left : ℕ) → left ≡ 0 → IsLeading d n far word state left → IsGreedy d (IsNear d n) far 0 word
leading_end d n far word state left e f =
    let last : (z : List ℕ) → IsGreedy d (IsNear d n) 0 state z → IsGreedy d (IsNear d n) far 0 (word ++ z) =
    subst (λ k. (z : List ℕ) → IsGreedy d (IsNear d n) k state z → IsGreedy d (IsNear d n) far 0 (word ++ z)) e f.so_far in
    subst (IsGreedy d (IsNear d n) far 0) (append-nil word) (last [] tt)

-- ---- both
near_start : (d : List Row) (n k : ℕ) (distances : List ℕ) → AreNearest d n k distances → IsNear d n (k + 1) 0
near_start d n k distances h = near_on d n k 0 h.near.0 h.near.1.0 h.near.1.1

pub witness_of : (d : List Row) (n k : ℕ) (distances v x : List ℕ) → AreNearest d n k distances
    → IsGreedy d (IsNear d n) (k + 1) 0 v → IsGreedy d (StaysFor d) n (after d v) x → IsWitness (Accepted d) n v x
witness_of d n k distances v x h g s = greedy_witness d h.well_formed n (k + 1) v x (omega arith) (near_start d n k distances h) shortest g s
  where
    shortest : (u : List ℕ) → IsWord u → u ≢ [] → IsGoal d n (after d u) → k + 1 ≤ length u
    shortest [] f some goal = absurd (some refl)
    shortest (c ∷ u) f some goal = omega (arith, h.least (length u) c f.0 (u, (f.1, goal, omega arith)))

pub no_witness : (d : List Row) (n : ℕ) → IsWellFormed d → ((m c : ℕ) → c ≤ 4294967295 → ¬ IsNear d n m (step d 0 c)) → (v x : List ℕ) → ¬ IsOpenMatch (Accepted d) n v x
no_witness d n well none [] x o = o.leaves_open.some refl
no_witness d n well none (c ∷ v) x o = none (length v) c o.word.0 (v, (o.word.1, goal_of d well n (c ∷ v) x o, omega arith))

pub goal_reached : (d : List Row) (n k : ℕ) (distances v : List ℕ) → AreNearest d n k distances → IsGreedy d (IsNear d n) (k + 1) 0 v → IsGoal d n (after d v)
goal_reached d n k distances v h g = greedy_goal d n (k + 1) 0 v (near_start d n k distances h) g
