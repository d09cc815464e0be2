-- Whether a tree matches a word is decided, and so are the strongest trees for a word and the longest match of a text: there is one, or
-- nothing matches.
use Rattle.std.proofs.Common.{◌≡◌, ◌≢◌, ℕ, zero, suc, ◌+◌, ◌<◌, ◌≤◌, ◌⊎◌, inl, inr, List, [], ◌∷◌, ◌++◌, length, take, drop, refl, sym, ap, subst, ◌∙◌, arith, length-append, length-take, take-append-drop}
use Rattle.std.specs.Prelude.{Option, Some, None, slice_index}
use Rattle.std.specs.Str.{chars, IsUtf8, is_utf8}
use Rattle.std.proofs.Math.Seq.{take-append_seam}
use Rattle.std.proofs.lemmas.Bool.{cases_Bool, cases_lt}
use Rattle.std.proofs.lemmas.List.{nil_from_length}
use Rattle.std.proofs.lemmas.Option.{slice_get_within}
use Rattle.std.proofs.lemmas.Str.{IsUtf8-from_is_utf8, is_utf8-from_IsUtf8}
use Rattle.lalrpop_hir.specs.Range.{Range, Covered}
use Rattle.lalrpop_hir.specs.Tree.{Class, unicode, bytes, Tree, empty, literal, class, look, repetition, capture, concat, alternation, Trees, none, also}
use Rattle.lalrpop_hir.specs.Language.{Words, Then, Power, Holds, IsCount, Matches, MatchInTurn, SomeMatches}
use Rattle.lalrpop_hir.specs.Winners.{TreeMatches, Matched, IsHighestStrongest}
use Rattle.lalrpop_hir.specs.Longest.{IsMatch, IsLongest}

-- ---- decisions of facts with parts

both : {P Q : Type 0} → Dec P → Dec Q → Dec (P × Q)
both (yes p) (yes q) = yes (p, q)
both (yes p) (no q) = no (λ h. q h.1)
both (no p) d = no (λ h. p h.0)

either : {P Q : Type 0} → Dec P → Dec Q → Dec (P ⊎ Q)
either (yes p) d = yes (inl p)
either (no p) (yes q) = yes (inr q)
either (no p) (no q) = no (λ h. elim h [ inl x ↦ p x | inr y ↦ q y ])

moved : {P Q : Type 0} → Dec P → (P → Q) → (Q → P) → Dec Q
moved (yes p) f g = yes (f p)
moved (no n) f g = no (λ q. n (g q))

at_most : (m n : ℕ) → Dec (m ≤ n)
at_most m n = elim (cases_lt n m) [ inl h ↦ no (λ l. omega arith) | inr h ↦ yes h ]

same_number : (m n : ℕ) → Dec (m ≡ n)
same_number m n = moved (both (at_most m n) (at_most n m)) (λ h. omega (arith, h.0, h.1)) (λ e. (omega arith, omega arith))

same_word : (v w : List ℕ) → Dec (v ≡ w)
same_word [] [] = yes refl
same_word [] (d ∷ w) = no (λ e. cc)
same_word (c ∷ v) [] = no (λ e. cc)
same_word (c ∷ v) (d ∷ w) = moved (both (same_number c d) (same_word v w)) (λ h. join c d v w h.0 h.1) (λ e. part c d v w e)
  where
    join : (c d : ℕ) (v w : List ℕ) → c ≡ d → v ≡ w → c ∷ v ≡ d ∷ w
    join c d v w e f = cc

    part : (c d : ℕ) (v w : List ℕ) → c ∷ v ≡ d ∷ w → (c ≡ d) × (v ≡ w)
    part c d v w e = ((cc), (cc))

-- some number below n
below_step : (P : ℕ → Type 0) (n k : ℕ) → k < suc n → P k → P n ⊎ ((j : ℕ) × ((j < n) × P j))
below_step P n k l p = elim (cases_lt k n) [ inl h ↦ inr (k, (h, p)) | inr h ↦ (let e : k ≡ n = omega arith in inl (subst P e p)) ]

some_below : (P : ℕ → Type 0) → ((k : ℕ) → Dec (P k)) → (n : ℕ) → Dec ((k : ℕ) × ((k < n) × P k))
some_below P d zero = no (λ h. omega (arith, h.1.0))
some_below P d (suc n) =
    moved (either (d n) (some_below P d n))
    (λ h. elim h [ inl p ↦ (n, (omega arith, p)) | inr s ↦ (s.0, (omega (arith, s.1.0), s.1.1)) ])
    (λ h. below_step P n h.0 h.1.0 h.1.1)

-- ---- the words of a tree

covers : (rs : List Range) (c : ℕ) → Dec (Covered rs c)
covers [] c = no (λ h. h)
covers (r ∷ rs) c = either (both (at_most r.start c) (at_most c r.end)) (covers rs c)

holds : (a : Class) (c : ℕ) → Dec (Holds a c)
holds (unicode rs) c = covers rs c
holds (bytes rs) c = covers rs c

one_value : (a : Class) (c d : ℕ) → ◌≡◌ {A = List ℕ} (c ∷ []) (d ∷ []) → Holds a d → Holds a c
one_value a c d e h = let f : d ≡ c = cc in subst (λ (n : ℕ). Holds a n) f h

of_class : (a : Class) (w : List ℕ) → Dec (Matches (class a) w)
of_class a [] = no (λ h. let e : [] ≡ h.0 ∷ [] = h.1.0 in cc)
of_class a (c ∷ []) = moved (holds a c) (λ h. (c, (refl, h))) (λ h. one_value a c h.0 h.1.0 h.1.1)
of_class a (c ∷ d ∷ w) = no (λ h. let e : c ∷ d ∷ w ≡ h.0 ∷ [] = h.1.0 in cc)

nothing_split : (u v : List ℕ) → [] ≡ u ++ v → (u ≡ []) × (v ≡ [])
nothing_split [] v e = (refl, sym e)
nothing_split (c ∷ u) v e = absurd (cc)

split_to : (L M : Words) (c : ℕ) (w : List ℕ) → (L [] × M (c ∷ w)) ⊎ Then (λ u. L (c ∷ u)) M w → Then L M (c ∷ w)
split_to L M c w (inl h) = ([], c ∷ w, (refl, h.0, h.1))
split_to L M c w (inr h) = (c ∷ h.0, h.1, (ap (λ t. c ∷ t) h.2.0, h.2.1, h.2.2))

split_from : (L M : Words) (c : ℕ) (w u v : List ℕ) → c ∷ w ≡ u ++ v → L u → M v → (L [] × M (c ∷ w)) ⊎ Then (λ u. L (c ∷ u)) M w
split_from L M c w [] v e l m = inl (l, subst M (sym e) m)
split_from L M c w (d ∷ u) v e l m =
    let first : d ≡ c = cc in
    let rest : w ≡ u ++ v = cc in
    inr (u, v, (rest, subst (λ (x : ℕ). L (x ∷ u)) first l, m))

-- a word is split before its first value, or after it
splits : (L M : Words) → ((u : List ℕ) → Dec (L u)) → ((v : List ℕ) → Dec (M v)) → (w : List ℕ) → Dec (Then L M w)
splits L M l m [] =
    moved (both (l []) (m [])) (λ h. ([], [], (refl, h.0, h.1)))
    (λ h. let e = nothing_split h.0 h.1 h.2.0 in (subst L e.0 h.2.1, subst M e.1 h.2.2))
splits L M l m (c ∷ w) =
    moved (either (both (l []) (m (c ∷ w))) (splits (λ u. L (c ∷ u)) M (λ u. l (c ∷ u)) m w))
    (λ h. split_to L M c w h) (λ h. split_from L M c w h.0 h.1 h.2.0 h.2.1 h.2.2)

power : (k : ℕ) (L : Words) → ((u : List ℕ) → Dec (L u)) → (w : List ℕ) → Dec (Power k L w)
power zero L l w = same_word w []
power (suc k) L l w = splits L (Power k L) l (λ v. power k L l v) w

-- of more words than the whole has values one is empty, and can be left out
one_fewer : (L : Words) (k : ℕ) (w u v : List ℕ) → w ≡ u ++ v → L u → Power k L v → length w ≤ k → Power k L w
one_fewer L zero w u v e l p small = nil_from_length w (omega arith)
one_fewer L (suc k) w [] v e l p small = subst (Power (suc k) L) (sym e) p
one_fewer L (suc k) w (c ∷ u) v e l p small =
    let whole : length w ≡ suc (length (u ++ v)) = ap length e in
    (c ∷ u, v, (e, l, one_fewer L k v p.0 p.1 p.2.0 p.2.1 p.2.2 (omega (arith, whole, length-append u v))))

-- so a few more than the least number are enough
few : (L : Words) (min k : ℕ) (w : List ℕ) → min ≤ k → Power k L w → (j : ℕ) × ((j < min + suc (length w)) × ((min ≤ j) × Power j L w))
few L min zero w least p = (0, (omega arith, (least, p)))
few L min (suc k) w least p = elim (cases_lt (min + length w) (suc k)) [
  | inl more ↦ few L min k w (omega arith) (one_fewer L k w p.0 p.1 p.2.0 p.2.1 p.2.2 (omega arith))
  | inr enough ↦ (suc k, (omega arith, (least, p)))
]

repeated : (min : ℕ) (max : Option ℕ) (L : Words) → ((u : List ℕ) → Dec (L u)) → (w : List ℕ) → Dec ((k : ℕ) × (IsCount min max k × Power k L w))
repeated min None L l w =
    moved (some_below (λ k. (min ≤ k) × Power k L w) (λ k. both (at_most min k) (power k L l w)) (min + suc (length w)))
    (λ h. (h.0, h.1.1)) (λ h. few L min h.0 w h.1.0 h.1.1)
repeated min (Some max) L l w =
    moved (some_below (λ k. ((min ≤ k) × (k ≤ max)) × Power k L w) (λ k. both (both (at_most min k) (at_most k max)) (power k L l w)) (suc max))
    (λ h. (h.0, h.1.1)) (λ h. (h.0, (omega (arith, h.1.0.1), h.1)))

mutual
  -- the tree matches the word or it doesn't
  pub matches-decided : (t : Tree) (w : List ℕ) → Dec (Matches t w)
  matches-decided empty w = same_word w []
  matches-decided (literal cs) w = same_word w cs
  matches-decided (class a) w = of_class a w
  matches-decided (look l) w = no (λ h. h)
  matches-decided (repetition min max greedy t) w = repeated min max (Matches t) (λ u. matches-decided t u) w
  matches-decided (capture name t) w = matches-decided t w
  matches-decided (concat ts) w = in_turn ts w
  matches-decided (alternation ts) w = one_of ts w

  in_turn : (ts : Trees) (w : List ℕ) → Dec (MatchInTurn ts w)
  in_turn none w = same_word w []
  in_turn (also t ts) w = splits (Matches t) (MatchInTurn ts) (λ u. matches-decided t u) (λ v. in_turn ts v) w

  one_of : (ts : Trees) (w : List ℕ) → Dec (SomeMatches ts w)
  one_of none w = no (λ h. h)
  one_of (also t ts) w = either (matches-decided t w) (one_of ts w)

-- ---- the strongest trees

-- a tree that matches is in the list
pub matches_inside : (ts : List Tree) (w : List ℕ) (i : ℕ) → TreeMatches ts w i → i < length ts
matches_inside ts w i m = slice_get_within ts i m.0 m.1.0

same_tree : (s t : Tree) (w : List ℕ) → Some s ≡ Some t → Matches t w → Matches s w
same_tree s t w e m = let f : t ≡ s = cc in subst (λ (x : Tree). Matches x w) f m

tree_matches : (ts : List Tree) (w : List ℕ) (i : ℕ) → Dec (TreeMatches ts w i)
tree_matches [] w i = no (λ h. let e : None ≡ Some h.0 = h.1.0 in cc)
tree_matches (t ∷ ts) w zero = moved (matches-decided t w) (λ m. (t, (refl, m))) (λ h. same_tree t h.0 w h.1.0 h.1.1)
tree_matches (t ∷ ts) w (suc i) = tree_matches ts w i

module _ (ts : List Tree) (ps w : List ℕ) where
  -- of the first n trees, tree i is the strongest that matches, and of these the last
  record IsBest (n i : ℕ) : Type 0 where
    here : TreeMatches ts w i
    most : (j : ℕ) → j < n → TreeMatches ts w j → slice_index ps j ≤ slice_index ps i
    last : (j : ℕ) → j < n → TreeMatches ts w j → slice_index ps i ≤ slice_index ps j → j ≤ i

  first_best : (n : ℕ) → TreeMatches ts w n → ((j : ℕ) → j < n → ¬ TreeMatches ts w j) → IsBest (suc n) n
  first_best n here nothing = record {
    here = here;
    most = λ j l m. elim (cases_lt j n) [ inl h ↦ absurd (nothing j h m) | inr h ↦ (let e : j ≡ n = omega arith in subst (λ (k : ℕ). slice_index ps k ≤ slice_index ps n) (sym e) (omega arith)) ];
    last = λ j l m same. omega arith;
  }

  stays_best : (n i : ℕ) → IsBest n i → ¬ TreeMatches ts w n → IsBest (suc n) i
  stays_best n i best nothing = record {
    here = best.here;
    most = λ j l m. elim (cases_lt j n) [ inl h ↦ best.most j h m | inr h ↦ absurd (not_here j h l m) ];
    last = λ j l m same. elim (cases_lt j n) [ inl h ↦ best.last j h m same | inr h ↦ absurd (not_here j h l m) ];
  }
    where
      not_here : (j : ℕ) → n ≤ j → j < suc n → TreeMatches ts w j → ⊥
      not_here j h l m = let e : j ≡ n = omega arith in nothing (subst (λ (k : ℕ). TreeMatches ts w k) e m)

  -- tree n is weaker than the best before it, or as strong at least
  weaker_behind : (n i : ℕ) → IsBest n i → slice_index ps n < slice_index ps i → IsBest (suc n) i
  weaker_behind n i best less = record {
    here = best.here;
    most = λ j l m. elim (cases_lt j n) [ inl h ↦ best.most j h m | inr h ↦ (let e = at_n j h l in omega (arith, e, less)) ];
    last = λ j l m same. elim (cases_lt j n) [ inl h ↦ best.last j h m same | inr h ↦ (let e = at_n j h l in absurd (omega (arith, e, less, same))) ];
  }
    where
      at_n : (j : ℕ) → n ≤ j → j < suc n → slice_index ps j ≡ slice_index ps n
      at_n j h l = let e : j ≡ n = omega arith in ap (λ (k : ℕ). slice_index ps k) e

  new_best : (n i : ℕ) → IsBest n i → TreeMatches ts w n → slice_index ps i ≤ slice_index ps n → IsBest (suc n) n
  new_best n i best here more = record {
    here = here;
    most = λ j l m. elim (cases_lt j n) [ inl h ↦ (let k = best.most j h m in omega (arith, k, more)) | inr h ↦ (let e = at_n j h l in omega (arith, e)) ];
    last = λ j l m same. omega arith;
  }
    where
      at_n : (j : ℕ) → n ≤ j → j < suc n → slice_index ps j ≡ slice_index ps n
      at_n j h l = let e : j ≡ n = omega arith in ap (λ (k : ℕ). slice_index ps k) e

  one_more : (n : ℕ) → Dec (TreeMatches ts w n) → ((j : ℕ) → j < n → ¬ TreeMatches ts w j) ⊎ ((i : ℕ) × IsBest n i)
      → ((j : ℕ) → j < suc n → ¬ TreeMatches ts w j) ⊎ ((i : ℕ) × IsBest (suc n) i)
  one_more n (yes here) (inl nothing) = inr (n, first_best n here nothing)
  one_more n (yes here) (inr (i, best)) = elim (cases_lt (slice_index ps n) (slice_index ps i)) [
    | inl less ↦ inr (i, weaker_behind n i best less)
    | inr more ↦ inr (n, new_best n i best here more)
  ]
  one_more n (no not) (inl nothing) = inl (λ j l m. elim (cases_lt j n) [
    | inl h ↦ nothing j h m
    | inr h ↦ (let e : j ≡ n = omega arith in not (subst (λ (k : ℕ). TreeMatches ts w k) e m))
  ])
  one_more n (no not) (inr (i, best)) = inr (i, stays_best n i best not)

  best_of : (n : ℕ) → ((j : ℕ) → j < n → ¬ TreeMatches ts w j) ⊎ ((i : ℕ) × IsBest n i)
  best_of zero = inl (λ j l m. omega arith)
  best_of (suc n) = one_more n (tree_matches ts w n) (best_of n)

  -- nothing matches, or there are strongest trees, and one of them is the last
  pub strongest-exists : (¬ Matched ts w) ⊎ ((i : ℕ) × IsHighestStrongest ts ps w i)
  strongest-exists = elim (best_of (length ts)) [
    | inl nothing ↦ inl (λ m. nothing m.0 (matches_inside ts w m.0 m.1) m.1)
    | inr best ↦ inr (best.0, highest best.0 best.1)
  ]
    where
      highest : (i : ℕ) → IsBest (length ts) i → IsHighestStrongest ts ps w i
      highest i best = (
        (best.here, λ j m. best.most j (matches_inside ts w j m) m),
        λ j top. best.last j (matches_inside ts w j top.0) top.0 (top.1 i best.here),
      )

-- ---- the longest match

is_text : (p : List ℕ) → Dec (IsUtf8 p)
is_text p = elim (cases_Bool (is_utf8 p)) [ inl t ↦ yes (IsUtf8-from_is_utf8 p t) | inr f ↦ no (λ u. let t = is_utf8-from_IsUtf8 p u in cc) ]

is_some : (p : List ℕ) → Dec (p ≢ [])
is_some [] = no (λ some. some refl)
is_some (b ∷ p) = yes (λ e. cc)

is_matched : (ts : List Tree) (w : List ℕ) → Dec (Matched ts w)
is_matched ts w = elim (strongest-exists ts [] w) [ inl nothing ↦ no nothing | inr top ↦ yes (top.0, top.1.0.0) ]

module _ (ts : List Tree) (text : List ℕ) where
  is_match : (p rest : List ℕ) → text ≡ p ++ rest → Dec (IsMatch ts text p)
  is_match p rest e =
      moved (both (is_text p) (both (is_some p) (is_matched ts (chars p)))) (λ h. ((rest, (e, h.0)), h.1.0, h.1.1)) (λ m. (m.0.1.1, (m.1, m.2)))

  front : (p : List ℕ) → IsMatch ts text p → p ≡ take (length p) text
  front p m = sym (take-append_seam p m.0.0) ∙ ap (take (length p)) (sym m.0.1.0)

  within : (p : List ℕ) → IsMatch ts text p → length p ≤ length text
  within p m = omega (arith, ap length m.0.1.0, length-append p m.0.0)

  -- no match is longer than n
  up_to : (n : ℕ) → n ≤ length text → ((p : List ℕ) → IsMatch ts text p → length p ≤ n)
      → ((p : List ℕ) → ¬ IsMatch ts text p) ⊎ ((p : List ℕ) × (IsMatch ts text p × ((q : List ℕ) → IsMatch ts text q → length q ≤ length p)))
  up_to zero l nothing = inl (λ p m. m.1 (nil_from_length p (omega (arith, nothing p m))))
  up_to (suc n) l most = elim (is_match (take (suc n) text) (drop (suc n) text) (sym (take-append-drop (suc n) text))) [
    | yes m ↦ inr (take (suc n) text, (m, λ q h. omega (arith, most q h, length-take (suc n) text)))
    | no not ↦ up_to n (omega arith) (λ p m. shorter not p m (cases_lt n (length p)))
  ]
    where
      shorter : ¬ IsMatch ts text (take (suc n) text) → (p : List ℕ) → IsMatch ts text p → (n < length p) ⊎ (length p ≤ n) → length p ≤ n
      shorter not p m (inr h) = h
      shorter not p m (inl h) =
          let size : length p ≡ suc n = omega (arith, most p m, h) in
          absurd (not (subst (IsMatch ts text) (front p m ∙ ap (λ (k : ℕ). take k text) size) m))

-- each text has a longest match, or nothing matches
pub longest-exists : (ts : List Tree) (ps text : List ℕ) → (found : Option (ℕ × List ℕ)) × IsLongest ts ps text found
longest-exists ts ps text = elim (up_to ts text (length text) (omega arith) (λ p m. within ts text p m)) [
  | inl nothing ↦ (None, nothing)
  | inr h ↦ elim (strongest-exists ts ps (chars h.0)) [
    | inl nothing ↦ absurd (nothing h.1.0.2)
    | inr top ↦ (Some (top.0, h.0), (h.1.0, h.1.1, top.1))
  ]
]
