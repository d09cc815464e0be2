-- Old pieces are met at the first place where they can be: no place before was one.
use Rattle.std.proofs.Common.{◌≡◌, ℕ, ◌+◌, ◌<◌, ◌≤◌, ◌⊎◌, inl, inr, get_or, List, [], ◌∷◌, ◌++◌, length, take, drop, arith, sym, ap, subst, ◌∙◌}
use Rattle.std.proofs.lemmas.Bool.{cases_lt}
use Rattle.std.proofs.lemmas.List.{take-append-le, take_all, length_push, drop_more}
use Rattle.bajofeki_rules.specs.Stack.{Stack, start}
use Rattle.lalrpop_rules.specs.Modes.{ModeRules}
use Rattle.bajofeki.specs.Internal.Kept.{KeptUpTo}
use Rattle.bajofeki.specs.declared.kept.Kept.{Kept}
use Rattle.bajofeki.specs.declared.meet.Edit.{Edit}
use Rattle.bajofeki.specs.declared.place.Place.{Place}
use Rattle.bajofeki.specs.Internal.Blocks.{sizes, after_pieces}
use Rattle.bajofeki.specs.Internal.Meeting.{new_place, AreMet, AreMetAfter, NoneMet}
use Rattle.bajofeki.proofs.KeptLaws.{kept_some}
use Rattle.bajofeki.proofs.BlockLaws.{sizes_join, sizes_more}

-- the next piece has some bytes
pub next_some : (r : ModeRules) (text : List ℕ) (at : ℕ) (s : Stack) (ks : List Kept) (n to : ℕ) (t : Stack) (d : Kept) → n < length ks
    → KeptUpTo r text at s (drop n ks) to t → 0 < (get_or ks n d).size
next_some r text at s ks n to t d lt are =
    let next : KeptUpTo r text at s (get_or ks n d ∷ drop (n + 1) ks) to t = subst (λ (ls : List Kept). KeptUpTo r text at s ls to t) (drop_more ks n d lt) are in
    kept_some r s.mode (drop at text) (get_or ks n d) next.0

-- what the two places say
pub met_here : (r : ModeRules) (e : Edit) (ks : List Kept) (at : ℕ) (s : Stack) (cs : List Kept) (count : ℕ) (old cut : Place) → old.at ≡ sizes (take count ks)
    → old.stack ≡ after_pieces r (take count ks) start → cut.at ≡ at + sizes cs → cut.stack ≡ after_pieces r cs s
    → AreMetAfter r e ks at s cs count (length cs) → AreMet e old cut
met_here r e ks at s cs count old cut old_at old_stack cut_at cut_stack met =
    let all : take (length cs) cs ≡ cs = take_all (length cs) cs (omega arith) in
    record {
      behind = omega (arith, met.behind, old_at);
      at = ap (new_place e) old_at ∙ met.same ∙ ap (λ (ls : List Kept). at + sizes ls) all ∙ sym cut_at;
      stack = old_stack ∙ met.stack ∙ ap (λ (ls : List Kept). after_pieces r ls s) all ∙ sym cut_stack;
    }

module _ (r : ModeRules) (e : Edit) (ks : List Kept) (first count at : ℕ) (s : Stack) (cs : List Kept) where
  -- nothing is cut, and no old piece is passed
  pub none_yet : cs ≡ [] → count ≡ first → NoneMet r e ks first count at s cs
  none_yet empty begins = record {
    none = λ i j from to le met. (omega (arith, from, to, begins), omega (arith, le, ap length empty));
    passed = λ i from less behind. absurd (omega (arith, from, less, begins));
    cut = λ j less. absurd (omega (arith, less, ap length empty));
  }

  -- a piece is cut
  module _ (k : Kept) (is : NoneMet r e ks first count at s cs) (some : 0 < k.size) (behind : e.to ≤ sizes (take count ks))
      (ahead : at + sizes cs ≤ new_place e (sizes (take count ks))) (unmet : ¬ AreMetAfter r e ks at s cs count (length cs)) where
    front : (j : ℕ) → j ≤ length cs → take j (cs ++ k ∷ []) ≡ take j cs
    front j le = take-append-le j cs (k ∷ []) le

    whole : sizes (cs ++ k ∷ []) ≡ sizes cs + k.size
    whole = sizes_join cs (k ∷ []) ∙ omega arith

    -- so many of them
    fewer : (i j : ℕ) → first ≤ i → i ≤ count → j ≤ length cs → AreMetAfter r e ks at s (cs ++ k ∷ []) i j → ⊥
    fewer i j from to le met =
        let old : AreMetAfter r e ks at s cs i j = record {
          behind = met.behind;
          same = met.same ∙ ap (λ (ls : List Kept). at + sizes ls) (front j le);
          stack = met.stack ∙ ap (λ (ls : List Kept). after_pieces r ls s) (front j le);
        } in
        let ends = is.none i j from to le old in
        unmet (subst (λ (n : ℕ). AreMetAfter r e ks at s cs n (length cs)) ends.0 (subst (λ (n : ℕ). AreMetAfter r e ks at s cs i n) ends.1 old))

    -- all of them
    every : (i j : ℕ) → first ≤ i → i ≤ count → length cs < j → j ≤ length (cs ++ k ∷ []) → AreMetAfter r e ks at s (cs ++ k ∷ []) i j → i ≡ count
    every i j from to more le met = by_order (cases_lt i count)
      where
        all : take j (cs ++ k ∷ []) ≡ cs ++ k ∷ []
        all = take_all j (cs ++ k ∷ []) (omega (arith, more, length_push cs k))

        by_order : (i < count) ⊎ (count ≤ i) → i ≡ count
        by_order (inl less) = absurd (omega (arith, is.passed i from less met.behind, met.same, ap sizes all, whole, some))
        by_order (inr same) = omega (arith, same, to)

    pub none_cut : NoneMet r e ks first count at s (cs ++ k ∷ [])
    none_cut = record { none = none; passed = passed; cut = cut }
      where
        none : (i j : ℕ) → first ≤ i → i ≤ count → j ≤ length (cs ++ k ∷ []) → AreMetAfter r e ks at s (cs ++ k ∷ []) i j
            → (i ≡ count) × (j ≡ length (cs ++ k ∷ []))
        none i j from to le met = by_order (cases_lt (length cs) j)
          where
            by_order : (length cs < j) ⊎ (j ≤ length cs) → (i ≡ count) × (j ≡ length (cs ++ k ∷ []))
            by_order (inl more) = (every i j from to more le met, omega (arith, more, le, length_push cs k))
            by_order (inr few) = absurd (fewer i j from to few met)

        passed : (i : ℕ) → first ≤ i → i < count → e.to ≤ sizes (take i ks) → new_place e (sizes (take i ks)) < at + sizes (cs ++ k ∷ [])
        passed i from less behind2 = omega (arith, is.passed i from less behind2, whole)

        cut : (j : ℕ) → j < length (cs ++ k ∷ []) → (e.to ≤ sizes (take count ks)) × (at + sizes (take j (cs ++ k ∷ [])) ≤ new_place e (sizes (take count ks)))
        cut j less = by_order (cases_lt j (length cs))
          where
            by_order : (j < length cs) ⊎ (length cs ≤ j) → (e.to ≤ sizes (take count ks)) × (at + sizes (take j (cs ++ k ∷ [])) ≤ new_place e (sizes (take count ks)))
            by_order (inl few) = (behind, omega (arith, (is.cut j few).1, ap sizes (front j (omega (arith, few)))))
            by_order (inr last) =
                let j_is : j ≤ length cs = omega (arith, less, length_push cs k) in
                (behind, omega (arith, ahead, ap sizes (front j j_is), ap sizes (take_all j cs last)))

  -- an old piece is passed
  module _ (end : ℕ) (d : Kept) (is : NoneMet r e ks first count at s cs) (lt : count < length ks)
      (some : e.to ≤ sizes (take count ks) → 0 < (get_or ks count d).size)
      (within : e.to ≤ sizes (take (count + 1) ks) → new_place e (sizes (take (count + 1) ks)) ≤ end)
      (turn : e.to ≤ sizes (take count ks) → at + sizes cs ≤ new_place e (sizes (take count ks)) → end ≤ at + sizes cs)
      (unmet : ¬ AreMetAfter r e ks at s cs count (length cs)) where
    further : sizes (take (count + 1) ks) ≡ sizes (take count ks) + (get_or ks count d).size
    further = sizes_more ks count d lt

    behind_now : e.to ≤ sizes (take count ks) → new_place e (sizes (take count ks)) < at + sizes cs
    behind_now behind = by_order (cases_lt (new_place e (sizes (take count ks))) (at + sizes cs))
      where
        by_order : (new_place e (sizes (take count ks)) < at + sizes cs) ⊎ (at + sizes cs ≤ new_place e (sizes (take count ks))) → new_place e (sizes (take count ks)) < at + sizes cs
        by_order (inl less) = less
        by_order (inr le) = absurd (omega (arith, turn behind le, le, within (omega (arith, behind, further)), further, some behind, behind))

    pub none_passed : NoneMet r e ks first (count + 1) at s cs
    none_passed = record { none = none; passed = passed; cut = cut }
      where
        none : (i j : ℕ) → first ≤ i → i ≤ count + 1 → j ≤ length cs → AreMetAfter r e ks at s cs i j → (i ≡ count + 1) × (j ≡ length cs)
        none i j from to le met = by_order (cases_lt count i)
          where
            last : i ≡ count + 1 → (j < length cs) ⊎ (length cs ≤ j) → j ≡ length cs
            last i_is (inl few) =
                let before = is.cut j few in
                absurd (omega (arith, before.1, before.0, met.same, ap (λ (n : ℕ). sizes (take n ks)) i_is, further, some before.0))
            last i_is (inr all) = omega (arith, all, le)

            by_order : (count < i) ⊎ (i ≤ count) → (i ≡ count + 1) × (j ≡ length cs)
            by_order (inl more) = let i_is : i ≡ count + 1 = omega (arith, more, to) in (i_is, last i_is (cases_lt j (length cs)))
            by_order (inr few) =
                let ends = is.none i j from few le met in
                absurd (unmet (subst (λ (n : ℕ). AreMetAfter r e ks at s cs n (length cs)) ends.0 (subst (λ (n : ℕ). AreMetAfter r e ks at s cs i n) ends.1 met)))

        passed : (i : ℕ) → first ≤ i → i < count + 1 → e.to ≤ sizes (take i ks) → new_place e (sizes (take i ks)) < at + sizes cs
        passed i from less behind = by_order (cases_lt i count)
          where
            by_order : (i < count) ⊎ (count ≤ i) → new_place e (sizes (take i ks)) < at + sizes cs
            by_order (inl few) = is.passed i from few behind
            by_order (inr all) =
                let i_is : count ≡ i = omega (arith, all, less) in
                subst (λ (n : ℕ). new_place e (sizes (take n ks)) < at + sizes cs) i_is (behind_now (subst (λ (n : ℕ). e.to ≤ sizes (take n ks)) (sym i_is) behind))

        cut : (j : ℕ) → j < length cs → (e.to ≤ sizes (take (count + 1) ks)) × (at + sizes (take j cs) ≤ new_place e (sizes (take (count + 1) ks)))
        cut j less = let before = is.cut j less in (omega (arith, before.0, further), omega (arith, before.0, before.1, further))
