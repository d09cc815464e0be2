-- The labels of lists of labels, in a set.
use Rattle.std.proofs.Common.{◌≡◌, ℕ, ◌+◌, ◌<◌, ◌⊎◌, inl, inr, ◌↔◌, List, [], ◌∷◌, ◌++◌, length, take, get_or, sym, ap, ◌∙◌, subst, true}
use Rattle.std.specs.List.{Contains}
use Rattle.std.specs.BTreeSet.{BTreeSet, Updates}
use Rattle.std.proofs.lemmas.List.{take_more}
use Rattle.std.proofs.lemmas.List.Elements.{Contains-push, Contains-push_cases, Contains-append_left}
use Rattle.lalrpop_hir.specs.Range.{Range}
use Rattle.lalrpop_build.specs.declared.alphabet.groups.Labels.{Labels}
use Rattle.lalrpop_build.specs.Internal.Grouped.{HasLabel}
use Rattle.lalrpop_build.specs.Internal.Boundaries.{HasAllOf}
use Rattle.lalrpop_hir.proofs.Pushed.{pushed_cases, pushed_keeps, pushed_last}
use Rattle.lalrpop_build.specs.Internal.EdgeGroups.{range_cmp}
use Rattle.lalrpop_build.proofs.LabelOrder.{range_total, range_exact}
use Rattle.lalrpop_hir.proofs.Orders.{set_come, set_has, set_kept}

-- ---- one more label
module _ (s n : BTreeSet Range) (k : Range) (u : Updates range_cmp s n k true) where
  -- the labels of a list, up to one more place
  pub labels_more : (old : List Range) (xs : List Range) (i : ℕ) (x : Range) → i < length xs → x ≡ get_or xs i x → k ≡ x → HasAllOf old (take i xs) s.keys → HasAllOf old (take (i + 1) xs) n.keys
  labels_more old xs i x l is same h r = (to, from)
    where
      more : take (i + 1) xs ≡ take i xs ++ x ∷ []
      more = take_more xs i x l ∙ ap (λ y. take i xs ++ y ∷ []) (sym is)

      to : Contains n.keys r → Contains old r ⊎ Contains (take (i + 1) xs) r
      to z = elim (set_come range_total range_exact s n k u r z) [
        | inl was ↦ elim ((h r).0 was) [ inl older ↦ inl older | inr a ↦ inr (rw more (Contains-append_left (take i xs) (x ∷ []) r a)) ]
        | inr e ↦ inr (rw (more, ← e, same) (Contains-push (take i xs) x))
      ]

      from : Contains old r ⊎ Contains (take (i + 1) xs) r → Contains n.keys r
      from z = elim z [
        | inl older ↦ set_kept range_total range_exact s n k u r ((h r).1 (inl older))
        | inr a ↦ elim (Contains-push_cases (take i xs) x r (rw more at a)) [
          | inl was ↦ set_kept range_total range_exact s n k u r ((h r).1 (inr was))
          | inr e ↦ set_has range_total range_exact s n k u r (same ∙ e)
        ]
      ]

-- ---- one more list of labels
pub lists_more : (lists : List Labels) (i : ℕ) (x : Labels) (a b : List Range) → i < length lists → x ≡ get_or lists i x → ((r : Range) → Contains a r ↔ ((n : ℕ) × HasLabel (take i lists) n r)) → HasAllOf a x.list.items b
    → (r : Range) → Contains b r ↔ ((n : ℕ) × HasLabel (take (i + 1) lists) n r)
lists_more lists i x a b l is h new r = (to, from)
  where
    more : take (i + 1) lists ≡ take i lists ++ x ∷ []
    more = take_more lists i x l ∙ ap (λ y. take i lists ++ y ∷ []) (sym is)

    to : Contains b r → (n : ℕ) × HasLabel (take (i + 1) lists) n r
    to z = elim ((new r).0 z) [
      | inl was ↦ (let (n, (ls, (at, in_list))) = (h r).0 was in (n, (ls, (rw more (pushed_keeps (take i lists) x n ls at), in_list))))
      | inr k ↦ (length (take i lists), (x, (rw more (pushed_last (take i lists) x), k)))
    ]

    from : ((n : ℕ) × HasLabel (take (i + 1) lists) n r) → Contains b r
    from (n, (ls, (at, in_list))) = elim (pushed_cases (take i lists) x n ls (rw more at at)) [
      | inl was ↦ (new r).1 (inl ((h r).1 (n, (ls, (was, in_list)))))
      | inr last ↦ (new r).1 (inr (subst (λ (y : Labels). Contains y.list.items r) last.1 in_list))
    ]
