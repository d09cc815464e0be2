-- Cases of specs/ItemOrder.antt.
use Rattle.std.proofs.Common.{◌≡◌, [], ◌∷◌, true, false, refl}
use Rattle.std.specs.declared.cmp.Ordering.TheVariants.{Less, Equal, Greater}
use Rattle.lalrpop_dfa.specs.ItemOrder.{item_eq, rejects_cmp, hash_of, items_cmp, set_cmp, set_eq}

same_item : item_eq (1, 2) (1, 2) ≡ true
same_item = refl

item_of_another_pattern : item_eq (1, 2) (0, 2) ≡ false
item_of_another_pattern = refl

-- the first has a REJECT item of pattern 0, the second has not
failed_pattern_is_greater : rejects_cmp ((0, 1) ∷ (1, 4) ∷ []) ((1, 1) ∷ []) ≡ Greater
failed_pattern_is_greater = refl

-- live items count before failed patterns
live_items_come_first : items_cmp ((0, 1) ∷ (1, 3) ∷ []) ((1, 4) ∷ []) ≡ Less
live_items_come_first = refl

failed_patterns_come_next : items_cmp ((0, 1) ∷ (1, 4) ∷ []) ((1, 4) ∷ []) ≡ Greater
failed_patterns_come_next = refl

hash_of_two_items : hash_of ((0, 2) ∷ (0, 3) ∷ []) ≡ 12728272447693586013
unfolding hash_of
hash_of_two_items = refl

-- hashes count before items
hash_comes_first : set_cmp ((0, 2) ∷ (0, 3) ∷ []) ((0, 5) ∷ []) ≡ Greater
unfolding hash_of
hash_comes_first = refl

set_ties_with_itself : set_cmp ((0, 1) ∷ (1, 4) ∷ []) ((0, 1) ∷ (1, 4) ∷ []) ≡ Equal
unfolding hash_of
set_ties_with_itself = refl

failed_pattern_makes_another_set : set_eq ((0, 1) ∷ (1, 4) ∷ []) ((1, 4) ∷ []) ≡ false
unfolding hash_of
failed_pattern_makes_another_set = refl
