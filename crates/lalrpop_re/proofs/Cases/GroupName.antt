-- Cases of specs/GroupName.antt.
use Rattle.std.proofs.Common.{◌≡◌, [], ◌∷◌, true, false, Some, None, codes, refl}
use Rattle.lalrpop_hir.specs.Tree.{empty, repetition, capture, concat, none, also}
use Rattle.lalrpop_re.specs.GroupName.{begins_name, is_name, names, are_distinct}

-- `_` begins a name, and is a name
underscore_is_a_name : (begins_name 95 ≡ true) × (is_name (codes "_") ≡ true)
underscore_is_a_name = (refl, refl)

-- a name has at least one character
empty_name_is_none : is_name (codes "") ≡ false
empty_name_is_none = refl

-- names are listed from left to right, also those inside other groups; a group without a name has none
names_of_groups : names (concat (also (capture (Some (codes "b")) (capture (Some (codes "a")) empty)) (also (capture None (repetition 0 None true (capture (Some (codes "c")) empty))) none)))
    ≡ codes "b" ∷ codes "a" ∷ codes "c" ∷ []
unfolding names
names_of_groups = refl

no_names_of_a_group_without_one : names (capture None empty) ≡ []
unfolding names
no_names_of_a_group_without_one = refl

-- no two names are equal, but one may begin with another
distinct_names : (are_distinct (codes "a" ∷ codes "ab" ∷ []) ≡ true) × (are_distinct (codes "a" ∷ codes "b" ∷ codes "a" ∷ []) ≡ false)
distinct_names = (refl, refl)
