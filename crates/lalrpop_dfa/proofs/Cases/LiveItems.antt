-- Cases of specs/LiveItems.antt.
use Rattle.std.proofs.Common.{◌≡◌, [], ◌∷◌, true, false, refl}
use Rattle.lalrpop_dfa.specs.LiveItems.{is_live, live_of, rejects_of}

-- ACCEPT of the first pattern, and START of the second
live_items : (is_live (0, 0) ≡ true) × (is_live (1, 2) ≡ true)
live_items = (refl, refl)

reject_state_is_not_live : is_live (0, 1) ≡ false
reject_state_is_not_live = refl

-- the first and the third pattern have failed, the second hasn't
live_items_in_order : live_of ((0, 0) ∷ (0, 1) ∷ (1, 2) ∷ (2, 1) ∷ []) ≡ (0, 0) ∷ (1, 2) ∷ []
live_items_in_order = refl

patterns_that_have_failed : rejects_of ((0, 0) ∷ (0, 1) ∷ (1, 2) ∷ (2, 1) ∷ []) ≡ 0 ∷ 2 ∷ []
patterns_that_have_failed = refl

none_has_failed : rejects_of ((0, 0) ∷ (1, 2) ∷ []) ≡ []
none_has_failed = refl

none_is_live : live_of ((0, 1) ∷ (1, 1) ∷ []) ≡ []
none_is_live = refl
