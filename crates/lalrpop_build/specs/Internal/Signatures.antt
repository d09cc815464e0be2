-- The lists of labels that cover each cell, and the cells at which their labels begin or are over.
use Rattle.std.specs.Prelude.{◌≡◌, ℕ, ◌<◌, ◌⊎◌, ◌↔◌, List, length, slice_get, Some}
use Rattle.std.specs.List.{Contains}
use Rattle.lalrpop_hir.specs.Range.{Range, Covers}
use Rattle.lalrpop_build.specs.declared.alphabet.Group.{Group}
use Rattle.lalrpop_build.specs.declared.alphabet.groups.Labels.{Labels}
use Rattle.lalrpop_build.specs.declared.alphabet.signatures.Signature.{Signature}
use Rattle.lalrpop_build.specs.Internal.Alphabet.{IsEndOf, HasClass, HasBoundary}
use Rattle.lalrpop_build.specs.Internal.Grouped.{HasLabel}

-- the numbers ascend
abbrev pub AreRising : List ℕ → Type 0
AreRising boundaries = (j k u v : ℕ) → slice_get boundaries j ≡ Some u → slice_get boundaries k ≡ Some v → j < k → u < v

-- the value at which the label begins and the one at which it is over are boundaries
abbrev pub HasEndsIn : List ℕ → Range → Type 0
HasEndsIn boundaries r = (v : ℕ) → IsEndOf r v → Contains boundaries v

-- the label begins at boundary k or is over there
abbrev pub IsEndAt : List ℕ → Range → ℕ → Type 0
IsEndAt boundaries r k = (v : ℕ) × ((slice_get boundaries k ≡ Some v) × IsEndOf r v)

-- one of the labels begins at boundary k or is over there
abbrev pub EndsAt : List ℕ → List Range → ℕ → Type 0
EndsAt boundaries rs k = (r : Range) × (Contains rs r × IsEndAt boundaries r k)

-- one of the labels covers v
abbrev pub CoversAny : List Range → ℕ → Type 0
CoversAny rs v = (r : Range) × (Contains rs r × Covers r v)

-- some label of list n covers v
abbrev pub CoversIn : List Labels → ℕ → ℕ → Type 0
CoversIn lists n v = (r : Range) × (HasLabel lists n r × Covers r v)

-- the list gets the numbers that E allows
abbrev pub Added : List ℕ → List ℕ → (ℕ → Type 0) → Type 0
Added old new E = (n : ℕ) → Contains new n ↔ (Contains old n ⊎ E n)

-- the lists of each cell get the numbers that E allows for its place
abbrev pub Marked : List Signature → List Signature → (ℕ → ℕ → Type 0) → Type 0
Marked old new E = (length new ≡ length old)
    × ((k : ℕ) (s s2 : Signature) → slice_get old k ≡ Some s → slice_get new k ≡ Some s2 → Added s.lists.items s2.lists.items (E k))

-- the lists of each cell get the numbers that E allows for its first value
abbrev pub Gained : List ℕ → List Signature → List Signature → (ℕ → ℕ → Type 0) → Type 0
Gained boundaries old new E = (length new ≡ length old)
    × ((k v : ℕ) (s s2 : Signature) → slice_get boundaries k ≡ Some v → slice_get old k ≡ Some s → slice_get new k ≡ Some s2 → Added s.lists.items s2.lists.items (E v))

-- the lists of each cell are exactly those that E allows for its first value
abbrev pub AreSigned : List ℕ → List Signature → (ℕ → ℕ → Type 0) → Type 0
AreSigned boundaries signatures E = (length signatures ≡ length boundaries)
    × ((k v : ℕ) (s : Signature) → slice_get boundaries k ≡ Some v → slice_get signatures k ≡ Some s → (n : ℕ) → Contains s.lists.items n ↔ E v n)

-- each list has a group with the ends of its labels
abbrev pub HaveEnds : List Labels → List ℕ → List Group → Type 0
HaveEnds lists boundaries groups = (n k : ℕ) → HasBoundary groups n k ↔ ((r : Range) × (HasLabel lists n r × IsEndAt boundaries r k))

-- no group has a class
abbrev pub HaveNoClasses : List Group → Type 0
HaveNoClasses groups = (n c : ℕ) → HasClass groups n c → ⊥
