-- States that answer alike, in classes.
use Rattle.std.specs.Prelude.{◌≡◌, ◌≢◌, ℕ, ◌+◌, ◌<◌, ◌≤◌, ◌/◌, ◌%◌, ◌⊎◌, ◌↔◌, Bool, List, [], ◌∷◌, map, length, slice_get, slice_index, slice_index_or, nat_eq, ◌&&◌, Option, Some, None, Vec, IsTrue}
use Rattle.std.specs.Cmp.Lexicographic.{pointwise}
use Rattle.std.specs.Global.{Global}
use Rattle.std.specs.HashMap.{HashMap, get, Updates}
use Rattle.std.specs.HashSet.{HashSet, contains}
use Rattle.std.specs.Int.{bit_at}
use Rattle.std.specs.List.{Contains}
use Rattle.std.specs.Option.{option_to_list}
use Rattle.lalrpop_hir.specs.Range.{Range}
use Rattle.lalrpop_dfa.specs.Dfa.{Row, step}
use Rattle.lalrpop_verdicts.specs.Answers.{accepted_by, answer_from}

-- the states answer each word alike
abbrev pub AlikeFrom : List Row → ℕ → ℕ → Type 0
AlikeFrom d p q = (w : List ℕ) → answer_from d p w ≡ answer_from d q w

-- each state has a class, below the number of states; states are in one class just if they answer alike
pub record AreAlikeClasses (d : List Row) (classes : List ℕ) : Type 0 where
  pub same_length : length classes ≡ length d
  pub same : (p q : ℕ) → p < length d → q < length d → (slice_index classes p ≡ slice_index classes q) ↔ AlikeFrom d p q
  pub below : (p : ℕ) → p < length d → slice_index classes p < length d

abbrev pub row_at : List (List ℕ) → ℕ → List ℕ
row_at rows p = slice_index_or rows p []

-- the class of each list is the place of the first one that is equal
pub record AreClassesOf (rows : List (List ℕ)) (classes : List ℕ) : Type 0 where
  pub same_length : length classes ≡ length rows
  pub least : (p : ℕ) → p < length rows → slice_index classes p ≤ p
  pub equal : (p : ℕ) → p < length rows → row_at rows (slice_index classes p) ≡ row_at rows p
  pub first : (p j : ℕ) → p < length rows → j < slice_index classes p → row_at rows j ≢ row_at rows p

abbrev pub list_eq : Vec ℕ Global → Vec ℕ Global → Bool
list_eq x y = pointwise nat_eq x.items y.items

-- the lists so far: the place where each was given first, and their classes
pub record AreFirsts {S : Type 0} (rows : List (List ℕ)) (known : HashMap (Vec ℕ Global) ℕ S) (places : List ℕ) : Type 0 where
  pub classes : AreClassesOf rows places
  pub found : (k : Vec ℕ Global) (c : ℕ) → get list_eq known k ≡ Some c → (c < length rows) × (row_at rows c ≡ k.items) × ((j : ℕ) → j < c → row_at rows j ≢ k.items)
  pub missing : (k : Vec ℕ Global) → get list_eq known k ≡ None → (j : ℕ) → j < length rows → row_at rows j ≢ k.items

-- what a state says, as a list
abbrev pub answer_row : Row → List ℕ
answer_row r = option_to_list (accepted_by r.kind)

-- the classes of where a state leads, as a list
abbrev pub leads_row : List ℕ → Vec ℕ Global → List ℕ
leads_row classes v = map (slice_index classes) v.items

abbrev pub AreWithin : List ℕ → ℕ → Type 0
AreWithin targets count = (t : ℕ) → Contains targets t → t < count

-- where values that no test edge covers lead
abbrev pub other_at : List Row → ℕ → ℕ
other_at d p = other_of (slice_get d p)
  where
    other_of : Option Row → ℕ
    other_of None = 0
    other_of (Some r) = r.other

-- the state itself, where values beyond all test edges lead, and where these values lead
abbrev pub leads_of : List Row → List ℕ → ℕ → List ℕ
leads_of d values p = p ∷ other_at d p ∷ map (step d p) values

-- the same for each state
pub record AreLeads (d : List Row) (values : List ℕ) (table : List (Vec ℕ Global)) : Type 0 where
  pub same_length : length table ≡ length d
  pub each : (p : ℕ) (v : Vec ℕ Global) → slice_get table p ≡ Some v → v.items ≡ leads_of d values p

-- the range begins at one of the values, and so do the values after it, if 32 bits hold them
pub record IsBounded (values : List ℕ) (r : Range) : Type 0 where
  pub start : Contains values r.start
  pub end : Contains (4294967296 ∷ values) (r.end + 1)
  pub fits : r.end ≤ 4294967295

-- the bit of the value is set in words of 64 bits
abbrev pub IsMarked : List ℕ → ℕ → Type 0
IsMarked marks c = bit_at (slice_index marks (c / 64)) (c % 64) ≡ 1

-- this value is marked, and no other that wasn't
abbrev pub AreMarkedWith : List ℕ → ℕ → List ℕ → Type 0
AreMarkedWith old v new = (c : ℕ) → IsMarked new c → IsMarked old c ⊎ (c ≡ v)

-- the list has the values that the set has, and those that are marked
pub record AreListed {S : Type 0} (known : HashSet ℕ S) (marks : List ℕ) (values : List ℕ) : Type 0 where
  pub in_set : (c : ℕ) → IsTrue (contains nat_eq known c) → Contains values c
  pub marked : (c : ℕ) → IsMarked marks c → Contains values c

-- no value is lost
abbrev pub IsMore : List ℕ → List ℕ → Type 0
IsMore old new = (c : ℕ) → Contains old c → Contains new c

-- each value leads from all states to where one of the values leads, or to where the values beyond all test edges lead
pub record AreTried (d : List Row) (values : List ℕ) : Type 0 where
  pub beyond : (p : ℕ) → p < length d → step d p 4294967296 ≡ other_at d p
  pub all : (c : ℕ) → (b : ℕ) × (Contains (4294967296 ∷ values) b × ((p : ℕ) → p < length d → step d p c ≡ step d p b))

-- each place has a first one: none after it, and one that is its own first
pub record AreFirstPlaces (firsts : List ℕ) : Type 0 where
  pub least : (p : ℕ) → p < length firsts → slice_index firsts p ≤ p
  pub own : (p : ℕ) → p < length firsts → slice_index firsts (slice_index firsts p) ≡ slice_index firsts p

-- places that have one first place stay together just if they have one key
pub record AreSplit (firsts keys parts : List ℕ) : Type 0 where
  pub same_length : length parts ≡ length firsts
  pub places : AreFirstPlaces parts
  pub same_first : (p : ℕ) → p < length firsts → slice_index firsts (slice_index parts p) ≡ slice_index firsts p
  pub same_key : (p : ℕ) → p < length firsts → slice_index keys (slice_index parts p) ≡ slice_index keys p
  pub together : (p q : ℕ) → p < length firsts → q < length firsts → slice_index firsts p ≡ slice_index firsts q → slice_index keys p ≡ slice_index keys q → slice_index parts p ≡ slice_index parts q

abbrev pub pair_eq : ℕ × ℕ → ℕ × ℕ → Bool
pair_eq x y = nat_eq x.0 y.0 && nat_eq x.1 y.1

-- the first place of the part: `first`, if that has the key of this place; or else the one that the map has, where this place is added if there is none
pub data IsPart {S : Type 0} (keys : List ℕ) (first place found : ℕ) (old new : HashMap (ℕ × ℕ) ℕ S) : Type 0 where
  stays : slice_index keys first ≡ slice_index keys place → found ≡ first → new ≡ old → IsPart keys first place found old new
  known : slice_index keys first ≢ slice_index keys place → get pair_eq old (first, slice_index keys place) ≡ Some found → new ≡ old → IsPart keys first place found old new
  added : slice_index keys first ≢ slice_index keys place → get pair_eq old (first, slice_index keys place) ≡ None → found ≡ place → Updates pair_eq old new (first, slice_index keys place) (Some place) → IsPart keys first place found old new

-- each value leads from the first n states to where the value at its first place leads
pub record AreColumns (d : List Row) (n : ℕ) (values firsts : List ℕ) : Type 0 where
  pub same_length : length firsts ≡ length values
  pub places : AreFirstPlaces firsts
  pub alike : (k p : ℕ) → k < length values → p < n → step d p (slice_index values (slice_index firsts k)) ≡ step d p (slice_index values k)

-- each of the first n values that has no other first place is kept
abbrev pub HasFirsts : ℕ → List ℕ → List ℕ → List ℕ → Type 0
HasFirsts n values firsts kept = (k : ℕ) → k < n → slice_index firsts k ≡ k → Contains kept (slice_index values k)
