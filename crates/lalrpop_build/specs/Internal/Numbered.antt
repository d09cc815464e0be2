-- Numbered signatures, and the groups that have them.
use Rattle.std.specs.Prelude.{◌≡◌, ℕ, ◌+◌, ◌<◌, ◌≤◌, ◌⊎◌, ◌↔◌, List, length, slice_get, Some}
use Rattle.std.specs.List.{Contains}
use Rattle.std.specs.BTreeMap.{BTreeMap, get}
use Rattle.std.specs.Cmp.Lexicographic.{slice_cmp}
use Rattle.std.specs.Ordering.{nat_cmp}
use Rattle.std.specs.declared.cmp.Ordering.{Ordering}
use Rattle.lalrpop_build.specs.declared.alphabet.Cell.{Cell}
use Rattle.lalrpop_build.specs.declared.alphabet.Group.{Group}
use Rattle.lalrpop_build.specs.declared.alphabet.signatures.Signature.{Signature}
use Rattle.lalrpop_build.specs.Internal.Alphabet.{HasClass, HasBoundary}

-- by the first list in which they differ
abbrev pub signature_cmp : Signature → Signature → Ordering
signature_cmp x y = slice_cmp nat_cmp x.lists.items y.lists.items

-- the groups keep their boundaries, and get the classes that E allows
pub record GotClasses (old new : List Group) (E : ℕ → ℕ → Type 0) : Type 0 where
  pub same_length : length new ≡ length old
  pub boundaries : (n k : ℕ) → HasBoundary new n k ↔ HasBoundary old n k
  pub classes : (n c : ℕ) → HasClass new n c ↔ (HasClass old n c ⊎ E n c)

-- the groups of the signature's lists have class c, and no others do
abbrev pub IsClassOf : List Group → Signature → ℕ → Type 0
IsClassOf groups s c = (n : ℕ) → HasClass groups n c ↔ Contains s.lists.items n

-- the numbers in the map are classes, and all classes are below the count
pub record AreNumbered (known : BTreeMap Signature ℕ) (groups : List Group) (count : ℕ) : Type 0 where
  pub counted : (n c : ℕ) → HasClass groups n c → c < count
  pub classes : (s : Signature) (c : ℕ) → get signature_cmp known s ≡ Some c → (c < count) × IsClassOf groups s c

-- the groups keep their boundaries and the classes that they had; the signature has class c
pub record IsNumbered (groups groups2 : List Group) (count count2 : ℕ) (s : Signature) (c : ℕ) : Type 0 where
  pub same_length : length groups2 ≡ length groups
  pub boundaries : (n k : ℕ) → HasBoundary groups2 n k ↔ HasBoundary groups n k
  pub kept : (n d : ℕ) → d < count → HasClass groups2 n d ↔ HasClass groups n d
  pub more : (count ≤ count2) × (count2 ≤ count + 1)
  pub within : c < count2
  pub class : IsClassOf groups2 s c

-- the cells begin at the boundaries, and have the classes of their signatures
pub record AreClassed (boundaries : List ℕ) (signatures : List Signature) (cells : List Cell) (groups : List Group) (count : ℕ) : Type 0 where
  pub firsts : (k : ℕ) (x : Cell) → slice_get cells k ≡ Some x → slice_get boundaries k ≡ Some x.first
  pub classes : (k : ℕ) (x : Cell) (s : Signature) → slice_get cells k ≡ Some x → slice_get signatures k ≡ Some s → (x.class < count) × IsClassOf groups s x.class

-- all cells have classes, the groups keep their boundaries, and all classes are below the count
pub record AreAllClassed (boundaries : List ℕ) (signatures : List Signature) (groups : List Group) (cells : List Cell) (groups2 : List Group) (count : ℕ) : Type 0 where
  pub all : length cells ≡ length boundaries
  pub same_length : length groups2 ≡ length groups
  pub same_boundaries : (n k : ℕ) → HasBoundary groups2 n k ↔ HasBoundary groups n k
  pub counted : (n c : ℕ) → HasClass groups2 n c → c < count
  pub classed : AreClassed boundaries signatures cells groups2 count
