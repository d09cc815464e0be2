-- How a map from kernels to numbers represents the list of kernels, and which of them wait.
use Rattle.std.specs.Prelude.{◌≡◌, ℕ, zero, suc, ◌<◌, ◌≤◌, ◌^◌, List, [], ◌∷◌, ◌++◌, length, drop, Some, slice_get, cond, ◌==◌}
use Rattle.std.specs.List.{All, AllZip}
use Rattle.std.specs.Map.{values_of}
use Rattle.std.specs.BTreeMap.{get, BTreeMap, btree_map_len}
use Rattle.std.specs.declared.cmp.Ordering.{Ordering}
use Rattle.lalrpop_dfa.specs.Kernels.{IsNumberOf}

module _ {K : Type 0} where
  -- the first key with the number n, as a list of at most one
  abbrev pub key_with : ℕ → List (K × ℕ) → List K
  key_with n [] = []
  key_with n (e ∷ es) = cond (e.1 == n) (e.0 ∷ []) (key_with n es)

  -- the keys with numbers below n, in the order of the numbers
  abbrev pub by_number : List (K × ℕ) → ℕ → List K
  by_number es zero = []
  by_number es (suc n) = by_number es n ++ key_with n es

  -- the keys in the order of their numbers, if each number is below the number of entries
  abbrev pub in_order : List (K × ℕ) → List K
  in_order es = by_number es (length es)

-- the map gives each kernel of ks the number at which it is in the list, and has no other keys
pub record IsNumbered {K : Type 0} (cmp : K → K → Ordering) (m : BTreeMap K ℕ) (ks : List K) : Type 0 where
  pub found : (n : ℕ) (k : K) → slice_get ks n ≡ Some k → get cmp m k ≡ Some n
  pub sound : (k : K) (n : ℕ) → get cmp m k ≡ Some n → IsNumberOf cmp ks k n

-- the keys of the map are numbered from 0 on, and `waiting` has clones of those from the place on
pub record IsKernelSet {K : Type 0} (cmp : K → K → Ordering) (is_clone : K → K → Type 0) (m : BTreeMap K ℕ) (waiting : List K) (place : ℕ) : Type 0 where
  pub numbered : IsNumbered cmp m (in_order m.entries)
  pub counted : length (in_order m.entries) ≡ btree_map_len m
  pub below : All (λ n. n < btree_map_len m) (values_of m.entries)
  -- few enough that the place fits a `usize`
  pub small : btree_map_len m ≤ 2 ^ 63
  pub within : place ≤ btree_map_len m
  pub waits : AllZip is_clone (drop place (in_order m.entries)) waiting
