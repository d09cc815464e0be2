-- A text is put where there was none.
use Rattle.std.proofs.Common.{◌≡◌, ℕ, ◌+◌, ◌-◌, ◌≤◌, List, [], ◌∷◌, length, take, drop, zero, suc, refl, sym, ap, subst, ◌∙◌, arith}
use Rattle.std.proofs.lemmas.List.{take_all, drop_all}
use Rattle.bajofeki_rules.specs.Stack.{Stack, start}
use Rattle.lalrpop_rules.specs.Modes.{ModeRules}
use Rattle.bajofeki.specs.declared.change.Change.{Change}
use Rattle.bajofeki.specs.declared.kept.Kept.{Kept}
use Rattle.bajofeki.specs.Internal.Blocks.{sizes}
use Rattle.bajofeki.specs.Internal.Changing.{IsKeptChange}
use Rattle.bajofeki.specs.Internal.Kept.{KeptUpTo, after_kept}
use Rattle.bajofeki.specs.Internal.Least.{IsLeastChange}
use Rattle.bajofeki.specs.Internal.Meeting.{new_place}
use Rattle.bajofeki.proofs.BlockLaws.{kept_sizes}
use Rattle.bajofeki.proofs.KeptLaws.{kept_some}

-- a list without elements
pub nothing : {A : Type 0} (xs : List A) → length xs ≡ 0 → xs ≡ []
nothing [] none = refl
nothing (x ∷ xs) none = cc

-- pieces that end where all of them do are all of them
all_of_them : (r : ModeRules) (text : List ℕ) (at : ℕ) (s : Stack) (ks : List Kept) (to : ℕ) (t : Stack) (j : ℕ) → KeptUpTo r text at s ks to t → j ≤ length ks
    → sizes (take j ks) ≡ sizes ks → j ≡ length ks
all_of_them r text at s [] to t j are within same = omega (arith, within)
all_of_them r text at s (k ∷ ks) to t zero are within same = absurd (omega (arith, same, kept_some r s.mode (drop at text) k are.0))
all_of_them r text at s (k ∷ ks) to t (suc j) are within same =
    let later : j ≡ length ks = all_of_them r text (at + k.size) (after_kept r k s) ks to t j are.1 (omega (arith, within)) (omega (arith, same)) in
    omega (arith, later)

module _ (r : ModeRules) (before text : List ℕ) (ls : List Kept) (u : Stack) (none : length before ≡ 0) (too : KeptUpTo r text 0 start ls (length text) u) where
  abbrev change : ℕ → ℕ → Change
  change count end = record { first = 0; removed = 0; inserted = count; start = 0; old_end = 0; new_end = end }

  pub filled_change : (count end : ℕ) → count ≡ length ls → end ≡ length text → IsKeptChange r before text [] ls (change count end)
  filled_change count end many long =
      let all : take (0 + count) ls ≡ ls = take_all (0 + count) ls (omega (arith, many)) in
      record {
        removed = omega arith;
        inserted = omega (arith, many);
        front = refl;
        behind = drop_all (0 + count) ls (omega (arith, many));
        starts = (start, (refl, refl));
        old_ends = (start, (refl, refl));
        new_ends = (u, subst (λ (ks : List Kept). KeptUpTo r text 0 start ks end u) (sym all) (subst (λ (n : ℕ). KeptUpTo r text 0 start ls n u) (sym long) too));
        same_front = refl;
        same_behind = nothing before none ∙ sym (drop_all end text (omega (arith, long)));
      }

  pub filled_least : (count end from to size : ℕ) → count ≡ length ls → end ≡ length text → size ≡ length text → from ≡ 0 → to ≡ 0
      → IsLeastChange r (record { from = from; to = to; size = size }) [] ls (change count end)
  filled_least count end from to size many long sized front back = record {
    within = tt;
    first = λ k got. absurd (cc);
    none = λ i j low high low2 high2 met.
        let at : i ≡ 0 = omega (arith, high) in
        let whole : sizes (take j ls) ≡ sizes ls = omega (
          arith,
          sym met.same,
          ap (λ (n : ℕ). new_place (record { from = from; to = to; size = size }) (sizes (take n []))) at,
          front,
          back,
          sized,
          (kept_sizes r text 0 start ls (length text) u too).0,
        ) in
        (omega (arith, at), omega (arith, all_of_them r text 0 start ls (length text) u j too (omega (arith, high2, many)) whole, many));
  }
