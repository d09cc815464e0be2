-- The witness is unique, what it says of the lookahead, and both for sets of words that are equal.
use Rattle.std.proofs.Common.{◌≡◌, ℕ, ◌≤◌, ◌⊎◌, ◌↔◌, inl, inr, ◌++◌, List, sym, subst}
use Rattle.std.specs.Prelude.{Option, Some, None}
use Rattle.lalrpop_hir.specs.Word.{Shortlex}
use Rattle.lalrpop_hir.proofs.Words.{Shortlex-total}
use Rattle.lalrpop_dfa.specs.Lookahead.{CanStayOpen, IsLookahead, LeavesOpen, LooksAtMost, StaysOpenEver}
use Rattle.lalrpop_dfa.specs.Witness.{IsLeast, IsOpenMatch, IsWitness}

-- two least words with a property are equal
pub least-unique : (P : List ℕ → Type 0) (v w : List ℕ) → IsLeast P v → IsLeast P w → v ≡ w
least-unique P v w h g = by_order (Shortlex-total v w)
  where
    by_order : Shortlex v w ⊎ ((v ≡ w) ⊎ Shortlex w v) → v ≡ w
    by_order (inl less) = absurd (g.least v less h.holds)
    by_order (inr (inl e)) = e
    by_order (inr (inr less)) = absurd (h.least w less g.holds)

-- two witnesses of the same words and number are equal
pub witness-unique : (L : List ℕ → Type 0) (n : ℕ) (v x w y : List ℕ) → IsWitness L n v x → IsWitness L n w y → (v ≡ w) × (x ≡ y)
witness-unique L n v x w y h g =
    let same : v ≡ w = least-unique (λ u. (z : List ℕ) × IsOpenMatch L n u z) v w h.word g.word in
    (same, least-unique (IsOpenMatch L n v) x y h.after (subst (λ u. IsLeast (IsOpenMatch L n u) y) (sym same) g.after))

-- values that leave a match open are no more than the lookahead
pub open_at_most : (L : List ℕ → Type 0) (m n : ℕ) (v x : List ℕ) → IsLookahead L (Some m) → IsOpenMatch L n v x → n ≤ m
open_at_most L m n v x h o = h.0 n (v, x, o.leaves_open)

-- ---- sets of the same words
module _ (L M : List ℕ → Type 0) (same : (w : List ℕ) → L w ↔ M w) where
  same_open : (n : ℕ) (v x : List ℕ) → LeavesOpen L n v x → LeavesOpen M n v x
  same_open n v x h = record {
    some = h.some;
    word = (same v).0 h.word;
    long = h.long;
    none = λ u z e some m. h.none u z e some ((same (v ++ u)).1 m);
    later = (h.later.0, (same ((v ++ x) ++ h.later.0)).0 h.later.1);
  }

  same_can : (n : ℕ) → CanStayOpen L n → CanStayOpen M n
  same_can n (v, x, h) = (v, x, same_open n v x h)

  same_match : (n : ℕ) (v x : List ℕ) → IsOpenMatch L n v x → IsOpenMatch M n v x
  same_match n v x h = record { word = h.word; values = h.values; leaves_open = same_open n v x h.leaves_open }

module _ (L M : List ℕ → Type 0) (same : (w : List ℕ) → L w ↔ M w) where
  back : (w : List ℕ) → M w ↔ L w
  back w = ((same w).1, (same w).0)

  pub same_most : (n : ℕ) → LooksAtMost L n → LooksAtMost M n
  same_most n most m can = most m (same_can M L back m can)

  pub same_lookahead : (o : Option ℕ) → IsLookahead L o → IsLookahead M o
  same_lookahead None h = λ m. same_can L M same m (h m)
  same_lookahead (Some n) (most, inl e) = (same_most n most, inl e)
  same_lookahead (Some n) (most, inr can) = (same_most n most, inr (same_can L M same n can))

  pub same_none : (n : ℕ) → ((v x : List ℕ) → ¬ IsOpenMatch L n v x) → (v x : List ℕ) → ¬ IsOpenMatch M n v x
  same_none n none v x h = none v x (same_match M L back n v x h)

  pub same_witness : (n : ℕ) (v x : List ℕ) → IsWitness L n v x → IsWitness M n v x
  same_witness n v x h = record {
    word = record {
      holds = (h.word.holds.0, same_match L M same n v h.word.holds.0 h.word.holds.1);
      least = λ u less (y, o). h.word.least u less (y, same_match M L back n u y o);
    };
    after = record {
      holds = same_match L M same n v x h.after.holds;
      least = λ u less o. h.after.least u less (same_match M L back n v u o);
    };
  }

  -- the same matches by a tree, too
  pub same_ever : (N O : List ℕ → Type 0) → ((w : List ℕ) → N w ↔ O w) → StaysOpenEver L N ↔ StaysOpenEver M O
  same_ever N O alike = (
    λ h n. (let (v, x, (b, o)) = h n in (v, x, ((alike v).0 b, same_open L M same n v x o))),
    λ h n. (let (v, x, (b, o)) = h n in (v, x, ((alike v).1 b, same_open M L back n v x o))),
  )
