-- What reading in vain costs, and which notes pay for it.
use Rattle.std.specs.Prelude.{◌≡◌, ◌≢◌, ℕ, ◌+◌, ◌-◌, ◌*◌, ◌/◌, ◌<◌, ◌≤◌, ◌⊎◌, List, [], ◌∷◌, ◌++◌, length, take, drop, Option, Some, None, slice_get}
use Rattle.std.specs.List.{All, Contains}
use Rattle.std.specs.Char.{encode_utf8}
use Rattle.std.specs.Str.{chars, encode_utf8_all, IsCharBoundary}
use Rattle.lalrpop_hir.specs.Tree.{Tree}
use Rattle.lalrpop_hir.specs.Longest.{IsLongest}
use Rattle.lalrpop_dfa.specs.declared.Kind.TheVariants.{Neither}
use Rattle.lalrpop_rules.specs.Modes.{ModeRules, trees_in}
use Rattle.bajofeki.specs.Lexed.{ReadsTo}
use Rattle.bajofeki.specs.Internal.Noted.{IsKnown}
use Rattle.bajofeki.specs.Internal.Walking.{IsMet, behind, next_of, says}
use Rattle.bajofeki.specs.declared.cutter.Cutter.{Cutter}
use Rattle.bajofeki.specs.declared.front.Front.{Front}
use Rattle.bajofeki.specs.declared.memo.Memo.{Memo}
use Rattle.bajofeki.specs.declared.place.Place.{Place}
use Rattle.bajofeki.specs.declared.walker.Walker.{Walker}

-- how many bytes the match has, if there is one
abbrev pub size_of : Option (ℕ × List ℕ) → ℕ
size_of None = 0
size_of (Some m) = length m.1

-- ---- notes

-- of a text that begins at the byte `begin` of a longer one: a character ends after its first n bytes, and is the first one there that goes on past a multiple of
-- 64 bytes of the longer text, or ends at one
pub record IsCrossing (begin : ℕ) (text : List ℕ) (n : ℕ) : Type 0 where
  pub boundary : IsCharBoundary text n
  pub later : begin < (begin + n) / 64 * 64
  pub first : (k : ℕ) → k < n → (begin + n) / 64 * 64 ≤ begin + k → ¬ IsCharBoundary text k

-- no two of them are the same
abbrev pub AreDistinct : List (ℕ × (ℕ × ℕ)) → Type 0
AreDistinct [] = Unit {0}
AreDistinct (x ∷ xs) = (¬ Contains xs x) × AreDistinct xs

-- this was noted anew: for the mode, an open place of its walk, and a place in the first `far` bytes of the text
pub record IsNew (w : Walker) (old new : Memo) (mode begin : ℕ) (text : List ℕ) (far : ℕ) (x : ℕ × (ℕ × ℕ)) : Type 0 where
  pub mode_is : x.0 ≡ mode
  pub met : IsMet w x.1.0
  pub is_open : says w x.1.0 ≡ Neither
  pub there : (n : ℕ) × ((x.1.1 ≡ begin + n) × (n ≤ far) × IsCrossing begin text n)
  pub unknown : ¬ IsKnown old x.0 x.1.0 x.1.1
  pub known : IsKnown new x.0 x.1.0 x.1.1

-- ---- a run

-- from the place on, which is at this byte, each of the characters leads to an open place, for which nothing is noted
abbrev pub AreUnknown : Walker → Memo → ℕ → ℕ → ℕ → List ℕ → Type 0
AreUnknown w m mode at place [] = Unit {0}
AreUnknown w m mode at place (c ∷ v) =
    (says w (next_of w place c) ≡ Neither)
    × ((at / 64 ≢ (at + length (encode_utf8 c)) / 64) → ¬ IsKnown m mode (next_of w place c) (at + length (encode_utf8 c)))
    × AreUnknown w m mode (at + length (encode_utf8 c)) (next_of w place c) v

-- these characters were read in vain after the first `end` bytes of the text, of which `read` were read; and one more, unless the text ends there
pub record IsVain (w : Walker) (m : Memo) (mode begin : ℕ) (text : List ℕ) (end place read : ℕ) (vain : List ℕ) : Type 0 where
  pub within : read ≤ length text
  pub front : (more : List ℕ) × (chars (drop end text) ≡ vain ++ more)
  pub above : end + length (encode_utf8_all vain) ≤ read
  pub below : read ≤ end + length (encode_utf8_all vain) + 4
  pub unknown : AreUnknown w m mode (begin + end) place vain

-- a run that found a match of this size read to the place `far`; the notes that it made pay for what it read twice in vain
pub record IsRunPaid (w : Walker) (old new : Memo) (mode begin : ℕ) (text : List ℕ) (size before after : ℕ) (news : List (ℕ × (ℕ × ℕ))) (far : ℕ) : Type 0 where
  pub boundary : IsCharBoundary text far
  pub past : size ≤ far
  pub is_open : size < far → says w (behind w (chars (take far text))) ≡ Neither
  pub each : All (IsNew w old new mode begin text far) news
  pub distinct : AreDistinct news
  pub cost : after ≤ before + size + 134 + 128 * length news

-- ---- the piece at the front of a text

-- n steps are owed: none, or those of the match after the fault, which the next piece is
abbrev pub IsOwedBehind : List Tree → List ℕ → List ℕ → Front → ℕ → ℕ → Type 0
IsOwedBehind ts ps text f far n =
    (n ≡ 0) ⊎ ((f.rule ≡ None) × (f.size + n ≤ far) × ((i : ℕ) × ((slice : List ℕ) × ((length slice ≡ n) × IsLongest ts ps (drop f.size text) (Some (i, slice))))))

-- the piece was found by reading to the place `far`; its size, the notes that were made and what is owed pay for that
pub record IsFrontPaid (w : Walker) (ts : List Tree) (ps : List ℕ) (old new : Memo) (mode begin : ℕ) (text : List ℕ) (f : Front) (before after : ℕ)
    (news : List (ℕ × (ℕ × ℕ))) (far : ℕ) : Type 0 where
  pub boundary : IsCharBoundary text far
  pub past : f.size ≤ far
  pub reads : (far ≡ f.size) ⊎ ((k : ℕ) × ((k ≤ f.size) × IsCharBoundary text k × ReadsTo ts text k far))
  pub each : All (IsNew w old new mode begin text far) news
  pub distinct : AreDistinct news
  pub cost : (n : ℕ) × (IsOwedBehind ts ps text f far n × (after ≤ before + 268 * f.size + 128 * length news + n))

-- ---- a piece of a text that is cut

-- n steps are owed at the place: none, or those of the match there
abbrev pub IsOwed : ModeRules → List ℕ → Place → ℕ → ℕ → Type 0
IsOwed r text p far n =
    (n ≡ 0) ⊎ ((p.at + n ≤ far)
    × ((i : ℕ) × ((slice : List ℕ) × ((length slice ≡ n) × IsLongest (trees_in r p.stack.mode) r.precedences (drop p.at text) (Some (i, slice))))))

-- this is noted, for an open place of the walk of the mode, and a place in the text between these two
pub record IsNote (c : Cutter) (text : List ℕ) (from far : ℕ) (x : ℕ × (ℕ × ℕ)) : Type 0 where
  pub walk : (w : Walker) × ((slice_get c.walkers.items x.0 ≡ Some w) × IsMet w x.1.0 × (says w x.1.0 ≡ Neither))
  pub above : from ≤ x.1.1
  pub below : x.1.1 ≤ far
  pub crossing : IsCrossing 0 text x.1.1
  pub known : IsKnown c.memo x.0 x.1.0 x.1.1

-- the piece at the place `old`, and before the place `next`, was cut so
pub record IsPiecePaid (r : ModeRules) (c d : Cutter) (text : List ℕ) (old next : Place) (before after : ℕ) (news : List (ℕ × (ℕ × ℕ))) (far : ℕ) : Type 0 where
  pub boundary : IsCharBoundary text far
  pub past : next.at ≤ far
  pub reads : (far ≡ next.at) ⊎ ((k : ℕ) × ((old.at ≤ k) × (k ≤ next.at) × IsCharBoundary text k × ReadsTo (trees_in r old.stack.mode) text k far))
  pub each : All (IsNote d text old.at far) news
  pub unknown : All (λ x. ¬ IsKnown c.memo x.0 x.1.0 x.1.1) news
  pub distinct : AreDistinct news
  pub cost : (n : ℕ) × (IsOwed r text next far n × (after ≤ before + 268 * (next.at - old.at) + 128 * length news + n))

-- the pieces from the one place to the other were cut so
pub record IsCutPaid (r : ModeRules) (c : Cutter) (text : List ℕ) (from to : Place) (before after : ℕ) (news : List (ℕ × (ℕ × ℕ))) (far : ℕ) : Type 0 where
  pub order : from.at ≤ to.at
  pub boundary : IsCharBoundary text far
  pub past : to.at ≤ far
  pub reads : (far ≡ to.at) ⊎ ((mode k : ℕ) × ((from.at ≤ k) × (k ≤ to.at) × IsCharBoundary text k × ReadsTo (trees_in r mode) text k far))
  pub each : All (IsNote c text from.at far) news
  pub distinct : AreDistinct news
  pub cost : (n : ℕ) × (IsOwed r text to far n × (after ≤ before + 269 * (to.at - from.at) + 128 * length news + n))
