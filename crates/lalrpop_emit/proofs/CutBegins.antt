-- A cut before its first piece.
use Rattle.std.proofs.Common.{◌≡◌, ℕ, ◌-◌, ◌<◌, Bool, true, false, inl, List, [], ◌++◌, length, take, replicate, ap, subst, ◌∙◌, arith}
use Rattle.std.specs.Prelude.{if◌then◌else◌}
use Rattle.std.proofs.Math.Seq.{take-nil}
use Rattle.lalrpop_emit.specs.ByteCut.{IsCutOf}
use Rattle.lalrpop_emit.specs.NumberedRules.{NumberedRules}
use Rattle.lalrpop_emit.specs.Internal.Running.{HasNoEnd, HasRoom}
use Rattle.lalrpop_emit.specs.Internal.Walking.{IsDrivable}
use Rattle.lalrpop_emit.specs.declared.run.Run.{Run}
use Rattle.lalrpop_emit.proofs.ModeMemos.{memo_begins}

-- nothing has been found, and nothing is noted
pub cut_begins : (seen n : NumberedRules) (text below memo : List ℕ) (words : ℕ) (run : Run) → seen ≡ n → IsDrivable seen → length below ≡ 1024 → HasRoom run → HasNoEnd run
    → (run.length ≡ 0) × (run.base ≡ 0) × (run.since ≡ 0) → memo ≡ replicate words 0
    → IsCutOf n text (record { state = record { at = 0; mode = 0; depth = 0 }; below = below; run = run; memo = memo })
cut_begins seen n text below memo words run same drivable size room none begins zeros = record {
  room = size;
  within = omega arith;
  state = record { within = omega arith; there = (subst (λ (m : NumberedRules). 0 < length m.tables) same drivable.some, tt) };
  run = record { room = room; behind = omega (arith, begins.1); since = omega (arith, begins.2); block = λ a t at_a at_t. inl begins.0; serves = λ a t at_a at_t. inl none };
  memo = memo_begins n text memo words zeros;
}

-- a list that was cleared, with room for n words or, if that was refused, as it was
pub zeros_in : (is_done : Bool) (n size : ℕ) (old new : List ℕ) → old ≡ [] → size ≡ 0 → new ≡ (if is_done then take n old ++ replicate (n - size) 0 else old)
    → (words : ℕ) × (new ≡ replicate words 0)
zeros_in false n size old new none zero is = (0, is ∙ none)
zeros_in true n size old new none zero is =
    (n - size, is ∙ ap (λ (xs : List ℕ). take n xs ++ replicate (n - size) 0) none ∙ ap (λ (xs : List ℕ). xs ++ replicate (n - size) 0) (take-nil n))
