-- Blocks of the modes.
use Rattle.std.proofs.Common.{◌≡◌, ℕ, ◌<◌, List, map, sym, ap, ◌∙◌, arith, ⊎_elim}
use Rattle.std.specs.Prelude.{slice_get, Some}
use Rattle.std.specs.Option.{option_map}
use Rattle.std.proofs.lemmas.Option.{slice_get-map}
use Rattle.lalrpop_dense.specs.DenseTable.{TableNumbers}
use Rattle.lalrpop_emit.specs.Ahead.{AheadNumbers}
use Rattle.lalrpop_emit.specs.NumberedRules.{NumberedRules}
use Rattle.lalrpop_emit.specs.declared.ahead_table.AheadLists.{AheadLists}
use Rattle.lalrpop_emit.specs.declared.run.Run.{Run}
use Rattle.lalrpop_emit.specs.Internal.Lists.{ahead_numbers}
use Rattle.lalrpop_emit.specs.Internal.Running.{IsBlock, IsRunThrough}

pub block_there : (a : AheadNumbers) (t : TableNumbers) (text : List ℕ) (run : Run) → IsBlock a t text run → 0 < run.length → IsRunThrough a t text run
block_there a t text run h some = ⊎_elim (λ none. absurd (omega (arith, none, some))) (λ r. r) h

-- the table that runs ahead in the mode
pub ahead_there : (seen n : NumberedRules) (lists : List AheadLists) (mode : ℕ) (x : AheadLists) → seen ≡ n → map ahead_numbers lists ≡ seen.ahead → slice_get lists mode ≡ Some x
    → slice_get n.ahead mode ≡ Some (ahead_numbers x)
ahead_there seen n lists mode x same are there =
    ap (λ (m : NumberedRules). slice_get m.ahead mode) (sym same) ∙ ap (λ aheads. slice_get aheads mode) (sym are) ∙ slice_get-map ahead_numbers lists mode ∙ ap (option_map ahead_numbers) there
