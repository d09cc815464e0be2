use Rattle.std.proofs.Common.{◌++◌, ◌∙◌, List, ℕ, string_bytes, ap}
use Rattle.std.specs.Prelude.{codes}
use Rattle.lalrpop_emit.specs.CSource.{mode_array}
use Rattle.lalrpop_emit.proofs.c_file.push_ahead_cells.Goals as goal

pub returns : goal.returns
returns c = c.in_ok-push_mode_array.ensures ∙ ap (λ (ns : List ℕ). string_bytes c.args.source.now ++ mode_array c.args.prefix.now (codes "$_ahead_cell $_ahead_cells_") c.args.mode ns) c.deref.ensures.value
