use Rattle.std.proofs.Common.{◌≡◌, ◌<◌, ℕ, length}
use Rattle.std.specs.Prelude.{slice_index}
use Rattle.lalrpop_emit.proofs.made_table.all_pages.Given as goal

-- the pages so far
abbrev pub invariant-loop-page : goal.invariant-loop-page
invariant-loop-page l = record {
  all : length l.pages.items ≡ l.page;
  each : (k : ℕ) → k < l.page → slice_index l.pages.items k ≡ k;
}
