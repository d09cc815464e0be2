use Rattle.std.proofs.Common.{ℕ, ◌*◌, ◌<◌, ◌≤◌}
use Rattle.lalrpop_dense.specs.DenseTable.{character_class}
use Rattle.lalrpop_emit.specs.Internal.Lists.{list_numbers}
use Rattle.lalrpop_emit.proofs.ahead_table.greatest_of_page.Given as goal

-- that of the characters so far
abbrev pub invariant-loop-code : goal.invariant-loop-code
invariant-loop-code l = (c : ℕ) → c < l.code → l.page * 128 ≤ c → character_class (list_numbers l.table) c ≤ l.greatest
