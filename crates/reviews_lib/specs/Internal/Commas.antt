-- Lists with commas.
use Rattle.std.specs.Prelude.{ℕ, zero, suc, List, [], codes}

-- what stands before the item with this number: a comma, unless it is the first
abbrev pub comma_before : ℕ → List ℕ
comma_before zero = []
comma_before (suc i) = codes ", "
