-- A word, and the tree that wins it.
use Rattle.std.specs.Prelude.{ℕ, List}

pub record WonWord : Type 0 where
  pub by : ℕ
  pub word : List ℕ
