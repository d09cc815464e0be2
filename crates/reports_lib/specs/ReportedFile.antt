-- A file of rules, as a report speaks of it.
use Rattle.std.specs.Prelude.{ℕ, List}
use Rattle.bajofeki_rules.specs.declared.position.Position.{Position}

-- its name, the names of its modes and of its rules, and where the texts of the rules begin
pub record ReportedFile : Type 0 where
  pub file : List ℕ
  pub modes : List (List ℕ)
  pub names : List (List ℕ)
  pub places : List Position
