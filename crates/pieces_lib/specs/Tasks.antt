-- What is done with each text.
use Rattle.std.specs.Prelude.{ℕ, ◌⊎◌, List}
use Rattle.lexdfa_lib.specs.Streams.{Reading}
use Rattle.reports_lib.specs.Answer.{Answer}
use Rattle.pieces_lib.specs.TextAnswer.{PiecesAnswer, PiecesPart, PageAnswer, PagePart}
use Rattle.pieces_lib.specs.declared.cut_files.Task.{Task}
use Rattle.pieces_lib.specs.declared.cut_files.Task.TheVariants.{Pieces, Markup}

-- the answer of a task for what is read of a file
abbrev pub TaskAnswer : Task → List ℕ → Reading → Answer → Type 0
TaskAnswer (Pieces rules form recovers several) = PiecesAnswer rules.now rules.now.mode_names form recovers several
TaskAnswer (Markup rules markup) = PageAnswer rules.now rules.now.mode_names markup

-- for a part of it, before a run failed
abbrev pub TaskPart : Task → List ℕ → Reading → Answer → Type 0
TaskPart (Pieces rules form recovers several) = PiecesPart rules.now rules.now.mode_names form recovers several
TaskPart (Markup rules markup) = PagePart rules.now rules.now.mode_names markup

-- the answer for all that is read, or for a part of it
abbrev pub EitherAnswer : (List ℕ → Reading → Answer → Type 0) → (List ℕ → Reading → Answer → Type 0) → List ℕ → Reading → Answer → Type 0
EitherAnswer IsFor PartFor file reading answer = IsFor file reading answer ⊎ PartFor file reading answer

-- what is read so has this answer
abbrev pub ReadAnswer : (Reading → Type 0) → (Reading → Answer → Type 0) → Answer → Type 0
ReadAnswer Gives IsFor answer = (reading : Reading) × (Gives reading × IsFor reading answer)
