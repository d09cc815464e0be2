-- cases: proofs/Cases/Answer.antt
-- What the program answers.
use Rattle.std.specs.Prelude.{ℕ, max, List, [], ◌++◌, codes}

-- an exit status, and what is written to standard output and to standard error
pub record Answer : Type 0 where
  pub status : ℕ
  pub out : List ℕ
  pub err : List ℕ

abbrev pub silence : Answer
silence = record { status = 0; out = []; err = [] }

-- only a message
abbrev pub refusal : ℕ → List ℕ → Answer
refusal status said = record { status = status; out = []; err = said }

-- something is said, and nothing is wrong
abbrev pub remark : List ℕ → Answer
remark said = refusal 0 said

-- one answer and then another: the greater status, and what both write
abbrev pub followed : Answer → Answer → Answer
followed a b = record { status = max a.status b.status; out = a.out ++ b.out; err = a.err ++ b.err }

-- the message that a file gives no text, and why
abbrev pub about : List ℕ → List ℕ → List ℕ
about file reason = codes "tokens: " ++ (file ++ (codes ": " ++ (reason ++ codes "\n")))

-- a message about a file begins with its name
abbrev pub headed : List ℕ → List ℕ → List ℕ
headed file rest = codes "tokens: " ++ (file ++ (codes ":" ++ rest))
