-- cases: proofs/Cases/Whole.antt
-- The answer for bytes and a text that is cut into tokens: one outcome, and the lines of the tokens and of the outcome.
use Rattle.std.specs.Prelude.{◌≡◌, ℕ, ◌⊎◌, List, [], ◌∷◌, ◌++◌, length, map, flat_map, Ok, Err}
use Rattle.std.specs.Borrow.{Bor}
use Rattle.lalrpop_hir.specs.Tree.{Tree}
use Rattle.lalrpop_hir.specs.Tokens.{AreItems}
use Rattle.lexdfa_lib.specs.Answer.{HaveAutomaton, IsReported}
use Rattle.lexdfa_lib.specs.Printed.{line_of}
use Rattle.lexdfa_lib.specs.declared.outcome.Outcome.{Outcome}
use Rattle.lexdfa_lib.specs.declared.outcome.Outcome.TheVariants.{Match, All, Stopped}

-- a token: the index of a terminal, and a slice
abbrev pub Token : Type 0
Token = ℕ × Bor (List ℕ)

-- what trees with these precedences cut the text into if they have an automaton: tokens up to its end, or up to a fault
abbrev pub Cuts : List Tree → List ℕ → List ℕ → List Token → Outcome → Type 0
Cuts ts ps text tokens (All n) = AreItems ts ps text 0 (map Ok tokens) × (n ≡ length tokens)
Cuts ts ps text tokens (Stopped n at) = AreItems ts ps text 0 (map Ok tokens ++ Err (record { at = at }) ∷ []) × (n ≡ length tokens)
Cuts ts ps text tokens _ = ⊥

-- the outcome for the bytes and the text, and the tokens before it: what the bytes report, with no tokens; otherwise what the
-- terminals cut the text into
abbrev pub IsWhole : List ℕ → List ℕ → List Token → Outcome → Type 0
IsWhole bytes text tokens outcome =
    (IsReported bytes outcome × (tokens ≡ []))
    ⊎ ((ts : List Tree) × ((ps : List ℕ) × (HaveAutomaton bytes ts ps × Cuts ts ps text tokens outcome)))

-- the line of a token
abbrev pub token_line : Token → List ℕ
token_line token = line_of (Match token.0 (length token.1.now))

-- the outcome for the bytes and the text, and all lines: one for each token, and then one for the outcome
abbrev pub AreAnswers : List ℕ → List ℕ → Outcome → List ℕ → Type 0
AreAnswers bytes text outcome written =
    (tokens : List Token) × (IsWhole bytes text tokens outcome × (written ≡ flat_map token_line tokens ++ line_of outcome))
