-- cases: proofs/Cases/Compared.antt
-- The answer for two files of rules that are compared.
use Rattle.std.specs.Prelude.{◌≡◌, ◌≢◌, ℕ, ◌+◌, min, ◌⊎◌, Bool, true, false, List, [], ◌∷◌, ◌++◌, length, Option, Some, None, slice_get, unwrap_or, codes, flat_map}
use Rattle.lalrpop_dfa.specs.Witness.{IsLeast}
use Rattle.bajofeki_rules.specs.Quoted.{quoted_word}
use Rattle.lalrpop_rules.specs.Modes.{ModeRules}
use Rattle.bajofeki_rules.specs.declared.action.Action.{Action}
use Rattle.bajofeki_rules.specs.declared.action.Action.TheVariants.{Mode, Push, Pop}
use Rattle.lalrpop_review.specs.Apart.{Told, told, IsTokenIn, TellsApart}
use Rattle.lalrpop_verdicts.specs.Differences.{Answers}
use Rattle.lexdfa_lib.specs.Streams.{Given}
use Rattle.lexdfa_lib.specs.declared.command.Verbosity.{Verbosity}
use Rattle.reports_lib.specs.Answer.{Answer}
use Rattle.reports_lib.specs.PieceLines.{mode_named, name_at}
use Rattle.reports_lib.specs.NamedRules.{BytesAnswer, LexerOf, RulesOf}

-- ---- what differs

-- in the mode, the least text that is another token by one of the two than by the other, with the rules of both tokens; or none is
abbrev pub IsDifference : ModeRules → ModeRules → ℕ → Option Answers → Type 0
IsDifference r s m None = (w : List ℕ) → ¬ TellsApart r s m w
IsDifference r s m (Some f) = IsLeast (TellsApart r s m) f.word × IsTokenIn r m f.word f.left × IsTokenIn s m f.word f.right

-- there is one of these for each of the first modes, in their order
abbrev pub AreDifferences : ModeRules → ModeRules → ℕ → List (Option Answers) → Type 0
AreDifferences r s count fs = (length fs ≡ count) × ((m : ℕ) (f : Option Answers) → slice_get fs m ≡ Some f → IsDifference r s m f)

-- ---- a token, as files of rules write it

abbrev pub action_text : List (List ℕ) → Action → List ℕ
action_text modes (Mode m) = codes " mode " ++ name_at modes m
action_text modes (Push m) = codes " push " ++ name_at modes m
action_text modes Pop = codes " pop"

abbrev pub skip_text : Bool → List ℕ
skip_text true = codes " skip"
skip_text false = []

-- the name, then `skip`, then the actions; the modes have these names
abbrev pub token_text : List (List ℕ) → Option Told → List ℕ
token_text modes None = codes "no token"
token_text modes (Some t) = t.name ++ (skip_text t.skipped ++ flat_map (action_text modes) t.actions)

-- ---- lines

-- the mode, if it is named
abbrev pub place_text : Option (List ℕ) → List ℕ
place_text None = []
place_text (Some mode) = codes "in mode " ++ (mode ++ codes ", ")

-- two rules, each with the name of its file
abbrev pub both_text : List ℕ → List ℕ → List ℕ → List ℕ → List ℕ
both_text left old right new = left ++ (codes " in " ++ (old ++ (codes ", and " ++ (right ++ (codes " in " ++ (new ++ codes "\n"))))))

-- the line of a difference in the mode with this number; nothing if there is none
abbrev pub difference_line : List ℕ → ModeRules → List (List ℕ) → List ℕ → ModeRules → List (List ℕ) → ℕ → Option Answers → List ℕ
difference_line old r modes new s others m None = []
difference_line old r modes new s others m (Some f) =
    place_text (mode_named modes m) ++ (quoted_word f.word ++ (codes " is " ++ both_text (token_text modes (told r f.left)) old (token_text others (told s f.right)) new))

-- the lines of these, from the mode with this number on
abbrev pub difference_lines : List ℕ → ModeRules → List (List ℕ) → List ℕ → ModeRules → List (List ℕ) → ℕ → List (Option Answers) → List ℕ
difference_lines old r modes new s others m [] = []
difference_lines old r modes new s others m (f ∷ fs) = difference_line old r modes new s others m f ++ difference_lines old r modes new s others (m + 1) fs

-- names, each after a space
abbrev pub spaced : List (List ℕ) → List ℕ
spaced names = flat_map (λ name. codes " " ++ name) names

-- a file, some words, and the names of its modes
abbrev pub modes_text : List ℕ → List ℕ → List (List ℕ) → List ℕ
modes_text name words modes = name ++ (words ++ spaced modes)

-- the line of two files whose modes have other names
abbrev pub modes_line : List ℕ → List (List ℕ) → List ℕ → List (List ℕ) → List ℕ
modes_line old modes new others = modes_text old (codes " has the modes") modes ++ (codes ", and " ++ (modes_text new (codes " has") others ++ codes "\n"))

-- ---- the answer

-- the names of the modes differ, and this is said; or they are the same, and it is the lines of what differs, mode by mode
abbrev pub IsDifferenceText : List ℕ → ModeRules → List (List ℕ) → List ℕ → ModeRules → List (List ℕ) → List ℕ → Type 0
IsDifferenceText old r modes new s others text =
    ((modes ≢ others) × (text ≡ modes_line old modes new others))
    ⊎ ((modes ≡ others) × ((fs : List (Option Answers)) × (AreDifferences r s (min r.modes s.modes) fs × (text ≡ difference_lines old r modes new s others 0 fs))))

-- 1 if something is written
abbrev pub text_status : List ℕ → ℕ
text_status [] = 0
text_status (c ∷ text) = 1

-- the files have these names, rules, and names of modes: all that differs is written
abbrev pub DifferenceAnswer : List ℕ → ModeRules → List (List ℕ) → List ℕ → ModeRules → List (List ℕ) → Answer → Type 0
DifferenceAnswer old r modes new s others answer =
    (text : List ℕ) × (IsDifferenceText old r modes new s others text × (answer ≡ record { status = text_status text; out = text; err = [] }))

-- the other file of rules: the first that is named after RULES
abbrev pub other_of : List (List ℕ) → List ℕ
other_of files = unwrap_or (slice_get files 0) []

-- these rules are compared with those that these bytes are, in another file of this name
abbrev pub OtherAnswer : Verbosity → List ℕ → ModeRules → List (List ℕ) → List ℕ → List ℕ → Answer → Type 0
OtherAnswer verbosity rules r modes other bytes answer = RulesOf verbosity (LexerOf (λ s others. DifferenceAnswer rules r modes other s others)) other bytes answer

-- the rules that these bytes are, in a file of this name, are compared with those of another
abbrev pub BytesCompared : Verbosity → List ℕ → List ℕ → List ℕ → List ℕ → Answer → Type 0
BytesCompared verbosity rules bytes other others answer =
    RulesOf verbosity (LexerOf (λ r modes. OtherAnswer verbosity rules r modes other others)) rules bytes answer

-- these rules are compared with those of the other file
abbrev pub ComparedAnswer : (List ℕ → Given → Type 0) → Verbosity → List ℕ → ModeRules → List (List ℕ) → List ℕ → Answer → Type 0
ComparedAnswer Gives verbosity rules r modes other answer = BytesAnswer Gives (OtherAnswer verbosity rules r modes) other answer
