-- cases: proofs/Cases/ReviewLines.antt
-- What a review says, in plain lines, and the whole of it.
use Rattle.std.specs.Prelude.{ℕ, ◌+◌, nat_lt, Bool, ◌&&◌, ◌||◌, ◌==◌, List, [], ◌∷◌, ◌++◌, length, Option, Some, None, codes, decimal, flat_map, if◌then◌else◌}
use Rattle.std.specs.List.{join_by, list_any}
use Rattle.lalrpop_hir.specs.Clashes.{Entry}
use Rattle.lalrpop_dfa.specs.Witness.{OpenMatch}
use Rattle.bajofeki_rules.specs.Quoted.{quoted_word}
use Rattle.bajofeki_rules.specs.declared.position.Position.{Position}
use Rattle.lalrpop_review.specs.declared.idle.IdleRule.{IdleRule}
use Rattle.lalrpop_review.specs.declared.look.Look.{Look}
use Rattle.lalrpop_review.specs.declared.look.Look.TheVariants.{AtMost, Unbounded}
use Rattle.lalrpop_review.specs.declared.mode.ModeReview.{ModeReview}
use Rattle.lalrpop_review.specs.declared.whole.Review.{Review}
use Rattle.lalrpop_verdicts.specs.WonWord.{WonWord}
use Rattle.reports_lib.specs.PieceLines.{mode_named, name_at, object_line}
use Rattle.reports_lib.specs.Reasons.{place_at, mode_said}
use Rattle.reports_lib.specs.ReportedFile.{ReportedFile}
use Rattle.reviews_lib.specs.ReviewJson.{empty_members, idle_members, automaton_members, clash_members}
use Rattle.lexdfa_lib.specs.declared.layout.LineForm.{LineForm}
use Rattle.lexdfa_lib.specs.declared.layout.LineForm.TheVariants.{Plain, Json}

-- `FILE:LINE:COLUMN: `, where the text of this rule begins
abbrev pub place_text : ReportedFile → ℕ → List ℕ
place_text r i =
    r.file ++ (codes ":" ++ (decimal (place_at r.places i).line ++ (codes ":" ++ (decimal (place_at r.places i).column ++ codes ": "))))

-- ---- rules

-- a rule that matches the empty text
abbrev pub empty_line : ReportedFile → ℕ → List ℕ
empty_line r i = place_text r i ++ (name_at r.names i ++ codes " matches the empty text, and no token is empty\n")

-- a rule that wins, and the text that it wins
abbrev pub winner_text : ReportedFile → WonWord → List ℕ
winner_text r w = name_at r.names w.by ++ (codes " wins " ++ quoted_word w.word)

abbrev pub winners_text : ReportedFile → List WonWord → List ℕ
winners_text r ws = join_by (winner_text r) (codes ", ") ws

-- why a rule never wins
abbrev pub idle_reason : ReportedFile → Option (List ℕ) → List WonWord → List ℕ
idle_reason r mode [] = codes " matches no nonempty text" ++ mode_said mode
idle_reason r mode (w ∷ ws) = codes " never wins" ++ (mode_said mode ++ (codes ": " ++ winners_text r (w ∷ ws)))

abbrev pub idle_line : ReportedFile → Option (List ℕ) → IdleRule → List ℕ
idle_line r mode x = place_text r x.rule ++ (name_at r.names x.rule ++ (idle_reason r mode x.winners.items ++ codes "\n"))

-- a rule clashes with an earlier one
abbrev pub pair_text : ReportedFile → Option (List ℕ) → ℕ → ℕ → List ℕ
pair_text r mode later earlier =
    name_at r.names later ++ (codes " clashes with " ++ (name_at r.names earlier ++ (codes " of line " ++ (decimal (place_at r.places earlier).line ++ mode_said mode))))

-- two rules that clash: the place is where the later one's text begins
abbrev pub clash_line : ReportedFile → Option (List ℕ) → Entry → List ℕ
clash_line r mode c =
    place_text r c.match0 ++ (pair_text r mode c.match0 c.match1 ++ (codes ": both match " ++ (quoted_word c.word ++ codes ", and neither wins\n")))

-- ---- the automaton of a mode

abbrev pub states_text : ℕ → List ℕ
states_text n = if n == 1 then codes "1 state" else decimal n ++ codes " states"

-- one character more is read than can leave a token open
abbrev pub characters_text : ℕ → List ℕ
characters_text count = if count == 0 then codes "1 character is" else decimal (count + 1) ++ codes " characters are"

-- a token that some characters after it leave open, if there are any
abbrev pub after_text : List ℕ → List ℕ → List ℕ
after_text word [] = []
after_text word (c ∷ after) = codes ", as after " ++ (quoted_word word ++ (codes " when " ++ (quoted_word (c ∷ after) ++ codes " follows")))

abbrev pub witness_text : Option OpenMatch → List ℕ
witness_text None = []
witness_text (Some found) = after_text found.word found.after

abbrev pub rules_text : ReportedFile → List ℕ → List ℕ
rules_text r rules = join_by (name_at r.names) (codes ", ") rules

-- how far past a token it reads
abbrev pub look_text : ReportedFile → Look → List ℕ
look_text r (AtMost count witness) = codes "at most " ++ (characters_text count ++ (codes " read past a token" ++ witness_text witness))
look_text r (Unbounded rules) = codes "any number of characters is read past a token of " ++ rules_text r rules.items

-- the mode, if it is named
abbrev pub mode_before : Option (List ℕ) → List ℕ
mode_before None = []
mode_before (Some mode) = codes "mode " ++ (mode ++ codes ": ")

abbrev pub automaton_line : ReportedFile → Option (List ℕ) → ModeReview → List ℕ
automaton_line r mode x =
    r.file ++ (codes ": " ++ (mode_before mode ++ (states_text x.least_states
    ++ (codes " in the smallest automaton; " ++ (look_text r x.look ++ codes "\n")))))

-- ---- a line of either form

abbrev pub empty_told : LineForm → ReportedFile → ℕ → List ℕ
empty_told Plain r i = empty_line r i
empty_told Json r i = object_line (empty_members r i)

abbrev pub idle_told : LineForm → ReportedFile → Option (List ℕ) → IdleRule → List ℕ
idle_told Plain r mode x = idle_line r mode x
idle_told Json r mode x = object_line (idle_members r mode x)

abbrev pub automaton_told : LineForm → ReportedFile → Option (List ℕ) → ModeReview → List ℕ
automaton_told Plain r mode x = automaton_line r mode x
automaton_told Json r mode x = object_line (automaton_members r mode x)

abbrev pub clash_told : LineForm → ReportedFile → Option (List ℕ) → Entry → List ℕ
clash_told Plain r mode c = clash_line r mode c
clash_told Json r mode c = object_line (clash_members r mode c)

-- ---- the whole

-- what is written for each mode, from the mode with this number on
abbrev pub by_mode : {X : Type 0} → (Option (List ℕ) → X → List ℕ) → List (List ℕ) → ℕ → List X → List ℕ
by_mode tell modes m [] = []
by_mode tell modes m (x ∷ xs) = tell (mode_named modes m) x ++ by_mode tell modes (m + 1) xs

-- a rule that never wins is one of those that match the empty text, and matches no other
abbrev pub is_only_empty : List ℕ → IdleRule → Bool
is_only_empty empty x = length x.winners.items == 0 && list_any (λ i. i == x.rule) empty

-- such a rule isn't told again, where those that match the empty text are told
abbrev pub idle_once : LineForm → ReportedFile → List ℕ → Option (List ℕ) → IdleRule → List ℕ
idle_once form r empty mode x = if is_only_empty empty x then [] else idle_told form r mode x

-- a mode: its rules that never win, and then its automaton
abbrev pub mode_told : LineForm → ReportedFile → List ℕ → Option (List ℕ) → ModeReview → List ℕ
mode_told form r empty mode x = flat_map (idle_once form r empty mode) x.idle.items ++ automaton_told form r mode x

-- a review: the rules that match the empty text, and then each mode
abbrev pub review_told : LineForm → ReportedFile → Review → List ℕ
review_told form r review =
    flat_map (empty_told form r) review.empty.items ++ by_mode (mode_told form r review.empty.items) r.modes 0 review.modes.items

-- the same, by the name of the file, the names of its modes and rules, and the places of these
abbrev pub review_text : LineForm → List ℕ → List (List ℕ) → List (List ℕ) → List Position → Review → List ℕ
review_text form file modes names places review =
    review_told form (record { file = file; modes = modes; names = names; places = places }) review

-- the clashes of each mode, from the mode with this number on
abbrev pub clashes_told : LineForm → ReportedFile → ℕ → List (List Entry) → List ℕ
clashes_told form r m css = by_mode (λ mode cs. flat_map (clash_told form r mode) cs) r.modes m css

abbrev pub clash_report : LineForm → List ℕ → List (List ℕ) → List (List ℕ) → List Position → ℕ → List (List Entry) → List ℕ
clash_report form file modes names places m css =
    clashes_told form (record { file = file; modes = modes; names = names; places = places }) m css

-- ---- what is to be mended

-- some rule never wins in the mode
abbrev pub has_idle : ModeReview → Bool
has_idle x = nat_lt 0 (length x.idle.items)

-- some rule matches the empty text, or never wins in some mode
abbrev pub has_findings : Review → Bool
has_findings review = nat_lt 0 (length review.empty.items) || list_any has_idle review.modes.items
