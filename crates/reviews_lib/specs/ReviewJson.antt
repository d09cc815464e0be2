-- cases: proofs/Cases/ReviewJson.antt
-- What a review says, as JSON objects.
use Rattle.std.specs.Prelude.{ℕ, ◌+◌, List, [], ◌∷◌, ◌++◌, Option, Some, None, codes, encode_utf8, flat_map, map, if◌then◌else◌}
use Rattle.json.specs.Token as json
use Rattle.lalrpop_hir.specs.Clashes.{Entry}
use Rattle.lalrpop_dfa.specs.Witness.{OpenMatch}
use Rattle.bajofeki_rules.specs.Quoted.{is_character}
use Rattle.lalrpop_review.specs.declared.idle.IdleRule.{IdleRule}
use Rattle.lalrpop_review.specs.declared.look.Look.{Look}
use Rattle.lalrpop_review.specs.declared.look.Look.TheVariants.{AtMost, Unbounded}
use Rattle.lalrpop_review.specs.declared.mode.ModeReview.{ModeReview}
use Rattle.lalrpop_verdicts.specs.WonWord.{WonWord}
use Rattle.reports_lib.specs.PieceLines.{number_member, string_member, mode_member, kind_member, name_at}
use Rattle.reports_lib.specs.Reasons.{place_at}
use Rattle.reports_lib.specs.ReportedFile.{ReportedFile}

-- ---- a word as a string

-- U+FFFD stands for a value that is no character
abbrev pub shown_value : ℕ → ℕ
shown_value n = if is_character n then n else 65533

abbrev pub word_text : List ℕ → List ℕ
word_text word = flat_map (λ n. encode_utf8 (shown_value n)) word

-- ---- members

-- the name of this rule
abbrev pub rule_member : ReportedFile → ℕ → List json.Token
rule_member r i = string_member (codes "rule") (name_at r.names i)

-- the file, and where in it the text of this rule begins
abbrev pub place_members : ReportedFile → ℕ → List json.Token
place_members r i =
    string_member (codes "file") r.file
    ++ (number_member (codes "line") (place_at r.places i).line ++ number_member (codes "column") (place_at r.places i).column)

-- ---- objects

-- a rule that matches the empty text
abbrev pub empty_members : ReportedFile → ℕ → List json.Token
empty_members r i = place_members r i ++ (kind_member (codes "matches-empty") ++ rule_member r i)

-- a rule that wins, and the text that it wins
abbrev pub winner_object : ReportedFile → WonWord → List json.Token
winner_object r w = json.begin_object ∷ (rule_member r w.by ++ (string_member (codes "text") (word_text w.word) ++ json.end_object ∷ []))

abbrev pub winners_member : ReportedFile → List WonWord → List json.Token
winners_member r ws = json.key (codes "winners") ∷ json.begin_array ∷ (flat_map (winner_object r) ws ++ json.end_array ∷ [])

-- a rule that never wins
abbrev pub idle_members : ReportedFile → Option (List ℕ) → IdleRule → List json.Token
idle_members r mode x =
    place_members r x.rule
    ++ (kind_member (codes "never-wins") ++ (rule_member r x.rule ++ (mode_member mode ++ winners_member r x.winners.items)))

-- the token that some characters after it leave open, and these, if there are any
abbrev pub after_members : List ℕ → List ℕ → List json.Token
after_members word [] = []
after_members word (c ∷ after) = string_member (codes "after") (word_text word) ++ string_member (codes "when") (word_text (c ∷ after))

abbrev pub witness_members : Option OpenMatch → List json.Token
witness_members None = []
witness_members (Some found) = after_members found.word found.after

-- the rules after whose tokens any number of characters is read
abbrev pub unbounded_members : ReportedFile → List ℕ → List json.Token
unbounded_members r rules =
    json.key (codes "past") ∷ json.null ∷ json.key (codes "rules") ∷ json.begin_array
    ∷ (map (λ i. json.string (name_at r.names i)) rules ++ json.end_array ∷ [])

-- how many characters past a token are read: one more than can leave it open
abbrev pub look_members : ReportedFile → Look → List json.Token
look_members r (AtMost count witness) = number_member (codes "past") (count + 1) ++ witness_members witness
look_members r (Unbounded rules) = unbounded_members r rules.items

-- the automaton of a mode
abbrev pub automaton_members : ReportedFile → Option (List ℕ) → ModeReview → List json.Token
automaton_members r mode x =
    string_member (codes "file") r.file
    ++ (kind_member (codes "automaton") ++ (mode_member mode
    ++ (number_member (codes "least_states") x.least_states ++ look_members r x.look)))

-- a clash: the place is where the later rule's text begins
abbrev pub clash_members : ReportedFile → Option (List ℕ) → Entry → List json.Token
clash_members r mode c =
    place_members r c.match0
    ++ (kind_member (codes "clash") ++ (rule_member r c.match0 ++ (mode_member mode
    ++ (string_member (codes "other") (name_at r.names c.match1) ++ string_member (codes "text") (word_text c.word)))))
