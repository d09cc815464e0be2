-- cases: proofs/Cases/Reasons.antt
-- What is said of a bad line, and of rules that make no lexer.
use Rattle.std.specs.Prelude.{◌≡◌, ℕ, ◌+◌, ◌-◌, List, [], ◌∷◌, ◌++◌, length, take, decimal, slice_get, option_map, unwrap_or, Option, Some, None, codes}
use Rattle.std.specs.Str.{IsCharBoundary, chars}
use Rattle.lalrpop_hir.specs.declared.error.NfaConstructionError.{NfaConstructionError}
use Rattle.lalrpop_hir.specs.declared.error.NfaConstructionError.TheVariants.{NamedCaptures, NonGreedy, LookAround, ByteRegex, OutOfMemory}
use Rattle.lalrpop_re.specs.declared.from_to_error.FromToError.{FromToError}
use Rattle.lalrpop_re.specs.declared.from_to_error.FromToError.TheVariants as ends
use Rattle.lalrpop_re.specs.declared.error.SyntaxKind.{SyntaxKind}
use Rattle.lalrpop_re.specs.declared.error.SyntaxKind.TheVariants as kinds
use Rattle.bajofeki_rules.specs.declared.position.Position.{Position}
use Rattle.lalrpop_rule_file.specs.RuleFault.{reason_of}
use Rattle.bajofeki_rules.specs.declared.rule_text.RuleText.{RuleText}
use Rattle.bajofeki_rules.specs.declared.rule_text.RuleText.TheVariants as texts
use Rattle.lalrpop_rules.specs.RuleSet.{names_of}
use Rattle.lalrpop_rules.specs.declared.error.RulesError.{RulesError}
use Rattle.lalrpop_rules.specs.declared.error.RulesError.TheVariants as modes_errors
use Rattle.bajofeki_rules.specs.declared.rule.Rule.{Rule}
use Rattle.lalrpop_rule_file.specs.declared.error.RuleFileError.{RuleFileError}
use Rattle.lalrpop_rule_file.specs.declared.error.RuleFileError.TheVariants as file_errors
use Rattle.bajofeki_rules.specs.Quoted.{quoted_word}
use Rattle.reports_lib.specs.PieceLines.{mode_named, name_at}
use Rattle.reports_lib.specs.ShownLine.{numbered, pointed, signs_at}

-- ---- in words

-- why a pattern doesn't parse
abbrev pub syntax_text : SyntaxKind → List ℕ
syntax_text kinds.UnclosedGroup = codes "this group isn't closed"
syntax_text kinds.UnopenedGroup = codes "this `)` closes no group"
syntax_text kinds.UnclosedClass = codes "this bracket isn't closed"
syntax_text kinds.ClassRangeInvalid = codes "this range ends before it starts"
syntax_text kinds.ClassRangeLiteral = codes "a range needs a single character at both ends"
syntax_text kinds.ClassEscapeInvalid = codes "this escape can't stand in brackets"
syntax_text kinds.EscapeUnexpectedEof = codes "the pattern ends inside an escape"
syntax_text kinds.EscapeUnrecognized = codes "this escape is unknown: a character by its number is \\u{0}"
syntax_text kinds.EscapeHex = codes "this number names no character"
syntax_text kinds.UnicodeSetUnknown = codes "there is no set of characters by this name"
syntax_text kinds.RepetitionMissing = codes "there is nothing to repeat before this operator: the character itself has a backslash before it"
syntax_text kinds.RepetitionCount = codes "this count is malformed, too great or out of order: a count is {2}, {2,} or {0,2}, a part {NAME}, and a brace itself \\{"
syntax_text kinds.Flag = codes "this flag is unknown, missing or written twice"
syntax_text kinds.GroupName = codes "this group name is malformed, missing or taken"
syntax_text kinds.UnsupportedLookAround = codes "patterns have no look-around"
syntax_text kinds.UnsupportedBackreference = codes "patterns have no references to groups"
syntax_text kinds.NestLimitExceeded = codes "groups, brackets and repetitions nest too deeply"
syntax_text kinds.PartUnknown = codes "no part above has this name: a part is a line NAME part = /PATTERN/ above this one, and a rule isn't a part"
syntax_text kinds.PartUnderFlag = codes "a part stands only where no flag is on"
syntax_text kinds.PartName = codes "this name of a part is malformed, or its brace isn't closed: a part is {NAME}, and a brace itself \\{"

-- why a pattern can't be compiled
abbrev pub refusal_text : NfaConstructionError → List ℕ
refusal_text NamedCaptures = codes "a lexer can't have named groups: write `(?:..)`"
refusal_text NonGreedy = codes "a lexer can't have lazy repetitions: write `[^x]*x` for `.*?x`, and `/\\*([^*]|\\*+[^*/])*\\*+/` for `/\\*.*?\\*/`"
refusal_text LookAround = codes "a lexer can't have look-around, so no `^`, `$` or `\\b`: a match begins where the last one ended"
refusal_text ByteRegex = codes "a lexer can't have patterns of bytes"
refusal_text OutOfMemory = codes "out of memory"

-- why the end of a text from one word to another is wrong
abbrev pub bad_end_text : FromToError → List ℕ
bad_end_text ends.EmptyEnd = codes "nothing stands between the apostrophes after `to`"
bad_end_text ends.LongEnd = codes "the text after `to` has more than 64 characters"
bad_end_text ends.OutOfMemory = codes "out of memory"

-- how to resolve a clash on this word
abbrev pub clash_advice : List ℕ → List ℕ
clash_advice [] = codes "No token is empty: let them match one character or more, as by `+` in place of `*`."
clash_advice (c ∷ word) = codes "Give the one that should win a greater precedence."

-- ---- messages

-- about a place in these lines: its line and column, a reason, and below it the line with a caret
abbrev pub placed : List (List ℕ) → ℕ → ℕ → List ℕ → List ℕ
placed ls line column reason =
    decimal line ++ (codes ":" ++ (decimal column ++ (codes ": " ++ (reason ++ (codes "\n" ++ pointed (signs_at ls line) (column - 1))))))

-- about a clash: the later line with what it has, the earlier one, where, the word, what is shown, and the advice
abbrev pub clash_text : ℕ → List ℕ → ℕ → List ℕ → List ℕ → List ℕ → List ℕ → List ℕ → List ℕ
clash_text later later_name earlier earlier_name where_said word shown advice =
    decimal later ++ (codes ": " ++ (later_name ++ (codes " clashes with " ++ (earlier_name ++ (codes " of line " ++ (decimal earlier
    ++ (where_said ++ (codes ": both match the word " ++ (word ++ (codes ", and neither wins\n" ++ (shown ++ (advice ++ codes "\n"))))))))))))

-- ---- rules

-- what is said of a bad line of these
abbrev pub SaysBadLine : List (List ℕ) → RuleFileError → List ℕ → Type 0
SaysBadLine ls (file_errors.BadLine line column fault) said = said ≡ placed ls line column (reason_of fault)
SaysBadLine ls (file_errors.BadPart line column kind) said = said ≡ placed ls line column (syntax_text kind)
SaysBadLine ls (file_errors.RepeatedPart line column) said = said ≡ placed ls line column (codes "a part above has this name")
SaysBadLine ls (file_errors.NoSuchMode line column) said = said ≡ placed ls line column (codes "no section names this mode")
SaysBadLine ls file_errors.OutOfMemory said = ⊥

-- what of a text is parsed: a literal with escapes, or a pattern
abbrev pub parsed_text : RuleText → List ℕ
parsed_text (texts.Escaped text) = text.now
parsed_text (texts.Pattern text) = text.now
parsed_text (texts.PatternWith text parts) = text.now
parsed_text _ = []

-- where the text of the rule with this index begins, and what of it is parsed
abbrev pub place_at : List Position → ℕ → Position
place_at places i = unwrap_or (slice_get places i) (record { line = 1; column = 1 })

abbrev pub text_at : List Rule → ℕ → List ℕ
text_at rs i = unwrap_or (option_map (λ (r : Rule). parsed_text r.text) (slice_get rs i)) []

-- the mode of a clash, if it is named
abbrev pub mode_said : Option (List ℕ) → List ℕ
mode_said None = []
mode_said (Some mode) = codes " in mode " ++ mode

-- what is said of rules in these lines, of modes with these names, whose texts begin at these places: where a text that can't be used begins, or
-- doesn't parse; of a clash, both names and lines, and the mode, if there are several
abbrev pub SaysRules : List (List ℕ) → List (List ℕ) → List Rule → List Position → RulesError → List ℕ → Type 0
SaysRules ls modes rs places (modes_errors.NotParsed i position kind) said =
    said ≡ placed ls (place_at places i).line ((place_at places i).column + length (chars (take position (text_at rs i)))) (syntax_text kind)
SaysRules ls modes rs places (modes_errors.BadEnd i error) said = said ≡ placed ls (place_at places i).line (place_at places i).column (bad_end_text error)
SaysRules ls modes rs places (modes_errors.NotCompiled i error) said = said ≡ placed ls (place_at places i).line (place_at places i).column (refusal_text error)
SaysRules ls modes rs places (modes_errors.Clash m i j word) said =
    said ≡ clash_text (place_at places i).line (name_at (names_of rs) i) (place_at places j).line (name_at (names_of rs) j) (mode_said (mode_named modes m))
    (quoted_word word.items) (numbered ls (place_at places j).line ++ numbered ls (place_at places i).line) (clash_advice word.items)
SaysRules ls modes rs places (modes_errors.NoSuchMode i m) said = ⊥
SaysRules ls modes rs places modes_errors.OutOfMemory said = ⊥

-- an error that rules of a file can have: they name only modes that are there, and a pattern that doesn't parse stops where a character
-- begins, or at its end
abbrev pub CanBeSaid : List Rule → RulesError → Type 0
CanBeSaid rs (modes_errors.NoSuchMode i m) = ⊥
CanBeSaid rs (modes_errors.NotParsed i position kind) = IsCharBoundary (text_at rs i) position
CanBeSaid rs error = Unit {0}
