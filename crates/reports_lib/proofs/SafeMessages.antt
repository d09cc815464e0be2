-- What is said of a file of rules is safe to show, if the names of its rules and modes are.
use Rattle.std.proofs.Common.{◌≡◌, ℕ, zero, suc, ◌+◌, ◌-◌, arith, List, [], ◌∷◌, ◌++◌, length, flat_map, refl, sym, subst, codes}
use Rattle.std.specs.Prelude.{All, Option, Some, None, Bool, true, false, nat_lt, unwrap_or, slice_get, chars, take}
use Rattle.std.specs.Bool.{then_some}
use Rattle.lalrpop_hir.specs.Clashes.{Entry}
use Rattle.lalrpop_hir.specs.declared.error.NfaConstructionError.{NfaConstructionError}
use Rattle.lalrpop_hir.specs.declared.error.NfaConstructionError.TheVariants.{NamedCaptures, NonGreedy, LookAround, ByteRegex, OutOfMemory}
use Rattle.lalrpop_re.specs.declared.from_to_error.FromToError.{FromToError}
use Rattle.lalrpop_re.specs.declared.from_to_error.FromToError.TheVariants as ends
use Rattle.lalrpop_re.specs.declared.error.SyntaxKind.{SyntaxKind}
use Rattle.lalrpop_re.specs.declared.error.SyntaxKind.TheVariants as kinds
use Rattle.bajofeki_rules.specs.declared.position.Position.{Position}
use Rattle.bajofeki_rules.specs.declared.rule.Rule.{Rule}
use Rattle.lalrpop_rule_file.specs.RuleFault.{reason_of}
use Rattle.lalrpop_rule_file.specs.declared.error.LineFault.{LineFault}
use Rattle.lalrpop_rule_file.specs.declared.error.LineFault.TheVariants as faults
use Rattle.lalrpop_rule_file.specs.declared.error.RuleFileError.{RuleFileError}
use Rattle.lalrpop_rule_file.specs.declared.error.RuleFileError.TheVariants as file_errors
use Rattle.lalrpop_rules.specs.RuleSet.{names_of}
use Rattle.lalrpop_rules.specs.declared.error.RulesError.{RulesError}
use Rattle.lalrpop_rules.specs.declared.error.RulesError.TheVariants as rules_errors
use Rattle.reports_lib.specs.Answer.{headed}
use Rattle.reports_lib.specs.PieceLines.{file_text, plain_line, mode_named, name_at}
use Rattle.reports_lib.specs.Reasons.{SaysBadLine, SaysRules, bad_end_text, clash_advice, clash_text, mode_said, place_at, placed, refusal_text, syntax_text, text_at}
use Rattle.reports_lib.specs.RuleClashes.{clash_lines, mode_text, named_line}
use Rattle.reports_lib.specs.Safe.{IsSafe}
use Rattle.reports_lib.proofs.SafeLaws.{decimal_is_safe, numbered_is_safe, plain_is_safe, pointed_is_safe, quoted_word_is_safe, safe_append, safe_nil, said, slice_is_safe}

-- ---- names

abbrev pub IsSafeIfSome : Option (List ℕ) → Type 0
IsSafeIfSome None = Unit {0}
IsSafeIfSome (Some name) = IsSafe name

pub name_is_safe : (names : List (List ℕ)) (i : ℕ) → All IsSafe names → IsSafe (name_at names i)
name_is_safe [] i safe = safe_nil
name_is_safe (name ∷ names) zero safe = safe 0 [] (omega arith)
name_is_safe (name ∷ names) (suc i) safe = name_is_safe names i (λ k d within. safe (suc k) d (omega (arith, within)))

pub mode_is_safe : (modes : List (List ℕ)) (m : ℕ) → All IsSafe modes → IsSafeIfSome (mode_named modes m)
mode_is_safe modes m safe = by (nat_lt 1 (length modes))
  where
    by : (several : Bool) → IsSafeIfSome (then_some several (name_at modes m))
    by true = name_is_safe modes m safe
    by false = tt

pub mode_said_is_safe : (mode : Option (List ℕ)) → IsSafeIfSome mode → IsSafe (mode_said mode)
mode_said_is_safe None safe = safe_nil
mode_said_is_safe (Some mode) safe = said (codes " in mode ") refl safe

-- ---- reasons

syntax_is_safe : (kind : SyntaxKind) → IsSafe (syntax_text kind)
syntax_is_safe kinds.UnclosedGroup = plain_is_safe (syntax_text kinds.UnclosedGroup) refl
syntax_is_safe kinds.UnopenedGroup = plain_is_safe (syntax_text kinds.UnopenedGroup) refl
syntax_is_safe kinds.UnclosedClass = plain_is_safe (syntax_text kinds.UnclosedClass) refl
syntax_is_safe kinds.ClassRangeInvalid = plain_is_safe (syntax_text kinds.ClassRangeInvalid) refl
syntax_is_safe kinds.ClassRangeLiteral = plain_is_safe (syntax_text kinds.ClassRangeLiteral) refl
syntax_is_safe kinds.ClassEscapeInvalid = plain_is_safe (syntax_text kinds.ClassEscapeInvalid) refl
syntax_is_safe kinds.EscapeUnexpectedEof = plain_is_safe (syntax_text kinds.EscapeUnexpectedEof) refl
syntax_is_safe kinds.EscapeUnrecognized = plain_is_safe (syntax_text kinds.EscapeUnrecognized) refl
syntax_is_safe kinds.EscapeHex = plain_is_safe (syntax_text kinds.EscapeHex) refl
syntax_is_safe kinds.UnicodeSetUnknown = plain_is_safe (syntax_text kinds.UnicodeSetUnknown) refl
syntax_is_safe kinds.RepetitionMissing = plain_is_safe (syntax_text kinds.RepetitionMissing) refl
syntax_is_safe kinds.RepetitionCount = plain_is_safe (syntax_text kinds.RepetitionCount) refl
syntax_is_safe kinds.Flag = plain_is_safe (syntax_text kinds.Flag) refl
syntax_is_safe kinds.GroupName = plain_is_safe (syntax_text kinds.GroupName) refl
syntax_is_safe kinds.UnsupportedLookAround = plain_is_safe (syntax_text kinds.UnsupportedLookAround) refl
syntax_is_safe kinds.UnsupportedBackreference = plain_is_safe (syntax_text kinds.UnsupportedBackreference) refl
syntax_is_safe kinds.NestLimitExceeded = plain_is_safe (syntax_text kinds.NestLimitExceeded) refl
syntax_is_safe kinds.PartUnknown = plain_is_safe (syntax_text kinds.PartUnknown) refl
syntax_is_safe kinds.PartUnderFlag = plain_is_safe (syntax_text kinds.PartUnderFlag) refl
syntax_is_safe kinds.PartName = plain_is_safe (syntax_text kinds.PartName) refl

refusal_is_safe : (error : NfaConstructionError) → IsSafe (refusal_text error)
refusal_is_safe NamedCaptures = plain_is_safe (refusal_text NamedCaptures) refl
refusal_is_safe NonGreedy = plain_is_safe (refusal_text NonGreedy) refl
refusal_is_safe LookAround = plain_is_safe (refusal_text LookAround) refl
refusal_is_safe ByteRegex = plain_is_safe (refusal_text ByteRegex) refl
refusal_is_safe OutOfMemory = plain_is_safe (refusal_text OutOfMemory) refl

bad_end_is_safe : (error : FromToError) → IsSafe (bad_end_text error)
bad_end_is_safe ends.EmptyEnd = plain_is_safe (bad_end_text ends.EmptyEnd) refl
bad_end_is_safe ends.LongEnd = plain_is_safe (bad_end_text ends.LongEnd) refl
bad_end_is_safe ends.OutOfMemory = plain_is_safe (bad_end_text ends.OutOfMemory) refl

fault_is_safe : (fault : LineFault) → IsSafe (reason_of fault)
fault_is_safe faults.NotUtf8 = plain_is_safe (reason_of faults.NotUtf8) refl
fault_is_safe faults.CarriageReturn = plain_is_safe (reason_of faults.CarriageReturn) refl
fault_is_safe faults.NoName = plain_is_safe (reason_of faults.NoName) refl
fault_is_safe faults.NoMode = plain_is_safe (reason_of faults.NoMode) refl
fault_is_safe faults.NoBracket = plain_is_safe (reason_of faults.NoBracket) refl
fault_is_safe faults.AfterSection = plain_is_safe (reason_of faults.AfterSection) refl
fault_is_safe faults.NoEquals = plain_is_safe (reason_of faults.NoEquals) refl
fault_is_safe faults.PrecedenceTooLarge = plain_is_safe (reason_of faults.PrecedenceTooLarge) refl
fault_is_safe faults.NoText = plain_is_safe (reason_of faults.NoText) refl
fault_is_safe faults.NoPattern = plain_is_safe (reason_of faults.NoPattern) refl
fault_is_safe faults.NoLiteral = plain_is_safe (reason_of faults.NoLiteral) refl
fault_is_safe faults.NoFrom = plain_is_safe (reason_of faults.NoFrom) refl
fault_is_safe faults.NoTo = plain_is_safe (reason_of faults.NoTo) refl
fault_is_safe faults.NotClosed = plain_is_safe (reason_of faults.NotClosed) refl

advice_is_safe : (word : List ℕ) → IsSafe (clash_advice word)
advice_is_safe [] = plain_is_safe (clash_advice []) refl
advice_is_safe (c ∷ word) = plain_is_safe (clash_advice (c ∷ word)) refl

-- ---- messages

placed_is_safe : (ls : List (List ℕ)) (line column : ℕ) {reason : List ℕ} → IsSafe reason → IsSafe (placed ls line column reason)
placed_is_safe ls line column reason =
    safe_append (decimal_is_safe line) (said (codes ":") refl (safe_append (decimal_is_safe column) (said (codes ": ") refl
    (safe_append reason (said (codes "\n") refl (pointed_is_safe ls line (column - 1)))))))

pub clash_is_safe : (later earlier : ℕ) {later_name earlier_name where_said word shown advice : List ℕ} → IsSafe later_name → IsSafe earlier_name → IsSafe where_said
    → IsSafe word → IsSafe shown → IsSafe advice → IsSafe (clash_text later later_name earlier earlier_name where_said word shown advice)
clash_is_safe later earlier later_name earlier_name where_said word shown advice =
    safe_append (decimal_is_safe later) (said (codes ": ") refl (safe_append later_name (said (codes " clashes with ") refl
    (safe_append earlier_name (said (codes " of line ") refl (safe_append (decimal_is_safe earlier) (safe_append where_said
    (said (codes ": both match the word ") refl (safe_append word (said (codes ", and neither wins\n") refl
    (safe_append shown (safe_append advice (plain_is_safe (codes "\n") refl)))))))))))))

-- a message about a file begins with its name
pub headed_is_safe : {file rest : List ℕ} → IsSafe file → IsSafe rest → IsSafe (headed file rest)
headed_is_safe file rest = said (codes "tokens: ") refl (safe_append file (said (codes ":") refl rest))

-- what is said of a bad line
pub bad_line_is_safe : (ls : List (List ℕ)) (error : RuleFileError) (message : List ℕ) → SaysBadLine ls error message → IsSafe message
bad_line_is_safe ls (file_errors.BadLine line column fault) message is = subst IsSafe (sym is) (placed_is_safe ls line column (fault_is_safe fault))
bad_line_is_safe ls (file_errors.BadPart line column kind) message is = subst IsSafe (sym is) (placed_is_safe ls line column (syntax_is_safe kind))
bad_line_is_safe ls (file_errors.RepeatedPart line column) message is =
    subst IsSafe (sym is) (placed_is_safe ls line column (plain_is_safe (codes "a part above has this name") refl))
bad_line_is_safe ls (file_errors.NoSuchMode line column) message is =
    subst IsSafe (sym is) (placed_is_safe ls line column (plain_is_safe (codes "no section names this mode") refl))
bad_line_is_safe ls file_errors.OutOfMemory message is = absurd is

-- what is said of rules that make no lexer
pub rules_are_safe : (ls modes : List (List ℕ)) (rs : List Rule) (places : List Position) (error : RulesError) (message : List ℕ) → All IsSafe modes → All IsSafe (names_of rs)
    → SaysRules ls modes rs places error message → IsSafe message
rules_are_safe ls modes rs places (rules_errors.NotParsed i position kind) message safe names is =
    subst IsSafe (sym is) (placed_is_safe ls (place_at places i).line ((place_at places i).column + length (chars (take position (text_at rs i)))) (syntax_is_safe kind))
rules_are_safe ls modes rs places (rules_errors.BadEnd i error) message safe names is =
    subst IsSafe (sym is) (placed_is_safe ls (place_at places i).line (place_at places i).column (bad_end_is_safe error))
rules_are_safe ls modes rs places (rules_errors.NotCompiled i error) message safe names is =
    subst IsSafe (sym is) (placed_is_safe ls (place_at places i).line (place_at places i).column (refusal_is_safe error))
rules_are_safe ls modes rs places (rules_errors.Clash m i j word) message safe names is =
    subst IsSafe (sym is) (clash_is_safe (place_at places i).line (place_at places j).line (name_is_safe (names_of rs) i names) (name_is_safe (names_of rs) j names)
    (mode_said_is_safe (mode_named modes m) (mode_is_safe modes m safe)) (quoted_word_is_safe word.items)
    (safe_append (numbered_is_safe ls (place_at places j).line) (numbered_is_safe ls (place_at places i).line)) (advice_is_safe word.items))
rules_are_safe ls modes rs places (rules_errors.NoSuchMode i m) message safe names is = absurd is
rules_are_safe ls modes rs places rules_errors.OutOfMemory message safe names is = absurd is

-- ---- lines

pub file_is_safe : (file : Option (List ℕ)) → IsSafeIfSome file → IsSafe (file_text file)
file_is_safe None safe = safe_nil
file_is_safe (Some file) safe = safe_append safe (plain_is_safe (codes ":") refl)

-- the line of a piece of a text, whatever its bytes are
pub line_is_safe : (file name : Option (List ℕ)) (p : Position) (slice : List ℕ) → IsSafeIfSome file → IsSafeIfSome name → IsSafe (plain_line file p name slice)
line_is_safe file name p slice file_safe name_safe =
    safe_append (file_is_safe file file_safe) (safe_append (decimal_is_safe p.line) (said (codes ":") refl (safe_append (decimal_is_safe p.column)
    (said (codes " ") refl (safe_append (by name name_safe) (said (codes " ") refl (safe_append (slice_is_safe slice) (plain_is_safe (codes "\n") refl))))))))
  where
    by : (name : Option (List ℕ)) → IsSafeIfSome name → IsSafe (unwrap_or name (codes "!"))
    by None safe = plain_is_safe (codes "!") refl
    by (Some name) safe = safe

pub each_is_safe : {X : Type 0} (tell : X → List ℕ) → ((x : X) → IsSafe (tell x)) → (xs : List X) → IsSafe (flat_map tell xs)
each_is_safe tell safe [] = safe_nil
each_is_safe tell safe (x ∷ xs) = safe_append (safe x) (each_is_safe tell safe xs)

named_line_is_safe : (names : List (List ℕ)) (mode : Option (List ℕ)) → All IsSafe names → IsSafeIfSome mode → (c : Entry) → IsSafe (named_line names mode c)
named_line_is_safe names mode safe mode_safe c =
    safe_append (by mode mode_safe) (safe_append (name_is_safe names c.match1 safe) (said (codes " ") refl (safe_append (name_is_safe names c.match0 safe)
    (said (codes " ") refl (safe_append (quoted_word_is_safe c.word) (plain_is_safe (codes "\n") refl))))))
  where
    by : (mode : Option (List ℕ)) → IsSafeIfSome mode → IsSafe (mode_text mode)
    by None safe = safe_nil
    by (Some mode) safe = safe_append safe (plain_is_safe (codes " ") refl)

-- the lines of clashes
pub clash_lines_are_safe : (modes names : List (List ℕ)) (m : ℕ) (css : List (List Entry)) → All IsSafe modes → All IsSafe names → IsSafe (clash_lines modes names m css)
clash_lines_are_safe modes names m [] modes_safe safe = safe_nil
clash_lines_are_safe modes names m (cs ∷ css) modes_safe safe =
    safe_append (each_is_safe (named_line names (mode_named modes m)) (named_line_is_safe names (mode_named modes m) safe (mode_is_safe modes m modes_safe)) cs)
    (clash_lines_are_safe modes names (m + 1) css modes_safe safe)
