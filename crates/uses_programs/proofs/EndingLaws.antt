-- How a run over memory ends.
use Rattle.std.proofs.Common.{◌≡◌, ◌≢◌, ℕ, Bool, true, false, List, ◌++◌, Some, inl, inr, ◌⊎◌, codes, refl, sym, ap, ◌∙◌, subst, arith}
use Rattle.lalrpop_rule_file.specs.RuleFile.{IsRuleFileError, without_mark}
use Rattle.lalrpop_rule_file.specs.declared.error.RuleFileError.{RuleFileError}
use Rattle.lalrpop_rule_file.specs.declared.error.RuleFileError.TheVariants.{BadLine, BadPart, RepeatedPart, NoSuchMode, OutOfMemory}
use Rattle.lalrpop_rules.specs.Modes.{ModeRules}
use Rattle.lalrpop_rules.specs.declared.error.RulesError.{RulesError}
use Rattle.lalrpop_rules.specs.declared.error.RulesError.TheVariants as errors
use Rattle.bajofeki_rules.specs.declared.position.Position.{Position}
use Rattle.bajofeki_rules.specs.declared.rule.Rule.{Rule}
use Rattle.lexdfa_lib.specs.Streams.{Reading, Reads, Stream, opened}
use Rattle.reports_lib.specs.Answer.{Answer, followed, headed, refusal, remark}
use Rattle.reports_lib.specs.Reasons.{SaysBadLine, SaysRules}
use Rattle.lexdfa_lib.specs.declared.layout.LineForm.{LineForm}
use Rattle.reports_lib.specs.NamedRules.{LexerOf, RulesOf, rules_status}
use Rattle.pieces_lib.specs.TextAnswer.{PiecesAnswer}
use Rattle.lexdfa_lib.specs.declared.command.Verbosity.TheVariants.{Warnings}
use Rattle.uses_programs.proofs.TextEndingLaws.{CutsMemory, ends_so}
use Rattle.uses_programs.proofs.BadLines.{IsSameError, no_rules, one_error}
use Rattle.uses_programs.specs.Endings.{Alone, AreSound, Both, ByLexer, HasBadLine, IsBadLineAnswer, IsRefused, MakeNoLexer, RunEnds, Way, lines_in}

-- one of three
abbrev AnyEnd : (ModeRules → List (List ℕ) → Answer → Type 0) → List ℕ → Answer → Type 0
AnyEnd Ends rules answer = HasBadLine rules answer ⊎ (IsRefused rules answer ⊎ ByLexer Ends rules answer)

-- ---- the file of rules

remarked : (said : List ℕ) (own : Answer) → followed (remark said) own ≡ record own { err = said ++ own.err }
remarked said own = let of : ℕ → Answer = λ n. record { status = n; out = own.out; err = said ++ own.err } in ap of (omega arith)

bad_line : (rules : List ℕ) (error : RuleFileError) (said : List ℕ) (answer : Answer) → IsRuleFileError (without_mark rules) error → SaysBadLine (lines_in rules) error said
    → answer ≡ refusal 3 (headed (codes "rules") said) → HasBadLine rules answer
bad_line rules (BadLine n c fault) said answer is says answer_is = (BadLine n c fault, ((λ e. cc (e)), (is, answer_is ∙ ap (λ (s : List ℕ). refusal 3 (headed (codes "rules") s)) says)))
bad_line rules (BadPart n c kind) said answer is says answer_is =
    (BadPart n c kind, ((λ e. cc (e)), (is, (c, (kind, (is, answer_is ∙ ap (λ (s : List ℕ). refusal 3 (headed (codes "rules") s)) says))))))
bad_line rules (RepeatedPart n c) said answer is says answer_is = (RepeatedPart n c, ((λ e. cc (e)), (is, answer_is ∙ ap (λ (s : List ℕ). refusal 3 (headed (codes "rules") s)) says)))
bad_line rules (NoSuchMode n c) said answer is says answer_is = (NoSuchMode n c, ((λ e. cc (e)), (is, answer_is ∙ ap (λ (s : List ℕ). refusal 3 (headed (codes "rules") s)) says)))
bad_line rules OutOfMemory said answer is says answer_is = absurd says

ending : (Is Ends : ModeRules → List (List ℕ) → Answer → Type 0) (rules : List ℕ) (answer : Answer)
    → ((r : ModeRules) (modes : List (List ℕ)) (x : Answer) → Is r modes x → Ends r modes x) → RulesOf Warnings (LexerOf Is) (codes "rules") rules answer → AnyEnd Ends rules answer
ending Is Ends rules answer to (inl (error, (is, (said, (says, answer_is))))) = inl (bad_line rules error said answer is says answer_is)
ending Is Ends rules answer to (inr (warnings, (warned, (own, ((modes, (rs, (say, inl (error, (is, (places, (stand, (reason, (says, own_is))))))))), answer_is))))) =
    inr (inl (record {
      modes = modes;
      rs = rs;
      warnings = warnings;
      says = record { rules_are = say; warned = warned };
      error = error;
      is_error = is;
      places = places;
      stand = stand;
      reason = reason;
      reason_is = says;
      answer_is = answer_is ∙ remarked warnings own ∙ ap (λ (a : Answer). record a { err = warnings ++ a.err }) own_is;
    }))
ending Is Ends rules answer to (inr (warnings, (warned, (own, ((modes, (rs, (say, inr (r, (set, is))))), answer_is))))) =
    inr (inr (record {
      modes = modes;
      rs = rs;
      warnings = warnings;
      says = record { rules_are = say; warned = warned };
      r = r;
      knows = set;
      own = own;
      ends = to r modes own is;
      answer_is = answer_is ∙ remarked warnings own;
    }))

-- ---- which one it is

same_answer : (rules : List ℕ) (e f : RuleFileError) (answer : Answer) → IsSameError e f → IsBadLineAnswer rules f answer → IsBadLineAnswer rules e answer
same_answer rules (BadPart m c k) (BadPart n d j) answer same is = subst (λ (x : ℕ). IsBadLineAnswer rules (BadPart x c k) answer) (sym same) is
same_answer rules e f answer same is = subst (λ (x : RuleFileError). IsBadLineAnswer rules x answer) (sym same) is

no_error : (rules : List ℕ) (modes : List (List ℕ)) (rs : List Rule) (places : List Position) (error : RulesError) (reason : List ℕ) → SaysRules (lines_in rules) modes rs places error reason
    → error ≢ errors.OutOfMemory
no_error rules modes rs places errors.OutOfMemory reason says none = says
no_error rules modes rs places error reason says none = cc (none)

bad_line_status : (rules : List ℕ) (error : RuleFileError) (answer : Answer) → error ≢ OutOfMemory → IsBadLineAnswer rules error answer → answer.status ≡ 3
bad_line_status rules (BadPart n c kind) answer some is = ap (λ (a : Answer). a.status) is.1.1.1
bad_line_status rules OutOfMemory answer some is = absurd (some refl)
bad_line_status rules error answer some is = ap (λ (a : Answer). a.status) is

refused_status : (error : RulesError) → rules_status error ≢ 2 → rules_status error ≢ 3 → ⊥
refused_status (errors.NotParsed i position kind) other than = than refl
refused_status (errors.BadEnd i e) other than = than refl
refused_status error other than = other refl

module _ (Ends : ModeRules → List (List ℕ) → Answer → Type 0) (rules : List ℕ) (answer : Answer) where
  of_bad_line : AnyEnd Ends rules answer → (error : RuleFileError) → IsRuleFileError (without_mark rules) error → error ≢ OutOfMemory → IsBadLineAnswer rules error answer
  of_bad_line (inl (other, (any, (its, answer_is)))) error is some = same_answer rules error other answer (one_error (without_mark rules) error other (is, some) (its, any)) answer_is
  of_bad_line (inr (inl refused)) error is some =
      let say = refused.says.rules_are in absurd (no_rules (without_mark rules) error refused.modes say.0 say.1.0 (is, some) say.1.1.0 say.1.1.1.0)
  of_bad_line (inr (inr by)) error is some = let say = by.says.rules_are in absurd (no_rules (without_mark rules) error by.modes say.0 say.1.0 (is, some) say.1.1.0 say.1.1.1.0)

  of_any_line : AnyEnd Ends rules answer → (error : RuleFileError) → IsRuleFileError (without_mark rules) error → IsBadLineAnswer rules error answer
  of_any_line ends OutOfMemory is = tt
  of_any_line ends error is = of_bad_line ends error is (λ none. cc (none))

  of_refused : AnyEnd Ends rules answer → MakeNoLexer rules → IsRefused rules answer
  of_refused (inl (error, (some, (is, answer_is)))) none = absurd (some (none.0 error is))
  of_refused (inr (inl refused)) none = refused
  of_refused (inr (inr by)) none = absurd (none.1 by.modes by.rs by.r by.says.rules_are by.knows)

  of_sound : AnyEnd Ends rules answer → AreSound rules → ByLexer Ends rules answer
  of_sound (inl (error, (some, (is, answer_is)))) sound = absurd (some (sound.0 error is))
  of_sound (inr (inl refused)) sound =
      absurd (no_error rules refused.modes _ refused.places refused.error refused.reason refused.reason_is (sound.1 refused.modes refused.rs refused.error refused.says.rules_are refused.is_error))
  of_sound (inr (inr by)) sound = by

  of_lexer : AnyEnd Ends rules answer → answer.status ≢ 2 → answer.status ≢ 3 → ByLexer Ends rules answer
  of_lexer (inl (error, (some, (is, answer_is)))) other than = absurd (than (bad_line_status rules error answer some answer_is))
  of_lexer (inr (inl refused)) other than =
      let same : answer.status ≡ rules_status refused.error = ap (λ (a : Answer). a.status) refused.answer_is in
      absurd (refused_status refused.error (λ is. other (same ∙ is)) (λ is. than (same ∙ is)))
  of_lexer (inr (inr by)) other than = by

  run_ends : AnyEnd Ends rules answer → RunEnds Ends rules answer
  run_ends ends = record { ending = ends; bad_line = of_any_line ends; no_lexer = of_refused ends; sound = of_sound ends; lexer = of_lexer ends }

-- ---- a run

pub ends_alone : (form : LineForm) (recovers : Bool) (rules text : List ℕ) (answer : Answer)
    → RulesOf Warnings (LexerOf (λ r modes x. (left : Stream) × ((reading : Reading) × (Reads (opened (Some text) false) left reading
    × PiecesAnswer r modes form recovers false (codes "<stdin>") reading x)))) (codes "rules") rules answer → RunEnds (Alone form recovers text) rules answer
ends_alone form recovers rules text answer is =
    let way : Way = record { form = form; recovers = recovers; several = false; file = codes "<stdin>" } in
    run_ends (Alone form recovers text) rules answer (ending (CutsMemory text way) (Alone form recovers text) rules answer (λ r modes x. ends_so r modes way text x) is)

pub ends_both : (form : LineForm) (recovers : Bool) (rules text input : List ℕ) (answer : Answer)
    → RulesOf Warnings (LexerOf (λ r modes x. (first : Answer) × ((second : Answer)
    × (((left : Stream) × ((reading : Reading) × (Reads (opened (Some text) false) left reading × PiecesAnswer r modes form recovers true (codes "text") reading first)))
    × (((left : Stream) × ((reading : Reading) × (Reads (opened (Some input) false) left reading × PiecesAnswer r modes form recovers true (codes "<stdin>") reading second)))
    × (x ≡ followed first second)))))) (codes "rules") rules answer → RunEnds (Both form recovers text input) rules answer
ends_both form recovers rules text input answer is =
    let way : List ℕ → Way = λ file. record { form = form; recovers = recovers; several = true; file = file } in
    run_ends (Both form recovers text input) rules answer
    (ending (λ r modes x. (first : Answer) × ((second : Answer) × (CutsMemory text (way (codes "text")) r modes first × (CutsMemory input (way (codes "<stdin>")) r modes second
    × (x ≡ followed first second))))) (Both form recovers text input) rules answer
    (λ r modes x both. (both.0, (both.1.0, (ends_so r modes (way (codes "text")) text both.0 both.1.1.0, (ends_so r modes (way (codes "<stdin>")) input both.1.0 both.1.1.1.0, both.1.1.1.1))))) is)
