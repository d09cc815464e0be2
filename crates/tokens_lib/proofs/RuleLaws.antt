-- What a console is given by a file of rules.
use Rattle.std.proofs.Common.{◌≡◌, ℕ, List, [], inl, inr, refl, sym, subst, ◌∙◌}
use Rattle.std.specs.Prelude.{Ok}
use Rattle.bajofeki_rules.specs.Lines.{lines}
use Rattle.lalrpop_rule_file.specs.RuleFile.{without_mark}
use Rattle.lalrpop_rules.specs.Modes.{ModeRules}
use Rattle.lexdfa_lib.specs.declared.error.RunError.{RunError}
use Rattle.lexdfa_lib.specs.Streams.{Given, Reading, Stream}
use Rattle.reports_lib.specs.Answer.{Answer, silence, remark}
use Rattle.lexdfa_lib.specs.declared.layout.LineForm.TheVariants.{Plain}
use Rattle.pieces_lib.specs.Console.{Console, Says, Answers, Begins, Fails}
use Rattle.reports_lib.specs.NamedRules.{BytesAnswer, AreRulesOf, LexerOf, RulesOf}
use Rattle.pieces_lib.specs.FileAnswers.{FirstTextsAnswer, cut_files}
use Rattle.reports_lib.specs.WarningsSaid.{Warned}
use Rattle.lexdfa_lib.specs.declared.command.Verbosity.{Verbosity}
use Rattle.reports_lib.proofs.AnswerLaws.{Then, followed-silence}
use Rattle.reports_lib.proofs.RuleLaws.{by_lexer}
use Rattle.pieces_lib.proofs.AnswerLaws.{Gives-said, Answers-weaker, Answers-after, Fails-weaker, Fails-after}

-- ---- given by the lexer of a file of rules

abbrev IsRead : Verbosity → (List ℕ → Given → Type 0) → List ℕ → ModeRules → List (List ℕ) → List ℕ → Type 0
IsRead verbosity GivesIt rules set modes said =
    (bytes : List ℕ) × (GivesIt rules (Ok bytes) × (AreRulesOf bytes set modes × Warned Plain verbosity rules (lines (without_mark bytes)) said))

abbrev Wanted : Verbosity → (List ℕ → Given → Type 0) → (ModeRules → List (List ℕ) → Answer → Type 0) → List ℕ → Answer → Type 0
Wanted verbosity GivesIt IsFor rules = BytesAnswer GivesIt (RulesOf verbosity (LexerOf IsFor)) rules

module _ (verbosity : Verbosity) (GivesIt : List ℕ → Given → Type 0) (IsFor : ModeRules → List (List ℕ) → Answer → Type 0) (rules : List ℕ) (set : ModeRules) (modes : List (List ℕ))
    (said : List ℕ) (is : IsRead verbosity GivesIt rules set modes said) (a b : Console) where
  -- the warnings are said, and then this is answered
  pub lexer_answers : (c : Console) (status : ℕ) → Says a said b → Answers (IsFor set modes) b status c → Answers (Wanted verbosity GivesIt IsFor rules) a status c
  lexer_answers c status says h =
      Answers-weaker (Then (remark said) (IsFor set modes)) (Wanted verbosity GivesIt IsFor rules) a c status
      (λ x done. by_lexer verbosity GivesIt IsFor rules set modes said done.0 x is done.1.0 done.1.1)
      (Answers-after (IsFor set modes) a b c status said says h)

  -- nothing is one of the answers for the first texts
  module _ (none : IsFor set modes silence) where
    pub lexer_fails : (c : Console) (e : RunError) → Says a said b → Fails (IsFor set modes) b e c → Fails (Wanted verbosity GivesIt IsFor rules) a e c
    lexer_fails c e says h =
        Fails-weaker (Then (remark said) (Begins (IsFor set modes))) (Wanted verbosity GivesIt IsFor rules) a c e by
        (Fails-after (IsFor set modes) a b c (remark said) e (Gives-said a b said says) h)
      where
        by : (x : Answer) → Then (remark said) (Begins (IsFor set modes)) x → Wanted verbosity GivesIt IsFor rules x
        by x (own, (inl silent, same)) =
            by_lexer verbosity GivesIt IsFor rules set modes said own x is (subst (IsFor set modes) (sym silent) none) same
        by x (own, (inr done, same)) = by_lexer verbosity GivesIt IsFor rules set modes said own x is done same

    -- they are said in part
    pub lexer_unsaid : (e : RunError) → Fails (λ x. x ≡ remark said) a e b → Fails (Wanted verbosity GivesIt IsFor rules) a e b
    lexer_unsaid e h =
        Fails-weaker (λ x. x ≡ remark said) (Wanted verbosity GivesIt IsFor rules) a b e
        (λ x same. by_lexer verbosity GivesIt IsFor rules set modes said silence x is none (same ∙ sym (followed-silence (remark said)))) h

-- one answer is given, which is wanted
pub reply_answers : (P : Answer → Type 0) (reply : Answer) (a b : Console) (status : ℕ) → P reply → Answers (λ x. x ≡ reply) a status b → Answers P a status b
reply_answers P reply a b status is h = Answers-weaker (λ x. x ≡ reply) P a b status (λ x same. subst P (sym same) is) h

pub reply_fails : (P : Answer → Type 0) (reply : Answer) (a b : Console) (e : RunError) → P reply → Fails (λ x. x ≡ reply) a e b → Fails P a e b
reply_fails P reply a b e is h = Fails-weaker (λ x. x ≡ reply) P a b e (λ x same. subst P (sym same) is) h

-- before the first text
pub no_texts : (GivesFile : List ℕ → Reading → Type 0) (i : Stream) (verbosity : Verbosity) (Whole Part : List ℕ → Reading → Answer → Type 0) (files : List (List ℕ))
    → FirstTextsAnswer GivesFile i verbosity Whole Part files silence
no_texts GivesFile i verbosity Whole Part files = ([], (cut_files files, (i, (refl, inl (refl, refl)))))
