-- What is answered by a file of rules.
use Rattle.std.proofs.Common.{◌≡◌, ℕ, List, inl, inr, sym, subst}
use Rattle.std.specs.Prelude.{Result, Ok, Err, IfOk, IfErr}
use Rattle.bajofeki_rules.specs.Lines.{lines}
use Rattle.lalrpop_rule_file.specs.RuleFile.{without_mark}
use Rattle.lalrpop_rules.specs.Modes.{ModeRules}
use Rattle.lexdfa_lib.specs.Streams.{Given}
use Rattle.lexdfa_lib.specs.declared.command.Verbosity.{Verbosity}
use Rattle.reports_lib.specs.Answer.{Answer, followed, remark}
use Rattle.reports_lib.specs.NamedRules.{AreRulesOf, BytesAnswer, LexerOf, RulesOf, RulesRefused}
use Rattle.reports_lib.specs.WarningsSaid.{Warned}
use Rattle.lexdfa_lib.specs.declared.layout.LineForm.TheVariants.{Plain}

-- ---- a lexer, or what is answered if there is none

pub in_both : {A B E : Type 0} (r : Result (Result A B) E) {P Q : B → Type 0} → ((b : B) → P b → Q b) → IfOk r (λ found. IfErr found P) → IfOk r (λ found. IfErr found Q)
in_both (Ok (Ok a)) f h = tt
in_both (Ok (Err b)) f h = f b h
in_both (Err e) f h = tt

pub in_found : {A B E : Type 0} (r : Result (Result A B) E) {P Q R : A → Type 0} → ((a : A) → P a → Q a → R a) → IfOk r (λ found. IfOk found P) → IfOk r (λ found. IfOk found Q)
    → IfOk r (λ found. IfOk found R)
in_found (Ok (Ok a)) f h k = f a h k
in_found (Ok (Err b)) f h k = tt
in_found (Err e) f h k = tt

-- with what is said first
module _ {A W B E S : Type 0} (r : Result (Result W B) E) (found : Result A B) (lexer : W → A) (said : W → S) (s : S)
    (is : IfOk r (λ all. IfOk all (λ w. (found ≡ Ok (lexer w)) × (said w ≡ s)))) where
  pub warned_lexer : (P : A → Type 0) → IfOk found P → IfOk r (λ all. IfOk all (λ w. P (lexer w)))
  warned_lexer P h = by r is
    where
      by : (r : Result (Result W B) E) → IfOk r (λ all. IfOk all (λ w. (found ≡ Ok (lexer w)) × (said w ≡ s))) → IfOk r (λ all. IfOk all (λ w. P (lexer w)))
      by (Err e) k = tt
      by (Ok (Err b)) k = tt
      by (Ok (Ok w)) (from, same) = subst (λ (x : Result A B). IfOk x P) from h

  pub warned_said : (Q : S → Type 0) → Q s → IfOk r (λ all. IfOk all (λ w. Q (said w)))
  warned_said Q h = by r is
    where
      by : (r : Result (Result W B) E) → IfOk r (λ all. IfOk all (λ w. (found ≡ Ok (lexer w)) × (said w ≡ s))) → IfOk r (λ all. IfOk all (λ w. Q (said w)))
      by (Err e) k = tt
      by (Ok (Err b)) k = tt
      by (Ok (Ok w)) (from, same) = subst Q (sym same) h

pub warned_refused : {A W E : Type 0} (r : Result (Result W Answer) E) (found : Result A Answer) (message : List ℕ) (P Q : Answer → Type 0)
    → ((own answer : Answer) → P own → answer ≡ followed (remark message) own → Q answer)
    → IfOk r (λ all. IfErr all (λ reply. (own : Answer) × ((found ≡ Err own) × (reply ≡ followed (remark message) own)))) → IfErr found P → IfOk r (λ all. IfErr all Q)
warned_refused (Err e) found message P Q turn k h = tt
warned_refused (Ok (Ok w)) found message P Q turn k h = tt
warned_refused {A} (Ok (Err reply)) found message P Q turn (own, (from, same)) h = turn own reply (subst (λ (x : Result A Answer). IfErr x P) from h) same

-- ---- answers

-- the bytes are rules, their lexer has this answer, and the warnings were said before it
pub by_rules : (verbosity : Verbosity) (IsFor : ModeRules → List (List ℕ) → Answer → Type 0) (rules bytes : List ℕ) (set : ModeRules) (modes : List (List ℕ))
    (said : List ℕ) (own answer : Answer) → AreRulesOf bytes set modes → Warned Plain verbosity rules (lines (without_mark bytes)) said
    → IsFor set modes own → answer ≡ followed (remark said) own → RulesOf verbosity (LexerOf IsFor) rules bytes answer
by_rules verbosity IsFor rules bytes set modes said own answer (rs, (say, is)) warned done same =
    inr (said, (warned, (own, ((modes, (rs, (say, inr (set, (is, done))))), same))))

-- there is no lexer of these bytes
pub no_rules : (verbosity : Verbosity) (IsFor : ModeRules → List (List ℕ) → Answer → Type 0) (rules bytes : List ℕ) (answer : Answer)
    → RulesOf verbosity RulesRefused rules bytes answer → RulesOf verbosity (LexerOf IsFor) rules bytes answer
no_rules verbosity IsFor rules bytes answer (inl bad) = inl bad
no_rules verbosity IsFor rules bytes answer (inr (words, (warned, (own, ((modes, (rs, (say, refused))), same))))) =
    inr (words, (warned, (own, ((modes, (rs, (say, inl refused))), same))))

-- the file gave bytes that are rules, their lexer has this answer, and the warnings were said before it
pub by_lexer : (verbosity : Verbosity) (GivesIt : List ℕ → Given → Type 0) (IsFor : ModeRules → List (List ℕ) → Answer → Type 0) (rules : List ℕ) (set : ModeRules) (modes : List (List ℕ))
    (said : List ℕ) (own answer : Answer)
    → (bytes : List ℕ) × (GivesIt rules (Ok bytes) × (AreRulesOf bytes set modes × Warned Plain verbosity rules (lines (without_mark bytes)) said))
    → IsFor set modes own → answer ≡ followed (remark said) own → BytesAnswer GivesIt (RulesOf verbosity (LexerOf IsFor)) rules answer
by_lexer verbosity GivesIt IsFor rules set modes said own answer (bytes, (gives, (are, warned))) done same =
    inr (bytes, (gives, by_rules verbosity IsFor rules bytes set modes said own answer are warned done same))

-- there is no lexer
pub no_lexer : (verbosity : Verbosity) (GivesIt : List ℕ → Given → Type 0) (IsFor : ModeRules → List (List ℕ) → Answer → Type 0) (rules : List ℕ) (answer : Answer)
    → BytesAnswer GivesIt (RulesOf verbosity RulesRefused) rules answer → BytesAnswer GivesIt (RulesOf verbosity (LexerOf IsFor)) rules answer
no_lexer verbosity GivesIt IsFor rules answer (inl none) = inl none
no_lexer verbosity GivesIt IsFor rules answer (inr (bytes, (gives, none))) = inr (bytes, (gives, no_rules verbosity IsFor rules bytes answer none))
