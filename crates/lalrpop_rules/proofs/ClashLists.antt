-- The clashes of modes, one mode after another.
use Rattle.std.proofs.Common.{◌≡◌, ℕ, inl, inr, List, [], ◌∷◌, ◌++◌, length, map, ap, sym, subst, ◌∙◌}
use Rattle.std.specs.Prelude.{Some, slice_get, Result, Ok, Err, IfErr}
use Rattle.std.proofs.lemmas.List.{map-append}
use Rattle.lalrpop_hir.specs.Clashes.{Entry, AreClashes}
use Rattle.lalrpop_hir.specs.Report.{NoFault, IsFaultOf}
use Rattle.lalrpop_hir.specs.declared.error.DfaConstructionError.{DfaConstructionError}
use Rattle.lalrpop_hir.specs.declared.error.DfaConstructionError.TheVariants as report
use Rattle.lalrpop_rules.specs.RuleSet.{IsTextError}
use Rattle.lalrpop_rules.specs.declared.text_error.TextError.{TextError}
use Rattle.lalrpop_rules.specs.declared.text_error.TextError.TheVariants as texts
use Rattle.lalrpop_rules.specs.RulesErrors.{of_texts}
use Rattle.lalrpop_rules.specs.Modes.{ModeRules, kinds_of, mode_rules, trees_in}
use Rattle.lalrpop_rules.specs.ModeSet.{AllThere, AreModeRules, rules_of}
use Rattle.lalrpop_rules.specs.ModeClashes.{AreModeClashes, IsModesFault}
use Rattle.lalrpop_rules.specs.Internal.Lexers.{IsClashesFault, in_mode, seen}
use Rattle.bajofeki_rules.specs.declared.mode_rule.ModeRule.{ModeRule}
use Rattle.lalrpop_rules.specs.declared.error.RulesError.{RulesError}
use Rattle.lalrpop_rules.specs.declared.error.RulesError.TheVariants.{NoSuchMode, NotParsed, BadEnd, NotCompiled, Clash, OutOfMemory}
use Rattle.lalrpop_rules.proofs.KindLaws.{no_fault_merged, no_first_fault}
use Rattle.lalrpop_rules.proofs.ModeByMode.{slice_end}

-- all clashes of the modes so far
abbrev pub AreListsOf : ModeRules → List (List Entry) → Type 0
AreListsOf r css = (m : ℕ) (cs : List Entry) → slice_get css m ≡ Some cs → AreClashes (trees_in r m) r.precedences cs

-- one mode more
pub lists_more : (r : ModeRules) (css new : List (List Entry)) (cs : List Entry) (m : ℕ) → AreListsOf r css → length css ≡ m → new ≡ css ++ cs ∷ []
    → AreClashes (trees_in r m) r.precedences cs → AreListsOf r new
lists_more r css new cs m are count more clashes k ds at =
    elim (slice_end css cs ds k (ap (λ (xs : List (List Entry)). slice_get xs k) (sym more) ∙ at)) [
      | inl h ↦ are k ds h
      | inr p ↦
          subst (λ (n : ℕ). AreClashes (trees_in r n) r.precedences ds) (sym (p.0 ∙ count)) (subst (λ (es : List Entry). AreClashes (trees_in r m) r.precedences es) p.1 clashes)
    ]

-- no mode has a fault
pub fault_of_clashes : (r : ModeRules) (m : ℕ) (e : DfaConstructionError) → NoFault r.trees → IsFaultOf (trees_in r m) e → IsClashesFault (in_mode m e)
fault_of_clashes r m (report.NfaConstructionError i e) fine is =
    no_first_fault (trees_in r m) i e (no_fault_merged (kinds_of (mode_rules r m) r.kinds) r.trees fine) is
fault_of_clashes r m (report.Ambiguity i j w) fine is = absurd is
fault_of_clashes r m report.OutOfMemory fine is = tt

pub lists_pushed : {V : Type 0} (f : V → List Entry) (old new : List V) (v : V) → new ≡ old ++ v ∷ [] → map f new ≡ map f old ++ f v ∷ []
lists_pushed f old new v more = ap (map f) more ∙ map-append f old (v ∷ [])

pub fault_of_rules : (rs : List ModeRule) (modes : ℕ) (e : RulesError) → IsClashesFault e → IsModesFault rs modes e
fault_of_rules rs modes (NoSuchMode i m) fault = absurd fault
fault_of_rules rs modes (NotParsed i position kind) fault = absurd fault
fault_of_rules rs modes (BadEnd i e) fault = absurd fault
fault_of_rules rs modes (NotCompiled i e) fault = absurd fault
fault_of_rules rs modes (Clash m i j w) fault = absurd fault
fault_of_rules rs modes OutOfMemory fault = tt

-- the error of their texts
pub fault_of_texts : (rs : List ModeRule) (modes : ℕ) (e : TextError) → AllThere rs modes → IsTextError (rules_of rs) e → IsModesFault rs modes (of_texts e)
fault_of_texts rs modes (texts.NotParsed i position kind) there is = (there, is)
fault_of_texts rs modes (texts.BadEnd i e) there is = (there, is)
fault_of_texts rs modes (texts.NotCompiled i e) there is = (there, is)
fault_of_texts rs modes texts.OutOfMemory there is = tt

pub clashes_of_rules : (rs : List ModeRule) (modes : ℕ) (r : ModeRules) (css : List (List Entry)) → AreModeRules rs modes r
    → AreModeClashes (seen r.trees r.precedences r.members r.kinds modes) css → AreModeClashes r css
clashes_of_rules rs modes r css are found = record { count = found.count ∙ sym are.count; each = found.each }

pub on_err_of : {T E : Type 0} (r : Result T E) {P Q : E → Type 0} → ((e : E) → P e → Q e) → IfErr r P → IfErr r Q
on_err_of (Ok x) f h = tt
on_err_of (Err e) f h = f e h
