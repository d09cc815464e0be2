-- Errors of rules.
use Rattle.std.proofs.Common.{◌≡◌, ℕ, ◌<◌, List, [], inl, inr, Contains, refl, sym, ap, subst, ◌∙◌, arith}
use Rattle.std.specs.Prelude.{Option, Some, None, option_map, slice_get, unwrap_or}
use Rattle.std.specs.Str.{IsCharBoundary}
use Rattle.std.proofs.lemmas.Option.{slice_get-map}
use Rattle.lalrpop_re.specs.NamedPart.{NamedPart}
use Rattle.bajofeki_rules.specs.RuleText.{IsParsed}
use Rattle.bajofeki_rules.specs.declared.rule_text.RuleText.{RuleText}
use Rattle.bajofeki_rules.specs.declared.rule_text.RuleText.TheVariants as texts
use Rattle.lalrpop_rule_file.specs.RuleFile.{NamesMode as NamedInFile}
use Rattle.lalrpop_rule_file.specs.declared.file_rule.FileRule.{FileRule}
use Rattle.lalrpop_rules.specs.RuleSet.{IsNotParsed}
use Rattle.lalrpop_rules.specs.ModeClashes.{IsModesFault}
use Rattle.lalrpop_rules.specs.ModeSet.{IsRulesError, rules_of}
use Rattle.bajofeki_rules.specs.EnteredModes.{OneLeadsInto}
use Rattle.bajofeki_rules.specs.declared.action.Action.{Action}
use Rattle.lalrpop_rules.specs.declared.error.RulesError.{RulesError}
use Rattle.lalrpop_rules.specs.declared.error.RulesError.TheVariants as errors
use Rattle.bajofeki_rules.specs.declared.mode_rule.ModeRule.{ModeRule}
use Rattle.reports_lib.specs.FileRules.{AreFileRules}
use Rattle.reports_lib.specs.Reasons.{parsed_text, text_at, CanBeSaid}
use Rattle.reports_lib.specs.NamedRules.{NameOnly}
use Rattle.bajofeki_rules.specs.declared.rule.Rule.{Rule}

-- ---- rules

is_parsed : (text : RuleText) (inner : List ℕ) → IsParsed text inner → parsed_text text ≡ inner
is_parsed (texts.Literal t) inner is = absurd is
is_parsed (texts.Escaped t) inner is = is
is_parsed (texts.AnyCase t) inner is = absurd is
is_parsed (texts.Pattern t) inner is = is
is_parsed (texts.PatternWith t parts) inner is = is
is_parsed (texts.FromTo a b) inner is = absurd is

-- the text of the rule that doesn't parse is parsed
text_there : (rs : List Rule) (i position : ℕ) (h : IsNotParsed rs i position) → text_at rs i ≡ h.1.0
text_there rs i position h = by (slice_get rs i) refl
  where
    by : (o : Option Rule) → slice_get rs i ≡ o → text_at rs i ≡ h.1.0
    by None e = let at = h.1.1.0.at in absurd (cc (at, e))
    by (Some r) e =
        let here : text_at rs i ≡ parsed_text r.text = ap (λ (o : Option Rule). unwrap_or (option_map (λ (q : Rule). parsed_text q.text) o) []) e in
        let at : option_map (λ (q : Rule). q.text) (Some r) ≡ Some h.0 = ap (option_map (λ (q : Rule). q.text)) (sym e) ∙ h.1.1.0.at in
        let same : r.text ≡ h.0 = cc (at) in
        here ∙ ap parsed_text same ∙ is_parsed h.0 h.1.0 h.1.1.1

-- it stops at a place in it
pub stops_inside : (rs : List Rule) (i position : ℕ) → IsNotParsed rs i position → IsCharBoundary (text_at rs i) position
stops_inside rs i position h = subst (λ (x : List ℕ). IsCharBoundary x position) (sym (text_there rs i position h)) h.1.1.2

-- ---- modes

-- a file names no mode that it hasn't
no_other_mode : (rs : List ModeRule) (n i m : ℕ) → NameOnly rs n → ¬ IsRulesError rs n (errors.NoSuchMode i m)
no_other_mode rs n i m within is = let below = within i m is.1.0 is.1.1.0 is.1.1.1 in omega (arith, below, is.0)

-- what a file of rules names is what a lexer takes
rule_named : (ps : List NamedPart) (fs : List FileRule) (rs : List ModeRule) (n : ℕ) → AreFileRules ps fs rs
    → ((i m : ℕ) (f : FileRule) → slice_get fs i ≡ Some f → NamedInFile f m → m < n) → NameOnly rs n
rule_named ps fs rs n are within i m q at names = by (slice_get fs i) refl
  where
    modes_at : option_map (λ (f : FileRule). f.modes.items) (slice_get fs i) ≡ Some q.modes.now
    modes_at =
        sym (slice_get-map (λ (f : FileRule). f.modes.items) fs i) ∙ ap (λ (l : List (List ℕ)). slice_get l i) (sym are.modes)
        ∙ slice_get-map (λ (r : ModeRule). r.modes.now) rs i ∙ ap (option_map (λ (r : ModeRule). r.modes.now)) at

    actions_at : option_map (λ (f : FileRule). f.actions.items) (slice_get fs i) ≡ Some q.actions.now
    actions_at =
        sym (slice_get-map (λ (f : FileRule). f.actions.items) fs i) ∙ ap (λ (l : List (List Action)). slice_get l i) (sym are.actions)
        ∙ slice_get-map (λ (r : ModeRule). r.actions.now) rs i ∙ ap (option_map (λ (r : ModeRule). r.actions.now)) at

    by : (o : Option FileRule) → slice_get fs i ≡ o → m < n
    by None e = absurd (cc (modes_at, e))
    by (Some f) e =
        let modes : f.modes.items ≡ q.modes.now = cc (modes_at, e) in
        let actions : f.actions.items ≡ q.actions.now = cc (actions_at, e) in
        within i m f e (elim names [
          | inl member ↦ inl (subst (λ (l : List ℕ). Contains l m) (sym modes) member)
          | inr leads ↦ inr (subst (λ (l : List Action). OneLeadsInto l m) (sym actions) leads)
        ])

pub names_only : (ps : List NamedPart) (fs : List FileRule) (rs : List ModeRule) (n : ℕ) → AreFileRules ps fs rs
    → ((i m : ℕ) (f : FileRule) → slice_get fs i ≡ Some f → NamedInFile f m → m < n) → NameOnly rs n
names_only ps fs rs n are within = rule_named ps fs rs n are within

-- the error of a lexer can be said
pub error_said : (rs : List ModeRule) (n : ℕ) (error : RulesError) → NameOnly rs n → IsRulesError rs n error → CanBeSaid (rules_of rs) error
error_said rs n (errors.NoSuchMode i m) within is = no_other_mode rs n i m within is
error_said rs n (errors.NotParsed i position kind) within is = stops_inside (rules_of rs) i position is.1
error_said rs n (errors.BadEnd i e) within is = tt
error_said rs n (errors.NotCompiled i e) within is = tt
error_said rs n (errors.Clash m i j w) within is = tt
error_said rs n errors.OutOfMemory within is = tt

-- and one that isn't a clash
pub fault_said : (rs : List ModeRule) (n : ℕ) (error : RulesError) → NameOnly rs n → IsModesFault rs n error → CanBeSaid (rules_of rs) error
fault_said rs n (errors.NoSuchMode i m) within is = no_other_mode rs n i m within is
fault_said rs n (errors.NotParsed i position kind) within is = stops_inside (rules_of rs) i position is.1
fault_said rs n (errors.BadEnd i e) within is = tt
fault_said rs n (errors.NotCompiled i e) within is = tt
fault_said rs n (errors.Clash m i j w) within is = tt
fault_said rs n errors.OutOfMemory within is = tt
