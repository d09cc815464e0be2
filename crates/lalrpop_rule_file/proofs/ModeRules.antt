-- Rules with the parts that they know, one after another.
use Rattle.std.proofs.Common.{◌≡◌, ℕ, ◌<◌, ◌+◌, List, [], ◌∷◌, ◌++◌, length, get_or, map, take, sym, ap, subst, ◌∙◌}
use Rattle.std.proofs.lemmas.List.{take_more}
use Rattle.lalrpop_re.specs.NamedPart.{NamedPart}
use Rattle.bajofeki_rules.specs.declared.mode_rule.ModeRule.{ModeRule}
use Rattle.lalrpop_rule_file.specs.RuleFile.{AreModeRules, IsModeRule}
use Rattle.lalrpop_rule_file.specs.declared.file_rule.FileRule.{FileRule}
use Rattle.lalrpop_rule_file.proofs.Actions.{map_more}

rules_step : (ps : List NamedPart) (rs : List FileRule) (ms : List ModeRule) (r : FileRule) (m : ModeRule) → AreModeRules ps rs ms → IsModeRule ps r m → AreModeRules ps (rs ++ r ∷ []) (ms ++ m ∷ [])
rules_step ps [] [] r m are is = (is, tt)
rules_step ps [] (n ∷ ms) r m are is = absurd are
rules_step ps (q ∷ rs) [] r m are is = absurd are
rules_step ps (q ∷ rs) (n ∷ ms) r m are is = (are.0, rules_step ps rs ms r m are.1 is)

pub rules_more : (ps : List NamedPart) (rs : List FileRule) (ms more : List ModeRule) (i : ℕ) (d r : FileRule) (m : ModeRule) → i < length rs → r ≡ get_or rs i d → AreModeRules ps (take i rs) ms → IsModeRule ps r m → more ≡ ms ++ m ∷ []
    → AreModeRules ps (take (i + 1) rs) more
rules_more ps rs ms more i d r m within item are is same =
    let here : IsModeRule ps (get_or rs i d) m = subst (λ (x : FileRule). IsModeRule ps x m) item is in
    rw (take_more rs i d within, same) (rules_step ps (take i rs) ms (get_or rs i d) m are here)

-- what holds of each pair holds of all
pub mapped_more : {A : Type 0} (f : ModeRule → A) (g : FileRule → A) (rs : List FileRule) (ms more : List ModeRule) (i : ℕ) (d r : FileRule) (m : ModeRule) → i < length rs → r ≡ get_or rs i d → map f ms ≡ map g (take i rs) → f m ≡ g r
    → more ≡ ms ++ m ∷ [] → map f more ≡ map g (take (i + 1) rs)
mapped_more f g rs ms more i d r m within item are is same =
    ap (map f) same ∙ map_more f ms m ∙ ap (λ xs. xs ++ f m ∷ []) are ∙ ap (λ x. map g (take i rs) ++ x ∷ []) (is ∙ ap g item)
    ∙ sym (ap (map g) (take_more rs i d within) ∙ map_more g (take i rs) (get_or rs i d))

pub same_name : (ps : List NamedPart) (r : FileRule) (m : ModeRule) → IsModeRule ps r m → m.rule.name.now ≡ r.rule.name.now
same_name ps r m is = ap (λ x. x.name.now) is.rule
