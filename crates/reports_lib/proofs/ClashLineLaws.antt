-- The names of rules, and the lines of clashes, one mode after another.
use Rattle.std.proofs.Common.{◌≡◌, ℕ, suc, ◌+◌, ◌<◌, List, [], ◌∷◌, ◌++◌, length, map, take, get_or, sym, ap, ◌∙◌, append_assoc, arith}
use Rattle.std.specs.Prelude.{Option, option_map, unwrap_or, slice_get, flat_map}
use Rattle.std.proofs.lemmas.List.{append-nil, take_more, map-append, length-map, length-take-le}
use Rattle.std.proofs.lemmas.Option.{slice_get-map}
use Rattle.lalrpop_hir.specs.Clashes.{Entry}
use Rattle.lalrpop_rules.specs.ModeSet.{rules_of}
use Rattle.bajofeki_rules.specs.declared.mode_rule.ModeRule.{ModeRule}
use Rattle.lalrpop_rules.specs.RuleSet.{names_of}
use Rattle.bajofeki_rules.specs.declared.rule.Rule.{Rule}
use Rattle.reports_lib.specs.PieceLines.{mode_named, name_at}
use Rattle.reports_lib.specs.RuleClashes.{named_line, clash_lines}

-- the names of the rules
pub named : (rs : List ModeRule) (i : ℕ) → name_at (names_of (rules_of rs)) i ≡ unwrap_or (option_map (λ (r : Rule). r.name.now) (slice_get (rules_of rs) i)) []
named rs i = ap (λ (o : Option (List ℕ)). unwrap_or o []) (slice_get-map (λ (r : Rule). r.name.now) (rules_of rs) i)

-- one mode more
lines_more : (modes names : List (List ℕ)) (m : ℕ) (css : List (List Entry)) (cs : List Entry)
    → clash_lines modes names m (css ++ cs ∷ []) ≡ clash_lines modes names m css ++ flat_map (named_line names (mode_named modes (m + length css))) cs
lines_more modes names m [] cs =
    let here : m ≡ m + 0 = omega arith in
    append-nil (flat_map (named_line names (mode_named modes m)) cs) ∙ ap (λ (n : ℕ). flat_map (named_line names (mode_named modes n)) cs) here
lines_more modes names m (ds ∷ css) cs =
    let first = flat_map (named_line names (mode_named modes m)) ds in
    let there : (m + 1) + length css ≡ m + suc (length css) = omega arith in
    ap (λ (l : List ℕ). first ++ l) (lines_more modes names (m + 1) css cs)
    ∙ sym (append_assoc first (clash_lines modes names (m + 1) css) (flat_map (named_line names (mode_named modes ((m + 1) + length css))) cs))
    ∙ ap (λ (n : ℕ). (first ++ clash_lines modes names (m + 1) css) ++ flat_map (named_line names (mode_named modes n)) cs) there

pub lines_pushed : {V : Type 0} (f : V → List Entry) (modes names : List (List ℕ)) (vs : List V) (i : ℕ) (d : V) (old new : List ℕ) → i < length vs
    → old ≡ clash_lines modes names 0 (map f (take i vs)) → new ≡ old ++ flat_map (named_line names (mode_named modes i)) (f (get_or vs i d))
    → new ≡ clash_lines modes names 0 (map f (take (i + 1) vs))
lines_pushed f modes names vs i d old new within are e =
    let count : 0 + length (map f (take i vs)) ≡ i = omega (arith, length-map (take i vs) f, length-take-le i vs (omega (arith, within))) in
    e ∙ ap (λ (l : List ℕ). l ++ flat_map (named_line names (mode_named modes i)) (f (get_or vs i d))) are
    ∙ ap (λ (n : ℕ). clash_lines modes names 0 (map f (take i vs)) ++ flat_map (named_line names (mode_named modes n)) (f (get_or vs i d))) (sym count)
    ∙ sym (lines_more modes names 0 (map f (take i vs)) (f (get_or vs i d)))
    ∙ ap (clash_lines modes names 0) (sym (map-append f (take i vs) (get_or vs i d ∷ [])) ∙ ap (map f) (sym (take_more vs i d within)))
