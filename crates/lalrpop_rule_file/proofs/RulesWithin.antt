-- The rules of a file name only modes of the file.
use Rattle.std.proofs.Common.{◌≡◌, ℕ, zero, suc, ◌<◌, ◌+◌, inl, inr, List, [], ◌∷◌, length, Contains, subst, arith}
use Rattle.std.specs.Prelude.{Some, slice_get}
use Rattle.std.specs.List.{range_with_len}
use Rattle.bajofeki_rules.specs.declared.action.Action.{Action}
use Rattle.bajofeki_rules.specs.declared.action.Action.TheVariants as action
use Rattle.bajofeki_rules.specs.EnteredModes.{OneLeadsInto}
use Rattle.lalrpop_rule_file.specs.RuleLine.{Mode, Push, Written, Enters, Pops, Section, These, Every, WrittenRule}
use Rattle.lalrpop_rule_file.specs.FileModes.{Said, Nothing, Heading, Define, Rule, AreActions, AreModes, AreNumbers, initial}
use Rattle.lalrpop_rule_file.specs.RuleFile.{AreRules, AreRulesBelow, IsFileRule, NamesMode}
use Rattle.lalrpop_rule_file.specs.declared.file_rule.FileRule.{FileRule}
use Rattle.lalrpop_rule_file.proofs.ModeNumbers.{number_below}

numbers_below : (modes names : List (List ℕ)) (ns : List ℕ) (m : ℕ) → AreNumbers modes names ns → Contains ns m → m < length modes
numbers_below modes [] [] m are (k, less, e) = absurd (omega (arith, less))
numbers_below modes [] (n ∷ ns) m are there = absurd are
numbers_below modes (name ∷ names) [] m are there = absurd are
numbers_below modes (name ∷ names) (n ∷ ns) m are (zero, less, e) = subst (λ (x : ℕ). x < length modes) e (number_below modes name n are.0)
numbers_below modes (name ∷ names) (n ∷ ns) m are (suc k, less, e) = numbers_below modes names ns m are.1 (k, omega (arith, less), e)

range_below : (a n m : ℕ) → Contains (range_with_len a n) m → m < a + n
range_below a zero m (k, less, e) = absurd (omega (arith, less))
range_below a (suc n) m (zero, less, e) = let same : a ≡ m = e in omega (arith, same)
range_below a (suc n) m (suc k, less, e) = let h = range_below (a + 1) n m (k, omega (arith, less), e) in omega (arith, h)

modes_below : (modes : List (List ℕ)) (section : Section) (ns : List ℕ) (m : ℕ) → AreModes modes section ns → Contains ns m → m < length modes
modes_below modes (These names) ns m are there = numbers_below modes names ns m are there
modes_below modes Every ns m are there = let h = range_below 0 (length modes) m (subst (λ (x : List ℕ). Contains x m) are there) in omega (arith, h)

actions_below : (modes : List (List ℕ)) (ws : List Written) (acts : List Action) (m : ℕ) → AreActions modes ws acts → OneLeadsInto acts m → m < length modes
actions_below modes [] [] m are leads = absurd leads
actions_below modes [] (a ∷ acts) m are leads = absurd are
actions_below modes (w ∷ ws) [] m are leads = absurd are
actions_below modes (w ∷ ws) (a ∷ acts) m are (inr leads) = actions_below modes ws acts m are.1 leads
actions_below modes (Enters Mode name ∷ ws) (action.Mode n ∷ acts) m are (inl leads) = subst (λ (x : ℕ). x < length modes) leads (number_below modes name n are.0)
actions_below modes (Enters Push name ∷ ws) (action.Push n ∷ acts) m are (inl leads) = subst (λ (x : ℕ). x < length modes) leads (number_below modes name n are.0)
actions_below modes (Pops ∷ ws) (action.Pop ∷ acts) m are (inl leads) = absurd leads
actions_below modes (Enters Mode name ∷ ws) (action.Push n ∷ acts) m are leads = absurd are.0
actions_below modes (Enters Mode name ∷ ws) (action.Pop ∷ acts) m are leads = absurd are.0
actions_below modes (Enters Push name ∷ ws) (action.Mode n ∷ acts) m are leads = absurd are.0
actions_below modes (Enters Push name ∷ ws) (action.Pop ∷ acts) m are leads = absurd are.0
actions_below modes (Pops ∷ ws) (action.Mode n ∷ acts) m are leads = absurd are.0
actions_below modes (Pops ∷ ws) (action.Push n ∷ acts) m are leads = absurd are.0

rule_below : (modes : List (List ℕ)) (section : Section) (w : WrittenRule) (r : FileRule) (m : ℕ) → IsFileRule modes section w r → NamesMode r m → m < length modes
rule_below modes section w r m is (inl there) = modes_below modes section r.modes.items m is.in_modes there
rule_below modes section w r m is (inr leads) = actions_below modes w.head.actions r.actions.items m is.acts leads

each_below : (modes : List (List ℕ)) (section : Section) (said : List Said) (rs : List FileRule) (i m : ℕ) (r : FileRule) → AreRulesBelow modes section said rs → slice_get rs i ≡ Some r → NamesMode r m → m < length modes
each_below modes section [] [] zero m r are e names = absurd (cc)
each_below modes section [] [] (suc i) m r are e names = absurd (cc)
each_below modes section [] (q ∷ rs) i m r are e names = absurd are
each_below modes section (Nothing ∷ said) rs i m r are e names = each_below modes section said rs i m r are e names
each_below modes section (Heading next ∷ said) rs i m r are e names = each_below modes next said rs i m r are e names
each_below modes section (Define part ∷ said) rs i m r are e names = each_below modes section said rs i m r are e names
each_below modes section (Rule w ∷ said) [] i m r are e names = absurd are
each_below modes section (Rule w ∷ said) (q ∷ rs) zero m r are e names =
    let same : q ≡ r = cc in rule_below modes section w r m (subst (λ (x : FileRule). IsFileRule modes section w x) same are.0) names
each_below modes section (Rule w ∷ said) (q ∷ rs) (suc i) m r are e names = each_below modes section said rs i m r are.1 e names

pub rules_within : (ls modes : List (List ℕ)) (rs : List FileRule) → AreRules ls modes rs → (i m : ℕ) (r : FileRule) → slice_get rs i ≡ Some r → NamesMode r m → m < length modes
rules_within ls modes rs are i m r e names = each_below modes initial are.said rs i m r are.are_rules e names
