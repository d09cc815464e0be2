-- Cases of specs/ModeSet.antt.
use Rattle.std.proofs.Common.{◌≡◌, ◌<◌, ℕ, inl, inr, List, [], ◌∷◌, length, get_or, Contains, refl, ap, sym, subst, ◌∙◌, arith}
use Rattle.bajofeki_rules.specs.declared.action.Action.{Action}
use Rattle.bajofeki_rules.specs.declared.action.Action.TheVariants.{Push, Pop}
use Rattle.bajofeki_rules.specs.declared.mode_rule.ModeRule.{ModeRule}
use Rattle.lalrpop_rules.specs.declared.error.RulesError.TheVariants.{NoSuchMode, BadEnd, OutOfMemory}
use Rattle.lalrpop_re.specs.declared.from_to_error.FromToError.{FromToError}
use Rattle.lalrpop_rules.specs.Modes.{ModeRules}
use Rattle.bajofeki_rules.specs.EnteredModes.{OneLeadsInto}
use Rattle.lalrpop_rules.specs.ModeSet.{rules_of, AllThere, AreInOneMode, AreModeRules, AreOneModeKind, NamesMode, IsRulesError}

rules_in_their_order : (p q : ModeRule) → rules_of (p ∷ q ∷ []) ≡ p.rule ∷ q.rule ∷ []
rules_in_their_order p q = refl

no_rules_in_one_mode : AreModeRules [] 1 (record { names = []; trees = []; precedences = []; skips = []; actions = []; members = []; kinds = []; modes = 1; mode_names = []; automata = [] })
no_rules_in_one_mode = record {
  names = refl;
  trees = tt;
  no_fault = λ i t at. absurd (cc);
  precedences = refl;
  skips = refl;
  actions = refl;
  members = refl;
  kinds = record { one_each = refl; first = λ i k x at. absurd (cc) };
  count = refl;
}

-- a rule of mode 0 that pops is no rule without modes
pop_without_modes : (q : ModeRule) → q.actions.now ≡ Pop ∷ [] → ¬ AreInOneMode (q.rule ∷ []) (q ∷ [])
pop_without_modes q pop are = let no : Pop ∷ [] ≡ [] = sym pop ∙ cc (are.actions) in omega (arith, ap length no)

other_mode_without_modes : (q : ModeRule) → q.modes.now ≡ 1 ∷ [] → ¬ AreInOneMode (q.rule ∷ []) (q ∷ [])
other_mode_without_modes q one are =
    let no : 1 ∷ [] ≡ 0 ∷ [] = sym one ∙ cc (are.modes) in
    let same : 1 ≡ 0 = ap (λ (ms : List ℕ). get_or ms 0 0) no in omega (arith, same)

rule_left_out : (q : ModeRule) → ¬ AreInOneMode (q.rule ∷ []) []
rule_left_out q are = omega (arith, ap length are.rules)

one_mode_too_many : (rs : List ModeRule) (r : ModeRules) → r.modes ≡ 2 → ¬ AreModeRules rs 1 r
one_mode_too_many rs r two are = omega (arith, two, are.count)

its_own_mode_is_named : (q : ModeRule) → q.modes.now ≡ 2 ∷ [] → NamesMode q 2
its_own_mode_is_named q e = inl (subst (λ (ms : List ℕ). Contains ms 2) (sym e) (0, omega arith, refl))

mode_it_leads_into_is_named : (q : ModeRule) → q.actions.now ≡ Push 3 ∷ [] → NamesMode q 3
mode_it_leads_into_is_named q e = inr (subst (λ (acts : List Action). OneLeadsInto acts 3) (sym e) (inl refl))

pop_names_no_mode : (q : ModeRule) (m : ℕ) → q.modes.now ≡ [] → q.actions.now ≡ Pop ∷ [] → ¬ NamesMode q m
pop_names_no_mode q m none pop (inl (k, within, e)) = omega (arith, within, ap length none)
pop_names_no_mode q m none pop (inr leads) =
    elim (subst (λ (acts : List Action). OneLeadsInto acts m) pop leads) [ inl h ↦ absurd h | inr h ↦ absurd h ]

-- rules that do different things are of two kinds
other_actions_other_kind : (p q : ModeRule) → p.actions.now ≡ Push 3 ∷ [] → q.actions.now ≡ [] → ¬ AreOneModeKind p q
other_actions_other_kind p q e f one = omega (arith, ap length e, ap length f, ap length one.actions)

-- all modes are there, or the texts don't matter
texts_are_judged_last : (p : ModeRule) (i : ℕ) (error : FromToError) → p.modes.now ≡ 5 ∷ [] → ¬ IsRulesError (p ∷ []) 2 (BadEnd i error)
texts_are_judged_last p i error e is =
    let no : 5 < 2 = is.0 0 5 p (omega arith) refl (inl (subst (λ (ms : List ℕ). Contains ms 5) (sym e) (0, omega arith, refl))) in omega (arith, no)

no_rules_are_there : AllThere [] 2
no_rules_are_there j m q below at names = absurd (cc)

mode_that_is_there : (rs : List ModeRule) (i : ℕ) → ¬ IsRulesError rs 2 (NoSuchMode i 1)
mode_that_is_there rs i is = omega (arith, is.0)

rule_that_is_not_there : (i m n : ℕ) → ¬ IsRulesError [] n (NoSuchMode i m)
rule_that_is_not_there i m n is = let e = is.1.1.0 in absurd (cc)

-- the first such rule is told
second_such_rule : (p q : ModeRule) → p.modes.now ≡ 5 ∷ [] → ¬ IsRulesError (p ∷ q ∷ []) 2 (NoSuchMode 1 5)
second_such_rule p q e is =
    let no : 5 < 2 = is.2 0 5 p (omega arith) refl (inl (subst (λ (ms : List ℕ). Contains ms 5) (sym e) (0, omega arith, refl))) in omega (arith, no)

refused_memory_is_right : (rs : List ModeRule) (n : ℕ) → IsRulesError rs n OutOfMemory
refused_memory_is_right rs n = tt
