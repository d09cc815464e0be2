-- The actions of rules in numbers.
use Rattle.std.proofs.Common.{◌≡◌, ℕ, inl, inr, zero, suc, ◌+◌, ◌<◌, ◌≤◌, ◌^◌, List, [], ◌∷◌, ◌++◌, length, map, take, drop, get_or, refl, sym, ap, subst, ◌∙◌, arith, append_assoc, length-append}
use Rattle.std.specs.Prelude.{slice_get, Some}
use Rattle.std.specs.List.{All, range_with_len}
use Rattle.std.proofs.Math.Seq.{drop-append_seam}
use Rattle.std.proofs.lemmas.List.{length-map, map-append, nil_from_length, take_more}
use Rattle.std.proofs.lemmas.List.Elements.{All-push}
use Rattle.std.proofs.lemmas.List.FromFn.{length-map-range_with_len, get_or-map-range_with_len, map-range_with_len_more, take-map-range_with_len}
use Rattle.std.proofs.lemmas.Option.{slice_get_within, slice_get-get_or}
use Rattle.lalrpop_rules.specs.Modes.{ModeRules}
use Rattle.bajofeki_rules.specs.Stack.{actions_of}
use Rattle.bajofeki_rules.specs.declared.action.Action.{Action}
use Rattle.bajofeki_rules.specs.declared.action.Action.TheVariants.{Mode, Push, Pop}
use Rattle.lalrpop_emit.specs.NumberedRules.{action_number, action_numbers, first_places, actions_of_rules}
use Rattle.lalrpop_emit.specs.Internal.Lists.{AreSmall, HasSmallMode, LeadBelow}
use Rattle.lalrpop_emit.specs.Internal.Walking.{AreActionsAt}

-- the actions of the first k rules
abbrev pub first_rules : ModeRules → ℕ → List (List Action)
first_rules r k = map (actions_of r.actions) (range_with_len 0 k)

-- those of a rule, and a 0
abbrev pub rule_numbers : List Action → List ℕ
rule_numbers actions = map action_number actions ++ (0 ∷ [])

pub rules_more : (r : ModeRules) (k : ℕ) → first_rules r (k + 1) ≡ first_rules r k ++ actions_of r.actions k ∷ []
rules_more r k = map-range_with_len_more (actions_of r.actions) 0 k k (omega arith)

-- ---- one action more

pub small_mode : (actions : List Action) (i : ℕ) (d : Action) → i < length actions → LeadBelow (2 ^ 16) actions → HasSmallMode (get_or actions i d)
small_mode [] i d within below = absurd (omega (arith, within))
small_mode (Mode m ∷ actions) zero d within below = below m (inl refl)
small_mode (Push m ∷ actions) zero d within below = below m (inl refl)
small_mode (Pop ∷ actions) zero d within below = tt
small_mode (a ∷ actions) (suc i) d within below = small_mode actions i d (omega (arith, within)) (λ m leads. below m (inr leads))

-- the first i actions, and this one
pub actions_on : (first before more : List ℕ) (actions : List Action) (i number : ℕ) (d : Action) → i < length actions → before ≡ first ++ map action_number (take i actions)
    → number ≡ action_number (get_or actions i d) → more ≡ before ++ number ∷ [] → more ≡ first ++ map action_number (take (i + 1) actions)
actions_on first before more actions i number d within known this grown =
    let front = map action_number (take i actions) in
    let step = ap (map action_number) (take_more actions i d within) ∙ map-append action_number (take i actions) (get_or actions i d ∷ []) in
    grown
    ∙ ap (λ (ns : List ℕ). ns ++ number ∷ []) known
    ∙ append_assoc first front (number ∷ [])
    ∙ ap (λ (n : ℕ). first ++ (front ++ n ∷ [])) this
    ∙ ap (λ (ns : List ℕ). first ++ ns) (sym step)

pub small_on : (before more : List ℕ) (number : ℕ) → AreSmall before → number < 2 ^ 32 → more ≡ before ++ number ∷ [] → AreSmall more
small_on before more number known small grown = subst AreSmall (sym grown) (All-push (λ n. n < 2 ^ 32) before number known small)

-- ---- one rule more

pub numbers_more : (rules : List (List Action)) (actions : List Action) → action_numbers (rules ++ actions ∷ []) ≡ action_numbers rules ++ rule_numbers actions
numbers_more [] actions = refl
numbers_more (acts ∷ rules) actions =
    ap (λ (ns : List ℕ). map action_number acts ++ (0 ∷ ns)) (numbers_more rules actions)
    ∙ sym (append_assoc (map action_number acts) (0 ∷ action_numbers rules) (rule_numbers actions))

count : (acts : List Action) (rules : List (List Action)) → length (action_numbers (acts ∷ rules)) ≡ length acts + 1 + length (action_numbers rules)
count acts rules = omega (arith, length-append (map action_number acts) (0 ∷ action_numbers rules), length-map acts action_number)

pub places_more : (k : ℕ) (rules : List (List Action)) (actions : List Action)
    → first_places k (rules ++ actions ∷ []) ≡ first_places k rules ++ (k + length (action_numbers rules)) ∷ []
places_more k [] actions = let same : k ≡ k + 0 = omega arith in ap (λ (n : ℕ). n ∷ []) same
places_more k (acts ∷ rules) actions =
    let same : k + length acts + 1 + length (action_numbers rules) ≡ k + length (action_numbers (acts ∷ rules)) = omega (arith, count acts rules) in
    ap (λ (ns : List ℕ). k ∷ ns) (places_more (k + length acts + 1) rules actions)
    ∙ ap (λ (n : ℕ). k ∷ (first_places (k + length acts + 1) rules ++ n ∷ [])) same

-- the first k rules, and this one
pub numbers_on : (r : ModeRules) (k : ℕ) (before more : List ℕ) (actions : List Action) → before ≡ action_numbers (first_rules r k) → actions ≡ actions_of r.actions k
    → more ≡ before ++ rule_numbers actions → more ≡ action_numbers (first_rules r (k + 1))
numbers_on r k before more actions known this grown =
    grown
    ∙ ap (λ (ns : List ℕ). ns ++ rule_numbers actions) known
    ∙ ap (λ (those : List Action). action_numbers (first_rules r k) ++ rule_numbers those) this
    ∙ sym (ap action_numbers (rules_more r k) ∙ numbers_more (first_rules r k) (actions_of r.actions k))

pub places_on : (r : ModeRules) (k : ℕ) (before more numbers : List ℕ) (place : ℕ) → before ≡ first_places 0 (first_rules r k) → numbers ≡ action_numbers (first_rules r k)
    → place ≡ length numbers → more ≡ before ++ place ∷ [] → more ≡ first_places 0 (first_rules r (k + 1))
places_on r k before more numbers place known numbered is grown =
    let same : place ≡ 0 + length (action_numbers (first_rules r k)) = omega (arith, is, ap length numbered) in
    grown
    ∙ ap (λ (ns : List ℕ). ns ++ place ∷ []) known
    ∙ ap (λ (n : ℕ). first_places 0 (first_rules r k) ++ n ∷ []) same
    ∙ sym (ap (first_places 0) (rules_more r k) ∙ places_more 0 (first_rules r k) (actions_of r.actions k))

pub below_on : (r : ModeRules) (k : ℕ) (actions : List Action) → All (LeadBelow r.modes) (first_rules r k) → actions ≡ actions_of r.actions k → LeadBelow r.modes actions
    → All (LeadBelow r.modes) (first_rules r (k + 1))
below_on r k actions known this below =
    subst (All (LeadBelow r.modes)) (sym (rules_more r k))
    (All-push (LeadBelow r.modes) (first_rules r k) (actions_of r.actions k) known (subst (LeadBelow r.modes) this below))

-- ---- how many

pub count_places : (k : ℕ) (rules : List (List Action)) → length (first_places k rules) ≡ length rules
count_places k [] = refl
count_places k (acts ∷ rules) = ap suc (count_places (k + length acts + 1) rules)

count_front : (k : ℕ) (rules : List (List Action)) → length (action_numbers (take k rules)) ≤ length (action_numbers rules)
count_front zero rules = omega arith
count_front (suc k) [] = omega arith
count_front (suc k) (acts ∷ rules) = omega (arith, count_front k rules, count acts rules, count acts (take k rules))

-- the first rules have no more numbers than all
pub few_of_first : (r : ModeRules) (k : ℕ) → k ≤ length r.names → length (action_numbers (first_rules r k)) ≤ length (action_numbers (actions_of_rules r))
few_of_first r k within =
    let same = take-map-range_with_len (actions_of r.actions) 0 (length r.names) k within in
    subst (λ (rules : List (List Action)). length (action_numbers rules) ≤ length (action_numbers (actions_of_rules r))) same (count_front k (actions_of_rules r))

count_least : (rules : List (List Action)) → length rules ≤ length (action_numbers rules)
count_least [] = omega arith
count_least (acts ∷ rules) = omega (arith, count acts rules, count_least rules)

-- where there are no more numbers than rules, no rule has an action
pub none_of_each : (rules : List (List Action)) (i : ℕ) (acts : List Action) → length (action_numbers rules) ≤ length rules → slice_get rules i ≡ Some acts → acts ≡ []
none_of_each [] i acts few at = absurd (omega (arith, slice_get_within [] i acts at))
none_of_each (first ∷ rules) zero acts few at =
    let same : first ≡ acts = cc in
    sym same ∙ nil_from_length first (omega (arith, count first rules, count_least rules, few))
none_of_each (first ∷ rules) (suc i) acts few at = none_of_each rules i acts (omega (arith, count first rules, few)) at

-- ---- where they stand

pub rule_at : (r : ModeRules) (i : ℕ) → i < length r.names → slice_get (actions_of_rules r) i ≡ Some (actions_of r.actions i)
rule_at r i within =
    let all = length-map-range_with_len (actions_of r.actions) 0 (length r.names) in
    slice_get-get_or (actions_of_rules r) i [] (omega (arith, all))
    ∙ ap Some (get_or-map-range_with_len (actions_of r.actions) 0 (length r.names) i i [] within (omega arith))

-- after other numbers stand those of the rules: from its place on those of a rule, and a 0
numbers_at : (before : List ℕ) (rules : List (List Action)) (i place : ℕ) (actions : List Action) → slice_get (first_places (length before) rules) i ≡ Some place → slice_get rules i ≡ Some actions
    → (rest : List ℕ) × (drop place (before ++ action_numbers rules) ≡ map action_number actions ++ (0 ∷ rest))
numbers_at before [] i place actions at is = absurd (omega (arith, slice_get_within [] i actions is))
numbers_at before (acts ∷ rules) zero place actions at is =
    let here : length before ≡ place = cc in
    let same : acts ≡ actions = cc in (
      action_numbers rules,
      subst (λ (k : ℕ). drop k (before ++ action_numbers (acts ∷ rules)) ≡ map action_number actions ++ (0 ∷ action_numbers rules)) here
          (drop-append_seam before (action_numbers (acts ∷ rules)) ∙ ap (λ (those : List Action). map action_number those ++ (0 ∷ action_numbers rules)) same),
    )
numbers_at before (acts ∷ rules) (suc i) place actions at is =
    let more : List ℕ = before ++ rule_numbers acts in
    let size : length before + length acts + 1 ≡ length more =
    omega (arith, length-append before (rule_numbers acts), length-append (map action_number acts) (0 ∷ []), length-map acts action_number) in
    let found = numbers_at more rules i place actions (subst (λ (k : ℕ). slice_get (first_places k rules) i ≡ Some place) size at) is in
    let whole : more ++ action_numbers rules ≡ before ++ action_numbers (acts ∷ rules) =
    append_assoc before (rule_numbers acts) (action_numbers rules) ∙ ap (λ (ns : List ℕ). before ++ ns) (append_assoc (map action_number acts) (0 ∷ []) (action_numbers rules)) in
    (found.0, subst (λ (ns : List ℕ). drop place ns ≡ map action_number actions ++ (0 ∷ found.0)) whole found.1)

-- from the place of a rule on stand its actions
pub stands_at : (r : ModeRules) (i place : ℕ) → slice_get (first_places 0 (actions_of_rules r)) i ≡ Some place
    → (i < length r.names) × ((rest : List ℕ) × (drop place (action_numbers (actions_of_rules r)) ≡ map action_number (actions_of r.actions i) ++ (0 ∷ rest)))
stands_at r i place at =
    let all = length-map-range_with_len (actions_of r.actions) 0 (length r.names) in
    let within : i < length r.names = omega (arith, slice_get_within (first_places 0 (actions_of_rules r)) i place at, count_places 0 (actions_of_rules r), all) in
    (within, numbers_at [] (actions_of_rules r) i place (actions_of r.actions i) at (rule_at r i within))

pub actions_at : (r : ModeRules) (i place : ℕ) → All (LeadBelow r.modes) (actions_of_rules r) → slice_get (first_places 0 (actions_of_rules r)) i ≡ Some place
    → AreActionsAt (action_numbers (actions_of_rules r)) r.modes place (actions_of r.actions i)
actions_at r i place below at =
    let there = stands_at r i place at in
    let all = length-map-range_with_len (actions_of r.actions) 0 (length r.names) in
    record {
      rest = there.1.0;
      numbers_are = there.1.1;
      within =
          subst (LeadBelow r.modes) (get_or-map-range_with_len (actions_of r.actions) 0 (length r.names) i i [] there.0 (omega arith)) (below i [] (omega (arith, there.0, all)));
    }
