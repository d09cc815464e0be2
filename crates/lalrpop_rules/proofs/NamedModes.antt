-- Modes that are there, one rule after another.
use Rattle.std.proofs.Common.{◌≡◌, ℕ, zero, suc, ◌+◌, ◌<◌, ◌≤◌, ◌⊎◌, inl, inr, List, [], ◌∷◌, ◌++◌, length, take, map, get_or, Contains, refl, ap, sym, subst, ◌∙◌, arith, eq-or-lt_of_le}
use Rattle.std.specs.Prelude.{Option, Some, None, slice_get}
use Rattle.std.specs.Option.{option_map}
use Rattle.std.proofs.lemmas.List.{take_more}
use Rattle.std.proofs.lemmas.Option.{get_or_from_slice_get, slice_get-map}
use Rattle.bajofeki_rules.specs.declared.action.Action.{Action}
use Rattle.bajofeki_rules.specs.declared.mode_rule.ModeRule.{ModeRule}
use Rattle.bajofeki_rules.specs.Stack.{actions_of, these_or_none}
use Rattle.lalrpop_rules.specs.Modes.{AllOf}
use Rattle.bajofeki_rules.specs.EnteredModes.{LeadsInto, OneLeadsInto}
use Rattle.lalrpop_rules.specs.ModeSet.{NamesMode}
use Rattle.lalrpop_rules.specs.Internal.Lexers.{AllNameWithin}

all_end : (n : ℕ) (xs : List ℕ) (x : ℕ) → AllOf (λ k. k < n) xs → x < n → AllOf (λ k. k < n) (xs ++ x ∷ [])
all_end n [] x all h = (h, tt)
all_end n (y ∷ ys) x all h = (all.0, all_end n ys x all.1 h)

-- one member more
pub members_more : (n : ℕ) (xs : List ℕ) (i d : ℕ) → i < length xs → AllOf (λ k. k < n) (take i xs) → get_or xs i d < n → AllOf (λ k. k < n) (take (i + 1) xs)
members_more n xs i d within all h =
    subst (λ (ys : List ℕ). AllOf (λ k. k < n) ys) (sym (take_more xs i d within)) (all_end n (take i xs) (get_or xs i d) all h)

member_below : (n : ℕ) (xs : List ℕ) (m : ℕ) → AllOf (λ k. k < n) xs → Contains xs m → m < n
member_below n [] m all (k, h, e) = absurd (no h)
  where
    no : k < 0 → ⊥
    no h = omega (arith, h)
member_below n (x ∷ xs) m all (zero, h, e) = subst (λ (y : ℕ). y < n) e all.0
member_below n (x ∷ xs) m all (suc k, h, e) = member_below n xs m all.1 (k, omega (arith, h), e)

-- an action of the list
pub leads_at : (acts : List Action) (i : ℕ) (d : Action) (m : ℕ) → i < length acts → LeadsInto (get_or acts i d) m → OneLeadsInto acts m
leads_at [] i d m within leads = absurd (no within)
  where
    no : i < 0 → ⊥
    no h = omega (arith, h)
leads_at (a ∷ acts) zero d m within leads = inl leads
leads_at (a ∷ acts) (suc i) d m within leads = inr (leads_at acts i d m (omega (arith, within)) leads)

leads_end : (acts : List Action) (a : Action) (m : ℕ) → OneLeadsInto (acts ++ a ∷ []) m → OneLeadsInto acts m ⊎ LeadsInto a m
leads_end [] a m (inl h) = inr h
leads_end [] a m (inr h) = absurd h
leads_end (b ∷ acts) a m (inl h) = inl (inl h)
leads_end (b ∷ acts) a m (inr h) = elim (leads_end acts a m h) [ inl g ↦ inl (inr g) | inr g ↦ inr g ]

-- one action more
pub targets_more : (n : ℕ) (acts : List Action) (i : ℕ) (d : Action) → i < length acts → ((m : ℕ) → OneLeadsInto (take i acts) m → m < n)
    → ((m : ℕ) → LeadsInto (get_or acts i d) m → m < n) → (m : ℕ) → OneLeadsInto (take (i + 1) acts) m → m < n
targets_more n acts i d within before this m leads =
    elim (leads_end (take i acts) (get_or acts i d) m (subst (λ (xs : List Action). OneLeadsInto xs m) (take_more acts i d within) leads)) [
      | inl g ↦ before m g
      | inr g ↦ this m g
    ]

named_below : (n : ℕ) (q : ModeRule) → AllOf (λ k. k < n) q.modes.now → ((m : ℕ) → OneLeadsInto q.actions.now m → m < n) → (m : ℕ) → NamesMode q m → m < n
named_below n q all targets m (inl h) = member_below n q.modes.now m all h
named_below n q all targets m (inr h) = targets m h

-- one rule more
pub rules_more : (n : ℕ) (rs : List ModeRule) (i : ℕ) (d : ModeRule)
    → ((j m : ℕ) (q : ModeRule) → j < i → slice_get rs j ≡ Some q → NamesMode q m → m < n)
    → AllOf (λ k. k < n) (get_or rs i d).modes.now → ((m : ℕ) → OneLeadsInto (get_or rs i d).actions.now m → m < n)
    → (j m : ℕ) (q : ModeRule) → j < i + 1 → slice_get rs j ≡ Some q → NamesMode q m → m < n
rules_more n rs i d before members targets j m q below at names =
    let least : j ≤ i = omega (arith, below) in
    elim (eq-or-lt_of_le least) [
      | inl e ↦
          let same : get_or rs i d ≡ q = ap (λ (k : ℕ). get_or rs k d) (sym e) ∙ get_or_from_slice_get rs j q d at in
          named_below n q (subst (λ (r : ModeRule). AllOf (λ k. k < n) r.modes.now) same members)
          (subst (λ (r : ModeRule). (k : ℕ) → OneLeadsInto r.actions.now k → k < n) same targets) m names
      | inr h ↦ before j m q h at names
    ]

leads_below : (n : ℕ) (rs : List ModeRule) (i m : ℕ) (found : Option ModeRule) → AllNameWithin rs n → slice_get rs i ≡ found
    → OneLeadsInto (these_or_none (option_map (λ q. q.actions.now) found)) m → m < n
leads_below n rs i m None names at leads = absurd leads
leads_below n rs i m (Some q) names at leads = names i m q at (inr leads)

-- where all that is named is there, the actions lead only there
pub lead_within : (n : ℕ) (rs : List ModeRule) (acts : List (List Action)) → AllNameWithin rs n → acts ≡ map (λ q. q.actions.now) rs
    → (i m : ℕ) → OneLeadsInto (actions_of acts i) m → m < n
lead_within n rs acts names e i m leads =
    leads_below n rs i m (slice_get rs i) names refl
    (subst (λ (o : Option (List Action)). OneLeadsInto (these_or_none o) m) (ap (λ (a : List (List Action)). slice_get a i) e ∙ slice_get-map (λ q. q.actions.now) rs i) leads)
