-- Rules without modes, as rules of one mode.
use Rattle.std.proofs.Common.{◌≡◌, ℕ, zero, suc, ◌+◌, ◌<◌, ◌≤◌, ◌⊎◌, ◌||◌, ◌==◌, inl, inr, Bool, false, List, [], ◌∷◌, ◌++◌, length, map, get_or, if◌then◌else◌, refl, ap, sym, subst, ◌∙◌, arith, eq-eqb}
use Rattle.std.specs.Prelude.{Option, Some, None, slice_get}
use Rattle.std.specs.Option.{option_map}
use Rattle.std.specs.List.{list_any}
use Rattle.std.proofs.lemmas.Bool.{cases_order, ne_eqb}
use Rattle.std.proofs.lemmas.Option.{slice_get_cases, slice_get_within, slice_get-map}
use Rattle.std.proofs.lemmas.List.{length-map}
use Rattle.lalrpop_hir.specs.Tree.{Tree}
use Rattle.bajofeki_rules.specs.declared.action.Action.{Action}
use Rattle.bajofeki_rules.specs.declared.mode_rule.ModeRule.{ModeRule}
use Rattle.bajofeki_rules.specs.declared.rule.Rule.{Rule}
use Rattle.bajofeki_rules.specs.EnteredModes.{OneLeadsInto}
use Rattle.bajofeki_rules.specs.Stack.{actions_of}
use Rattle.lalrpop_rules.specs.declared.error.RulesError.TheVariants.{NoSuchMode}
use Rattle.lalrpop_rules.specs.Kinds.{AreKinds, AreOneKind, IsFirstSame, all_at_work, gathered, is_kind, merged, merged_behind, one_tree, trees_of_kind}
use Rattle.lalrpop_rules.specs.Modes.{ModeRules, kinds_of, trees_in}
use Rattle.lalrpop_rules.specs.ModeSet.{AreInOneMode, AreModeRules, AreOneModeKind, IsRulesError}
use Rattle.lalrpop_rules.specs.RuleSet.{AreTrees}
use Rattle.lalrpop_rules.proofs.ModePieces.{AllStay}
use Rattle.lalrpop_rules.proofs.RuleTrees.{length-AreTrees}

-- ---- the rules as those of one mode

abbrev alone : Rule → ModeRule
alone r = record { rule = r; modes = record { ref_ptr = (0, 0); now = 0 ∷ [] }; actions = record { ref_ptr = (0, 0); now = [] } }

-- there are such rules
pub in-one-mode : (rs : List Rule) → (qs : List ModeRule) × AreInOneMode rs qs
in-one-mode [] = ([], record { rules = refl; modes = refl; actions = refl })
in-one-mode (r ∷ rs) =
    let rest = in-one-mode rs in
    let are = rest.1 in (
      alone r ∷ rest.0,
      record {
        rules = ap (λ (xs : List Rule). r ∷ xs) are.rules;
        modes = ap (λ (xs : List (List ℕ)). (0 ∷ []) ∷ xs) are.modes;
        actions = ap (λ (xs : List (List Action)). [] ∷ xs) are.actions;
      },
    )

mapped : {X Y : Type 0} (f : X → Y) (xs : List X) (i : ℕ) (y : Y) → slice_get (map f xs) i ≡ Some y → (x : X) × ((slice_get xs i ≡ Some x) × (f x ≡ y))
mapped f [] i y at = absurd (cc)
mapped f (x ∷ xs) zero y at = (x, (refl, cc))
mapped f (x ∷ xs) (suc i) y at = mapped f xs i y at

all_same : {X Y : Type 0} (y : Y) (xs : List X) (i : ℕ) (z : Y) → slice_get (map (λ _. y) xs) i ≡ Some z → z ≡ y
all_same y [] i z at = absurd (cc)
all_same y (x ∷ xs) zero z at = cc
all_same y (x ∷ xs) (suc i) z at = all_same y xs i z at

module _ (rs : List Rule) (qs : List ModeRule) (are : AreInOneMode rs qs) where
  none_done : (i : ℕ) (q : ModeRule) → slice_get qs i ≡ Some q → q.actions.now ≡ []
  none_done i q at =
      all_same [] rs i q.actions.now
      (ap (λ (xs : List (List Action)). slice_get xs i) (sym are.actions) ∙ slice_get-map (λ (x : ModeRule). x.actions.now) qs i ∙ ap (option_map (λ (x : ModeRule). x.actions.now)) at)

  one_mode : (i : ℕ) (q : ModeRule) → slice_get qs i ≡ Some q → q.modes.now ≡ 0 ∷ []
  one_mode i q at =
      all_same (0 ∷ []) rs i q.modes.now
      (ap (λ (xs : List (List ℕ)). slice_get xs i) (sym are.modes) ∙ slice_get-map (λ (x : ModeRule). x.modes.now) qs i ∙ ap (option_map (λ (x : ModeRule). x.modes.now)) at)

  rule_at : (i : ℕ) (r : Rule) → slice_get rs i ≡ Some r → (q : ModeRule) × ((slice_get qs i ≡ Some q) × (q.rule ≡ r))
  rule_at i r at = mapped (λ (q : ModeRule). q.rule) qs i r (ap (λ (xs : List Rule). slice_get xs i) are.rules ∙ at)

  -- each mode that they name is there
  pub no-such-mode : (i m : ℕ) → ¬ IsRulesError qs 1 (NoSuchMode i m)
  no-such-mode i m (high, (q, (at, inl (k, within, e))), before) = absurd (only (one_mode i q at) k within e)
    where
      only : q.modes.now ≡ 0 ∷ [] → (k : ℕ) → k < length q.modes.now → get_or q.modes.now k m ≡ m → ⊥
      only own zero within e =
          let first : get_or (0 ∷ []) 0 m ≡ m = subst (λ (ms : List ℕ). get_or ms 0 m ≡ m) own e in omega (arith, first, high)
      only own (suc k) within e = omega (arith, within, ap length own)
  no-such-mode i m (high, (q, (at, inr leads)), before) = absurd (subst (λ (acts : List Action). OneLeadsInto acts m) (none_done i q at) leads)

  same_kind : (r : Rule) (p q : ModeRule) (i j : ℕ) (s : Rule) → slice_get qs i ≡ Some p → slice_get qs j ≡ Some q → p.rule ≡ r → q.rule ≡ s → AreOneKind r s
      → AreOneModeKind p q
  same_kind r p q i j s at_p at_q is_p is_q one = record {
    kind = subst (λ (x : Rule). AreOneKind x q.rule) (sym is_p) (subst (λ (x : Rule). AreOneKind r x) (sym is_q) one);
    actions = none_done i p at_p ∙ sym (none_done j q at_q);
  }

  -- their kinds are those of the rules
  pub kinds-in-one-mode : (ks : List ℕ) → AreKinds AreOneModeKind qs ks → AreKinds AreOneKind rs ks
  kinds-in-one-mode ks kinds = record {
    one_each = kinds.one_each ∙ sym (length-map qs (λ (q : ModeRule). q.rule)) ∙ ap length are.rules;
    first = λ i k r at at_k. by i k r at_k (rule_at i r at);
  }
    where
      by : (i k : ℕ) (r : Rule) → slice_get ks i ≡ Some k → (q : ModeRule) × ((slice_get qs i ≡ Some q) × (q.rule ≡ r)) → IsFirstSame AreOneKind rs r k
      by i k r at_k (q, (at, is)) =
          let first = kinds.first i k q at at_k in
          record {
            item = first.item.rule;
            at = ap (λ (xs : List Rule). slice_get xs k) (sym are.rules) ∙ slice_get-map (λ (x : ModeRule). x.rule) qs k ∙ ap (option_map (λ (x : ModeRule). x.rule)) first.at;
            same = subst (λ (x : Rule). AreOneKind first.item.rule x) is first.same.kind;
            none_before = λ j y below at_j one.
                let p = rule_at j y at_j in first.none_before j p.0 below p.1.0 (same_kind y p.0 q j i r p.1.0 at p.1.1 is one);
          }

-- ---- their trees

all_belong : (rs : List Rule) (ks : List ℕ) → length rs ≡ length ks
    → kinds_of (map (λ ms. list_any (λ n. n == 0) ms) (map (λ _. 0 ∷ []) rs)) ks ≡ all_at_work ks
all_belong [] [] same = refl
all_belong [] (k ∷ ks) same = absurd (cc)
all_belong (r ∷ rs) [] same = refl
all_belong (r ∷ rs) (k ∷ ks) same = ap (λ (os : List (Option ℕ)). Some k ∷ os) (all_belong rs ks (cc same))

none_acts : (rs : List Rule) → AllStay (map (λ _. []) rs)
none_acts [] i = refl
none_acts (r ∷ rs) zero = refl
none_acts (r ∷ rs) (suc i) = none_acts rs i

module _ (rs : List Rule) (qs : List ModeRule) (r : ModeRules) (are : AreInOneMode rs qs) (said : AreModeRules qs 1 r) where
  -- all rules are at work
  pub trees-in-one-mode : trees_in r 0 ≡ merged (all_at_work r.kinds) r.trees
  trees-in-one-mode =
      let size : length rs ≡ length r.kinds = sym (kinds-in-one-mode rs qs are r.kinds said.kinds).one_each in
      ap (λ (ms : List (List ℕ)). merged (kinds_of (map (λ own. list_any (λ n. n == 0) own) ms) r.kinds) r.trees) (said.members ∙ are.modes)
      ∙ ap (λ (os : List (Option ℕ)). merged os r.trees) (all_belong rs r.kinds size)

  -- and none has an action
  pub stay-in-one-mode : AllStay r.actions
  stay-in-one-mode i = ap (λ (acts : List (List Action)). actions_of acts i) (said.actions ∙ are.actions) ∙ none_acts rs i

-- ---- rules of different kinds

-- the kinds from n on are n, n + 1 and so on
abbrev CountUp : ℕ → List ℕ → Type 0
CountUp n [] = Unit {0}
CountUp n (k ∷ ks) = (k ≡ n) × CountUp (suc n) ks

-- each kind is less than n
abbrev AllLess : ℕ → List (Option ℕ) → Type 0
AllLess n [] = Unit {0}
AllLess n (None ∷ os) = AllLess n os
AllLess n (Some k ∷ os) = (k < n) × AllLess n os

less_more : (n : ℕ) (os : List (Option ℕ)) → AllLess n os → AllLess (suc n) (os ++ Some n ∷ [])
less_more n [] less = (omega arith, tt)
less_more n (None ∷ os) less = less_more n os less
less_more n (Some k ∷ os) less = (omega (arith, less.0), less_more n os less.1)

none_before : (n : ℕ) (os : List (Option ℕ)) → AllLess n os → list_any (λ o. is_kind n o) os ≡ false
none_before n [] less = refl
none_before n (None ∷ os) less = none_before n os less
none_before n (Some k ∷ os) less =
    ap (λ (b : Bool). b || list_any (λ o. is_kind n o) os) (ne_eqb k n (λ e. omega (arith, e, less.0))) ∙ none_before n os less.1

none_behind : (n m : ℕ) (ks : List ℕ) (ts : List Tree) → n < m → CountUp m ks → trees_of_kind n (all_at_work ks) ts ≡ []
none_behind n m [] ts less count = refl
none_behind n m (k ∷ ks) [] less count = refl
none_behind n m (k ∷ ks) (t ∷ ts) less count =
    ap (λ (b : Bool). if b then t ∷ trees_of_kind n (all_at_work ks) ts else trees_of_kind n (all_at_work ks) ts) (ne_eqb k n (λ e. omega (arith, e, count.0, less)))
    ∙ none_behind n (suc m) ks ts (omega (arith, less)) count.1

merged_alone : (n : ℕ) (before : List (Option ℕ)) (ks : List ℕ) (ts : List Tree) → length ks ≡ length ts → AllLess n before → CountUp n ks
    → merged_behind before (all_at_work ks) ts ≡ ts
merged_alone n before [] [] same less count = refl
merged_alone n before [] (t ∷ ts) same less count = absurd (cc)
merged_alone n before (k ∷ ks) [] same less count = absurd (cc)
merged_alone n before (k ∷ ks) (t ∷ ts) same less count =
    let early : list_any (λ o. is_kind k o) before ≡ false =
    subst (λ (m : ℕ). list_any (λ o. is_kind m o) before ≡ false) (sym count.0) (none_before n before less) in
    let late : trees_of_kind k (all_at_work ks) ts ≡ [] =
    subst (λ (m : ℕ). trees_of_kind m (all_at_work ks) ts ≡ []) (sym count.0) (none_behind n (suc n) ks ts (omega arith) count.1) in
    let earlier : AllLess (suc n) (before ++ Some k ∷ []) = subst (λ (m : ℕ). AllLess (suc n) (before ++ Some m ∷ [])) (sym count.0) (less_more n before less) in
    let first : gathered before (Some k) (Some k ∷ all_at_work ks) (t ∷ ts) ≡ t ∷ [] =
    ap (λ (b : Bool). if b then [] else trees_of_kind k (Some k ∷ all_at_work ks) (t ∷ ts)) early
    ∙ ap (λ (b : Bool). if b then t ∷ trees_of_kind k (all_at_work ks) ts else trees_of_kind k (all_at_work ks) ts) (eq-eqb k k refl)
    ∙ ap (λ (us : List Tree). t ∷ us) late in
    ap (λ (us : List Tree). one_tree us ∷ merged_behind (before ++ Some k ∷ []) (all_at_work ks) ts) first
    ∙ ap (λ (us : List Tree). t ∷ us)
    (merged_alone (suc n) (before ++ Some k ∷ []) ks ts (omega (arith, same)) earlier count.1)

counts_up : (n : ℕ) (ks : List ℕ) → ((i k : ℕ) → slice_get ks i ≡ Some k → k ≡ n + i) → CountUp n ks
counts_up n [] each = tt
counts_up n (k ∷ ks) each = (each 0 k refl ∙ omega arith, counts_up (suc n) ks (λ i m at. each (suc i) m at ∙ omega arith))

-- rules of which no two are of one kind
abbrev pub AllDiffer : List Rule → Type 0
AllDiffer rs = (i j : ℕ) (r q : Rule) → i < j → slice_get rs i ≡ Some r → slice_get rs j ≡ Some q → ¬ AreOneKind r q

own_kind : (rs : List Rule) (ks : List ℕ) → AreKinds AreOneKind rs ks → AllDiffer rs → (i k : ℕ) → slice_get ks i ≡ Some k → k ≡ i
own_kind rs ks kinds differ i k at =
    let within : i < length rs = omega (arith, slice_get_within ks i k at, kinds.one_each) in
    by (slice_get_cases rs i).1 within
  where
    same : (r : Rule) → slice_get rs i ≡ Some r → (k ≡ i) ⊎ ((k < i) ⊎ (i < k)) → k ≡ i
    same r here (inl e) = e
    same r here (inr (inl less)) = let first = kinds.first i k r here at in absurd (differ k i first.item r less first.at here first.same)
    same r here (inr (inr more)) =
        let first = kinds.first i k r here at in absurd (first.none_before i r more here (record { name = refl; precedence = refl; skipped = refl }))

    by : ((r : Rule) × (i < length rs) × (slice_get rs i ≡ Some r) × (get_or rs i r ≡ r)) ⊎ ((length rs ≤ i) × (slice_get rs i ≡ None)) → i < length rs → k ≡ i
    by (inl (r, inside, here, read)) within = same r here (cases_order k i)
    by (inr past) within = absurd (omega (arith, past.0, within))

-- they have their own trees
pub own-trees : (rs : List Rule) (qs : List ModeRule) (r : ModeRules) → AllDiffer rs → AreInOneMode rs qs → AreModeRules qs 1 r → AreTrees rs (trees_in r 0)
own-trees rs qs r differ are said =
    let have : AreTrees rs r.trees = subst (λ (xs : List Rule). AreTrees xs r.trees) are.rules said.trees in
    let kinds : AreKinds AreOneKind rs r.kinds = kinds-in-one-mode rs qs are r.kinds said.kinds in
    let up : CountUp 0 r.kinds = counts_up 0 r.kinds (λ i k at. own_kind rs r.kinds kinds differ i k at ∙ omega arith) in
    let same : length r.kinds ≡ length r.trees = kinds.one_each ∙ sym (length-AreTrees rs r.trees have) in
    rw (trees-in-one-mode rs qs r are said ∙ merged_alone 0 [] r.kinds r.trees same tt up) have
