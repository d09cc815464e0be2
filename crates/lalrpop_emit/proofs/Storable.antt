-- The numbers of rules can be stored in C and Rust, and a driver can rely on them.
use Rattle.std.proofs.Common.{◌≡◌, ℕ, ◌<◌, ◌^◌, List, length, sym, ap, subst, arith, get_or}
use Rattle.std.specs.Prelude.{slice_get, Some}
use Rattle.std.specs.List.{All}
use Rattle.std.proofs.lemmas.List.{length-map}
use Rattle.std.proofs.lemmas.List.Elements.{All-nil}
use Rattle.std.proofs.lemmas.List.FromFn.{length-map-range_with_len}
use Rattle.std.proofs.lemmas.Option.{slice_get-get_or}
use Rattle.lalrpop_rules.specs.Modes.{ModeRules}
use Rattle.bajofeki_rules.specs.Stack.{actions_of}
use Rattle.lalrpop_dense.specs.DenseTable.{TableNumbers}
use Rattle.lalrpop_emit.specs.Ahead.{AheadNumbers}
use Rattle.lalrpop_emit.specs.Names.{IsName, distinct_names, kinds_of, place_of_name}
use Rattle.lalrpop_emit.specs.NumberedRules.{AreCounted, NumberedRules, IsStorable, IsStorableAhead, actions_of_rules, first_places, action_numbers}
use Rattle.lalrpop_emit.specs.Internal.Lists.{AreModeTables, AreSmall, LeadBelow}
use Rattle.lalrpop_emit.specs.Internal.Walking.{IsDrivable, AreRulesBelow, AreActionsAt, CanRunAhead}
use Rattle.lalrpop_emit.proofs.ActionNumbers.{actions_at, count_places}
use Rattle.lalrpop_emit.proofs.ModeTables.{walkable}
use Rattle.lalrpop_emit.proofs.NameLists.{distinct_are_names, few_distinct}

-- what is known of rules and their numbers
pub record AreMade (r : ModeRules) (n : NumberedRules) : Type 0 where
  pub names : n.names ≡ distinct_names r.names
  pub good_names : All IsName r.names
  pub few_names : length r.names < 2 ^ 16
  pub kinds : n.kinds ≡ kinds_of r.names
  pub small_kinds : All (λ k. k < 2 ^ 16) n.kinds
  pub all_skips : length n.skips < 2 ^ 64
  pub first_actions : n.first_actions ≡ first_places 0 (actions_of_rules r)
  pub small_places : AreSmall n.first_actions
  pub actions : n.actions ≡ action_numbers (actions_of_rules r)
  pub small_actions : AreSmall n.actions
  pub all_actions : length n.actions < 2 ^ 64
  pub below : All (LeadBelow r.modes) (actions_of_rules r)
  pub modes : length n.tables ≡ r.modes
  pub some_mode : 0 < r.modes
  pub few_modes : r.modes < 2 ^ 16
  pub tables : AreModeTables r n.tables
  pub all_ahead : length n.ahead ≡ length n.tables
  pub counted : AreCounted n.ahead
  pub run_ahead : (m : ℕ) (a : AheadNumbers) (t : TableNumbers) → slice_get n.ahead m ≡ Some a → slice_get n.tables m ≡ Some t → CanRunAhead a t
  pub ahead : All IsStorableAhead n.ahead

-- there is a kind, and a place of actions, for each name
kind_count : (r : ModeRules) (n : NumberedRules) → AreMade r n → length n.kinds ≡ length r.names
kind_count r n h = omega (arith, ap length h.kinds, length-map r.names (place_of_name (distinct_names r.names)))

place_count : (r : ModeRules) (n : NumberedRules) → AreMade r n → length n.first_actions ≡ length r.names
place_count r n h =
    omega (arith, ap length h.first_actions, count_places 0 (actions_of_rules r), length-map-range_with_len (actions_of r.actions) 0 (length r.names))

pub storable : (r : ModeRules) (n : NumberedRules) → AreMade r n → IsStorable n
storable r n h = record {
  names = subst (All IsName) (sym h.names) (distinct_are_names _ r.names (All-nil IsName) h.good_names);
  few_names = omega (arith, ap length h.names, few_distinct r.names, h.few_names);
  kinds = h.small_kinds;
  all_kinds = omega (arith, kind_count r n h, h.few_names);
  skips = h.all_skips;
  first_actions = h.small_places;
  all_first_actions = omega (arith, place_count r n h, h.few_names);
  actions = h.small_actions;
  all_actions = h.all_actions;
  modes = omega (arith, h.modes, h.few_modes);
  tables = λ m t l. (h.tables m (get_or n.tables m t) (slice_get-get_or n.tables m t l)).storable;
  ahead = h.ahead;
}

pub drivable : (r : ModeRules) (n : NumberedRules) → AreMade r n → IsDrivable n
drivable r n h = record {
  as_many = h.all_ahead;
  counted = h.counted;
  ahead = h.run_ahead;
  some = omega (arith, h.modes, h.some_mode);
  walkable = λ m t at. let mode = (h.tables m t at).of_mode in walkable t mode.automaton mode.right;
  rules = λ m t at. subst (AreRulesBelow t) (sym (kind_count r n h)) (h.tables m t at).rules;
  first = omega (arith, place_count r n h, kind_count r n h);
  actions = λ i place at. (
    actions_of r.actions i,
    subst (λ (ns : List ℕ). AreActionsAt ns (length n.tables) place (actions_of r.actions i)) (sym h.actions)
        (subst (λ (modes : ℕ). AreActionsAt (action_numbers (actions_of_rules r)) modes place (actions_of r.actions i)) (sym h.modes)
        (actions_at r i place h.below (subst (λ (ns : List ℕ). slice_get ns i ≡ Some place) h.first_actions at))),
  );
}
