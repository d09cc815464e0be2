-- What comes next where a text is cut by a lexer in numbers.
use Rattle.std.proofs.Common.{◌≡◌, ℕ, ◌+◌, ◌-◌, ◌<◌, ◌≤◌, List, [], ◌++◌, length, map, take, drop, reverse, get_or, sym, ap, subst, ◌∙◌, refl, arith, length-drop}
use Rattle.std.specs.Prelude.{slice_get, MatchOption, Option, Some, None}
use Rattle.std.proofs.lemmas.List.{length-map, append-nil, drop_all, take_all}
use Rattle.std.proofs.lemmas.Option.{slice_get-map, slice_get-get_or, slice_get_read}
use Rattle.std.specs.Option.{option_map}
use Rattle.lalrpop_dense.specs.DenseTable.{TableNumbers}
use Rattle.bajofeki_rules.specs.declared.action.Action.{Action}
use Rattle.bajofeki_rules.specs.Stack.{Stack, act_all, actions_of}
use Rattle.lalrpop_rules.specs.Modes.{ModeRules, EachMode, trees_in}
use Rattle.lalrpop_rules.specs.Pieces.{IsFault}
use Rattle.lalrpop_rules.proofs.ModeLaws.{act-keeps}
use Rattle.lalrpop_hir.specs.Longest.{IsLongest}
use Rattle.lalrpop_emit.specs.BytePieces.{Fits}
use Rattle.lalrpop_emit.specs.Names.{distinct_names, place_of_name}
use Rattle.lalrpop_emit.specs.NumberedRules.{NumberedRules, AreNumbersOf, action_numbers, actions_of_rules}
use Rattle.lalrpop_emit.specs.Internal.Driving.{ComesNext, GoesOn, stack_of}
use Rattle.lalrpop_emit.specs.Internal.Lists.{ahead_numbers, list_numbers}
use Rattle.lalrpop_emit.specs.Internal.Walking.{IsDrivable, IsWalkable, AreRulesBelow, AreActionsAt}
use Rattle.lalrpop_emit.specs.declared.driver.State.{State}
use Rattle.lalrpop_emit.specs.declared.driver.Step.TheVariants.{Piece}
use Rattle.lalrpop_emit.specs.declared.ahead_table.AheadLists.{AheadLists}
use Rattle.lalrpop_emit.specs.declared.numbered_piece.NumberedPiece.{NumberedPiece}
use Rattle.lalrpop_emit.specs.declared.table_lists.TableLists.{TableLists}
use Rattle.lalrpop_emit.proofs.ActionNumbers.{count_places, none_of_each, rule_at}
use Rattle.lalrpop_emit.proofs.Actions.{actions_are}
use Rattle.lalrpop_emit.proofs.RunBlocks.{ahead_there}

-- ---- what was read

table_there : (lists : List TableLists) (tables : List TableNumbers) (mode : ℕ) (t : TableLists) → map list_numbers lists ≡ tables → mode < length tables → t ≡ get_or lists mode t
    → slice_get tables mode ≡ Some (list_numbers t)
table_there lists tables mode t same within read =
    let in_lists : mode < length lists = omega (arith, within, ap length same, length-map lists list_numbers) in
    ap (λ ts. slice_get ts mode) (sym same) ∙ slice_get-map list_numbers lists mode ∙ ap (option_map list_numbers) (slice_get_read lists (length lists) mode t refl in_lists read)

-- the table that runs ahead of it
pub ahead_read : (seen n : NumberedRules) (lists : List AheadLists) (mode : ℕ) (x : AheadLists) → seen ≡ n → map ahead_numbers lists ≡ seen.ahead → mode < length n.ahead → x ≡ get_or lists mode x
    → slice_get n.ahead mode ≡ Some (ahead_numbers x)
ahead_read seen n lists mode x same are within read =
    let in_seen : map ahead_numbers lists ≡ n.ahead = are ∙ ap (λ (m : NumberedRules). m.ahead) same in
    let in_lists : mode < length lists = omega (arith, within, ap length in_seen, length-map lists ahead_numbers) in
    ahead_there seen n lists mode x same are (slice_get_read lists (length lists) mode x refl in_lists read)

-- each mode has a table
pub some_table : (n : NumberedRules) (mode : ℕ) → mode < length n.tables → (t : TableNumbers) × (slice_get n.tables mode ≡ Some t)
some_table n mode within =
    let none : TableNumbers = record { blocks = []; pages = []; start = 0; width = 0; live = 0; accept = 0; cells = [] } in
    (get_or n.tables mode none, slice_get-get_or n.tables mode none within)

-- the table of the mode on top
pub record IsModeRead (n : NumberedRules) (mode : ℕ) (t : TableNumbers) : Type 0 where
  pub drivable : IsDrivable n
  pub there : slice_get n.tables mode ≡ Some t

pub mode_read : (seen n : NumberedRules) (lists : List TableLists) (mode : ℕ) (t : TableLists) → seen ≡ n → IsDrivable seen → map list_numbers lists ≡ seen.tables → mode < length n.tables
    → t ≡ get_or lists mode t → IsModeRead n mode (list_numbers t)
mode_read seen n lists mode t same drivable are within read = record {
  drivable = subst IsDrivable same drivable;
  there = table_there lists n.tables mode t (are ∙ ap (λ (x : NumberedRules). x.tables) same) within read;
}

pub walkable_there : (n : NumberedRules) (mode : ℕ) (t : TableNumbers) → IsModeRead n mode t → IsWalkable t
walkable_there n mode t h = h.drivable.walkable mode t h.there

-- the rule that was found has a kind
pub rule_within : (n : NumberedRules) (mode rule : ℕ) → IsDrivable n → mode < length n.tables
    → ((t : TableNumbers) → slice_get n.tables mode ≡ Some t → (count : ℕ) → AreRulesBelow t count → rule < count) → rule < length n.kinds
rule_within n mode rule drivable within below =
    let table = some_table n mode within in below table.0 table.1 (length n.kinds) (drivable.rules mode table.0 table.1)

-- the place of its actions
pub record IsRuleRead (n : NumberedRules) (rule place : ℕ) : Type 0 where
  pub below : rule < length n.kinds
  pub there : slice_get n.first_actions rule ≡ Some place
  pub acts : (acts : List Action) × AreActionsAt n.actions (length n.tables) place acts

pub rule_read : (seen n : NumberedRules) (rule place : ℕ) → seen ≡ n → IsDrivable n → rule < length n.kinds → place ≡ get_or seen.first_actions rule place → IsRuleRead n rule place
rule_read seen n rule place same drivable below read =
    let within : rule < length n.first_actions = omega (arith, below, drivable.first) in
    let there = slice_get_read n.first_actions (length n.first_actions) rule place refl within (read ∙ ap (λ (x : NumberedRules). get_or x.first_actions rule place) same) in
    record { below = below; there = there; acts = drivable.actions rule place there }

-- at the place of a rule stand its actions
pub acts_of_rule : (r : ModeRules) (n : NumberedRules) (rule place : ℕ) → AreNumbersOf r n → IsRuleRead n rule place → AreActionsAt n.actions (length n.tables) place (actions_of r.actions rule)
acts_of_rule r n rule place are h =
    let same = actions_are r n.actions n.first_actions (length n.tables) rule place h.acts.0 are.first_actions are.actions h.there h.acts.1 in
    subst (λ acts. AreActionsAt n.actions (length n.tables) place acts) same h.acts.1

-- no rule has actions where there are no more numbers of them than rules
pub none_of_rule : (r : ModeRules) (n : NumberedRules) (rule : ℕ) → AreNumbersOf r n → rule < length n.kinds → length n.actions ≤ length n.first_actions → actions_of r.actions rule ≡ []
none_of_rule r n rule are below few =
    let named : rule < length r.names = omega (arith, below, ap length are.kinds, length-map r.names (place_of_name (distinct_names r.names))) in
    let least : length (action_numbers (actions_of_rules r)) ≤ length (actions_of_rules r) = omega (arith, few, ap length are.actions, ap length are.first_actions, count_places 0 (actions_of_rules r)) in
    none_of_each (actions_of_rules r) rule (actions_of r.actions rule) least (rule_at r rule named)

-- the modes of the stack after actions are there
pub acts_there : (modes : ℕ) (s t : Stack) (numbers : List ℕ) (place : ℕ) (acts : List Action) → AreActionsAt numbers modes place acts → t ≡ act_all acts s → EachMode (λ m. m < modes) s
    → EachMode (λ m. m < modes) t
acts_there modes s t numbers place acts there is before =
    subst (λ (u : Stack). EachMode (λ m. m < modes) u) (sym is) (act-keeps (λ m. m < modes) acts s there.within before)

-- ---- the piece that comes

module _ (r : ModeRules) (kinds : List ℕ) (room : ℕ) (text : List ℕ) (at : ℕ) (s t : Stack) where
  token_at : (kind : Option ℕ) (rule end : ℕ) → MatchOption kind ⊥ (λ k. slice_get kinds rule ≡ Some k) → (at < end) × (end ≤ length text)
      → IsLongest (trees_in r s.mode) r.precedences (drop at text) (Some (rule, take (end - at) (drop at text)))
      → Fits room (actions_of r.actions rule) s → t ≡ act_all (actions_of r.actions rule) s
      → ComesNext r kinds room text at s (Piece (record { kind = kind; rule = rule; start = at; length = end - at })) t
  token_at None rule end is place longest fits then = absurd is
  token_at (Some kind) rule end is place longest fits then =
      ((refl, record { kind_is = is; within = omega (arith, place, length-drop at text); longest = longest }), fits, then)

  -- a token, by its rule's actions
  pub token_comes : (p : NumberedPiece) (rule end : ℕ) → MatchOption p.kind ⊥ (λ k. slice_get kinds rule ≡ Some k) → (p.rule ≡ rule) × (p.start ≡ at) × (p.length ≡ end - at)
      → (at < end) × (end ≤ length text) → IsLongest (trees_in r s.mode) r.precedences (drop at text) (Some (rule, take (end - at) (drop at text)))
      → Fits room (actions_of r.actions rule) s → t ≡ act_all (actions_of r.actions rule) s → ComesNext r kinds room text at s (Piece p) t
  token_comes p rule end is same place longest fits then =
      let piece : record { kind = p.kind; rule = rule; start = at; length = end - at } ≡ p =
      λ i. record { kind = p.kind; rule = sym same.0 i; start = sym same.1 i; length = sym same.2 i } in
      subst (λ (q : NumberedPiece). ComesNext r kinds room text at s (Piece q) t) piece (token_at p.kind rule end is place longest fits then)

  -- a fault, after which the stack is the same
  pub fault_comes : (p : NumberedPiece) → (p.kind ≡ None) × (p.rule ≡ 0) × (p.start ≡ at) → at + p.length ≤ length text
      → IsFault (trees_in r s.mode) (drop at text) (take p.length (drop at text)) → t ≡ s → ComesNext r kinds room text at s (Piece p) t
  fault_comes p same within fault then =
      let piece : record { kind = None; rule = 0; start = at; length = p.length } ≡ p =
      λ i. record { kind = sym same.0 i; rule = sym same.1 i; start = sym same.2 i; length = p.length } in
      subst (λ (q : NumberedPiece). ComesNext r kinds room text at s (Piece q) t) piece ((refl, (refl, (omega (arith, within, length-drop at text), fault))), tt, then)

-- the text is cut on after it
pub goes_on : (text : List ℕ) (at end at2 : ℕ) (p : NumberedPiece) (rule : ℕ) → (p.rule ≡ rule) × (p.start ≡ at) × (p.length ≡ end - at) → (at < end) × (end ≤ length text) → at2 ≡ end
    → GoesOn text at p.start p.length at2
goes_on text at end at2 p rule same place is =
    record { begins = same.1; some = omega (arith, same.2, place); ends = omega (arith, same.2, place, is); within = omega (arith, place, is) }

-- the stack of a state in which only the place has moved on
pub same_stack : (old new : State) (below : List ℕ) → (new.mode ≡ old.mode) × (new.depth ≡ old.depth) → stack_of new below ≡ stack_of old below
same_stack old new below same = λ i. record { mode = same.0 i; below = reverse (take (same.1 i) below) }

-- ---- the list of the modes below

-- what was written through a slice of the whole list
pub written : (new old : List ℕ) (len : ℕ) → length new ≡ length old → len ≡ length old → take len (new ++ drop (length new) old) ≡ new
written new old len same all =
    let none : drop (length new) old ≡ [] = drop_all (length new) old (omega (arith, same)) in
    ap (take len) (ap (λ xs. new ++ xs) none ∙ append-nil new) ∙ take_all len new (omega (arith, same, all))
