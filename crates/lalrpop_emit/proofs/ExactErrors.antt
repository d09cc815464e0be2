-- What is found out of rules that are numbered rules out each error.
use Rattle.std.proofs.Common.{◌≡◌, ◌<◌, ◌+◌, ◌^◌, ◌∙◌, ℕ, inl, inr, List, length, refl, sym, ap, subst, arith}
use Rattle.std.specs.Prelude.{Some, slice_get}
use Rattle.std.specs.List.{All}
use Rattle.std.proofs.lemmas.Bool.{cases_lt}
use Rattle.std.proofs.lemmas.Option.{get_or_from_slice_get, slice_get_within}
use Rattle.lalrpop_dfa.specs.Dfa.{Row}
use Rattle.lalrpop_rules.specs.Modes.{ModeRules}
use Rattle.lalrpop_emit.specs.EmitErrors.{CanBeNumbered, HasTooLarge, IsFirstBadName, IsTooLarge, IsUnnamed}
use Rattle.lalrpop_emit.specs.Names.{IsName}
use Rattle.lalrpop_emit.specs.NumberedRules.{action_numbers, actions_of_rules}
use Rattle.lalrpop_emit.specs.Internal.Lists.{AreBelow, FitsTable}
use Rattle.lalrpop_emit.specs.declared.error.EmitError.TheVariants.{NoRules, BadName, SkipCount, NoName, TooManyRules, TooManyModes, TooManyActions, BadVariant, BadPrefix, NoTable, OutOfMemory}

pub record AreNumberable (r : ModeRules) : Type 0 where
  pub some : 0 < length r.names
  pub names : All IsName r.names
  pub skips : length r.skips ≡ length r.names
  pub few : length r.names < 2 ^ 16
  pub few_modes : r.modes < 2 ^ 16
  pub few_actions : length (action_numbers (actions_of_rules r)) < 2 ^ 32
  pub fit : (m : ℕ) → m < r.modes → FitsTable r m

no_bad_name : (r : ModeRules) (i : ℕ) → All IsName r.names → ¬ IsFirstBadName r.names i
no_bad_name r i all h = h.bad (subst IsName (get_or_from_slice_get r.names i h.name h.name h.at) (all i h.name (slice_get_within r.names i h.name h.at)))

all_named : (r : ModeRules) (pattern : ℕ) → ((m : ℕ) → m < r.modes → FitsTable r m) → ¬ IsUnnamed r pattern
all_named r pattern fit h =
    let accepted = h.accepted in
    let below : pattern < length r.names = (fit h.mode h.there).named h.automaton h.at accepted.state pattern accepted.row accepted.at accepted.accepts in
    omega (arith, below, h.past)

none_too_large : (r : ModeRules) → ((m : ℕ) → m < r.modes → FitsTable r m) → ¬ HasTooLarge r
none_too_large r fit h = (fit h.mode h.there).small h.automaton h.at h.large

pub can_be_numbered : (r : ModeRules) → AreNumberable r → CanBeNumbered r
can_be_numbered r h NoRules e = absurd (omega (arith, ap length e, h.some))
can_be_numbered r h (BadName i) e = absurd (no_bad_name r i h.names e)
can_be_numbered r h SkipCount e = absurd (e h.skips)
can_be_numbered r h (NoName pattern) e = absurd (all_named r pattern h.fit e)
can_be_numbered r h TooManyRules e = absurd (omega (arith, e, h.few))
can_be_numbered r h TooManyModes e = absurd (omega (arith, e, h.few_modes))
can_be_numbered r h TooManyActions e = absurd (omega (arith, e, h.few_actions))
can_be_numbered r h (BadVariant kind) e = absurd e
can_be_numbered r h BadPrefix e = absurd e
can_be_numbered r h NoTable e = absurd (none_too_large r h.fit e)
can_be_numbered r h OutOfMemory e = refl

-- the automaton of a mode is one
pub fits_table : (r : ModeRules) (m : ℕ) (d : List Row) → slice_get r.automata m ≡ Some d → AreBelow d (length r.names) → ¬ IsTooLarge d → FitsTable r m
fits_table r m d at below small = record {
  named = λ e there. subst (λ (a : List Row). AreBelow a (length r.names)) (same e there) below;
  small = λ e there. subst (λ (a : List Row). ¬ IsTooLarge a) (same e there) small;
}
  where
    same : (e : List Row) → slice_get r.automata m ≡ Some e → d ≡ e
    same e there = let both : Some d ≡ Some e = sym at ∙ there in cc

-- one mode more
pub fit_more : (r : ModeRules) (n m : ℕ) → ((m : ℕ) → m < n → FitsTable r m) → FitsTable r n → m < n + 1 → FitsTable r m
fit_more r n m before this below = elim (cases_lt m n) [
  | inl less ↦ before m less
  | inr past ↦ let is : n ≡ m = omega (arith, below, past) in subst (FitsTable r) is this
]
