-- Cases of specs/Internal/Walking.antt.
use Rattle.std.proofs.Common.{◌≡◌, ℕ, ◌<◌, List, [], ◌∷◌, ◌++◌, replicate, refl, sym, ap, ◌∙◌, subst, arith, lit<}
use Rattle.std.specs.Prelude.{slice_get, Some, None, IsSomeAnd}
use Rattle.std.proofs.lemmas.List.Elements.{All-nil, All-cons}
use Rattle.lalrpop_dfa.specs.Dfa.{Row, run}
use Rattle.lalrpop_dfa.specs.declared.Kind.TheVariants.{Accepts, Reject, Neither}
use Rattle.lalrpop_dense.specs.DenseTable.{table_numbers}
use Rattle.lalrpop_dense.specs.declared.dense_table.DenseTable.{DenseTable}
use Rattle.lalrpop_dense.specs.declared.dense_table.TableCells.TheVariants.{Narrow}
use Rattle.bajofeki.specs.declared.walker.Walker.{Walker}
use Rattle.bajofeki.specs.declared.walker.Walker.TheVariants.{Table, States}
use Rattle.bajofeki.specs.Internal.Walking.{HasOnePlace, IsMet, IsWalkerOf, behind, behind_from, cell_of_block, first_of, next_of, says, state_says}
use Rattle.bajofeki.proofs.Walking.{states_one}

-- class 0 is 'a' alone; row 0 is dead, row 3 is the start, and row 6 accepts pattern 7, after one `a` or more
abbrev small : DenseTable
small = record {
  blocks = record { ref_ptr = (0, 0); now = replicate 97 1 ++ 0 ∷ replicate 158 1 };
  pages = record { ref_ptr = (0, 0); now = 0 ∷ 1 ∷ [] };
  start = 3;
  width = 2;
  live = 3;
  accept = 6;
  cells = Narrow (record { ref_ptr = (0, 0); now = 0 ∷ 0 ∷ 0 ∷ 6 ∷ 0 ∷ 0 ∷ 6 ∷ 0 ∷ 7 ∷ [] });
}

-- the same as states: 0 is the start, 1 accepts, and 2 rejects
abbrev start_row : Row
start_row = record { kind = Neither; tests = (record { start = 97; end = 97 }, 1) ∷ []; other = 2; items = [] }

abbrev accepting_row : Row
accepting_row = record { kind = Accepts 7; tests = (record { start = 97; end = 97 }, 1) ∷ []; other = 2; items = [] }

abbrev dead_row : Row
dead_row = record { kind = Reject; tests = []; other = 2; items = [] }

abbrev states : List Row
states = start_row ∷ accepting_row ∷ dead_row ∷ []

abbrev by_table : Walker
by_table = Table small

abbrev by_states : Walker
by_states = States (record { ref_ptr = (0, 0); now = states })

-- ---- places

begins_at_the_row_of_the_start : first_of by_table ≡ 3
begins_at_the_row_of_the_start = refl

begins_at_the_first_state : first_of by_states ≡ 0
begins_at_the_first_state = refl

a_leads_on : next_of by_table 3 97 ≡ 6
a_leads_on = refl

last_character_leads_to_the_dead_row : next_of by_table 6 1114111 ≡ 0
last_character_leads_to_the_dead_row = refl

two_of_a : behind by_table (97 ∷ 97 ∷ []) ≡ 6
two_of_a = refl

two_of_a_by_states : behind by_states (97 ∷ 97 ∷ []) ≡ 1
two_of_a_by_states = refl

b_behind_a : behind_from by_table 6 (98 ∷ 97 ∷ []) ≡ 0
b_behind_a = refl

cell_of_a : cell_of_block (table_numbers small) 3 0 97 ≡ 6
cell_of_a = refl

-- ---- what they say

start_says_nothing : says by_table 3 ≡ Neither
start_says_nothing = refl

a_is_accepted : says by_table 6 ≡ Accepts 7
a_is_accepted = refl

a_is_accepted_by_states : says by_states 1 ≡ Accepts 7
a_is_accepted_by_states = refl

dead_row_rejects : says by_table 0 ≡ Reject
dead_row_rejects = refl

dead_state_rejects : says by_states 2 ≡ Reject
dead_state_rejects = refl

no_state_rejects : state_says None ≡ Reject
no_state_rejects = refl

-- ---- places that are met

a_is_met : IsMet by_table 6
a_is_met = record { word = 97 ∷ []; scalars = All-cons (λ c. c < 1114112) 97 [] (lit< tt) (All-nil (λ c. c < 1114112)); reached = refl }

-- where the start leads only to itself, nothing else is met
abbrev one_state : List Row
one_state = record { kind = Neither; tests = []; other = 0; items = [] } ∷ []

abbrev alone : Walker
alone = States (record { ref_ptr = (0, 0); now = one_state })

stays_alone : (word : List ℕ) → behind_from alone 0 word ≡ 0
stays_alone [] = refl
stays_alone (c ∷ word) = stays_alone word

unmet : ¬ IsMet alone 1
unmet met = omega (arith, met.reached, stays_alone met.word)

-- ---- walks of automata

after_alone : (word : List ℕ) → run one_state 0 word ≡ 0
after_alone [] = refl
after_alone (c ∷ word) = after_alone word

walks_alone : IsWalkerOf alone one_state
walks_alone word scalars =
    subst (λ (p : ℕ). IsSomeAnd (slice_get one_state p) (λ r. r.kind ≡ says alone (behind alone word))) (sym (after_alone word)) (ap (says alone) (sym (stays_alone word)))

-- a table whose start accepts nothing does not walk an automaton whose start accepts
walks_no_other : (d : List Row) (r : Row) → slice_get d 0 ≡ Some r → r.kind ≡ Accepts 7 → ¬ IsWalkerOf by_table d
walks_no_other d r at kind h =
    let there : IsSomeAnd (Some r) (λ x. x.kind ≡ Neither) = subst (λ o. IsSomeAnd o (λ (x : Row). x.kind ≡ Neither)) at (h [] (All-nil (λ n. n < 1114112))) in
    let clash : Accepts 7 ≡ Neither = sym kind ∙ there in
    cc

-- ---- one place for one state

states_are_places : HasOnePlace by_states states
states_are_places = states_one by_states states refl (λ place c. refl)

-- the rows 3 and 6 are not both the place of one state
no_two_places : ¬ HasOnePlace by_table one_state
no_two_places one =
    let same : 3 ≡ 6 = one [] (97 ∷ []) (All-nil (λ c. c < 1114112)) (All-cons (λ c. c < 1114112) 97 [] (lit< tt) (All-nil (λ c. c < 1114112))) refl in
    omega (arith, same)
