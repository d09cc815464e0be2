-- Cases of specs/Modes.antt.
use Rattle.std.proofs.Common.{◌≡◌, ℕ, zero, suc, ◌<◌, true, false, inl, inr, List, [], ◌∷◌, length, refl, ap, arith}
use Rattle.std.specs.Prelude.{Some, None}
use Rattle.std.specs.Borrow.{Bor}
use Rattle.lalrpop_hir.specs.Tree.{Tree, alternation, none, also}
use Rattle.lalrpop_rules.specs.declared.piece.Piece.TheVariants.{Token, Skipped, Fault}
use Rattle.bajofeki_rules.specs.declared.action.Action.{Action}
use Rattle.bajofeki_rules.specs.declared.action.Action.TheVariants.{Mode, Push, Pop}
use Rattle.bajofeki_rules.specs.Stack.{Stack, start, actions_of}
use Rattle.lalrpop_rules.specs.Modes.{ModeRules, kinds_of, trees_of, trees_in, after, after_all, ArePiecesFrom, NoModeClash, IsModeClash, AllCanBeEntered}
use Rattle.bajofeki_rules.specs.EnteredModes.{Belongs, LeadsInto, OneLeadsInto, CanBeEntered, first_mode, by_rule}

-- two rules: the first belongs to mode 0 and leads into mode 1, the second belongs to both and pops
abbrev two : Tree → Tree → ModeRules
two a b = record {
  names = [];
  trees = a ∷ b ∷ [];
  precedences = 0 ∷ 0 ∷ [];
  skips = [];
  actions = (Push 1 ∷ []) ∷ (Pop ∷ []) ∷ [];
  members = (0 ∷ []) ∷ (0 ∷ 1 ∷ []) ∷ [];
  kinds = 0 ∷ 1 ∷ [];
  modes = 3;
  mode_names = [];
  automata = [];
}

abbrev matches_nothing : Tree
matches_nothing = alternation none

kinds_of_those_that_belong : kinds_of (true ∷ false ∷ true ∷ []) (0 ∷ 1 ∷ 0 ∷ []) ≡ Some 0 ∷ None ∷ Some 0 ∷ []
kinds_of_those_that_belong = refl

-- two rules of one kind, and one between them that doesn't belong
first_has_both_trees : (a b c : Tree) → trees_of (true ∷ false ∷ true ∷ []) (0 ∷ 1 ∷ 0 ∷ []) (a ∷ b ∷ c ∷ [])
    ≡ alternation (also a (also c none)) ∷ matches_nothing ∷ matches_nothing ∷ []
first_has_both_trees a b c = refl

-- where the first rule of the kind doesn't belong, the first that does has the tree
second_has_its_own_tree : (a b : Tree) → trees_of (false ∷ true ∷ []) (0 ∷ 0 ∷ []) (a ∷ b ∷ []) ≡ matches_nothing ∷ b ∷ []
second_has_its_own_tree a b = refl

both_in_mode_0 : (a b : Tree) → trees_in (two a b) 0 ≡ a ∷ b ∷ []
both_in_mode_0 a b = refl

-- the second rule keeps its index
second_alone_in_mode_1 : (a b : Tree) → trees_in (two a b) 1 ≡ matches_nothing ∷ b ∷ []
second_alone_in_mode_1 a b = refl

none_in_mode_2 : (a b : Tree) → trees_in (two a b) 2 ≡ matches_nothing ∷ matches_nothing ∷ []
none_in_mode_2 a b = refl

-- the rule belongs to one mode
lone : (i m n : ℕ) → Belongs ((n ∷ []) ∷ []) m i → n ≡ m
lone zero m n (own, (at, (zero, within, has))) = let same : n ∷ [] ≡ own = cc in cc
lone zero m n (own, (at, (suc k, within, has))) = let same : n ∷ [] ≡ own = cc in absurd (omega (arith, within, ap length same))
lone (suc i) m n (own, (at, has)) = absurd (cc)

second_in_mode_1 : (a b : Tree) → Belongs (two a b).members 1 1
second_in_mode_1 a b = (0 ∷ 1 ∷ [], (refl, (1, omega arith, refl)))

first_not_in_mode_1 : ¬ Belongs ((0 ∷ []) ∷ []) 1 0
first_not_in_mode_1 belongs = omega (arith, lone 0 1 0 belongs)

-- ---- the stack after pieces

token_pushes : (a b : Tree) (slice : Bor (List ℕ)) → after (two a b).actions (Token (record { index = 0; slice = slice; start = 0 })) start ≡ record { mode = 1; below = 0 ∷ [] }
token_pushes a b slice = refl

-- a skipped token does what its rule says too
skipped_pushes : (a b : Tree) (slice : Bor (List ℕ)) → after (two a b).actions (Skipped (record { index = 0; slice = slice; start = 0 })) start ≡ record { mode = 1; below = 0 ∷ [] }
skipped_pushes a b slice = refl

fault_keeps_the_stack : (actions : List (List Action)) (at : ℕ) (slice : Bor (List ℕ)) (s : Stack) → after actions (Fault at slice) s ≡ s
fault_keeps_the_stack actions at slice s = refl

push_and_pop : (a b : Tree) (p q : Bor (List ℕ))
    → after_all (two a b).actions (Token (record { index = 0; slice = p; start = 0 }) ∷ Token (record { index = 1; slice = q; start = 1 }) ∷ []) start ≡ start
push_and_pop a b p q = refl

no_pieces_of_nothing : (r : ModeRules) (s : Stack) → ArePiecesFrom r [] 0 s [] s
no_pieces_of_nothing r s = (refl, refl)

-- the stack at the end is told
another_stack_at_the_end : (r : ModeRules) → ¬ ArePiecesFrom r [] 0 start [] (record { mode = 1; below = [] })
another_stack_at_the_end r are = let n : 1 ≡ 0 = ap (λ (s : Stack). s.mode) are.1 in omega (arith, n)

text_left : (r : ModeRules) (b : ℕ) (s : Stack) → ¬ ArePiecesFrom r (b ∷ []) 0 s [] s
text_left r b s are = absurd (cc (are.0))

-- ---- clashes and modes that are entered

no_mode_no_clash : NoModeClash (record { names = []; trees = []; precedences = []; skips = []; actions = []; members = []; kinds = []; modes = 0; mode_names = []; automata = [] })
no_mode_no_clash m there = omega (arith, there)

clash_of_a_mode_that_is_not_there : (a b : Tree) (w : List ℕ) (i j : ℕ) → ¬ IsModeClash (two a b) 3 w i j
clash_of_a_mode_that_is_not_there a b w i j is = omega (arith, is.there)

push_leads : LeadsInto (Push 1) 1
push_leads = refl

pop_leads_nowhere : (m : ℕ) → ¬ LeadsInto Pop m
pop_leads_nowhere m leads = leads

second_action_leads : OneLeadsInto (Pop ∷ Mode 2 ∷ []) 2
second_action_leads = inr (inl refl)

mode_1_can_be_entered : (a b : Tree) → CanBeEntered (two a b).members (two a b).actions 3 1
mode_1_can_be_entered a b = by_rule 0 (omega arith) first_mode (0 ∷ [], (refl, (0, omega arith, refl))) (inl refl)

mode_2_can_not : (a b : Tree) → ¬ CanBeEntered (two a b).members (two a b).actions 3 2
mode_2_can_not a b can = omega (arith, among can)
  where
    led : (i m : ℕ) → OneLeadsInto (actions_of (two a b).actions i) m → m < 2
    led zero m (inl e) = omega (arith, e)
    led zero m (inr leads) = absurd leads
    led (suc zero) m (inl leads) = absurd leads
    led (suc zero) m (inr leads) = absurd leads
    led (suc (suc i)) m leads = absurd leads

    among : {m : ℕ} → CanBeEntered (two a b).members (two a b).actions 3 m → m < 2
    among first_mode = omega arith
    among (by_rule i there from belongs leads) = led i _ leads

-- from a mode that isn't there a rule leads nowhere
mode_behind_one_that_is_not_there : ¬ CanBeEntered ((7 ∷ []) ∷ []) ((Push 1 ∷ []) ∷ []) 2 1
mode_behind_one_that_is_not_there can = omega (arith, only can)
  where
    only : {n : ℕ} → CanBeEntered ((7 ∷ []) ∷ []) ((Push 1 ∷ []) ∷ []) 2 n → n < 1
    only first_mode = omega arith
    only (by_rule {m = m} i there from belongs leads) = absurd (omega (arith, there, lone i m 7 belongs))

both_modes_of_a_stack : (a b : Tree) → AllCanBeEntered (two a b) (record { mode = 1; below = 0 ∷ [] })
both_modes_of_a_stack a b = (mode_1_can_be_entered a b, (first_mode, tt))
