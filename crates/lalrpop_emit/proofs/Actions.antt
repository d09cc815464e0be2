-- The actions of rules in numbers, and what they do to a stack of modes.
use Rattle.std.proofs.Common.{◌≡◌, ℕ, ◌+◌, ◌-◌, ◌/◌, ◌%◌, ◌<◌, ◌≤◌, List, [], ◌∷◌, ◌++◌, length, take, drop, set, get_or, map, reverse, refl, sym, ap, subst, ◌∙◌, inl, inr, arith, length-drop}
use Rattle.std.specs.Prelude.{slice_get, Some, ◌↔◌}
use Rattle.std.proofs.lemmas.List.{get_or_read, drop_more, take_more, take_more_set, reverse-append, length-reverse, length-take-le}
use Rattle.bajofeki_rules.specs.declared.action.Action.{Action}
use Rattle.bajofeki_rules.specs.declared.action.Action.TheVariants.{Mode, Push, Pop}
use Rattle.bajofeki_rules.specs.Stack.{Stack, popped, act, act_all, actions_of}
use Rattle.lalrpop_rules.specs.Modes.{ModeRules}
use Rattle.bajofeki_rules.specs.EnteredModes.{LeadsInto, OneLeadsInto}
use Rattle.lalrpop_emit.specs.BytePieces.{Fits}
use Rattle.lalrpop_emit.specs.NumberedRules.{action_number, action_numbers, actions_of_rules, first_places}
use Rattle.lalrpop_emit.specs.Internal.Driving.{stack_of}
use Rattle.lalrpop_emit.specs.Internal.Walking.{AreActionsAt}
use Rattle.lalrpop_emit.specs.declared.driver.State.{State}
use Rattle.lalrpop_emit.proofs.ActionNumbers.{stands_at}

-- ---- an action is told by its number

some_number : (a : Action) → 0 < action_number a
some_number (Mode m) = omega arith
some_number (Push m) = omega arith
some_number Pop = omega arith

same_action : (a b : Action) → action_number a ≡ action_number b → a ≡ b
same_action (Mode m) (Mode n) e = ap (λ k. Mode k) (omega (arith, e))
same_action (Mode m) (Push n) e = absurd (omega (arith, e))
same_action (Mode m) Pop e = absurd (omega (arith, e))
same_action (Push m) (Mode n) e = absurd (omega (arith, e))
same_action (Push m) (Push n) e = ap (λ k. Push k) (omega (arith, e))
same_action (Push m) Pop e = absurd (omega (arith, e))
same_action Pop (Mode n) e = absurd (omega (arith, e))
same_action Pop (Push n) e = absurd (omega (arith, e))
same_action Pop Pop e = refl

same_head : (x y : ℕ) (xs ys : List ℕ) → x ∷ xs ≡ y ∷ ys → x ≡ y
same_head x y xs ys e = cc

same_tail : (x y : ℕ) (xs ys : List ℕ) → x ∷ xs ≡ y ∷ ys → xs ≡ ys
same_tail x y xs ys e = cc

same_actions : (acts others : List Action) (xs ys : List ℕ) → map action_number acts ++ (0 ∷ xs) ≡ map action_number others ++ (0 ∷ ys) → acts ≡ others
same_actions [] [] xs ys e = refl
same_actions [] (b ∷ others) xs ys e = absurd (omega (arith, some_number b, same_head 0 (action_number b) xs (map action_number others ++ (0 ∷ ys)) e))
same_actions (a ∷ acts) [] xs ys e = absurd (omega (arith, some_number a, same_head (action_number a) 0 (map action_number acts ++ (0 ∷ xs)) ys e))
same_actions (a ∷ acts) (b ∷ others) xs ys e =
    let first = same_action a b (same_head (action_number a) (action_number b) (map action_number acts ++ (0 ∷ xs)) (map action_number others ++ (0 ∷ ys)) e) in
    let rest = same_actions acts others xs ys (same_tail (action_number a) (action_number b) (map action_number acts ++ (0 ∷ xs)) (map action_number others ++ (0 ∷ ys)) e) in
    λ i. first i ∷ rest i

-- ---- the actions of a rule

-- the actions that stand at the place of a rule are those of the rule
pub actions_are : (r : ModeRules) (numbers places : List ℕ) (modes i place : ℕ) (acts : List Action) → places ≡ first_places 0 (actions_of_rules r)
    → numbers ≡ action_numbers (actions_of_rules r) → slice_get places i ≡ Some place → AreActionsAt numbers modes place acts → acts ≡ actions_of r.actions i
actions_are r numbers places modes i place acts firsts are at there =
    let rule = stands_at r i place (subst (λ ns. slice_get ns i ≡ Some place) firsts at) in
    same_actions acts (actions_of r.actions i) there.rest rule.1.0 (sym there.numbers_are ∙ ap (drop place) are ∙ rule.1.1)

-- ---- one action after another

record HasNumber (numbers : List ℕ) (place y : ℕ) (ys : List ℕ) : Type 0 where
  pub within : place < length numbers
  pub here : (d : ℕ) → get_or numbers place d ≡ y
  pub left : drop (place + 1) numbers ≡ ys

number_at : (numbers : List ℕ) (place y : ℕ) (ys : List ℕ) → drop place numbers ≡ y ∷ ys → HasNumber numbers place y ys
number_at numbers place y ys e =
    let within : place < length numbers = omega (arith, length-drop place numbers, ap length e) in
    record {
      within = within;
      here = λ d. same_head (get_or numbers place d) y (drop (place + 1) numbers) ys (sym (drop_more numbers place d within) ∙ e);
      left = same_tail (get_or numbers place 0) y (drop (place + 1) numbers) ys (sym (drop_more numbers place 0 within) ∙ e);
    }

-- there is a number at the place
number_within : (numbers : List ℕ) (modes place : ℕ) (acts : List Action) → AreActionsAt numbers modes place acts → place < length numbers
number_within numbers modes place [] there = let at = number_at numbers place 0 there.rest there.numbers_are in at.within
number_within numbers modes place (a ∷ acts) there =
    let at = number_at numbers place (action_number a) (map action_number acts ++ (0 ∷ there.rest)) there.numbers_are in at.within

pub read_within : (list numbers : List ℕ) (modes place : ℕ) (acts : List Action) → list ≡ numbers → AreActionsAt numbers modes place acts → place < length list
read_within list numbers modes place acts same there = omega (arith, number_within numbers modes place acts there, ap length same)

-- the number was read at the place, where none is a 0
pub record IsNumberRead (numbers : List ℕ) (place number : ℕ) : Type 0 where
  pub read : number ≡ get_or numbers place number
  pub some : number ≡ 0 → ⊥

-- it was read twice, first to be tested
pub number_read : (list numbers : List ℕ) (modes place tested number : ℕ) (acts : List Action) → list ≡ numbers → AreActionsAt numbers modes place acts → tested ≡ get_or list place tested
    → (tested ≡ 0 → ⊥) → number ≡ get_or list place number → IsNumberRead numbers place number
number_read list numbers modes place tested number acts same there first some second =
    let within = read_within list numbers modes place acts same there in
    record {
      read = second ∙ ap (λ xs. get_or xs place number) same;
      some = λ none. some (get_or_read list place tested within first 0 ∙ sym (get_or_read list place number within second 0) ∙ none);
    }

-- an action whose number isn't 0, and those after it
record FirstOf (numbers : List ℕ) (modes place number : ℕ) (acts : List Action) : Type 0 where
  pub first : Action
  pub others : List Action
  pub are : acts ≡ first ∷ others
  pub number_is : number ≡ action_number first
  pub within : (m : ℕ) → OneLeadsInto (first ∷ others) m → m < modes
  pub behind : AreActionsAt numbers modes (place + 1) others

first_of_them : (numbers : List ℕ) (modes place number : ℕ) (acts : List Action) → AreActionsAt numbers modes place acts → IsNumberRead numbers place number
    → FirstOf numbers modes place number acts
first_of_them numbers modes place number [] there is =
    let at = number_at numbers place 0 there.rest there.numbers_are in absurd (is.some (is.read ∙ at.here number))
first_of_them numbers modes place number (a ∷ acts) there is =
    let at = number_at numbers place (action_number a) (map action_number acts ++ (0 ∷ there.rest)) there.numbers_are in
    record {
      first = a;
      others = acts;
      are = refl;
      number_is = is.read ∙ at.here number;
      within = there.within;
      behind = record { rest = there.rest; numbers_are = at.left; within = λ m leads. there.within m (inr leads) };
    }

-- after the last action stands a 0
pub none_of_them : (list numbers : List ℕ) (modes place number : ℕ) (acts : List Action) → list ≡ numbers → AreActionsAt numbers modes place acts → number ≡ get_or list place number → number ≡ 0 → acts ≡ []
none_of_them list numbers modes place number [] same there is none = refl
none_of_them list numbers modes place number (a ∷ acts) same there is none =
    let at = number_at numbers place (action_number a) (map action_number acts ++ (0 ∷ there.rest)) there.numbers_are in
    absurd (omega (arith, some_number a, is ∙ ap (λ xs. get_or xs place number) same ∙ at.here number, none))

-- ---- whether there is room

popped_below : (mode : ℕ) (below : List ℕ) → length (popped mode below).below ≡ length below - 1
popped_below mode [] = refl
popped_below mode (next ∷ below) = omega arith

-- how many modes lie below the one on top after an action
pub below_popped : (a : Action) (number : ℕ) (t : Stack) → number ≡ action_number a → number ≡ 1 → length (act a t).below ≡ length t.below - 1
below_popped (Mode m) number t is one = absurd (omega (arith, is, one))
below_popped (Push m) number t is one = absurd (omega (arith, is, one))
below_popped Pop number t is one = popped_below t.mode t.below

pub below_pushed : (a : Action) (number : ℕ) (t : Stack) → number ≡ action_number a → (number ≡ 1 → ⊥) → number % 2 ≡ 1 → length (act a t).below ≡ length t.below + 1
below_pushed (Mode m) number t is more odd = absurd (omega (arith, is, odd))
below_pushed (Push m) number t is more odd = omega arith
below_pushed Pop number t is more odd = absurd (more is)

pub below_same : (a : Action) (number : ℕ) (t : Stack) → number ≡ action_number a → (number % 2 ≡ 1 → ⊥) → length (act a t).below ≡ length t.below
below_same (Mode m) number t is even = refl
below_same (Push m) number t is even = absurd (even (omega (arith, is)))
below_same Pop number t is even = absurd (even (omega (arith, is)))

-- of these actions those from the place on are left, where so many modes lie below the one on top; they fit if all do, and only then
pub record RoomLeft (numbers : List ℕ) (modes room from : ℕ) (acts : List Action) (place depth : ℕ) : Type 0 where
  pub left : List Action
  pub there : AreActionsAt numbers modes place left
  pub same : (s : Stack) → length s.below ≡ from → (t : Stack) × ((length t.below ≡ depth) × (Fits room acts s ↔ Fits room left t))

pub room_first : (numbers : List ℕ) (modes room place depth : ℕ) (acts : List Action) → AreActionsAt numbers modes place acts → RoomLeft numbers modes room depth acts place depth
room_first numbers modes room place depth acts there = record { left = acts; there = there; same = λ s e. (s, (e, (λ f. f, λ f. f))) }

pub room_on : (numbers : List ℕ) (modes room from place depth depth2 number : ℕ) (acts : List Action) → RoomLeft numbers modes room from acts place depth
    → IsNumberRead numbers place number
    → ((a : Action) (t : Stack) → number ≡ action_number a → length t.below ≡ depth → length (act a t).below ≡ depth2) → depth2 ≤ room
    → RoomLeft numbers modes room from acts (place + 1) depth2
room_on numbers modes room from place depth depth2 number acts h is step within =
    let f = first_of_them numbers modes place number h.left h.there is in
    record {
      left = f.others;
      there = f.behind;
      same = λ s e.
          let old = h.same s e in
          let t = old.0 in
          let size : length (act f.first t).below ≡ depth2 = step f.first t f.number_is old.1.0 in (
            act f.first t,
            (
              size,
              (
                λ fits. let left : Fits room (f.first ∷ f.others) t = subst (λ ls. Fits room ls t) f.are (old.1.1.0 fits) in left.1,
                λ fits. old.1.1.1 (subst (λ ls. Fits room ls t) (sym f.are) (omega (arith, size), fits)),
              ),
            ),
          );
    }

-- the next action would be one too many
pub no_room : (numbers : List ℕ) (modes room from place depth number : ℕ) (acts : List Action) → RoomLeft numbers modes room from acts place depth
    → IsNumberRead numbers place number → (number ≡ 1 → ⊥) → number % 2 ≡ 1 → room ≤ depth
    → (s : Stack) → length s.below ≡ from → ¬ Fits room acts s
no_room numbers modes room from place depth number acts h is more odd full s e fits =
    let f = first_of_them numbers modes place number h.left h.there is in
    let old = h.same s e in
    let left : Fits room (f.first ∷ f.others) old.0 = subst (λ ls. Fits room ls old.0) f.are (old.1.1.0 fits) in
    omega (arith, left.0, below_pushed f.first number old.0 f.number_is more odd, old.1.0)

pub all_fit : (list numbers : List ℕ) (modes room from place depth number : ℕ) (acts : List Action) → list ≡ numbers → RoomLeft numbers modes room from acts place depth
    → number ≡ get_or list place number → number ≡ 0 → (s : Stack) → length s.below ≡ from → Fits room acts s
all_fit list numbers modes room from place depth number acts same h is none s e =
    let old = h.same s e in
    old.1.1.1 (subst (λ ls. Fits room ls old.0) (sym (none_of_them list numbers modes place number h.left same h.there is none)) tt)

-- ---- what an action does to the stack

-- the actions from the place on are left, and fit; they make of the stack t what all actions make of s
pub record ActsLeft (numbers : List ℕ) (modes room : ℕ) (acts : List Action) (s : Stack) (place : ℕ) (t : Stack) : Type 0 where
  pub left : List Action
  pub there : AreActionsAt numbers modes place left
  pub fits : Fits room left t
  pub same : act_all acts s ≡ act_all left t

pub acts_first : (numbers : List ℕ) (modes room place : ℕ) (acts : List Action) (s : Stack) → AreActionsAt numbers modes place acts → Fits room acts s
    → ActsLeft numbers modes room acts s place s
acts_first numbers modes room place acts s there fits = record { left = acts; there = there; fits = fits; same = refl }

-- the action at the place, which leads only into modes that are there
pub record NextAct (numbers : List ℕ) (modes room : ℕ) (acts : List Action) (s : Stack) (place : ℕ) (t : Stack) (number : ℕ) : Type 0 where
  pub first : Action
  pub number_is : number ≡ action_number first
  pub within : (m : ℕ) → LeadsInto first m → m < modes
  pub room_for : length (act first t).below ≤ room
  pub behind : ActsLeft numbers modes room acts s (place + 1) (act first t)

pub next_act : (numbers : List ℕ) (modes room : ℕ) (acts : List Action) (s : Stack) (place : ℕ) (t : Stack) (number : ℕ) → ActsLeft numbers modes room acts s place t
    → IsNumberRead numbers place number → NextAct numbers modes room acts s place t number
next_act numbers modes room acts s place t number h is =
    let f = first_of_them numbers modes place number h.left h.there is in
    let fits : Fits room (f.first ∷ f.others) t = subst (λ ls. Fits room ls t) f.are h.fits in
    record {
      first = f.first;
      number_is = f.number_is;
      within = λ m leads. f.within m (inl leads);
      room_for = fits.0;
      behind = record { left = f.others; there = f.behind; fits = fits.1; same = h.same ∙ ap (λ ls. act_all ls t) f.are };
    }

pub acts_done : (list numbers : List ℕ) (modes room : ℕ) (acts : List Action) (s : Stack) (place : ℕ) (t : Stack) (number : ℕ) → list ≡ numbers
    → ActsLeft numbers modes room acts s place t → number ≡ get_or list place number → number ≡ 0 → t ≡ act_all acts s
acts_done list numbers modes room acts s place t number same h is none =
    sym (h.same ∙ ap (λ ls. act_all ls t) (none_of_them list numbers modes place number h.left same h.there is none))

-- the mode into which an action leads
pub mode_of : (a : Action) (number modes : ℕ) → number ≡ action_number a → (number ≡ 1 → ⊥) → ((m : ℕ) → LeadsInto a m → m < modes) → number / 2 - 1 < modes
mode_of (Mode m) number modes is more within = omega (arith, is, within m refl)
mode_of (Push m) number modes is more within = omega (arith, is, within m refl)
mode_of Pop number modes is more within = absurd (more is)

-- the stack of the mode on top and the first `depth` below it, the next one last
abbrev pub stack : ℕ → ℕ → List ℕ → Stack
stack mode depth below = record { mode = mode; below = reverse (take depth below) }

same_stack : (s t : Stack) → s.mode ≡ t.mode → s.below ≡ t.below → s ≡ t
same_stack s t mode below = λ i. record { mode = mode i; below = below i }

pub length-below : (mode depth : ℕ) (below : List ℕ) → depth ≤ length below → length (stack mode depth below).below ≡ depth
length-below mode depth below within = length-reverse (take depth below) ∙ length-take-le depth below within

pub acts_pop : (a : Action) (number mode depth : ℕ) (below : List ℕ) (next : ℕ) → number ≡ action_number a → number ≡ 1 → depth < length below → next ≡ get_or below depth next
    → act a (stack mode (depth + 1) below) ≡ stack next depth below
acts_pop (Mode m) number mode depth below next is one within e = absurd (omega (arith, is, one))
acts_pop (Push m) number mode depth below next is one within e = absurd (omega (arith, is, one))
acts_pop Pop number mode depth below next is one within e =
    ap (popped mode) (ap reverse (take_more below depth next within) ∙ reverse-append (take depth below) (get_or below depth next ∷ []))
    ∙ same_stack (record { mode = get_or below depth next; below = reverse (take depth below) }) (stack next depth below) (sym e) refl

-- the last mode stays
pub acts_pop_last : (a : Action) (number mode : ℕ) (below : List ℕ) → number ≡ action_number a → number ≡ 1 → act a (stack mode 0 below) ≡ stack mode 0 below
acts_pop_last (Mode m) number mode below is one = absurd (omega (arith, is, one))
acts_pop_last (Push m) number mode below is one = absurd (omega (arith, is, one))
acts_pop_last Pop number mode below is one = refl

pub acts_push : (a : Action) (number mode depth : ℕ) (below : List ℕ) → number ≡ action_number a → (number ≡ 1 → ⊥) → number % 2 ≡ 1 → depth < length below
    → act a (stack mode depth below) ≡ stack (number / 2 - 1) (depth + 1) (set below depth mode)
acts_push (Mode m) number mode depth below is more odd within = absurd (omega (arith, is, odd))
acts_push (Push m) number mode depth below is more odd within =
    same_stack (act (Push m) (stack mode depth below)) (stack (number / 2 - 1) (depth + 1) (set below depth mode)) (omega (arith, is))
    (sym (ap reverse (take_more_set below depth mode within) ∙ reverse-append (take depth below) (mode ∷ [])))
acts_push Pop number mode depth below is more odd within = absurd (more is)

pub acts_mode : (a : Action) (number mode depth : ℕ) (below : List ℕ) → number ≡ action_number a → (number % 2 ≡ 1 → ⊥)
    → act a (stack mode depth below) ≡ stack (number / 2 - 1) depth below
acts_mode (Mode m) number mode depth below is even =
    same_stack (act (Mode m) (stack mode depth below)) (stack (number / 2 - 1) depth below) (omega (arith, is)) refl
acts_mode (Push m) number mode depth below is even = absurd (even (omega (arith, is)))
acts_mode Pop number mode depth below is even = absurd (even (omega (arith, is)))

-- the stack of a state, part by part
pub stack_is : (u : Stack) (state : State) (list : List ℕ) (mode depth : ℕ) (below : List ℕ) → u ≡ stack mode depth below → state.mode ≡ mode → state.depth ≡ depth → list ≡ below
    → u ≡ stack_of state list
stack_is u state list mode depth below e m d b = e ∙ sym (λ i. stack (m i) (d i) (b i))
