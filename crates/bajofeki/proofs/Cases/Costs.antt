-- Cases of specs/Costs.antt: the words `a` and `ab`.
use Rattle.std.proofs.Common.{◌≡◌, ℕ, ◌-◌, ◌<◌, ◌≤◌, ◌⊎◌, inl, inr, List, [], ◌∷◌, ◌++◌, take, drop, codes, refl, arith}
use Rattle.std.specs.Str.{chars, IsCharBoundary}
use Rattle.lalrpop_hir.specs.Winners.{Matched}
use Rattle.lalrpop_dfa.specs.Dfa.{Row}
use Rattle.lalrpop_dfa.specs.declared.Kind.TheVariants.{Accepts, Reject, Neither}
use Rattle.lalrpop_rules.specs.Modes.{ModeRules, trees_in}
use Rattle.bajofeki.specs.declared.change.Change.{Change}
use Rattle.bajofeki.specs.Lexed.{ReadsTo}
use Rattle.bajofeki.specs.Costs.{IsReadTo, most_steps, IsPaidFor}
use Rattle.bajofeki.proofs.Cases.Reach.{a, ab}

-- a state that is open, one that accepts, and one that rejects
abbrev three_states : List Row
three_states =
    record { kind = Neither; tests = []; other = 2; items = [] }
    ∷ record { kind = Accepts 0; tests = []; other = 2; items = [] }
    ∷ record { kind = Reject; tests = []; other = 2; items = [] }
    ∷ []

abbrev no_rules : ModeRules
no_rules = record { names = []; trees = []; precedences = []; skips = []; actions = []; members = []; kinds = []; modes = 1; mode_names = []; automata = [] }

abbrev two_rules : ModeRules
two_rules = record {
  names = [];
  trees = a ∷ ab ∷ [];
  precedences = 0 ∷ 0 ∷ [];
  skips = [];
  actions = [];
  members = (0 ∷ []) ∷ (0 ∷ []) ∷ [];
  kinds = 0 ∷ 1 ∷ [];
  modes = 1;
  mode_names = [];
  automata = three_states ∷ [];
}

-- ---- what is read

nothing_read : (r : ModeRules) → IsReadTo r [] 0 0 0
nothing_read r = record { boundary = (omega arith, λ within high. omega (arith, within)); past = omega arith; reads = inl refl }

-- at least what is cut is read
cut_unread : (r : ModeRules) (text : List ℕ) → ¬ IsReadTo r text 0 2 1
cut_unread r text is = omega (arith, is.past)

-- and nothing past the end of the text
read_past_the_end : (r : ModeRules) → ¬ IsReadTo r (codes "ab") 0 1 3
read_past_the_end r is = omega (arith, is.boundary.0)

-- where `a` is cut, `ab` may be read, since that begins a word
word_goes_on : IsReadTo two_rules (codes "ab") 0 1 2
unfolding chars
word_goes_on = record {
  boundary = (omega arith, λ within high. omega (arith, within));
  past = omega arith;
  reads = inr (0, 0, (omega arith, omega arith, (omega arith, λ within high. omega (arith, high)), (omega arith, ([], (1, (ab, (refl, refl)))))));
}

no_word : (w : List ℕ) → ¬ Matched [] w
no_word w m = absurd (cc (m.1.1.0))

-- where there are no words, nothing is read after what is cut
no_word_goes_on : (text : List ℕ) (to far : ℕ) → to < far → ¬ IsReadTo no_rules text 0 to far
no_word_goes_on text to far more is = by_place is.reads
  where
    by_place : (far ≡ to) ⊎ ((mode k : ℕ) × ((0 ≤ k) × (k ≤ to) × IsCharBoundary text k × ReadsTo (trees_in no_rules mode) text k far)) → ⊥
    by_place (inl same) = omega (arith, same, more)
    by_place (inr (mode, k, reads)) = no_word (chars (take (far - k) (drop k text)) ++ reads.3.1.0) reads.3.1.1

-- ---- the steps

steps_of_no_states : most_steps no_rules 2 3 ≡ 541
steps_of_no_states = refl

-- the open state costs 262 steps more, and the others none
steps_of_an_open_state : most_steps two_rules 2 3 ≡ 803
steps_of_an_open_state = refl

abbrev one_letter : Change
one_letter = record { first = 0; removed = 0; inserted = 1; start = 0; old_end = 0; new_end = 1 }

abbrev no_letter : Change
no_letter = record { first = 0; removed = 0; inserted = 0; start = 0; old_end = 0; new_end = 0 }

-- `a` is cut, and `ab` is read
letter_is_paid : IsPaidFor (record { rules = two_rules; text = codes "ab" }) one_letter 5 7
letter_is_paid = (2, (word_goes_on, omega arith))

-- where nothing is read, no step is paid
step_for_nothing : ¬ IsPaidFor (record { rules = no_rules; text = [] }) no_letter 5 6
step_for_nothing paid = omega (arith, paid.1.0.boundary.0, paid.1.1)
