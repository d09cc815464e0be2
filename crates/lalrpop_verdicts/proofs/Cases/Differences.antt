-- Cases of specs/Differences.antt: two automata that accept `a`, as the first tree and as the second one.
use Rattle.std.proofs.Common.{◌≡◌, ℕ, zero, suc, List, [], ◌∷◌, Some, None, refl, ap, ◌∙◌}
use Rattle.std.specs.Prelude.{slice_get}
use Rattle.lalrpop_dfa.specs.Dfa.{Row, step, run}
use Rattle.lalrpop_dfa.specs.declared.Kind.TheVariants.{Accepts, Reject, Neither}
use Rattle.lalrpop_dfa.proofs.Cases.Dfa.{automaton_of_a, between}
use Rattle.lalrpop_verdicts.specs.Answers.{accepted_at}
use Rattle.lalrpop_verdicts.specs.Differences.{label_of, TellsApart}
use Rattle.lalrpop_verdicts.proofs.Cases.Answers.{a_is_a_text, surrogate_is_no_text}

-- the automaton of `a`, but that the second of two trees has this word
abbrev a_as_second : List Row
a_as_second =
    record { kind = Neither; tests = (between 97 97, 1) ∷ []; other = 2; items = [] } ∷ record { kind = Accepts 1; tests = []; other = 2; items = [] }
    ∷ record { kind = Reject; tests = []; other = 2; items = [] } ∷ []

-- ---- labels

labels_of_trees : (label_of (5 ∷ 6 ∷ []) (Some 1) ≡ Some 6) × (label_of (5 ∷ 6 ∷ []) None ≡ None)
labels_of_trees = (refl, refl)

-- a tree without a label counts as none
tree_without_a_label : label_of (5 ∷ 6 ∷ []) (Some 2) ≡ None
tree_without_a_label = refl

-- ---- words that tell apart

-- the same labels in both: `a` is won by 5, and by 6
a_tells_apart : TellsApart automaton_of_a (5 ∷ 6 ∷ []) a_as_second (5 ∷ 6 ∷ []) (97 ∷ [])
a_tells_apart = (a_is_a_text, λ e. cc, λ e. (let f : Some 5 ≡ Some 6 = e in cc))

-- a word that both answer by none tells nothing
other_word_tells_nothing : ¬ TellsApart automaton_of_a (5 ∷ 6 ∷ []) a_as_second (5 ∷ 6 ∷ []) (98 ∷ [])
other_word_tells_nothing tells = tells.2 refl

empty_word_tells_nothing : (d e : List Row) (ls ms : List ℕ) → ¬ TellsApart d ls e ms []
empty_word_tells_nothing d e ls ms tells = tells.1 refl

word_of_no_text_tells_nothing : (d e : List Row) (ls ms : List ℕ) → ¬ TellsApart d ls e ms (0xD800 ∷ [])
word_of_no_text_tells_nothing d e ls ms tells = surrogate_is_no_text tells.0

-- ---- automata that say the same

same_step : (p c : ℕ) → step automaton_of_a p c ≡ step a_as_second p c
same_step zero c = refl
same_step (suc zero) c = refl
same_step (suc (suc zero)) c = refl
same_step (suc (suc (suc p))) c = refl

same_run : (p : ℕ) (w : List ℕ) → run automaton_of_a p w ≡ run a_as_second p w
same_run p [] = refl
same_run p (c ∷ w) = ap (λ q. run automaton_of_a q w) (same_step p c) ∙ same_run (step a_as_second p c) w

-- the trees are swapped, and the labels too
swapped_labels_agree : (p : ℕ) → label_of (5 ∷ 6 ∷ []) (accepted_at (slice_get automaton_of_a p)) ≡ label_of (6 ∷ 5 ∷ []) (accepted_at (slice_get a_as_second p))
swapped_labels_agree zero = refl
swapped_labels_agree (suc zero) = refl
swapped_labels_agree (suc (suc zero)) = refl
swapped_labels_agree (suc (suc (suc p))) = refl

nothing_tells_swapped_ones_apart : (w : List ℕ) → ¬ TellsApart automaton_of_a (5 ∷ 6 ∷ []) a_as_second (6 ∷ 5 ∷ []) w
nothing_tells_swapped_ones_apart w tells =
    tells.2 (swapped_labels_agree (run automaton_of_a 0 w) ∙ ap (λ q. label_of (6 ∷ 5 ∷ []) (accepted_at (slice_get a_as_second q))) (same_run 0 w))

-- an automaton without labels answers as one that accepts nothing, and so not as itself with labels
a_without_a_label_tells_apart : TellsApart automaton_of_a [] automaton_of_a (5 ∷ []) (97 ∷ [])
a_without_a_label_tells_apart = (a_is_a_text, λ e. cc, λ e. (let f : None ≡ Some 5 = e in cc))

no_labels_agree : (p : ℕ) → label_of [] (accepted_at (slice_get automaton_of_a p)) ≡ label_of (5 ∷ []) (accepted_at (slice_get a_as_second p))
no_labels_agree zero = refl
no_labels_agree (suc zero) = refl
no_labels_agree (suc (suc zero)) = refl
no_labels_agree (suc (suc (suc p))) = refl

-- the second tree has no label either where there is but one
nothing_tells_trees_without_labels_apart : (w : List ℕ) → ¬ TellsApart automaton_of_a [] a_as_second (5 ∷ []) w
nothing_tells_trees_without_labels_apart w tells =
    tells.2 (no_labels_agree (run automaton_of_a 0 w) ∙ ap (λ q. label_of (5 ∷ []) (accepted_at (slice_get a_as_second q))) (same_run 0 w))
