-- Cases of specs/Compared.antt.
use Rattle.std.proofs.Common.{◌≡◌, ◌≢◌, ℕ, inl, true, false, List, [], ◌∷◌, get_or, length, refl, ap, arith}
use Rattle.std.specs.Prelude.{Option, Some, None, Err, codes}
use Rattle.lalrpop_rules.specs.Modes.{ModeRules}
use Rattle.bajofeki_rules.specs.declared.action.Action.TheVariants.{Mode, Push, Pop}
use Rattle.lalrpop_verdicts.specs.Differences.{Answers}
use Rattle.lexdfa_lib.specs.Streams.{Given}
use Rattle.lexdfa_lib.specs.declared.command.Verbosity.{Verbosity}
use Rattle.reports_lib.specs.Answer.{Answer, refusal}
use Rattle.reviews_lib.specs.Compared.{IsDifference, AreDifferences, token_text, difference_line, difference_lines, modes_line, DifferenceAnswer, text_status, other_of, ComparedAnswer}

-- two modes
abbrev modes : List (List ℕ)
modes = codes "INITIAL" ∷ codes "STRING" ∷ []

-- ---- tokens

-- all that a rule can say, in the order of a file of rules
whole_token : token_text modes (Some (record { name = codes "NAME"; skipped = true; actions = Mode 0 ∷ Push 1 ∷ Pop ∷ [] })) ≡ codes "NAME skip mode INITIAL push STRING pop"
whole_token = refl

bare_token : token_text modes (Some (record { name = codes "IF"; skipped = false; actions = [] })) ≡ codes "IF"
bare_token = refl

none_told : token_text modes None ≡ codes "no token"
none_told = refl

-- ---- lines

-- one rule, which has no modes
abbrev named : List ℕ → ModeRules
named name = record { names = name ∷ []; trees = []; precedences = []; skips = false ∷ []; actions = [] ∷ []; members = []; kinds = []; modes = 2; mode_names = []; automata = [] }

abbrev found : Answers
found = record { word = 10 ∷ []; left = Some 0; right = None }

line_of_the_second_mode : difference_line (codes "old") (named (codes "IF")) modes (codes "new") (named (codes "NAME")) modes 1 (Some found)
    ≡ codes "in mode STRING, \"\\n\" is IF in old, and no token in new\n"
line_of_the_second_mode = refl

-- the only mode isn't named
line_of_the_only_mode : difference_line (codes "old") (named (codes "IF")) (codes "INITIAL" ∷ []) (codes "new") (named (codes "NAME")) (codes "INITIAL" ∷ []) 0 (Some found)
    ≡ codes "\"\\n\" is IF in old, and no token in new\n"
line_of_the_only_mode = refl

-- a mode in which nothing differs has no line
no_line_of_the_first_mode : difference_lines (codes "old") (named (codes "IF")) modes (codes "new") (named (codes "NAME")) modes 0 (None ∷ Some found ∷ [])
    ≡ codes "in mode STRING, \"\\n\" is IF in old, and no token in new\n"
no_line_of_the_first_mode = refl

other_modes : modes_line (codes "old") (codes "A" ∷ codes "B" ∷ []) (codes "new") (codes "A" ∷ []) ≡ codes "old has the modes A B, and new has A\n"
other_modes = refl

-- ---- what differs

-- of two modes both are told
first_alone : (r s : ModeRules) (f : Option Answers) → ¬ AreDifferences r s 2 (f ∷ [])
first_alone r s f are = let e : 1 ≡ 2 = are.0 in omega (arith, e)

-- a word of no length is never told
no_empty_word : (r s : ModeRules) (m : ℕ) (left right : Option ℕ) → ¬ IsDifference r s m (Some (record { word = []; left = left; right = right }))
no_empty_word r s m left right is = is.0.holds.1 refl

-- ---- the answer

-- modes with other names alone are status 1
other_names_answer : (r s : ModeRules) → DifferenceAnswer (codes "old") r (codes "A" ∷ []) (codes "new") s (codes "B" ∷ [])
    (record { status = 1; out = codes "old has the modes A, and new has B\n"; err = [] })
other_names_answer r s = (codes "old has the modes A, and new has B\n", (inl (differ, refl), refl))
  where
    differ : codes "A" ∷ [] ≢ codes "B" ∷ []
    differ e = let first : 65 ≡ 66 = ap (λ (names : List (List ℕ)). get_or (get_or names 0 []) 0 0) e in omega (arith, first)

-- nothing written is status 0, and something written isn't
status_of_nothing : text_status [] ≡ 0
status_of_nothing = refl

no_status_0_of_a_line : (r s : ModeRules) (old new : List ℕ) (modes others : List (List ℕ)) (c : ℕ) (text : List ℕ)
    → ¬ DifferenceAnswer old r modes new s others (record { status = 0; out = c ∷ text; err = [] })
no_status_0_of_a_line r s old new modes others c text (written, (is, e)) = by_text written (ap (λ (a : Answer). a.status) e) (ap (λ (a : Answer). a.out) e)
  where
    by_text : (written : List ℕ) → 0 ≡ text_status written → c ∷ text ≡ written → ⊥
    by_text [] status out = let n : length (c ∷ text) ≡ 0 = ap length out in omega (arith, n)
    by_text (d ∷ written) status out = let n : 0 ≡ 1 = status in omega (arith, n)

-- ---- the other file of rules

-- the first that is named
other_named : (other_of (codes "b" ∷ []) ≡ codes "b") × (other_of (codes "b" ∷ codes "c" ∷ []) ≡ codes "b") × (other_of [] ≡ [])
other_named = (refl, refl, refl)

-- if it can't be read, that is said, and the status is 6
unread_other : (Gives : List ℕ → Given → Type 0) (verbosity : Verbosity) (r : ModeRules) (modes : List (List ℕ)) → Gives (codes "b") (Err (codes "e"))
    → ComparedAnswer Gives verbosity (codes "a") r modes (codes "b") (refusal 6 (codes "tokens: b: e\n"))
unread_other Gives verbosity r modes gives = inl (codes "e", (gives, refl))
