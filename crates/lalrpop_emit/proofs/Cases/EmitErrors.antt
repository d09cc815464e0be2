-- Cases of specs/EmitErrors.antt.
use Rattle.std.proofs.Common.{◌≡◌, ◌<◌, ℕ, zero, suc, inl, inr, List, [], ◌∷◌, codes, refl, arith, ap, length, lit<}
use Rattle.std.specs.Prelude.{slice_index}
use Rattle.lalrpop_lexer.specs.Dfa.{Row, step}
use Rattle.lalrpop_dfa.specs.declared.Kind.TheVariants.{Reject}
use Rattle.lalrpop_rules.specs.Modes.{ModeRules}
use Rattle.lalrpop_emit.specs.EmitErrors.{CanBeNumbered, IsFirstBadName, IsNumbersError, IsSourceError, IsTooLarge}
use Rattle.lalrpop_emit.specs.declared.error.EmitError.TheVariants.{NoRules, BadName, SkipCount, NoName, TooManyRules, TooManyModes, TooManyActions, BadVariant, BadPrefix, NoTable, OutOfMemory}

-- rules with these names, none of them skipped, and no actions
abbrev rules_named : List (List ℕ) → ℕ → ModeRules
rules_named names modes = record { names = names; trees = []; precedences = []; skips = []; actions = []; members = []; kinds = []; modes = modes; mode_names = []; automata = [] }

no_rules : IsNumbersError (rules_named [] 1) NoRules
no_rules = refl

no_rules_have_no_numbers : ¬ CanBeNumbered (rules_named [] 1)
no_rules_have_no_numbers can = let same : NoRules ≡ OutOfMemory = can NoRules refl in cc

there_are_rules : ¬ IsNumbersError (rules_named (codes "IF" ∷ []) 1) NoRules
there_are_rules e = omega (arith, ap length e)

first_is_bad : IsNumbersError (rules_named (codes "A-B" ∷ codes "C-D" ∷ []) 1) (BadName 0)
first_is_bad = record { name = codes "A-B"; at = refl; bad = λ h. let bad = h.bytes in cc; before = λ j n l e. absurd (omega (arith, l)) }

-- one before it is bad too
second_is_not_the_first : ¬ IsFirstBadName (codes "A-B" ∷ codes "C-D" ∷ []) 1
second_is_not_the_first h = let bad = (h.before 0 (codes "A-B") (lit< tt) refl).bytes in cc

one_rule_is_not_too_many : ¬ IsNumbersError (rules_named (codes "IF" ∷ []) 1) TooManyRules
one_rule_is_not_too_many h = omega (arith, h)

one_skip_is_missing : IsNumbersError (rules_named (codes "IF" ∷ []) 1) SkipCount
one_skip_is_missing e = omega (arith, e)

-- there is no automaton
no_pattern_to_name : ¬ IsNumbersError (rules_named (codes "IF" ∷ []) 1) (NoName 1)
no_pattern_to_name h = let there = h.at in cc

no_automaton_is_too_large : ¬ IsNumbersError (rules_named (codes "IF" ∷ []) 1) NoTable
no_automaton_is_too_large h = let there = h.at in cc

-- an automaton of one state, which leads all characters back to it
abbrev one_state : List Row
one_state = record { kind = Reject; tests = []; other = 0; items = [] } ∷ []

all_alike : (state c e : ℕ) → step one_state state c ≡ step one_state state e
all_alike zero c e = refl
all_alike (suc state) c e = refl

one_state_is_not_too_large : ¬ IsTooLarge one_state
one_state_is_not_too_large h =
    let two : 1 < length h.told_apart = elim h.many [ inl many ↦ omega (arith, many) | inr many ↦ omega (arith, many) ] in
    let apart = h.are.apart 0 1 (omega arith) two in
    apart.apart (all_alike apart.state (slice_index h.told_apart 0) (slice_index h.told_apart 1))

too_many_modes : IsNumbersError (rules_named (codes "IF" ∷ []) 65536) TooManyModes
too_many_modes = omega arith

two_modes_are_not_too_many : ¬ IsNumbersError (rules_named (codes "IF" ∷ []) 2) TooManyModes
two_modes_are_not_too_many h = omega (arith, h)

no_actions_are_not_too_many : ¬ IsNumbersError (rules_named (codes "IF" ∷ []) 1) TooManyActions
no_actions_are_not_too_many h = omega (arith, h)

-- C and Rust share the numbers
numbers_have_no_variants : ¬ IsNumbersError (rules_named (codes "2a" ∷ []) 1) (BadVariant 0)
numbers_have_no_variants h = h

identifier_is_no_bad_prefix : ¬ IsSourceError (codes "lex") BadPrefix
identifier_is_no_bad_prefix h = h (record { part = record { some = λ e. omega (arith, ap length e); bytes = refl }; first = refl })

a_source_has_a_table : ¬ IsSourceError (codes "lex") NoTable
a_source_has_a_table h = h

c_has_no_variants : ¬ IsSourceError (codes "lex") (BadVariant 0)
c_has_no_variants h = h
