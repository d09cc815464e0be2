-- Cases of specs/Flag.antt.
use Rattle.std.proofs.Common.{◌≡◌, true, false, Some, None, codes, refl, sym, ◌∙◌, lit<}
use Rattle.lalrpop_re.specs.declared.flags.Flags.{Flags}
use Rattle.lalrpop_re.specs.Flag.{no_flags, with_flag, with_flags, is_distinct, FlagLetters, on, on_and_off}
use Rattle.lalrpop_re.specs.Internal.Reading as reading
use Rattle.lalrpop_re.proofs.OpeningLaws.{FlagLetters-complete}

-- `i` sets its flag and no other, `u` sets none
letters_set_their_flags : (with_flag true no_flags 105 ≡ record no_flags { case_insensitive = true }) × (with_flag true no_flags 117 ≡ no_flags)
letters_set_their_flags = (refl, refl)

-- `sm` sets two, and switching `m` off clears it
letters_set_flags_in_turn : (with_flags true no_flags (codes "sm") ≡ record no_flags { dot_matches_new_line = true; multi_line = true })
    × (with_flags false (with_flags true no_flags (codes "sm")) (codes "m") ≡ record no_flags { dot_matches_new_line = true })
letters_set_flags_in_turn = (refl, refl)

-- no letter occurs twice, side by side or apart
distinct_letters : (is_distinct (codes "is") ≡ true) × (is_distinct (codes "ii") ≡ false) × (is_distinct (codes "isi") ≡ false)
distinct_letters = (refl, refl, refl)

-- `U-s`
letters_on_and_off : FlagLetters no_flags (codes "U-s") (record no_flags { swap_greed = true })
letters_on_and_off = on_and_off (codes "U") (codes "s") refl refl (lit< tt) refl

-- no letters at all
no_letters : FlagLetters no_flags (codes "") no_flags
no_letters = on (codes "") refl refl

-- `ii`, `x`, `i-`, `-u` and `i-i` are refused
letter_that_stands_twice : (g : Flags) → ¬ FlagLetters no_flags (codes "ii") g
unfolding reading.flags_of
letter_that_stands_twice g h = let none : reading.flags_of no_flags (codes "ii") ≡ None = refl in let k : Some g ≡ None = sym (FlagLetters-complete h) ∙ none in absurd (cc)

unknown_letter : (g : Flags) → ¬ FlagLetters no_flags (codes "x") g
unfolding reading.flags_of
unknown_letter g h = let none : reading.flags_of no_flags (codes "x") ≡ None = refl in let k : Some g ≡ None = sym (FlagLetters-complete h) ∙ none in absurd (cc)

nothing_behind_the_hyphen : (g : Flags) → ¬ FlagLetters no_flags (codes "i-") g
unfolding reading.flags_of
nothing_behind_the_hyphen g h = let none : reading.flags_of no_flags (codes "i-") ≡ None = refl in let k : Some g ≡ None = sym (FlagLetters-complete h) ∙ none in absurd (cc)

u_behind_the_hyphen : (g : Flags) → ¬ FlagLetters no_flags (codes "-u") g
unfolding reading.flags_of
u_behind_the_hyphen g h = let none : reading.flags_of no_flags (codes "-u") ≡ None = refl in let k : Some g ≡ None = sym (FlagLetters-complete h) ∙ none in absurd (cc)

letter_on_both_sides : (g : Flags) → ¬ FlagLetters no_flags (codes "i-i") g
unfolding reading.flags_of
letter_on_both_sides g h = let none : reading.flags_of no_flags (codes "i-i") ≡ None = refl in let k : Some g ≡ None = sym (FlagLetters-complete h) ∙ none in absurd (cc)
