-- Cases of specs/Printed.antt.
use Rattle.std.proofs.Common.{◌≡◌, ◌≢◌, [], ◌∷◌, codes, length, refl, ap, arith}
use Rattle.std.specs.Fmt.{digits}
use Rattle.lalrpop_hir.specs.declared.error.NfaConstructionError.TheVariants.{NonGreedy}
use Rattle.lexdfa_lib.specs.Printed.{line_of}
use Rattle.lexdfa_lib.specs.declared.outcome.Outcome.TheVariants.{Match, NoMatch, All, Stopped, Refused, Ambiguous, Syntax, Line}

-- the terminal, and then the length
line_of_a_match : line_of (Match 3 12) ≡ codes "match 3 12\n"
unfolding digits
line_of_a_match = refl

line_of_no_match : line_of NoMatch ≡ codes "none\n"
line_of_no_match = refl

-- if all tokens were cut there is no further line
line_of_a_whole_text : line_of (All 3) ≡ []
line_of_a_whole_text = refl

-- the place, not the number of tokens
line_of_a_fault : line_of (Stopped 2 6) ≡ codes "stop 6\n"
unfolding digits
line_of_a_fault = refl

line_of_a_refusal : line_of (Refused 0 NonGreedy) ≡ codes "refused 0 NonGreedy\n"
unfolding digits
line_of_a_refusal = refl

-- the greater terminal first, as the outcome has them, and then the values of the word
line_of_a_clash : line_of (Ambiguous 10 2 (99 ∷ 108 ∷ [])) ≡ codes "ambiguous 10 2 63 6c\n"
unfolding digits
line_of_a_clash = refl

-- an empty word adds nothing, and the word of one 0 is another
line_of_a_clash_at_the_start : line_of (Ambiguous 1 0 []) ≡ codes "ambiguous 1 0\n"
unfolding digits
line_of_a_clash_at_the_start = refl

clash_at_the_start_is_not_at_0 : line_of (Ambiguous 1 0 []) ≢ line_of (Ambiguous 1 0 (0 ∷ []))
unfolding digits
clash_at_the_start_is_not_at_0 e = let n : 14 ≡ 16 = ap length e in omega (arith, n)

lines_of_wrong_input : (line_of (Syntax 4) ≡ codes "syntax 4\n") × (line_of (Line 4) ≡ codes "line 4\n")
unfolding digits
lines_of_wrong_input = (refl, refl)
