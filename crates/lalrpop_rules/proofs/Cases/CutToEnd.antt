-- Cases of specs/Internal/CutToEnd.antt.
use Rattle.std.proofs.Common.{◌≡◌, ℕ, ◌+◌, Bool, List, [], ◌∷◌, length, codes, refl, ap, arith}
use Rattle.std.specs.Prelude.{Some, None}
use Rattle.std.specs.Str.{chars}
use Rattle.std.specs.Borrow.{Bor}
use Rattle.lalrpop_lexer.specs.Rules.{Rules}
use Rattle.lalrpop_rules.specs.Internal.CutToEnd.{CutToEnd, Memo, uncut, left_text, steps_for, IsPaid, GivesPiece, IsSoughtFromRest, IsSoughtAfterPiece, IsSpent, PassesTo}
use Rattle.lalrpop_rules.specs.declared.piece.Piece.TheVariants.{Fault}

nothing_is_left : (rules : Rules) (skips : List Bool) (m : Memo) → GivesPiece (uncut rules skips [] m) None (uncut rules skips [] m)
nothing_is_left rules skips m = (refl, refl)

end_told_early : (rules : Rules) (skips : List Bool) (m : Memo) (new : CutToEnd) → ¬ GivesPiece (uncut rules skips (codes "a") m) None new
end_told_early rules skips m new (same, end) = absurd (cc)

-- the rest begins after the piece
piece_given_again : (rules : Rules) (skips : List Bool) (text : List ℕ) (m : Memo) (slice : Bor (List ℕ)) → slice.now ≡ 195 ∷ 169 ∷ []
    → ¬ GivesPiece (uncut rules skips text m) (Some (Fault 0 slice)) (uncut rules skips text m)
piece_given_again rules skips text m slice two (is, goes, paid) =
    let at : 0 ≡ 0 + length slice.now = ap (λ (w : CutToEnd). w.at) goes in
    omega (arith, at, ap length two)

rest_behind_two_bytes : (rules : Rules) (skips : List Bool) (m : Memo) → left_text (record (uncut rules skips (195 ∷ 169 ∷ 97 ∷ []) m) { at = 2 }) ≡ codes "a"
rest_behind_two_bytes rules skips m = refl

-- ---- what it costs

-- three characters pay for 195 steps, besides those to spare
characters_pay : steps_for (record { unsought = 3; spare = 128 }) ≡ 323
characters_pay = refl

-- 64 characters may be read where so many are to spare
the_spare_pays : IsPaid 5 (record { unsought = 0; spare = 128 }) 69 (record { unsought = 0; spare = 64 })
the_spare_pays = (omega arith, omega arith)

a_step_has_to_be_paid : (m : Memo) → ¬ IsPaid 5 m 6 m
a_step_has_to_be_paid m paid = omega (arith, paid.1)

count_set_back : (m : Memo) → ¬ IsPaid 5 m 4 m
count_set_back m paid = omega (arith, paid.0)

nothing_is_read_at_the_end : (s : CutToEnd) (steps : ℕ) → s.steps ≡ 5 → steps ≡ 6 → ¬ GivesPiece s None (record s { steps = steps })
nothing_is_read_at_the_end s steps five six (same, end) =
    let no_step : steps ≡ s.steps = ap (λ (w : CutToEnd). w.steps) same in
    omega (arith, no_step, five, six)

-- ---- where matches are sought

abbrev memo_of : ℕ → Memo
memo_of unsought = record { unsought = unsought; spare = 10 }

-- of "ab", the "a" is cut off
abbrev behind_a : Rules → List Bool → Memo → CutToEnd
behind_a rules skips memo = record (uncut rules skips (codes "ab") memo) { at = 1 }

the_rest_is_unsought : (rules : Rules) (skips : List Bool) → IsSoughtFromRest (behind_a rules skips (memo_of 1))
unfolding chars
the_rest_is_unsought rules skips = refl

the_b_is_found : (rules : Rules) (skips : List Bool) → ¬ IsSoughtFromRest (behind_a rules skips (memo_of 0))
unfolding chars
the_b_is_found rules skips same = let no : 0 ≡ 1 = same in omega (arith, no)

found_behind_a_fault : (rules : Rules) (skips : List Bool) (slice : Bor (List ℕ)) → IsSoughtAfterPiece (Fault 0 slice) (behind_a rules skips (memo_of 0))
found_behind_a_fault rules skips slice = tt

read_in_vain : IsSpent 5 (record { unsought = 2; spare = 10 }) 9 (record { unsought = 1; spare = 6 })
read_in_vain = (omega arith, omega arith)

not_taken_from_the_spare : ¬ IsSpent 5 (record { unsought = 2; spare = 10 }) 9 (record { unsought = 1; spare = 7 })
not_taken_from_the_spare spent = omega (arith, spent.1)

a_is_passed : (rules : Rules) (skips : List Bool) → PassesTo (uncut rules skips (codes "ab") (memo_of 2)) 1 (behind_a rules skips (memo_of 1))
unfolding chars
a_is_passed rules skips = (refl, refl, (omega arith, omega arith))
