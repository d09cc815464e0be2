-- Cases of specs/ModeCut.antt.
use Rattle.std.proofs.Common.{◌≡◌, ℕ, ◌+◌, List, [], ◌∷◌, length, codes, true, false, inl, inr, refl, ap, arith}
use Rattle.std.specs.Prelude.{Some, None, Result, Ok, Err}
use Rattle.std.specs.declared.alloc.AllocError.{AllocError}
use Rattle.std.specs.Borrow.{Bor}
use Rattle.std.specs.Str.{chars}
use Rattle.lalrpop_lexer.specs.Dfa.{Row}
use Rattle.lalrpop_lexer.specs.Matching.{open_states}
use Rattle.lalrpop_rules.specs.declared.piece.Piece.{Piece}
use Rattle.lalrpop_rules.specs.declared.piece.Piece.TheVariants.{Fault}
use Rattle.lalrpop_rules.specs.Modes.{ModeRules}
use Rattle.lalrpop_rules.specs.ModeCut.{ModeCut, uncut, left_text, open_in_all, pieces_left, IsCounted, GivesModePiece, GivesPieceOrError}

text_begins_in_mode_0 : (r : ModeRules) (text : List ℕ) (most : ℕ) → (uncut r text most).stack.mode ≡ 0
text_begins_in_mode_0 r text most = refl

rest_behind_two_bytes : (r : ModeRules) → left_text (record (uncut r (195 ∷ 169 ∷ 97 ∷ []) 0) { at = 2 }) ≡ codes "a"
rest_behind_two_bytes r = refl

nothing_is_left : (r : ModeRules) → GivesModePiece (uncut r [] 0) None (uncut r [] 0)
nothing_is_left r = (refl, refl)

end_told_early : (r : ModeRules) (new : ModeCut) → ¬ GivesModePiece (uncut r (codes "a") 0) None new
end_told_early r new (same, end) = absurd (cc)

-- the rest begins after the piece
piece_given_again : (r : ModeRules) (text : List ℕ) (slice : Bor (List ℕ)) → slice.now ≡ 195 ∷ 169 ∷ []
    → ¬ GivesModePiece (uncut r text 0) (Some (Fault 0 slice)) (uncut r text 0)
piece_given_again r text slice two (is, goes, paid) =
    let at : 0 ≡ 0 + length slice.now = ap (λ (w : ModeCut). w.at) goes in
    omega (arith, at, ap length two)

-- a fault leaves the stack as it is
mode_changed_by_a_fault : (r : ModeRules) (text : List ℕ) (slice : Bor (List ℕ)) (at : ℕ)
    → ¬ GivesModePiece (uncut r text 0) (Some (Fault 0 slice))
    (record { rules = r; text = text; at = at; stack = record { mode = 1; below = [] }; steps = 0; steps_left = 0; is_over = false })
mode_changed_by_a_fault r text slice at (is, goes, paid) =
    let mode : 1 ≡ 0 = ap (λ (w : ModeCut). w.stack.mode) goes in
    omega (arith, mode)

-- ---- what it costs

a_step_has_to_be_paid : (r : ModeRules) (text : List ℕ) (slice : Bor (List ℕ)) (most at : ℕ)
    → ¬ GivesModePiece (uncut r text most) (Some (Fault 0 slice)) (record (uncut r text most) { at = at; steps = 1 })
a_step_has_to_be_paid r text slice most at (is, goes, counted) = omega (arith, counted.1)

-- 64 of 65 steps that were left
the_count_may_rise : (old new : ModeCut) → old.steps ≡ 5 → old.steps_left ≡ 65 → new.steps ≡ 69 → new.steps_left ≡ 1 → IsCounted old new
the_count_may_rise old new five left more few = (omega (arith, five, more), omega (arith, five, left, more, few))

count_set_back : (old new : ModeCut) → old.steps ≡ 5 → new.steps ≡ 4 → ¬ IsCounted old new
count_set_back old new five four counted = omega (arith, counted.0, five, four)

-- the open states of all modes
open_in_two_modes : (r : ModeRules) (d e : List Row) → open_in_all (record r { automata = d ∷ e ∷ [] }) ≡ open_states d + open_states e
open_in_two_modes r d e = omega arith

open_in_no_mode : (r : ModeRules) → open_in_all (record r { automata = [] }) ≡ 0
open_in_no_mode r = refl

-- ---- pieces or errors

-- a text that is over, though all of it is left
abbrev over : ModeRules → List ℕ → ModeCut
over r text = record (uncut r text 0) { is_over = true }

no_error_at_the_end : (r : ModeRules) → GivesPieceOrError (uncut r [] 0) None (uncut r [] 0)
no_error_at_the_end r = (refl, inr refl)

error_at_the_end : (r : ModeRules) (error : AllocError) (new : ModeCut) → ¬ GivesPieceOrError (uncut r [] 0) (Some (Err error)) new
error_at_the_end r error new (on, some, same) = some refl

error_told_as_the_end : (r : ModeRules) (new : ModeCut) → ¬ GivesPieceOrError (uncut r (codes "a") 0) None new
error_told_as_the_end r new (same, end) = elim end [ inl over ↦ absurd (cc) | inr none ↦ absurd (cc) ]

then_it_is_over : (r : ModeRules) (error : AllocError) → GivesPieceOrError (uncut r (codes "a") 0) (Some (Err error)) (over r (codes "a"))
then_it_is_over r error = (refl, (λ none. cc), refl)

the_next_is_none : (r : ModeRules) → GivesPieceOrError (over r (codes "a")) None (over r (codes "a"))
the_next_is_none r = (refl, inl refl)

something_behind_an_error : (old new : ModeCut) (x : Result Piece AllocError) → old.is_over ≡ true → ¬ GivesPieceOrError old (Some x) new
something_behind_an_error old new (Ok piece) over g = cc (g.0, over)
something_behind_an_error old new (Err error) over g = cc (g.0, over)

none_left_behind_an_error : (r : ModeRules) (text : List ℕ) → pieces_left (over r text) ≡ 0
none_left_behind_an_error r text = refl

-- one piece for each character: these are two, of three bytes
two_are_left : (r : ModeRules) → pieces_left (uncut r (195 ∷ 169 ∷ 97 ∷ []) 0) ≡ 2
unfolding chars
two_are_left r = refl

one_for_each_byte : (r : ModeRules) → ¬ (pieces_left (uncut r (195 ∷ 169 ∷ 97 ∷ []) 0) ≡ 3)
one_for_each_byte r three = let two = two_are_left r in omega (arith, two, three)

one_is_left_behind_the_first : (r : ModeRules) → pieces_left (record (uncut r (195 ∷ 169 ∷ 97 ∷ []) 0) { at = 2 }) ≡ 1
unfolding chars
one_is_left_behind_the_first r = refl
