-- Cases of specs/Internal/Parts.antt.
use Rattle.std.proofs.Common.{◌≡◌, ℕ, Bool, true, false, inl, inr, List, [], ◌∷◌, ◌++◌, length, codes, refl, arith, IsUtf8}
use Rattle.std.specs.Prelude.{Some, None}
use Rattle.std.proofs.lemmas.Str.{IsUtf8-nil}
use Rattle.lalrpop_hir.specs.Tree.{Tree}
use Rattle.lalrpop_rules.specs.Found.{MatchesAt}
use Rattle.bajofeki.specs.Internal.Parts.{Tells, TellsTurn, IsLeft, IsPart, IsParted, size_in_fault}
use Rattle.bajofeki.specs.declared.parts.Told.{Told}
use Rattle.bajofeki.specs.declared.parts.Told.TheVariants.{Whole, Nothing, Open}
use Rattle.bajofeki.specs.declared.parts.Turn.TheVariants.{Void}
use Rattle.bajofeki.proofs.Cases.Begun.{a_first_byte_begins, letter, of_no_character}
use Rattle.bajofeki.proofs.BegunLaws.{begun_not_bad, nothing_begun}

-- ---- what a text tells

-- nothing is open once no character comes
never_open : (ts : List Tree) (ps text : List ℕ) (is_match : Bool) (void : ℕ) → ¬ Tells ts ps text true (Open is_match void)
never_open ts ps text is_match void told = absurd (cc (told.0))

-- while one may, it isn't known that nothing matches
never_nothing : (ts : List Tree) (ps text : List ℕ) → ¬ Tells ts ps text false Nothing
never_nothing ts ps text told = absurd (cc (told.0))

match_passed_over : (ts : List Tree) (ps : List ℕ) → MatchesAt ts (codes "a" ++ []) 0 → ¬ Tells ts ps (codes "a") true Nothing
match_passed_over ts ps m told = told.1 [] (λ n some within u. omega arith) 0 (omega arith) m

piece_past_the_text : (ts : List Tree) (ps : List ℕ) (is_last : Bool) → ¬ Tells ts ps (codes "a") is_last (Whole (record { rule = None; size = 2 }))
piece_past_the_text ts ps is_last told = omega (arith, told.0.0)

-- ---- what is left after a text

nothing_left : IsLeft [] false
nothing_left = ((λ _. nothing_begun), (λ bad. absurd (cc)))

half_left : IsLeft (0xC3 ∷ []) false
half_left = ((λ _. a_first_byte_begins), (λ bad. absurd (cc)))

byte_left : IsLeft (0xFF ∷ []) true
byte_left = ((λ goes. absurd (cc)), (λ _. of_no_character))

byte_taken_for_half : ¬ IsLeft (0xFF ∷ []) false
byte_taken_for_half left = begun_not_bad (0xFF ∷ []) (left.0 refl) of_no_character

-- ---- what has come

-- of `a` and half of `ä` nothing was given, and then `a`
letter_and_half : IsParted (97 ∷ 0xC3 ∷ []) (record { from = 0; ends = 1; is_bad = false })
letter_and_half = record { order = omega arith; within = omega arith; utf8 = letter; left = half_left }

letter_given : IsParted (97 ∷ 0xC3 ∷ []) (record { from = 1; ends = 1; is_bad = false })
letter_given = record { order = omega arith; within = omega arith; utf8 = IsUtf8-nil; left = half_left }

text_past_the_end : ¬ IsParted (97 ∷ []) (record { from = 0; ends = 2; is_bad = false })
text_past_the_end parted = omega (arith, parted.within)

-- ---- where nothing matches

nowhere_yet : (ts : List Tree) → IsPart ts (0xFF ∷ []) (record { from = 0; ends = 0; is_bad = true })
nowhere_yet ts = record {
  parted = record { order = omega arith; within = omega arith; utf8 = IsUtf8-nil; left = byte_left };
  nothing = λ more n below m. omega arith;
}

-- after a character that has begun more may come, before the text ends
half_before_the_end : (ts : List Tree) (ps : List ℕ) → ¬ TellsTurn ts ps (0xC3 ∷ []) false (record { from = 0; ends = 0; is_bad = false }) Void
half_before_the_end ts ps told = absurd (cc (told.0 refl))

-- ---- what belongs to a fault

token_belongs_not : size_in_fault (Some 1) 3 ≡ 0
token_belongs_not = refl

fault_belongs : size_in_fault None 3 ≡ 3
fault_belongs = refl
