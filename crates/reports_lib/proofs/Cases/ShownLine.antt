-- Cases of specs/ShownLine.antt.
use Rattle.std.proofs.Common.{◌≡◌, ◌≢◌, ◌++◌, [], ◌∷◌, codes, get_or, length, replicate, refl, ap, arith, None, Some}
use Rattle.std.specs.Char.{encode_utf8}
use Rattle.std.specs.Str.{chars, is_utf8}
use Rattle.unicode_width.specs.Width.{past_emoji, step, str_width}
use Rattle.reports_lib.specs.ShownLine.{dots, first_shown, pointed, shown, sign, signs_of}

-- an escape can't be sent to the terminal, nor a tab
signs : (sign 27 ≡ 65533) × (sign 9 ≡ 32)
signs = (refl, refl)

escape_as_it_is : sign 27 ≢ 27
escape_as_it_is e = omega (arith, e)

-- bytes that aren't UTF-8 have no signs, and nothing is shown of them
not_text : signs_of (255 ∷ []) ≡ None
unfolding is_utf8 chars encode_utf8
not_text = refl

nothing_shown : pointed None 3 ≡ []
nothing_shown = refl

-- a short line, with a caret under its third sign
caret : pointed (Some (codes "A /x/")) 2 ≡ codes "    A /x/\n      ^\n"
unfolding encode_utf8 str_width step past_emoji
caret = refl

caret_late : pointed (Some (codes "A /x/")) 2 ≢ codes "    A /x/\n       ^\n"
unfolding encode_utf8 str_width step past_emoji
caret_late e = let k : 94 ≡ 32 = ap (λ l. get_or l 16 0) e in omega (arith, k)

-- of a long line dots stand for what is left out at its end, and before the first sign that is shown
long_line : shown 0 (replicate 161 97) ≡ replicate 160 97 ++ (226 ∷ 128 ∷ 166 ∷ [])
unfolding encode_utf8
long_line = refl

end_of_a_line : shown 7 (codes "x") ≡ 226 ∷ 128 ∷ 166 ∷ codes "x"
unfolding encode_utf8
end_of_a_line = refl

first : (first_shown 160 150 ≡ 0) × (first_shown 161 150 ≡ 50) × (first_shown 161 99 ≡ 0)
first = (refl, refl, refl)
