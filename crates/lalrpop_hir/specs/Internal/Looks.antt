-- Numbers for the ten kinds of look.
use Rattle.std.specs.Prelude.{◌≡◌, ℕ, zero, suc, refl}
use Rattle.lalrpop_hir.specs.declared.look.Look.{Look}
use Rattle.lalrpop_hir.specs.declared.look.Look.TheVariants.{Start, End, StartLF, EndLF, WordUnicode, WordUnicodeNegate, WordStartUnicode, WordEndUnicode, WordStartHalfUnicode, WordEndHalfUnicode}

abbrev pub number_of_look : Look → ℕ
number_of_look Start = 0
number_of_look End = 1
number_of_look StartLF = 2
number_of_look EndLF = 3
number_of_look WordUnicode = 4
number_of_look WordUnicodeNegate = 5
number_of_look WordStartUnicode = 6
number_of_look WordEndUnicode = 7
number_of_look WordStartHalfUnicode = 8
number_of_look WordEndHalfUnicode = 9

abbrev pub look_of_number : ℕ → Look
look_of_number zero = Start
look_of_number (suc zero) = End
look_of_number (suc (suc zero)) = StartLF
look_of_number (suc (suc (suc zero))) = EndLF
look_of_number (suc (suc (suc (suc zero)))) = WordUnicode
look_of_number (suc (suc (suc (suc (suc zero))))) = WordUnicodeNegate
look_of_number (suc (suc (suc (suc (suc (suc zero)))))) = WordStartUnicode
look_of_number (suc (suc (suc (suc (suc (suc (suc zero))))))) = WordEndUnicode
look_of_number (suc (suc (suc (suc (suc (suc (suc (suc zero)))))))) = WordStartHalfUnicode
look_of_number (suc (suc (suc (suc (suc (suc (suc (suc (suc n))))))))) = WordEndHalfUnicode

pub look_of_number_of_look : (l : Look) → look_of_number (number_of_look l) ≡ l
look_of_number_of_look Start = refl
look_of_number_of_look End = refl
look_of_number_of_look StartLF = refl
look_of_number_of_look EndLF = refl
look_of_number_of_look WordUnicode = refl
look_of_number_of_look WordUnicodeNegate = refl
look_of_number_of_look WordStartUnicode = refl
look_of_number_of_look WordEndUnicode = refl
look_of_number_of_look WordStartHalfUnicode = refl
look_of_number_of_look WordEndHalfUnicode = refl
