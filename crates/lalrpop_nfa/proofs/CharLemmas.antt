-- The last character of a text.
use Rattle.std.proofs.Common.{◌≡◌, ℕ, List, [], ◌∷◌, ◌++◌, length, take, ap, sym, ◌∙◌, subst}
use Rattle.std.specs.Char.{IsScalar, encode_utf8}
use Rattle.std.specs.Str.{IsUtf8, chars}
use Rattle.std.proofs.lemmas.List.{append-nil}
use Rattle.std.proofs.lemmas.Str.{IsUtf8-take, IsUtf8-encode, IsCharBoundary-at_seam, chars-append, chars-nil, chars_past_char}
use Rattle.std.proofs.Math.Seq.{take-append_seam}

module _ (bs rest : List ℕ) (c : ℕ) (is : bs ≡ rest ++ encode_utf8 c) (scalar : IsScalar c) (text : IsUtf8 bs) where
  pub IsUtf8-front : IsUtf8 rest
  IsUtf8-front =
      subst IsUtf8 (ap (take (length rest)) is ∙ take-append_seam rest (encode_utf8 c))
      (IsUtf8-take bs (length rest) text (IsCharBoundary-at_seam bs rest (encode_utf8 c) is (IsUtf8-encode c scalar)))

  one : chars (encode_utf8 c) ≡ c ∷ []
  one = chars_past_char (encode_utf8 c) [] c (IsUtf8-encode c scalar) (sym (append-nil (encode_utf8 c))) ∙ ap (λ cs. c ∷ cs) chars-nil

  pub chars-last : chars bs ≡ chars rest ++ c ∷ []
  chars-last = ap chars is ∙ (chars-append rest (encode_utf8 c) IsUtf8-front ∙ ap (λ cs. chars rest ++ cs) one)
