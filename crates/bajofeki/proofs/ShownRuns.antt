-- A text is shown run by run: characters that are shown as they are, and then one that isn't.
use Rattle.std.proofs.Common.{◌≡◌, ℕ, ◌+◌, ◌≤◌, List, [], ◌∷◌, ◌++◌, length, take, drop, sym, ap, subst, ◌∙◌, arith, append_assoc, length-append, flat_map}
use Rattle.std.specs.Char.{encode_utf8}
use Rattle.std.specs.Str.{chars, IsCharBoundary}
use Rattle.std.proofs.lemmas.Grind.{flat_map-append}
use Rattle.std.proofs.lemmas.List.{append-nil, drop-append-le}
use Rattle.std.proofs.lemmas.Str.{IsCharBoundary-at_seam}
use Rattle.std.proofs.Math.ListN.{drop_of_length-le}
use Rattle.std.proofs.Math.Seq.{take-append-add, take-append_seam}
use Rattle.lalrpop_hir.proofs.Cuts.{IsCut, word_after}

-- what is shown of the text up to this byte
abbrev pub shown_to : (ℕ → List ℕ) → List ℕ → ℕ → List ℕ
shown_to f text at = flat_map f (chars (take at text))

-- a cut falls between characters
pub cut_boundary : (text rest : List ℕ) (at : ℕ) → IsCut text at rest → IsCharBoundary text at
cut_boundary text rest at cut = subst (IsCharBoundary text) cut.place (IsCharBoundary-at_seam text (take at text) rest cut.split cut.rest_utf8)

module _ (f : ℕ → List ℕ) (text rest rest2 : List ℕ) (at at2 c : ℕ) (cut : IsCut text at rest) (split : rest ≡ encode_utf8 c ++ rest2) (next : at2 ≡ at + length (encode_utf8 c)) where
  bytes_after : take at2 text ≡ take at text ++ encode_utf8 c
  bytes_after =
      let size : at2 ≡ length (take at text) + length (encode_utf8 c) = omega (arith, cut.place, next) in
      let whole : text ≡ take at text ++ (encode_utf8 c ++ rest2) = cut.split ∙ ap (λ (r : List ℕ). take at text ++ r) split in
      ap (λ (n : ℕ). take n text) size ∙ ap (take (length (take at text) + length (encode_utf8 c))) whole
      ∙ take-append-add (take at text) (encode_utf8 c ++ rest2) (length (encode_utf8 c))
      ∙ ap (λ (r : List ℕ). take at text ++ r) (take-append_seam (encode_utf8 c) rest2)

  shown_after : shown_to f text at2 ≡ shown_to f text at ++ f c
  shown_after =
      ap (flat_map f) (word_after text rest rest2 at at2 c cut split next)
      ∙ flat_map-append f (chars (take at text)) (c ∷ []) ∙ ap (λ (t : List ℕ). shown_to f text at ++ t) (append-nil (f c))

  pub run_more : (page start : List ℕ) (from : ℕ) → from ≤ at → f c ≡ encode_utf8 c → page ++ drop from (take at text) ≡ start ++ shown_to f text at
      → page ++ drop from (take at2 text) ≡ start ++ shown_to f text at2
  run_more page start from low plain so_far =
      let run : drop from (take at2 text) ≡ drop from (take at text) ++ encode_utf8 c =
      ap (drop from) bytes_after ∙ drop-append-le from (take at text) (encode_utf8 c) (omega (arith, cut.place, low)) in
      ap (λ (r : List ℕ). page ++ r) run ∙ sym (append_assoc page (drop from (take at text)) (encode_utf8 c))
      ∙ ap (λ (r : List ℕ). r ++ encode_utf8 c) so_far ∙ append_assoc start (shown_to f text at) (encode_utf8 c)
      ∙ ap (λ (r : List ℕ). start ++ r) (ap (λ (t : List ℕ). shown_to f text at ++ t) (sym plain) ∙ sym shown_after)

  pub run_ends : (page start : List ℕ) (from : ℕ) → page ++ drop from (take at text) ≡ start ++ shown_to f text at
      → ((page ++ drop from (take at text)) ++ f c) ++ drop at2 (take at2 text) ≡ start ++ shown_to f text at2
  run_ends page start from so_far =
      let none : drop at2 (take at2 text) ≡ [] = drop_of_length-le (take at2 text) {i = at2} (omega (arith, ap length bytes_after, length-append (take at text) (encode_utf8 c), cut.place, next)) in
      ap (λ (r : List ℕ). ((page ++ drop from (take at text)) ++ f c) ++ r) none ∙ append-nil _
      ∙ ap (λ (r : List ℕ). r ++ f c) so_far ∙ append_assoc start (shown_to f text at) (f c) ∙ ap (λ (r : List ℕ). start ++ r) (sym shown_after)
