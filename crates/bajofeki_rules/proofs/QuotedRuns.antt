-- A slice is quoted run by run: characters that are written as they are, and then one that isn't.
use Rattle.std.proofs.Common.{◌≡◌, ℕ, ◌+◌, ◌≤◌, List, [], ◌∷◌, ◌++◌, length, take, drop, sym, ap, ◌∙◌, arith, append_assoc, length-append, flat_map, codes}
use Rattle.std.specs.Char.{encode_utf8}
use Rattle.std.specs.Str.{chars}
use Rattle.std.proofs.lemmas.Grind.{flat_map-append}
use Rattle.std.proofs.lemmas.List.{append-nil, drop-append-le}
use Rattle.std.proofs.Math.ListN.{drop_of_length-le}
use Rattle.std.proofs.Math.Seq.{take-append-add, take-append_seam}
use Rattle.lalrpop_hir.proofs.Cuts.{IsCut, word_after}
use Rattle.bajofeki_rules.specs.Quoted.{told}

-- the slice up to this byte in quotes, but for the last quote
abbrev pub up_to : List ℕ → ℕ → List ℕ
up_to slice at = codes "\"" ++ flat_map told (chars (take at slice))

module _ (slice rest rest2 : List ℕ) (at at2 c : ℕ) (cut : IsCut slice at rest) (split : rest ≡ encode_utf8 c ++ rest2) (next : at2 ≡ at + length (encode_utf8 c)) where
  bytes_after : take at2 slice ≡ take at slice ++ encode_utf8 c
  bytes_after =
      let size : at2 ≡ length (take at slice) + length (encode_utf8 c) = omega (arith, cut.place, next) in
      let whole : slice ≡ take at slice ++ (encode_utf8 c ++ rest2) = cut.split ∙ ap (λ (r : List ℕ). take at slice ++ r) split in
      ap (λ (n : ℕ). take n slice) size ∙ ap (take (length (take at slice) + length (encode_utf8 c))) whole
      ∙ take-append-add (take at slice) (encode_utf8 c ++ rest2) (length (encode_utf8 c))
      ∙ ap (λ (r : List ℕ). take at slice ++ r) (take-append_seam (encode_utf8 c) rest2)

  told_after : up_to slice at2 ≡ up_to slice at ++ told c
  told_after =
      ap (λ (w : List ℕ). codes "\"" ++ flat_map told w) (word_after slice rest rest2 at at2 c cut split next)
      ∙ ap (λ (t : List ℕ). codes "\"" ++ t) (flat_map-append told (chars (take at slice)) (c ∷ []) ∙ ap (λ (t : List ℕ). flat_map told (chars (take at slice)) ++ t) (append-nil (told c)))
      ∙ sym (append_assoc (codes "\"") (flat_map told (chars (take at slice))) (told c))

  pub run_more : (bytes start : List ℕ) (from : ℕ) → from ≤ at → told c ≡ encode_utf8 c → bytes ++ drop from (take at slice) ≡ start ++ up_to slice at
      → bytes ++ drop from (take at2 slice) ≡ start ++ up_to slice at2
  run_more bytes start from low plain so_far =
      let run : drop from (take at2 slice) ≡ drop from (take at slice) ++ encode_utf8 c =
      ap (drop from) bytes_after ∙ drop-append-le from (take at slice) (encode_utf8 c) (omega (arith, cut.place, low)) in
      ap (λ (r : List ℕ). bytes ++ r) run ∙ sym (append_assoc bytes (drop from (take at slice)) (encode_utf8 c))
      ∙ ap (λ (r : List ℕ). r ++ encode_utf8 c) so_far ∙ append_assoc start (up_to slice at) (encode_utf8 c)
      ∙ ap (λ (r : List ℕ). start ++ r) (ap (λ (t : List ℕ). up_to slice at ++ t) (sym plain) ∙ sym told_after)

  pub run_ends : (bytes start : List ℕ) (from : ℕ) → bytes ++ drop from (take at slice) ≡ start ++ up_to slice at
      → ((bytes ++ drop from (take at slice)) ++ told c) ++ drop at2 (take at2 slice) ≡ start ++ up_to slice at2
  run_ends bytes start from so_far =
      let none : drop at2 (take at2 slice) ≡ [] = drop_of_length-le (take at2 slice) {i = at2} (omega (arith, ap length bytes_after, length-append (take at slice) (encode_utf8 c), cut.place, next)) in
      ap (λ (r : List ℕ). ((bytes ++ drop from (take at slice)) ++ told c) ++ r) none ∙ append-nil _
      ∙ ap (λ (r : List ℕ). r ++ told c) so_far ∙ append_assoc start (up_to slice at) (told c) ∙ ap (λ (r : List ℕ). start ++ r) (sym told_after)
