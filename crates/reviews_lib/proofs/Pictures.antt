-- Pictures, one after the other.
use Rattle.std.proofs.Common.{◌≡◌, ℕ, ◌+◌, Bool, true, false, cond, List, [], ◌∷◌, ◌++◌, map, length, refl, sym, ap, subst, ◌∙◌}
use Rattle.std.specs.Prelude.{filter}
use Rattle.std.specs.List.{concat, range_with_len}
use Rattle.std.proofs.lemmas.List.{append-nil}
use Rattle.std.proofs.lemmas.List.Elements.{filter-append}
use Rattle.std.proofs.lemmas.List.Folds.{concat-append}
use Rattle.std.proofs.lemmas.Slice.Zip.{all_zipped_more}
use Rattle.lalrpop_rule_file.proofs.ModeNumbers.{range_from_0}
use Rattle.reviews_lib.specs.Pictured.{ArePictures}

module _ (Is : ℕ → List ℕ → Type 0) where
  -- one more
  more : (numbers : List ℕ) (n : ℕ) (text one : List ℕ) → ArePictures Is numbers text → Is n one → ArePictures Is (numbers ++ n ∷ []) (text ++ one)
  more numbers n text one (ones, (are, is)) drawn = (
    ones ++ one ∷ [],
    (
      all_zipped_more Is numbers ones n one are drawn,
      ap (λ (t : List ℕ). t ++ one) is ∙ ap (λ (t : List ℕ). concat ones ++ t) (sym (append-nil one)) ∙ sym (concat-append ones (one ∷ [])),
    ),
  )

  pub pictures_more : (n : ℕ) (text one : List ℕ) → ArePictures Is (range_with_len 0 n) text → Is n one → ArePictures Is (range_with_len 0 (n + 1)) (text ++ one)
  pictures_more n text one are drawn =
      subst (λ (numbers : List ℕ). ArePictures Is numbers (text ++ one)) (sym (range_from_0 n)) (more (range_with_len 0 n) n text one are drawn)

  -- those of the numbers that pass a test
  module _ (p : ℕ → Bool) where
    numbers_more : (n : ℕ) (b : Bool) → p n ≡ b → filter p (range_with_len 0 (n + 1)) ≡ filter p (range_with_len 0 n) ++ cond b (n ∷ []) []
    numbers_more n b is =
        ap (filter p) (range_from_0 n) ∙ filter-append p (range_with_len 0 n) (n ∷ []) ∙ ap (λ (b : Bool). filter p (range_with_len 0 n) ++ cond b (n ∷ []) []) is

    pub passing_more : (n : ℕ) (text one : List ℕ) → p n ≡ true → ArePictures Is (filter p (range_with_len 0 n)) text → Is n one
        → ArePictures Is (filter p (range_with_len 0 (n + 1))) (text ++ one)
    passing_more n text one passes are drawn =
        subst (λ (numbers : List ℕ). ArePictures Is numbers (text ++ one)) (sym (numbers_more n true passes)) (more (filter p (range_with_len 0 n)) n text one are drawn)

    pub others_more : (n : ℕ) (text : List ℕ) → p n ≡ false → ArePictures Is (filter p (range_with_len 0 n)) text → ArePictures Is (filter p (range_with_len 0 (n + 1))) text
    others_more n text other are =
        subst (λ (numbers : List ℕ). ArePictures Is numbers text) (sym (numbers_more n false other ∙ append-nil (filter p (range_with_len 0 n)))) are
