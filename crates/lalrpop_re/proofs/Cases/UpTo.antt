-- Cases of specs/UpTo.antt.
use Rattle.std.proofs.Common.{◌≡◌, ℕ, List, [], ◌∷◌, ◌++◌, length, get_or, drop, refl, sym, ap, arith, length-append}
use Rattle.std.proofs.lemmas.List.{nil_from_length}
use Rattle.lalrpop_re.specs.UpTo.{OccursOnlyLast, IsFromTo}

abbrev a : ℕ
a = 97

abbrev b : ℕ
b = 98

-- a text that begins with `a` is none that begins with `b`
apart : (x y : List ℕ) → ¬ (a ∷ x ≡ b ∷ y)
apart x y e = omega (arith, ap (λ l. get_or l 0 0) e)

-- `b` occurs only last in `aab`, and in `aa` not at all
end_occurs_only_last : OccursOnlyLast (b ∷ []) (a ∷ a ∷ b ∷ []) × OccursOnlyLast (b ∷ []) (a ∷ a ∷ [])
end_occurs_only_last = (once, never)
  where
    once : OccursOnlyLast (b ∷ []) (a ∷ a ∷ b ∷ [])
    once [] y e = absurd (apart (a ∷ b ∷ []) y e)
    once (c ∷ []) y e = absurd (apart (b ∷ []) y (ap (drop 1) e))
    once (c ∷ d ∷ []) y e = cc
    once (c ∷ d ∷ f ∷ v) y e = nil_from_length y (omega (arith, ap length e, length-append (v ++ b ∷ []) y, length-append v (b ∷ [])))

    never : OccursOnlyLast (b ∷ []) (a ∷ a ∷ [])
    never [] y e = absurd (apart (a ∷ []) y e)
    never (c ∷ []) y e = absurd (apart [] y (ap (drop 1) e))
    never (c ∷ d ∷ v) y e = nil_from_length y (omega (arith, ap length e, length-append (v ++ b ∷ []) y, length-append v (b ∷ [])))

-- `ba` goes on behind it
end_occurs_earlier : ¬ OccursOnlyLast (b ∷ []) (b ∷ a ∷ [])
end_occurs_earlier h = let none : a ∷ [] ≡ [] = h [] (a ∷ []) refl in absurd (cc)

-- from `a` to `b`: `aab`
word_from_a_to_b : IsFromTo (a ∷ []) (b ∷ []) (a ∷ a ∷ b ∷ [])
word_from_a_to_b = (a ∷ [], (refl, only))
  where
    only : OccursOnlyLast (b ∷ []) (a ∷ b ∷ [])
    only [] y e = absurd (apart (b ∷ []) y e)
    only (c ∷ []) y e = cc
    only (c ∷ d ∷ v) y e = nil_from_length y (omega (arith, ap length e, length-append (v ++ b ∷ []) y, length-append v (b ∷ [])))

-- an end that overlaps itself: from nothing to `aa`, `aaa` is no word, since `aa` is its first end
end_that_overlaps_itself : ¬ IsFromTo [] (a ∷ a ∷ []) (a ∷ a ∷ a ∷ [])
end_that_overlaps_itself ([], (e, only)) = absurd (cc)
end_that_overlaps_itself (c ∷ u, (e, only)) =
    let same : (c ∷ u) ++ (a ∷ a ∷ []) ≡ [] ++ (a ∷ a ∷ []) ++ (a ∷ []) = cc in
    let none : a ∷ [] ≡ [] = only [] (a ∷ []) same in
    absurd (cc)

-- the beginning has to be there
word_without_its_beginning : ¬ IsFromTo (a ∷ []) (b ∷ []) (b ∷ [])
word_without_its_beginning (u, (e, only)) = apart (u ++ b ∷ []) [] (sym e)

-- and the end too
word_without_its_end : ¬ IsFromTo [] (b ∷ []) []
word_without_its_end ([], (e, only)) = absurd (cc)
word_without_its_end (c ∷ u, (e, only)) = absurd (cc)
