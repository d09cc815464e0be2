use Rattle.std.proofs.Common.{◌≡◌, ℕ, ◌<◌, ◌≤◌, List, [], ◌∷◌, length, map, get_or, sym, ◌∙◌, codes, arith}
use Rattle.std.specs.Cmp.Lexicographic.{bytes_decides}
use Rattle.lexdfa_lib.proofs.command_line.arguments.Goals as goal

-- a list of two items is made of both
two_items : {X : Type 0} (g : X → List ℕ) (xs : List X) (a b : X) (v w : List ℕ) → 2 ≤ length xs → length xs < 3 → a ≡ get_or xs 0 a → b ≡ get_or xs 1 b → g a ≡ v → g b ≡ w
    → map g xs ≡ v ∷ w ∷ []
two_items g [] a b v w l m d e f h = absurd (omega arith)
two_items g (x ∷ []) a b v w l m d e f h = absurd (omega arith)
two_items g (x ∷ y ∷ []) a b v w l m d e f h = cc
two_items g (x ∷ y ∷ z ∷ xs) a b v w l m d e f h = absurd (omega arith)

pub returns-in-len2-clause-text : goal.returns-in-len2-clause-text
returns-in-len2-clause-text c =
    let flag = c.as_str-then-words-lt3.ensures.value in
    let same = (bytes_decides c.as_str-then-words-lt3.result.now (codes "--all")).0 (sym c.if-eq.ensures) in
    two_items _ c.args.words.now c.flag-item.result c.text-item-then-words-lt3.result _ _ c.in-len2.len_at_least c.in-len2.len_below c.flag-item.is c.text-item-then-words-lt3.is
    (sym flag ∙ same) (sym c.as_str-in-len2.ensures.value)
