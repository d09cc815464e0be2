-- Cases of specs/Arguments.antt.
use Rattle.std.proofs.Common.{◌≡◌, ℕ, Bool, true, false, List, [], ◌∷◌, get_or, refl, ap, codes, arith}
use Rattle.lexdfa_lib.specs.Arguments.{AreArguments}

-- one argument is the text, even if it is empty or `--all`
one_word : (text : List ℕ) → AreArguments (text ∷ []) false text
one_word text = refl

all_alone_is_a_text : (text : List ℕ) → (AreArguments (codes "--all" ∷ []) false (codes "--all")) × (¬ AreArguments (codes "--all" ∷ []) true text)
all_alone_is_a_text text = (refl, λ h. let e = h in absurd (cc))

-- the text after `--all`, which may be `--all` again
text_behind_all : AreArguments (codes "--all" ∷ codes "--all" ∷ []) true (codes "--all")
text_behind_all = refl

-- neither no arguments nor two others
no_word : (all : Bool) (text : List ℕ) → ¬ AreArguments [] all text
no_word false text h = let e = h in absurd (cc)
no_word true text h = let e = h in absurd (cc)

two_texts : (all : Bool) (text : List ℕ) → ¬ AreArguments (codes "class" ∷ codes "z" ∷ []) all text
two_texts false text h = let e = h in absurd (cc)
two_texts true text h = let e : codes "class" ≡ codes "--all" = ap (λ (l : List (List ℕ)). get_or l 0 []) h in let n : 99 ≡ 45 = ap (λ (l : List ℕ). get_or l 0 0) e in omega (arith, n)

three_words : (all : Bool) (text : List ℕ) → ¬ AreArguments (codes "--all" ∷ codes "a" ∷ codes "b" ∷ []) all text
three_words false text h = let e = h in absurd (cc)
three_words true text h = let e = h in absurd (cc)
