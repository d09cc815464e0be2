-- Cases of specs/GoesOn.antt.
use Rattle.std.proofs.Common.{◌≡◌, ℕ, ◌+◌, ◌<◌, inl, inr, true, List, [], ◌∷◌, ◌++◌, length, length-append, get_or, codes, refl, sym, ap, ◌∙◌, arith}
use Rattle.lalrpop_rule_file.specs.Words.{AreBlanks, is_blank}
use Rattle.lalrpop_rule_file.specs.GoesOn.{EndsInBackslash, GoesOn, LooksLikeMore, LooksLikeRule, SeemsToEnd}

a_letter_escapes_nothing : ¬ EndsInBackslash (codes "a")
a_letter_escapes_nothing ([], is) = let k : 97 ≡ 92 = ap (λ (x : List ℕ). get_or x 0 0) is in omega (arith, k)
a_letter_escapes_nothing (b ∷ bs, is) =
    let n : 1 ≡ 1 + length (bs ++ codes "\\") = ap length is ∙ (omega arith) in let m = length-append bs (codes "\\") in omega (arith, n, m)

-- A = 'a' # 'b'
comment_after : LooksLikeMore (codes " # 'b")
comment_after = record { gap = codes " "; here = codes "# 'b"; blanks = record { parts = refl; passes = (refl, tt); stops = refl }; some = omega arith; more = inl (codes " 'b", refl) }

comment_is_text : GoesOn 39 (codes "a' # 'b")
comment_is_text = (codes "a", codes "' # 'b", (refl, (codes " # 'b", (refl, (a_letter_escapes_nothing, comment_after)))))

-- A = /a/ B= /b/
rule_here : LooksLikeRule (codes "B= /b")
rule_here = record {
  name = codes "B";
  after = codes "= /b";
  gap = [];
  rest = codes " /b";
  is_name = refl;
  named = record { parts = refl; passes = (refl, tt); stops = refl };
  equals = record { parts = refl; passes = tt; stops = refl };
}

rule_after : LooksLikeMore (codes " B= /b")
rule_after = record { gap = codes " "; here = codes "B= /b"; blanks = record { parts = refl; passes = (refl, tt); stops = refl }; some = omega arith; more = inr rule_here }

rule_is_text : GoesOn 47 (codes "a/ B= /b")
rule_is_text = (codes "a", codes "/ B= /b", (refl, (codes " B= /b", (refl, (a_letter_escapes_nothing, rule_after)))))

-- A = 'x'#'
without_a_blank : ¬ LooksLikeMore (codes "#")
without_a_blank more = by more.gap more.here more.blanks.parts more.blanks.passes more.some
  where
    by : (gap here : List ℕ) → codes "#" ≡ gap ++ here → AreBlanks gap → 0 < length gap → ⊥
    by [] here parts blanks some = omega (arith, some)
    by (b ∷ gap) here parts blanks some = let same : b ≡ 35 = cc in let k : is_blank 35 ≡ true = ap is_blank (sym same) ∙ blanks.0 in absurd (cc)
