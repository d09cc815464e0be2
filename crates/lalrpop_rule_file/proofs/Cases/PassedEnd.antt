-- Cases of specs/PassedEnd.antt.
use Rattle.std.proofs.Common.{◌≡◌, ℕ, inr, List, [], codes, get_or, refl, ap, arith}
use Rattle.lalrpop_rule_file.specs.PassedEnd.{ArePlain, IsBetweenPlain, PassesEnd, after_plain}

plain_up_to_the_dot : after_plain (codes "\\/\\*.*\\*\\/") ≡ codes ".*\\*\\/"
plain_up_to_the_dot = refl

escaped_dot_is_plain : after_plain (codes "a\\.b") ≡ []
escaped_dot_is_plain = refl

line_feed_is_not : after_plain (codes "a\\n") ≡ codes "\\n"
line_feed_is_not = refl

last_backslash_is_not : after_plain (codes "a\\") ≡ codes "\\"
last_backslash_is_not = refl

quoted : IsBetweenPlain (codes "\".*\"")
quoted = (λ same. let k : 46 ≡ 34 = ap (λ (x : List ℕ). get_or x 0 0) same in omega (arith, k), (codes ".*", ((0, omega arith, refl), (codes "\"", (refl, (λ none. absurd (cc), refl))))))

of_all_lines : IsBetweenPlain (codes "<(.|\\n)*>")
of_all_lines = (λ same. let k : 40 ≡ 60 = ap (λ (x : List ℕ). get_or x 0 0) same in omega (arith, k), (codes "(.|\\n)*", ((6, omega arith, refl), (codes ">", (refl, (λ none. absurd (cc), refl))))))

nothing_before_it : ¬ IsBetweenPlain (codes ".*\"")
nothing_before_it stands = stands.0 refl

nothing_after_it : ¬ ArePlain []
nothing_after_it plain = plain.0 refl

comment_on_lines : PassesEnd (codes "(?s)\\/\\*.+\\*\\/")
comment_on_lines =
    inr (codes "\\/\\*.+\\*\\/", (refl, (λ same. let k : 46 ≡ 92 = ap (λ (x : List ℕ). get_or x 0 0) same in omega (arith, k), (codes ".+", ((1, omega arith, refl), (codes "\\*\\/", (refl, (λ none. absurd (cc), refl))))))))
