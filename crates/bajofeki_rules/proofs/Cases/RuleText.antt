-- Cases of specs/RuleText.antt.
use Rattle.std.proofs.Common.{◌≡◌, ℕ, List, get_or, codes, refl, sym, ap, arith, ◌∙◌}
use Rattle.std.specs.Borrow.{Bor}
use Rattle.bajofeki_rules.specs.RuleText.{IsAnyCase, IsBetween, IsEscaped, IsLiteral, IsParsed, IsPattern}
use Rattle.bajofeki_rules.specs.declared.rule_text.RuleText.TheVariants.{Literal, Escaped, AnyCase, Pattern, FromTo}

literal_is_no_pattern : (text : Bor (List ℕ)) → IsLiteral (Literal text) text.now × ¬ IsPattern (Literal text) text.now
literal_is_no_pattern text = (refl, λ h. h)

pattern_is_no_literal : (text : Bor (List ℕ)) → IsPattern (Pattern text) text.now × ¬ IsLiteral (Pattern text) text.now
pattern_is_no_literal text = (refl, λ h. h)

comment_is_between : (from to : Bor (List ℕ)) → from.now ≡ codes "/*" → to.now ≡ codes "*/" → IsBetween (FromTo from to) (codes "/*") (codes "*/")
comment_is_between from to e f = (e, f)

ends_do_not_change_places : (from to : Bor (List ℕ)) → from.now ≡ codes "a" → to.now ≡ codes "b" → ¬ IsBetween (FromTo from to) (codes "b") (codes "a")
ends_do_not_change_places from to e f is = let no : 97 ≡ 98 = ap (λ (l : List ℕ). get_or l 0 0) (sym e ∙ is.0) in omega (arith, no)

-- a literal with escapes, and one in any case, are no plain literals
escaped_is_no_literal : (text : Bor (List ℕ)) → IsEscaped (Escaped text) text.now × ¬ IsLiteral (Escaped text) text.now
escaped_is_no_literal text = (refl, λ h. h)

any_case_is_no_literal : (text : Bor (List ℕ)) → IsAnyCase (AnyCase text) text.now × ¬ IsLiteral (AnyCase text) text.now
any_case_is_no_literal text = (refl, λ h. h)

-- escapes are parsed, and a plain literal isn't
escapes_are_parsed : (text : Bor (List ℕ)) → IsParsed (Escaped text) text.now × ¬ IsParsed (Literal text) text.now
escapes_are_parsed text = (refl, λ h. h)
