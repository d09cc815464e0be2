-- cases: proofs/Cases/RuleText.antt
-- The text of a rule.
use Rattle.std.specs.Prelude.{◌≡◌, ℕ, List}
use Rattle.lalrpop_re.specs.NamedPart.{NamedPart}
use Rattle.bajofeki_rules.specs.declared.rule_text.RuleText.{RuleText}
use Rattle.bajofeki_rules.specs.declared.rule_text.RuleText.TheVariants.{Literal, Escaped, AnyCase, Pattern, PatternWith, FromTo}

-- it is this literal
abbrev pub IsLiteral : RuleText → List ℕ → Type 0
IsLiteral (Literal text) inner = text.now ≡ inner
IsLiteral _ inner = ⊥

-- it is this literal, with escapes
abbrev pub IsEscaped : RuleText → List ℕ → Type 0
IsEscaped (Escaped text) inner = text.now ≡ inner
IsEscaped _ inner = ⊥

-- it is this literal, in any case
abbrev pub IsAnyCase : RuleText → List ℕ → Type 0
IsAnyCase (AnyCase text) inner = text.now ≡ inner
IsAnyCase _ inner = ⊥

-- it is this pattern
abbrev pub IsPattern : RuleText → List ℕ → Type 0
IsPattern (Pattern text) inner = text.now ≡ inner
IsPattern _ inner = ⊥

-- it is this pattern, with these parts
abbrev pub IsPatternWith : RuleText → List ℕ → List NamedPart → Type 0
IsPatternWith (PatternWith text parts) inner known = (text.now ≡ inner) × (parts.now ≡ known)
IsPatternWith _ inner known = ⊥

-- it is parsed: it is this literal with escapes, or this pattern, with parts or without
abbrev pub IsParsed : RuleText → List ℕ → Type 0
IsParsed (Escaped text) inner = text.now ≡ inner
IsParsed (Pattern text) inner = text.now ≡ inner
IsParsed (PatternWith text parts) inner = text.now ≡ inner
IsParsed _ inner = ⊥

-- it is all from this beginning to this end
abbrev pub IsBetween : RuleText → List ℕ → List ℕ → Type 0
IsBetween (FromTo from to) start end = (from.now ≡ start) × (to.now ≡ end)
IsBetween _ start end = ⊥
