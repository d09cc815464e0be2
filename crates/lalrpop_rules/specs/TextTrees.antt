-- cases: proofs/Cases/TextTrees.antt
-- The trees that the text of a rule has.
use Rattle.std.specs.Prelude.{◌≡◌, ◌≢◌, ℕ, ◌<◌, ◌≤◌, ◌↔◌, List, [], length, All, None}
use Rattle.std.specs.Str.{IsUtf8, chars}
use Rattle.lalrpop_hir.specs.Tree.{Tree}
use Rattle.lalrpop_hir.specs.Language.{Matches}
use Rattle.lalrpop_hir.specs.Fault.{fault}
use Rattle.lalrpop_hir.specs.Runs.{IsScalar}
use Rattle.lalrpop_re.specs.UpTo.{IsFromTo}
use Rattle.lalrpop_re.specs.declared.from_to_error.FromToError.{FromToError}
use Rattle.lalrpop_re.specs.declared.from_to_error.FromToError.TheVariants.{EmptyEnd, LongEnd, OutOfMemory}
use Rattle.lalrpop_re.specs.AnyCase.{SameButForCase}
use Rattle.lalrpop_re.specs.Pattern as grammar
use Rattle.lalrpop_re.specs.Unescaped.{Unescapes}
use Rattle.lalrpop_lexer.specs.Spelled.{Spells}
use Rattle.lalrpop_lexer.specs.declared.form.Form.TheVariants as forms
use Rattle.bajofeki_rules.specs.declared.rule_text.RuleText.{RuleText}
use Rattle.bajofeki_rules.specs.declared.rule_text.RuleText.TheVariants.{Literal, Escaped, AnyCase, Pattern, PatternWith, FromTo}

-- it is the tree of the literal that the text says with its escapes
pub record IsEscapedTree (inner : List ℕ) (t : Tree) : Type 0 where
  pub literal : List ℕ
  pub utf8 : IsUtf8 literal
  pub says : Unescapes (chars inner) (chars literal)
  pub spells : Spells forms.Literal literal t

-- the tree matches the words that are the literal but for case, and can be compiled
pub record IsAnyCaseTree (inner : List ℕ) (t : Tree) : Type 0 where
  pub words : (w : List ℕ) → Matches t w ↔ SameButForCase (chars inner) w
  pub no_fault : fault t ≡ None

-- the tree matches the words from the beginning to the first end after it, no other list of values, and can be compiled; the end has
-- 1 to 64 characters
pub record IsFromToTree (start end : List ℕ) (t : Tree) : Type 0 where
  pub some : end ≢ []
  pub short : length (chars end) ≤ 64
  pub words : (w : List ℕ) → All IsScalar w → Matches t w ↔ IsFromTo (chars start) (chars end) w
  pub only : (w : List ℕ) → Matches t w → IsFromTo (chars start) (chars end) w
  pub no_fault : fault t ≡ None

-- the tree is one of the text: a literal or a pattern spells it
abbrev pub HasTree : RuleText → Tree → Type 0
HasTree (Literal text) t = Spells forms.Literal text.now t
HasTree (Escaped text) t = IsEscapedTree text.now t
HasTree (AnyCase text) t = IsAnyCaseTree text.now t
HasTree (Pattern text) t = Spells forms.Pattern text.now t
HasTree (PatternWith text parts) t = grammar.PatternWith parts.now (chars text.now) t
HasTree (FromTo from to) t = IsFromToTree from.now to.now t

-- what is wrong with an end
abbrev pub IsBadEnd : List ℕ → FromToError → Type 0
IsBadEnd end EmptyEnd = end ≡ []
IsBadEnd end LongEnd = 64 < length (chars end)
IsBadEnd end OutOfMemory = ⊥
