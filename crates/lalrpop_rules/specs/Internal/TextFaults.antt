-- Why the text of one rule has no tree.
use Rattle.std.specs.Prelude.{◌≡◌, ℕ, List}
use Rattle.std.specs.Borrow.{Bor}
use Rattle.std.specs.Str.{IsCharBoundary}
use Rattle.lalrpop_hir.specs.Tree.{Tree}
use Rattle.lalrpop_re.specs.declared.from_to_error.FromToError.{FromToError}
use Rattle.lalrpop_re.specs.declared.from_to_error.FromToError.TheVariants as ends
use Rattle.lalrpop_re.specs.declared.error.RegexError.{RegexError}
use Rattle.lalrpop_re.specs.declared.error.RegexError.TheVariants as read
use Rattle.lalrpop_rules.specs.TextTrees.{HasTree, IsBadEnd, IsEscapedTree}
use Rattle.bajofeki_rules.specs.RuleText.{IsParsed}
use Rattle.bajofeki_rules.specs.declared.rule_text.RuleText.{RuleText}
use Rattle.bajofeki_rules.specs.declared.rule_text.RuleText.TheVariants.{FromTo}
use Rattle.lalrpop_rules.specs.declared.text_error.TextError.{TextError}
use Rattle.lalrpop_rules.specs.declared.text_error.TextError.TheVariants.{NotParsed, BadEnd, NotCompiled, OutOfMemory}

-- the error of rule i for an error of its pattern or its escapes
abbrev pub of_syntax : ℕ → RegexError → TextError
of_syntax i (read.Syntax position kind) = NotParsed i position kind
of_syntax i read.OutOfMemory = OutOfMemory

-- and of its end
abbrev pub of_end : ℕ → FromToError → TextError
of_end i ends.EmptyEnd = BadEnd i ends.EmptyEnd
of_end i ends.LongEnd = BadEnd i ends.LongEnd
of_end i ends.OutOfMemory = OutOfMemory

-- a literal with escapes says nothing, and the error points into it; or memory was refused
abbrev pub IsEscapeFault : List ℕ → RegexError → Type 0
IsEscapeFault text (read.Syntax position kind) = ((t : Tree) → ¬ IsEscapedTree text t) × IsCharBoundary text position
IsEscapeFault text read.OutOfMemory = Unit {0}

-- the error is that of rule i, which has this text, or memory was refused
abbrev pub IsTextFault : ℕ → RuleText → TextError → Type 0
IsTextFault i text (NotParsed j position kind) =
    (j ≡ i) × ((t : Tree) → ¬ HasTree text t) × ((inner : List ℕ) × (IsParsed text inner × IsCharBoundary inner position))
IsTextFault i text (BadEnd j e) =
    (j ≡ i) × ((t : Tree) → ¬ HasTree text t) × ((from : Bor (List ℕ)) × ((to : Bor (List ℕ)) × ((text ≡ FromTo from to) × IsBadEnd to.now e)))
IsTextFault i text (NotCompiled j e) = ⊥
IsTextFault i text OutOfMemory = Unit {0}
