-- cases: proofs/Cases/RuleSet.antt
-- Named rules, and what they say.
use Rattle.std.specs.Prelude.{◌≡◌, ℕ, ◌<◌, Bool, List, [], ◌∷◌, map, Some, slice_get, option_map}
use Rattle.std.specs.Borrow.{Bor}
use Rattle.std.specs.Str.{IsCharBoundary}
use Rattle.lalrpop_hir.specs.Tree.{Tree}
use Rattle.lalrpop_hir.specs.Report.{FirstFault}
use Rattle.lalrpop_re.specs.declared.from_to_error.FromToError.{FromToError}
use Rattle.lalrpop_rules.specs.TextTrees.{HasTree, IsBadEnd}
use Rattle.bajofeki_rules.specs.RuleText.{IsParsed}
use Rattle.bajofeki_rules.specs.declared.rule.Rule.{Rule}
use Rattle.bajofeki_rules.specs.declared.rule_text.RuleText.{RuleText}
use Rattle.bajofeki_rules.specs.declared.rule_text.RuleText.TheVariants.{FromTo}
use Rattle.lalrpop_rules.specs.declared.text_error.TextError.{TextError}
use Rattle.lalrpop_rules.specs.declared.text_error.TextError.TheVariants as texts

-- each rule's text has its tree
abbrev pub AreTrees : List Rule → List Tree → Type 0
AreTrees [] [] = Unit {0}
AreTrees (r ∷ rs) (t ∷ ts) = HasTree r.text t × AreTrees rs ts
AreTrees _ _ = ⊥

abbrev pub names_of : List Rule → List (List ℕ)
names_of rs = map (λ r. r.name.now) rs

abbrev pub precedences_of : List Rule → List ℕ
precedences_of rs = map (λ r. r.precedence.0) rs

abbrev pub skips_of : List Rule → List Bool
skips_of rs = map (λ r. r.is_skipped) rs

-- rule i is the first whose text has no tree, and this is its text
pub record IsFirstBad (rs : List Rule) (i : ℕ) (text : RuleText) : Type 0 where
  pub at : option_map (λ r. r.text) (slice_get rs i) ≡ Some text
  pub none : (t : Tree) → ¬ HasTree text t
  pub before : (j : ℕ) (r : Rule) → j < i → slice_get rs j ≡ Some r → (t : Tree) × HasTree r.text t

-- the first text without a tree is that of rule i, a pattern or a literal with escapes, and the place is where one of its
-- characters begins, or its end
abbrev pub IsNotParsed : List Rule → ℕ → ℕ → Type 0
IsNotParsed rs i position = (text : RuleText) × ((inner : List ℕ) × (IsFirstBad rs i text × IsParsed text inner × IsCharBoundary inner position))

-- the first text without a tree is that of rule i, whose end is bad
abbrev pub HasBadEnd : List Rule → ℕ → FromToError → Type 0
HasBadEnd rs i e = (from : Bor (List ℕ)) × ((to : Bor (List ℕ)) × (IsFirstBad rs i (FromTo from to) × IsBadEnd to.now e))

-- the error is right: the first rule whose text has no tree; else the first that can't be compiled; or memory was refused
abbrev pub IsTextError : List Rule → TextError → Type 0
IsTextError rs (texts.NotParsed i position kind) = IsNotParsed rs i position
IsTextError rs (texts.BadEnd i e) = HasBadEnd rs i e
IsTextError rs (texts.NotCompiled i e) = (ts : List Tree) × (AreTrees rs ts × FirstFault ts i e)
IsTextError rs texts.OutOfMemory = Unit {0}
