-- The trees of the texts of rules.
use Rattle.std.proofs.Common.{◌≡◌, ℕ, zero, suc, ◌<◌, ◌+◌, List, [], ◌∷◌, ◌++◌, length, take, get_or, refl, ap, sym, subst, ◌∙◌, arith, length-take, Result, Ok, Err}
use Rattle.std.specs.Prelude.{IfOk, Some, slice_get}
use Rattle.std.specs.Option.{option_map}
use Rattle.std.proofs.lemmas.List.{take_more, get_or-take}
use Rattle.std.proofs.lemmas.Option.{slice_get-get_or, slice_get_read, get_or_from_slice_get}
use Rattle.std.specs.Str.{IsUtf8, chars}
use Rattle.lalrpop_hir.specs.Tree.{Tree}
use Rattle.lalrpop_hir.specs.Parts.{of_text}
use Rattle.lalrpop_re.specs.Unescaped.{Unescapes}
use Rattle.lalrpop_re.specs.declared.error.RegexError.{RegexError}
use Rattle.lalrpop_re.specs.declared.error.RegexError.TheVariants as read
use Rattle.lalrpop_re.specs.Refusal.{PointsInto, SaysNoText}
use Rattle.lalrpop_rules.specs.TextTrees.{HasTree, IsEscapedTree}
use Rattle.lalrpop_rules.specs.RuleSet.{AreTrees, IsFirstBad, IsTextError}
use Rattle.lalrpop_rules.specs.Internal.TextFaults.{IsEscapeFault, IsTextFault}
use Rattle.bajofeki_rules.specs.declared.rule.Rule.{Rule}
use Rattle.bajofeki_rules.specs.declared.rule_text.RuleText.{RuleText}
use Rattle.lalrpop_rules.specs.declared.text_error.TextError.{TextError}
use Rattle.lalrpop_rules.specs.declared.text_error.TextError.TheVariants.{NotParsed, BadEnd, NotCompiled, OutOfMemory}

-- ---- a literal with escapes

pub escaped_tree : (text literal : List ℕ) (r : Result Tree RegexError) → IsUtf8 literal → Unescapes (chars text) (chars literal) → IfOk r (λ t. t ≡ of_text literal) → IfOk r (IsEscapedTree text)
escaped_tree text literal (Ok t) utf8 says is = record { literal = literal; utf8 = utf8; says = says; spells = is }
escaped_tree text literal (Err e) utf8 says is = tt

pub escape_fault : (text : List ℕ) (e : RegexError) → SaysNoText (chars text) e → PointsInto text e → IsEscapeFault text e
escape_fault text (read.Syntax position kind) none points = (λ t is. none (chars is.literal) is.says, points)
escape_fault text read.OutOfMemory none points = tt

-- ---- one after another

-- one more
AreTrees-push : (rs : List Rule) (ts : List Tree) (r : Rule) (t : Tree) → AreTrees rs ts → HasTree r.text t → AreTrees (rs ++ r ∷ []) (ts ++ t ∷ [])
AreTrees-push [] [] r t are has = (has, tt)
AreTrees-push [] (u ∷ ts) r t are has = absurd are
AreTrees-push (q ∷ rs) [] r t are has = absurd are
AreTrees-push (q ∷ rs) (u ∷ ts) r t are has = (are.0, AreTrees-push rs ts r t are.1 has)

-- as many trees as rules
pub length-AreTrees : (rs : List Rule) (ts : List Tree) → AreTrees rs ts → length ts ≡ length rs
length-AreTrees [] [] are = refl
length-AreTrees [] (u ∷ ts) are = absurd are
length-AreTrees (q ∷ rs) [] are = absurd are
length-AreTrees (q ∷ rs) (u ∷ ts) are = ap suc (length-AreTrees rs ts are.1)

-- each rule has one
pub AreTrees-at : (rs : List Rule) (ts : List Tree) (j : ℕ) (r : Rule) → AreTrees rs ts → slice_get rs j ≡ Some r → (t : Tree) × HasTree r.text t
AreTrees-at [] ts j r are at = absurd (cc)
AreTrees-at (q ∷ rs) [] j r are at = absurd are
AreTrees-at (q ∷ rs) (u ∷ ts) zero r are at = let same : q ≡ r = cc in (u, subst (λ (x : Rule). HasTree x.text u) same are.0)
AreTrees-at (q ∷ rs) (u ∷ ts) (suc j) r are at = AreTrees-at rs ts j r are.1 at

-- one more, as a loop goes over them
pub trees_more : (rs : List Rule) (ts us : List Tree) (i : ℕ) (d : Rule) (t : Tree) → i < length rs → AreTrees (take i rs) ts
    → HasTree (get_or rs i d).text t → us ≡ ts ++ t ∷ [] → AreTrees (take (i + 1) rs) us
trees_more rs ts us i d t within are has e = rw (e, take_more rs i d within) (AreTrees-push (take i rs) ts (get_or rs i d) t are has)

-- the first that has none
first_bad : (rs : List Rule) (ts : List Tree) (i : ℕ) (d : Rule) (text : RuleText) → i < length rs → AreTrees (take i rs) ts
    → (get_or rs i d).text ≡ text → ((t : Tree) → ¬ HasTree (get_or rs i d).text t) → IsFirstBad rs i text
first_bad rs ts i d text within are is none = record {
  at = ap (option_map (λ (r : Rule). r.text)) (slice_get-get_or rs i d within) ∙ ap Some is;
  none = subst (λ (x : RuleText). (t : Tree) → ¬ HasTree x t) is none;
  before = λ j r below seen.
      AreTrees-at (take i rs) ts j r are
      (slice_get_read (take i rs) i j r (omega (arith, length-take i rs, within)) below
      (sym (get_or-take i rs j r below ∙ get_or_from_slice_get rs j r r seen)));
}

-- and its error
pub error_of_fault : (rs : List Rule) (ts : List Tree) (i : ℕ) (d : Rule) (e : TextError) → i < length rs → AreTrees (take i rs) ts
    → IsTextFault i (get_or rs i d).text e → IsTextError rs e
error_of_fault rs ts i d (NotParsed j position kind) within are (same, none, (inner, (is, points))) =
    ((get_or rs i d).text, (inner, (rw same (first_bad rs ts i d _ within are refl none), is, points)))
error_of_fault rs ts i d (BadEnd j e) within are (same, none, (from, (to, (is, bad)))) =
    (from, (to, (rw same (first_bad rs ts i d _ within are is none), bad)))
error_of_fault rs ts i d (NotCompiled j e) within are fault = absurd fault
error_of_fault rs ts i d OutOfMemory within are fault = tt
