use Rattle.std.proofs.Common.{◌≡◌, Bool, List, ap, ◌∙◌}
use Rattle.lalrpop_hir.specs.Range.{Range}
use Rattle.lalrpop_hir.specs.Tree.{Tree}
use Rattle.lalrpop_re.specs.CharacterSet.{Set, set_tree, HasRuns}
use Rattle.lalrpop_re.specs.declared.flags.Flags.{Flags}
use Rattle.lalrpop_re.specs.declared.escape_sequence.EscapedPart.TheVariants as code
use Rattle.lalrpop_re.specs.Escape.{Escaped, character, set, assertion}
use Rattle.lalrpop_re.specs.Bracket.{leaf_or_complement}
use Rattle.lalrpop_re.specs.Pattern.{escaped_tree}
use Rattle.lalrpop_re.specs.Internal.Views.{StandsForEscaped}
use Rattle.lalrpop_re.proofs.parser.tree_of_escape.Goals as goal

tree_of_set : (t : Tree) (flags : Flags) (class leaf : List Range) (negated : Bool) → ((s : Set) → HasRuns class s → HasRuns leaf (leaf_or_complement flags s negated))
    → ((s : Set) → HasRuns leaf s → t ≡ set_tree s) → (e : Escaped) → StandsForEscaped (code.Set class negated) e → t ≡ escaped_tree flags e
tree_of_set t flags class leaf negated made h (character c) k = absurd k
tree_of_set t flags class leaf negated made h (set s b) k = h (leaf_or_complement flags s negated) (made s k.0) ∙ ap (λ n. set_tree (leaf_or_complement flags s n)) k.1
tree_of_set t flags class leaf negated made h (assertion l) k = absurd k

pub returns-in_ok-leaf-in-Set : goal.returns-in_ok-leaf-in-Set
returns-in_ok-leaf-in-Set c =
    rw c.in-Set.is (tree_of_set c.tree_of_class.result c.args.flags c.in-Set.class c.in_ok-leaf-in-Set.leaf c.in-Set.negated c.in_ok-leaf-in-Set.ensures.runs c.tree_of_class.ensures.tree)
