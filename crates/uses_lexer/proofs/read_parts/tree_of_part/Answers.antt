use Rattle.std.proofs.Common.{List, ℕ, subst, sym}
use Rattle.lalrpop_re.specs.Pattern.{PatternWith}
use Rattle.lalrpop_hir.specs.Tree.{Tree}
use Rattle.uses_lexer.proofs.read_parts.tree_of_part.Goals as goal

pub returns : goal.returns
returns c = λ parts name pattern is. subst (λ (t : Tree). PatternWith parts pattern t) (sym c.tree.ensures) is.spells
