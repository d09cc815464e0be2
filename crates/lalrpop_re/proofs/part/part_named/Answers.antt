use Rattle.std.proofs.Common.{rules, bytes_eq}
use Rattle.std.proofs.lemmas.Iterator.{YieldsList-from_slice}
use Rattle.std.proofs.lemmas.Iterator.Search.{find_from_yields_List}
use borrow.Author.Tests.{tests}
use Rattle.lalrpop_re.proofs.part.part_named.Goals as goal

pub returns : goal.returns
returns c =
    find_from_yields_List (λ p. bytes_eq p.name c.args.name.now) _ _ c.find.result c.find.ensures.ran (YieldsList-from_slice c.args.parts.now c.iter.ensures.rest) (λ x b q k. search (rules, tests))
