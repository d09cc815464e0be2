use Rattle.std.proofs.Common.{rules, sym, ◌∙◌}
use Rattle.std.proofs.lemmas.Iterator.{YieldsList-from_slice}
use Rattle.std.proofs.lemmas.Iterator.Search.{all_from_yields_List}
use borrow.Author.Tests.{tests}
use Rattle.lalrpop_re.specs.NamedPart.{continues_part}
use Rattle.lalrpop_re.proofs.PartSteps.{part_name_of_parts}
use Rattle.lalrpop_re.proofs.part.is_name.Goals as goal

pub returns-then-begins_part : goal.returns-then-begins_part
returns-then-begins_part c =
    part_name_of_parts c.args.name.now c.first-item.result c.all.result c.in-len1-up.len_at_least c.first-item.is (sym c.begins_part.ensures ∙ c.if-begins_part.true)
    (all_from_yields_List continues_part _ _ c.all.result c.all.ensures.ran (YieldsList-from_slice _ c.iter.ensures.rest) (λ x b q k. search (rules, tests)))
