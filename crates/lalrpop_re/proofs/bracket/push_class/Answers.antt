use Rattle.lalrpop_re.proofs.ItemLaws.{extended}
use Rattle.lalrpop_re.proofs.bracket.push_class.Goals as goal

pub returns : goal.returns
returns c = extended c.extend_from_slice.result c.args.ranges.now.items c.extend_from_slice.new.self.items c.ranges-2.result.now c.args.class.now c.extend_from_slice.ensures.items c.ranges-2.ensures.value
