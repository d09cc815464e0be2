use Rattle.std.proofs.Common.{◌++◌, ◌∷◌, [], ap, ◌∙◌}
use Rattle.lalrpop_hir.specs.Range.{Range}
use Rattle.lalrpop_re.specs.CharacterSet.{range}
use Rattle.lalrpop_re.specs.Bracket.{leaf}
use Rattle.lalrpop_re.proofs.ItemLaws.{where_ok, Gains-plain}
use Rattle.lalrpop_re.proofs.bracket.push_leaf.Goals as goal

pub returns-then-flags : goal.returns-then-flags
returns-then-flags c = where_ok c.push_class.result c.push_class.ensures (λ g. g (leaf c.args.flags (range c.args.low c.args.high)) c.in_ok-class.ensures.runs)

pub returns : goal.returns
returns c =
    Gains-plain c.args.flags c.args.low c.args.high c.args.ranges.now.items c.push.new.self.items c.requires c.if-flags.false
    (c.in_ok-push.ensures.items ∙ ap (λ (r : Range). c.args.ranges.now.items ++ r ∷ []) c.new.ensures.ends)
