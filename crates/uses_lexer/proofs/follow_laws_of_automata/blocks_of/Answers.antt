use Rattle.std.specs.Global.{Vec}
use Rattle.std.specs.List.{Contains}
use Rattle.std.proofs.lemmas.Result.{IfOk-weaker}
use Rattle.lalrpop_hir.specs.Range.{Range}
use Rattle.lalrpop_nfa.proofs.PartitionLaws.{blocks_nonempty, blocks_disjoint, blocks_cover, block_in_or_out, blocks_unjoined, blocks_apart}
use Rattle.uses_lexer.proofs.follow_laws_of_automata.blocks_of.Goals as goal

pub returns : goal.returns
returns c =
    let keys = c.args.ranges.now.keys in
    record {
      few = c.remove_overlap.ensures.count;
      some = IfOk-weaker _ _ _ (λ (blocks : Vec Range) h. blocks_nonempty (Contains keys) blocks.items h) c.remove_overlap.ensures.partition;
      disjoint = IfOk-weaker _ _ _ (λ (blocks : Vec Range) h. blocks_disjoint (Contains keys) blocks.items h) c.remove_overlap.ensures.partition;
      cover = IfOk-weaker _ _ _ (λ (blocks : Vec Range) h. blocks_cover keys blocks.items h) c.remove_overlap.ensures.partition;
      in_or_out = IfOk-weaker _ _ _ (λ (blocks : Vec Range) h. block_in_or_out (Contains keys) blocks.items h) c.remove_overlap.ensures.partition;
      unjoined = IfOk-weaker _ _ _ (λ (blocks : Vec Range) h. blocks_unjoined (Contains keys) blocks.items h) c.remove_overlap.ensures.partition;
      apart = IfOk-weaker _ _ _ (λ (blocks : Vec Range) h. blocks_apart (Contains keys) blocks.items h) c.remove_overlap.ensures.partition;
    }
