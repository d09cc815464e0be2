use Rattle.std.proofs.Common.{arith}
use Rattle.lalrpop_rules.specs.ModeSet.{AreOneModeKind}
use Rattle.lalrpop_rules.proofs.KindLaws.{first_found, none_more}
use Rattle.lalrpop_rules.proofs.mode_kinds.first_of_kind.Goals as goal

pub returns-then-are_one_mode_kind : goal.returns-then-are_one_mode_kind
returns-then-are_one_mode_kind c = record {
  first = first_found AreOneModeKind c.args.rules.now c.args.index c.loop-other.other _ _ (omega (arith, c.loop-other-test.true, c.requires.within)) c.index-rules-other.is
      c.index-rules-index.is c.if-are_one_mode_kind.ensures c.loop-other.invariant;
}

pub loop-other-preserved : goal.loop-other-preserved
loop-other-preserved c = none_more AreOneModeKind c.args.rules.now c.args.index c.loop-other.other _ _ c.index-rules-other.is c.index-rules-index.is c.if-are_one_mode_kind.ensures c.loop-other.invariant
