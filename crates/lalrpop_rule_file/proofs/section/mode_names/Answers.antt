use Rattle.std.proofs.Common.{sym, rules}
use Rattle.lalrpop_rule_file.proofs.Sections.{listed_none, listed_more, shorter}
use Rattle.lalrpop_rule_file.proofs.section.mode_names.Goals as goal

pub loop-rest-init : goal.loop-rest-init
loop-rest-init c = record { text = c.utf8.text; listed = rw c.new-modes.ensures.items (listed_none c.args.text.now c.requires) }

pub loop-rest-preserved : goal.loop-rest-preserved
loop-rest-preserved c = record {
  text = search rules;
  listed = listed_more _ _ _ _ _ _ _ _ c.loop-rest.invariant.listed (sym c.loop-rest-test.ensures) c.split_front.ensures.span c.split_front-in-loop-rest.ensures.span c.in_ok-push.ensures.items;
}

pub loop-rest-smaller : goal.loop-rest-smaller
loop-rest-smaller c =
    shorter _ _ _ _ _ (sym c.loop-rest-test.ensures) c.split_front.ensures.span c.split_front-in-loop-rest.ensures.span
