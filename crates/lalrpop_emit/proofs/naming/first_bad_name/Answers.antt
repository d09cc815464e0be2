use Rattle.std.proofs.Common.{map, string_bytes, arith, subst}
use Rattle.std.proofs.lemmas.List.{length-map}
use Rattle.lalrpop_emit.specs.Names.{IsName}
use Rattle.lalrpop_emit.proofs.NameLists.{more_names, all_names}
use Rattle.lalrpop_emit.proofs.naming.first_bad_name.Goals as goal

pub loop-rule-preserved : goal.loop-rule-preserved
loop-rule-preserved c =
    more_names c.args.names.now c.loop-rule.rule c.index-names-rule.result (omega arith) c.index-names-rule.is
    (subst IsName c.deref.ensures (c.is_name.ensures.0 c.if-not-is_name.false)) c.loop-rule.invariant

pub returns : goal.returns
returns c = all_names (map string_bytes c.args.names.now) c.loop-rule.rule (omega (arith, length-map c.args.names.now string_bytes)) c.loop-rule.invariant
