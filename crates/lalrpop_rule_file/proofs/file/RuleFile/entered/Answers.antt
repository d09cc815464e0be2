use Rattle.std.proofs.Common.{◌≡◌, length, arith}
use Rattle.lalrpop_rule_file.proofs.file.RuleFile.entered.Goals as goal

pub returns : goal.returns
returns c =
    let file = c.args.self.now in
    let count : c.len.result ≡ length file.modes.items = omega (arith, c.len.ensures, file.modes.ok.0) in
    record {
      same_length = rw count at c.entered_modes.ensures.same_length;
      each = rw (c.deref.ensures.value, c.in_ok-rules.ensures.modes, c.in_ok-rules.ensures.actions, count) at c.entered_modes.ensures.each;
    }
