use Rattle.std.proofs.Common.{codes}
use Rattle.reports_lib.proofs.Pushes.{four_pushed}
use Rattle.pieces_lib.proofs.fault.fault_message.Goals as goal

pub returns : goal.returns
returns c = record {
  message = four_pushed (codes "tokens: ") _ (codes "no rule matches \"") _ (codes "\"\n") c.in_ok-message.ensures
      c.in_ok-push_str.ensures.bytes c.in_ok-push_found.ensures.told c.in_ok-push_str-2.ensures.bytes;
}
