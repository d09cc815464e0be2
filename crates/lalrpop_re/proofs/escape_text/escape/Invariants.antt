use Rattle.std.proofs.Common.{◌≡◌, string_bytes, encode_utf8_all}
use Rattle.lalrpop_re.specs.Escaped.{escaped}
use Rattle.lalrpop_re.proofs.escape_text.escape.Given as goal

abbrev pub invariant-loop-c : goal.invariant-loop-c
invariant-loop-c l = string_bytes l.pattern ≡ encode_utf8_all (escaped l.yielded)
