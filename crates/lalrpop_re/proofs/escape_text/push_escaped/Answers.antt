use Rattle.std.proofs.Common.{sym, ◌∙◌, string_bytes}
use Rattle.lalrpop_re.proofs.EscapedLemmas.{plain_pushed, escaped_pushed}
use Rattle.lalrpop_re.proofs.escape_text.push_escaped.Goals as goal

pub returns-then-not-is_escaped : goal.returns-then-not-is_escaped
returns-then-not-is_escaped c =
    plain_pushed c.push.result c.args.c (string_bytes c.args.pattern.now) (string_bytes c.push.new.self) (sym c.is_escaped.ensures ∙ c.if-not-is_escaped.true) c.push.ensures.bytes

pub returns : goal.returns
returns c =
    escaped_pushed c.push-3.result c.args.c (string_bytes c.args.pattern.now) (string_bytes c.push-2.new.self) (string_bytes c.push-3.new.self) (sym c.is_escaped.ensures ∙ c.if-not-is_escaped.false)
    c.in_ok-push.ensures.bytes c.push-3.ensures.bytes
