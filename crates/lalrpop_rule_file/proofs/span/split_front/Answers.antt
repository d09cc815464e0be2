use Rattle.std.proofs.Common.{ℕ, sym, subst}
use Rattle.std.specs.Str.{IsCharBoundary}
use Rattle.lalrpop_rule_file.specs.Internal.Spans.{members}
use Rattle.lalrpop_rule_file.proofs.Bytes.{members_ascii}
use Rattle.lalrpop_rule_file.proofs.Spans.{boundary_behind, span_at}
use Rattle.lalrpop_rule_file.proofs.span.split_front.Goals as goal

pub split_at-requires : goal.split_at-requires
split_at-requires c =
    let text = c.args.text.now in
    subst (λ (n : ℕ). IsCharBoundary text n) (sym c.front_len.ensures) (boundary_behind (members c.args.class) (members_ascii c.args.class) text c.utf8.text)

pub returns : goal.returns
returns c = rw (c.split_at.ensures.front, c.split_at.ensures.back, c.front_len.ensures) (record { span = span_at (members c.args.class) c.args.text.now })
