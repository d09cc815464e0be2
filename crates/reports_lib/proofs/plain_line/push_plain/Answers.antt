use Rattle.std.proofs.Common.{ℕ, List, ◌++◌, decimal, ap, ◌∙◌}
use Rattle.reports_lib.proofs.Pushes.{six_pushed, around_numbers}
use Rattle.reports_lib.proofs.plain_line.push_plain.Goals as goal

pub returns : goal.returns
returns c =
    six_pushed c.args.lines.now.items _ _ _ _ _ _ c.in_ok-push_file.ensures c.in_ok-push_numbers.ensures
    (c.in_ok-extend_from_slice.ensures.items ∙ ap (λ xs. c.push_numbers.new.line.items ++ xs) (c.as_bytes.ensures.value ∙ c.name_or_mark.ensures))
    c.in_ok-push.ensures.items c.in_ok-push_slice.ensures c.in_ok-push-2.ensures.items
    ∙ ap (λ (xs : List ℕ). c.args.lines.now.items ++ xs) (around_numbers _ (decimal c.args.position.line) (decimal c.args.position.column) _ 58 32)
