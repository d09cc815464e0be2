use Rattle.std.proofs.Common.{List, ◌++◌, ℕ, sym, ap, ◌∙◌}
use Rattle.guide.proofs.ShowLemmas.{Shows-more}
use Rattle.guide.proofs.highlighter.push_marked.Goals as goal

pub returns : goal.returns
returns c =
    let bytes = c.in_ok-push_str-2.ensures.bytes ∙ ap (λ (l : List ℕ). l ++ c.args.slice.now) c.in_ok-push_str.ensures.bytes in
    record { shows = λ text. Shows-more _ c.mark_of.result.now c.args.slice.now _ text c.mark_of.ensures.mark (sym c.if-not-is_plain.ensures) bytes }
