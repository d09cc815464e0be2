use Rattle.std.proofs.Common.{◌≡◌, ◌==◌, not, rules}
use Rattle.std.specs.List.{list_any, prefix_len}
use Rattle.std.proofs.lemmas.Iterator.{YieldsList-from_slice}
use Rattle.std.proofs.lemmas.Iterator.Search.{position_from_yields_List}
use borrow.Author.Tests.{tests}
use Rattle.lalrpop_re.proofs.OpeningSteps.{first_or_end, span_cuts}
use Rattle.lalrpop_re.proofs.opening.split_before.Goals as goal

pub returns : goal.returns
returns c =
    let marks = c.args.marks.now in
    let first = position_from_yields_List (λ x. list_any (λ d. d == x) marks) _ _ c.position.result c.position.ensures.ran (YieldsList-from_slice c.args.text.now cc) (λ x b q k. search (rules, tests)) in
    let place : c.unwrap_or-length.result ≡ prefix_len (λ x. not (list_any (λ d. d == x) marks)) c.args.text.now = rw (c.unwrap_or-length.ensures, first) (first_or_end (λ x. list_any (λ d. d == x) marks) c.args.text.now) in
    rw (c.split_at.ensures.front, c.split_at.ensures.back, place) (span_cuts (λ x. not (list_any (λ d. d == x) marks)) c.args.text.now)
