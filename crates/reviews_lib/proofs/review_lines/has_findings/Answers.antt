use Rattle.std.proofs.Common.{◌≡◌, ◌∙◌, false, length, sym, ap, arith, rules, tests}
use Rattle.std.specs.Prelude.{◌||◌, nat_lt}
use Rattle.std.specs.List.{list_any}
use Rattle.std.proofs.lemmas.Iterator.{YieldsList-from_slice}
use Rattle.std.proofs.lemmas.Iterator.Search.{any_from_yields_List}
use Rattle.std.proofs.lemmas.Bool.Decides.{nat_tests}
use Rattle.reviews_lib.specs.ReviewLines.{has_idle}
use Rattle.reviews_lib.proofs.review_lines.has_findings.Goals as goal

pub returns-else-not-is_empty : goal.returns-else-not-is_empty
returns-else-not-is_empty c =
    let modes = c.args.review.now.modes.items in
    let none : nat_lt 0 (length c.args.review.now.empty.items) ≡ false = grind (arith, nat_tests) in
    let found : c.any.result ≡ list_any has_idle modes =
    any_from_yields_List has_idle _ _ c.any.result c.any.ensures.ran (YieldsList-from_slice modes (cc)) (λ x b q k. search (rules, tests)) in
    record { findings = found ∙ ap (λ b. b || list_any has_idle modes) (sym none) }
