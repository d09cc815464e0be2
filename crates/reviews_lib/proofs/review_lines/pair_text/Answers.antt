use Rattle.std.proofs.Common.{ap}
use Rattle.std.proofs.lemmas.Result.{IfOk-weaker}
use Rattle.bajofeki_rules.specs.declared.position.Position.{Position}
use Rattle.reviews_lib.proofs.review_lines.pair_text.Goals as goal

pub returns : goal.returns
returns c =
    let line = ap (λ (p : Position). p.line) c.place-line.ensures in
    IfOk-weaker c.format.result _ _ (λ text e. simp (c.in_ok-mode.ensures, c.name-name.ensures, c.name-other.ensures, line) at e) c.format.ensures.ok
