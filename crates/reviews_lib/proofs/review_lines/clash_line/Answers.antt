use Rattle.std.proofs.Common.{◌≡◌, string_bytes, subst}
use Rattle.std.specs.Prelude.{IfOk, option_map}
use Rattle.std.proofs.lemmas.Result.{IfOk-weaker}
use Rattle.lalrpop_hir.specs.Clashes.{Entry}
use Rattle.reviews_lib.specs.ReviewLines.{clash_line}
use Rattle.reviews_lib.proofs.review_lines.clash_line.Goals as goal

pub returns : goal.returns
returns c =
    subst (λ (v : Entry). IfOk c.format.result (λ line. string_bytes line ≡ clash_line c.args.reported.now (option_map (λ m. m.now) c.args.mode) v)) c.clash.view_is
    (IfOk-weaker c.format.result _ _ (λ line e. simp (c.in_ok-place.ensures, c.in_ok-pair.ensures, c.deref.ensures.value) at e) c.format.ensures.ok)
