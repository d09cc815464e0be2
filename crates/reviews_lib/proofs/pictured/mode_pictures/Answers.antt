use Rattle.std.proofs.Common.{ℕ, ◌+◌, List, ◌++◌, map, string_bytes, sym, ap, subst, ◌∙◌}
use Rattle.std.specs.List.{range_with_len}
use Rattle.reports_lib.specs.PieceLines.{mode_named}
use Rattle.lalrpop_verdicts.specs.Picture.{dot}
use Rattle.reviews_lib.specs.Pictured.{ArePictures, IsModePicture}
use Rattle.reviews_lib.proofs.Pictures.{pictures_more}
use Rattle.reviews_lib.proofs.pictured.mode_pictures.Goals as goal

pub loop-mode-preserved : goal.loop-mode-preserved
loop-mode-preserved c =
    let r = c.args.rules.now in
    let modes = c.args.rules.now.mode_names in
    let m = c.loop-mode.mode in
    let before = string_bytes c.loop-mode.text in
    let (least, (smallest, drawn)) = c.in_ok-one.ensures in
    subst (λ (text : List ℕ). ArePictures (IsModePicture r modes) (range_with_len 0 (m + 1)) text)
    (sym (c.in_ok-push_str.ensures.bytes ∙ ap (λ (one : List ℕ). before ++ one) c.deref-in-loop-mode.ensures))
    (pictures_more (IsModePicture r modes) m before (string_bytes c.in_ok-one.one) c.loop-mode.invariant
    (least, (smallest, drawn ∙ ap (λ (ns : List (List ℕ)). dot (mode_named modes m) ns least) (ap (map string_bytes) c.deref.ensures.value ∙ c.in_ok-labels.ensures))))
