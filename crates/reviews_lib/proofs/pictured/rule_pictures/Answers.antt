use Rattle.std.proofs.Common.{◌≡◌, ℕ, ◌+◌, List, [], ◌∷◌, ◌++◌, length, string_bytes, refl, sym, ap, subst, ◌∙◌, arith}
use Rattle.std.specs.Prelude.{None, filter, slice_get}
use Rattle.std.specs.List.{range_with_len}
use Rattle.std.specs.Str.{bytes_eq}
use Rattle.std.proofs.lemmas.Option.{slice_get_read}
use Rattle.lalrpop_hir.specs.Tree.{Tree}
use Rattle.lalrpop_verdicts.specs.Picture.{dot}
use Rattle.reports_lib.specs.PieceLines.{name_at}
use Rattle.reviews_lib.specs.Pictured.{ArePictures, IsRulePicture, label}
use Rattle.reviews_lib.proofs.Pictures.{others_more, passing_more}
use Rattle.reviews_lib.proofs.pictured.rule_pictures.Goals as goal
use Rattle.reviews_lib.proofs.pictured.rule_pictures.Goals.{then-eq+in_ok-label+in_ok-one+in_ok-push_str, else-eq}

pub loop-index-preserved : goal.loop-index-preserved
loop-index-preserved c =
    let r = c.args.rules.now in
    let modes = c.args.rules.now.mode_names in
    let name = c.args.name.now in
    let i = c.loop-index.index in
    let t = c.tree-item.result in
    let trees = c.regexs-tree-items.result.now in
    let is_named = λ (i : ℕ). bytes_eq (name_at r.names i) name in
    let before = string_bytes c.loop-index.text in
    let own : c.name_of.result.now ≡ name_at r.names i = c.name_of.ensures ∙ ap (name_at r.names) c.new-rule.ensures.value in
    let at : slice_get r.trees i ≡ slice_get trees i = ap (λ (ts : List Tree). slice_get ts i) (sym c.regexs-tree-items.ensures.trees) in
    elim c.if-eq.branch [
      | then-eq+in_ok-label+in_ok-one+in_ok-push_str v ↦ let (least, (smallest, drawn)) = v.in_ok-one.ensures in
          subst (λ (text : List ℕ). ArePictures (IsRulePicture r modes) (filter is_named (range_with_len 0 (i + 1))) text)
          (sym (ap string_bytes v.text-is ∙ v.in_ok-push_str.ensures.bytes ∙ ap (λ (one : List ℕ). before ++ one) v.deref.ensures))
          (passing_more (IsRulePicture r modes) is_named i before (string_bytes v.in_ok-one.one)
          (ap (λ (w : List ℕ). bytes_eq w name) (sym own) ∙ sym c.eq.ensures ∙ v.if-eq.true) c.loop-index.invariant (
            t,
            (
              at ∙ slice_get_read trees (length trees) i t refl c.loop-index-test.true c.tree-item.is,
              (least, (smallest, drawn ∙ ap (λ (w : List ℕ). dot None (w ∷ []) least) (v.in_ok-label.ensures ∙ ap (label r modes) c.new-rule.ensures.value))),
            ),
          ))
      | else-eq v ↦ subst (λ (text : List ℕ). ArePictures (IsRulePicture r modes) (filter is_named (range_with_len 0 (i + 1))) text) (sym (ap string_bytes v.text-is))
          (others_more (IsRulePicture r modes) is_named i before (ap (λ (w : List ℕ). bytes_eq w name) (sym own) ∙ sym c.eq.ensures ∙ v.if-eq.false) c.loop-index.invariant)
    ]

pub returns : goal.returns
returns c =
    let r = c.args.rules.now in
    let trees = c.regexs-tree-items.result.now in
    let end : c.loop-index.index ≡ length trees = omega (arith, c.loop-index-test.false, c.loop-index.auto.index-end) in
    subst (λ (n : ℕ). ArePictures (IsRulePicture r c.args.rules.now.mode_names) (filter (λ (i : ℕ). bytes_eq (name_at r.names i) c.args.name.now) (range_with_len 0 n))
    (string_bytes c.loop-index.text)) (end ∙ ap length c.regexs-tree-items.ensures.trees) c.loop-index.invariant
