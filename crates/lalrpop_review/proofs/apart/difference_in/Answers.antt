use Rattle.std.proofs.Common.{◌≡◌, List, ◌++◌, map, take, drop, length, ap, subst, ◌∙◌}
use Rattle.lalrpop_review.specs.Apart.{Told}
use Rattle.lalrpop_review.specs.Internal.Meanings.{meant, AreFirsts}
use Rattle.lalrpop_review.proofs.ApartLaws.{least_told, left_told_by, right_told_by, none_told}
use Rattle.lalrpop_review.proofs.apart.difference_in.Goals as goal

pub returns : goal.returns
returns c =
    let (ts, us, (by_left, by_right, all)) = c.in_ok-meanings.ensures in
    let r = c.args.left.now in
    let s = c.args.right.now in
    let places = c.in_ok-places.places.items in
    let firsts : AreFirsts (ts ++ us) places =
    subst (λ (xs : List Told). AreFirsts xs places) (ap (map meant) c.deref.ensures.value ∙ all) c.in_ok-places.ensures in
    let count : length c.regexs.result.now ≡ length r.trees = ap length c.regexs.ensures.trees in
    let ls = c.split_at.result.0.now in
    let ms = c.split_at.result.1.now in
    let are_left : ls ≡ take (length r.trees) places =
    c.split_at.ensures.front ∙ ap (λ n. take n c.deref-2.result.now) count ∙ ap (take (length r.trees)) c.deref-2.ensures.value in
    let are_right : ms ≡ drop (length r.trees) places =
    c.split_at.ensures.back ∙ ap (λ n. drop n c.deref-2.result.now) count ∙ ap (drop (length r.trees)) c.deref-2.ensures.value in
    let m = c.args.mode in
    let d = c.automaton.result.now in
    let e = c.automaton-2.result.now in
    let left = c.automaton.ensures.recognizes in
    let right = c.automaton-2.ensures.recognizes in
    let found = c.least_difference.result in
    let tells = c.least_difference.ensures in
    record {
      least = least_told r s ts us places by_left by_right firsts m d e left right ls ms are_left are_right found tells.least;
      left_token = left_told_by r s ts us places by_left by_right firsts m d e left right ls ms are_left are_right found tells.answers;
      right_token = right_told_by r s ts us places by_left by_right firsts m d e left right ls ms are_left are_right found tells.answers;
      none = none_told r s ts us places by_left by_right firsts m d e left right ls ms are_left are_right found tells.none;
    }
