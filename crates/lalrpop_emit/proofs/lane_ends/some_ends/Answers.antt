use Rattle.std.proofs.Common.{◌≡◌, ◌↔◌, ◌<◌, ◌≤◌, ◌^◌, ℕ, map, leb, length, slice_index, sym, subst, arith}
use Rattle.std.specs.Int.{bit_at}
use Rattle.std.specs.Simd.Lanes.{chunk, mask_l}
use Rattle.std.proofs.lemmas.List.{get_or-take}
use Rattle.std.proofs.lemmas.Simd.{length-chunk}
use Rattle.lalrpop_emit.proofs.LaneEnds.{compared, compared_small, compared_bit}
use Rattle.lalrpop_emit.proofs.lane_ends.some_ends.Goals as goal

pub returns-clause-small : goal.returns-clause-small
returns-clause-small c =
    let v = chunk 0 16 c.args.rows.now in
    let long : length v ≡ 16 = length-chunk 0 16 c.args.rows.now (omega (arith, c.requires)) in
    subst (λ (m : ℕ). m < 2 ^ 16) (sym (compared c.args.least v long)) (compared_small c.args.least v long)

pub returns-clause-are : goal.returns-clause-are
returns-clause-are c = λ k l.
    let least = c.args.least in
    let rows = c.args.rows.now in
    let v = chunk 0 16 rows in
    let long : length v ≡ 16 = length-chunk 0 16 rows (omega (arith, c.requires)) in
    let bit = compared_bit least v k (omega (arith, l, long)) in
    let there : slice_index v k ≡ slice_index rows k = get_or-take 16 rows k 0 l in
    let are : (bit_at (mask_l (map (leb least) v)) k ≡ 1) ↔ (least ≤ slice_index rows k) =
    (λ h. subst (λ (x : ℕ). least ≤ x) there (bit.0 h), λ h. bit.1 (subst (λ (x : ℕ). least ≤ x) (sym there) h)) in
    subst (λ (m : ℕ). (bit_at m k ≡ 1) ↔ (least ≤ slice_index rows k)) (sym (compared least v long)) are
