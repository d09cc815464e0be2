use Rattle.std.proofs.Common.{◌≡◌, map, get_or, w8, ap₂, ◌∙◌, List, ℕ, replicate, bit_and, ◌%◌, ◌^◌}
use Rattle.std.proofs.lemmas.Simd.{chunk-fits}
use lib.Lanes.{chunk, zip2, mask_l, top}
use Rattle.lalrpop_dense.specs.Internal.SelfLoops.{first_set}
use Rattle.lalrpop_dense.specs.declared.self_loop.TheConstants.{HIGH_BITS}
use Rattle.lalrpop_dense.proofs.Lanes.{low_halves, high_halves, low_halves_below, high_halves_below, equal, run_is_in}
use Rattle.lalrpop_dense.proofs.self_loop.SelfLoop.run.Goals as goal

pub look_up-entries-requires : goal.look_up-entries-requires
look_up-entries-requires c = low_halves_below (chunk c.args.at 32 c.args.bytes.now)

pub look_up-bits-requires : goal.look_up-bits-requires
look_up-bits-requires c = high_halves_below (chunk c.args.at 32 c.args.bytes.now) (chunk-fits w8 c.args.at 32 c.args.bytes.now c.type_inv.bytes)

pub returns : goal.returns
returns c =
    let s = c.args.self in
    let v = chunk c.args.at 32 c.args.bytes.now in
    let entries : c.look_up-entries.result ≡ map (λ j. get_or s.set j 0) (low_halves v) = c.look_up-entries.ensures in
    let bits : c.look_up-bits.result ≡ map (λ j. get_or HIGH_BITS j 0) (high_halves v) = c.look_up-bits.ensures in
    let same = ap₂ (λ (a b : List ℕ). first_set (mask_l (map (top 7) (zip2 equal (zip2 bit_and a b) (replicate 32 0))) % 2 ^ 64)) entries bits in
    let found = run_is_in s c.args.bytes.now c.args.at c.first_set.result c.requires (c.first_set.ensures ∙ same) in
    record { short = found.0; within = found.1; stops = found.2 }
