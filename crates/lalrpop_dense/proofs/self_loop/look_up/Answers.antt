use Rattle.std.proofs.Common.{◌≡◌, length, arith}
use Rattle.lalrpop_dense.proofs.Lanes.{places_fit, looked_up, doubled, held_twice}
use Rattle.lalrpop_dense.proofs.self_loop.look_up.Goals as goal

pub swizzle : goal.swizzle
swizzle c = places_fit c.args.places c.fits-places.0 c.requires

pub returns : goal.returns
returns c =
    let long : length c.args.table ≡ 16 = omega arith in
    looked_up c.args.table (doubled c.args.table) c.args.places c.fits-places.0 c.requires (held_twice c.args.table long)
