-- Cases of specs/Room.antt.
use Rattle.std.proofs.Common.{◌≡◌, ◌<◌, ◌%◌, refl, lit<}
use Rattle.bajofeki_c.specs.Room.{cutting_align, cutting_size, held_align, held_size}

a_lexer_takes_room : 0 < held_size
a_lexer_takes_room = lit< tt

a_cut_takes_room : 0 < cutting_size
a_cut_takes_room = lit< tt

-- one that lies right after another lies at a multiple of 8 too
lexers_lie_side_by_side : held_size % held_align ≡ 0
lexers_lie_side_by_side = refl

cuts_lie_side_by_side : cutting_size % cutting_align ≡ 0
cuts_lie_side_by_side = refl
