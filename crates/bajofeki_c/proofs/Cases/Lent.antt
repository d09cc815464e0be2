-- Cases of specs/Lent.antt.
use Rattle.std.proofs.Common.{◌≡◌, ◌<◌, ◌%◌, refl, lit<}
use Rattle.bajofeki_c.specs.Lent.{document_align, document_size, stream_align, stream_size}

a_document_takes_room : 0 < document_size
a_document_takes_room = lit< tt

a_stream_takes_room : 0 < stream_size
a_stream_takes_room = lit< tt

-- one that lies right after another lies at a multiple of 8 too
documents_lie_side_by_side : document_size % document_align ≡ 0
documents_lie_side_by_side = refl

streams_lie_side_by_side : stream_size % stream_align ≡ 0
streams_lie_side_by_side = refl
