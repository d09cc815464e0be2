use Rattle.std.proofs.Common.{string_bytes}
use Rattle.std.specs.Prelude.{filter}
use Rattle.std.specs.List.{range_with_len}
use Rattle.std.specs.Str.{bytes_eq}
use Rattle.reports_lib.specs.PieceLines.{name_at}
use Rattle.reviews_lib.specs.Pictured.{ArePictures, IsRulePicture}
use Rattle.reviews_lib.proofs.pictured.rule_pictures.Given as goal

abbrev pub invariant-loop-index : goal.invariant-loop-index
invariant-loop-index l =
    ArePictures (IsRulePicture l.rules l.rules.mode_names)
    (filter (λ i. bytes_eq (name_at l.rules.names i) l.name) (range_with_len 0 l.index)) (string_bytes l.text)
