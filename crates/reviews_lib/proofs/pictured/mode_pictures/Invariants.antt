use Rattle.std.proofs.Common.{string_bytes}
use Rattle.std.specs.List.{range_with_len}
use Rattle.reviews_lib.specs.Pictured.{ArePictures, IsModePicture}
use Rattle.reviews_lib.proofs.pictured.mode_pictures.Given as goal

abbrev pub invariant-loop-mode : goal.invariant-loop-mode
invariant-loop-mode l = ArePictures (IsModePicture l.rules l.rules.mode_names) (range_with_len 0 l.mode) (string_bytes l.text)
