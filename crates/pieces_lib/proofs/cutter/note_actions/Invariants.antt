use Rattle.std.proofs.Common.{◌≡◌, reverse, take}
use Rattle.pieces_lib.specs.OpenModes.{pushed_all}
use Rattle.pieces_lib.proofs.cutter.note_actions.Given as goal

abbrev pub invariant-loop-action : goal.invariant-loop-action
invariant-loop-action l = reverse l.places.items ≡ pushed_all l.place (take l.action-index l.actions) (reverse l.fn.places.items)
