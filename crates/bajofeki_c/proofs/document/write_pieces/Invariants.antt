use Rattle.std.proofs.Common.{◌≡◌, ◌-◌, ◌≤◌, length, take, drop, map}
use Rattle.bajofeki_c.specs.Document.{told}
use Rattle.bajofeki_c.proofs.document.write_pieces.Given as goal

-- the pieces so far are written
abbrev pub invariant-writing : goal.invariant-writing
invariant-writing l = record {
  within : l.count ≤ l.room;
  size : length l.out ≡ length l.initial.out;
  front : take l.count l.out ≡ map told (take l.count l.pieces);
  behind : drop l.count l.out ≡ drop l.count l.initial.out;
}

abbrev pub decreases-writing : goal.decreases-writing
decreases-writing l = l.room - l.count
