use Rattle.std.proofs.Common.{◌≡◌, ◌++◌, replicate}
use Rattle.lalrpop_re.specs.Internal.Views.{text}
use Rattle.lalrpop_re.proofs.cursor.Cursor.note_names.Given as goal

abbrev pub invariant-loop : goal.invariant-loop
invariant-loop l = record {
  text : text l.self ≡ text l.fn.self;
  flags : l.self.flags ≡ l.fn.self.flags;
  named : l.self.named.items ≡ l.fn.self.named.items ++ replicate l.counter l.place;
}
