use Rattle.std.proofs.Common.{inl}
use Rattle.bajofeki_c.proofs.held.make.Goals as goal

pub returns-in-Ok : goal.returns-in-Ok
returns-in-Ok c = record {
  made = inl (c.in-Ok.file, (record { parts = c.in-Ok.ensures.parts; rules = c.in-Ok.ensures.rules; places = c.in-Ok.ensures.places }, c.lexer_of.ensures.built));
}
