use Rattle.std.proofs.Common.{rules}
use Rattle.bajofeki_c.proofs.held.lexer_of.Goals as goal

pub returns-in-Ok-numbered : goal.returns-in-Ok-numbered
returns-in-Ok-numbered c =
    record { built = (c.in-Ok-with_modes.lexer, (record { given = c.in-Ok.rules.items; are_given = search rules; rules = search rules; modes = search rules; no_clash = c.in-Ok-with_modes.ensures.no_clash }, c.in-Ok-numbered.ensures.built)) }
