-- One character of a text with escapes.
use Rattle.std.specs.Prelude.{ℕ, Option, Some, None}
use Rattle.lalrpop_re.specs.Text.{Text}
use Rattle.lalrpop_re.specs.Escape.{Escaped, character, set, assertion}
use Rattle.lalrpop_re.specs.Internal.Reading.{◌>>=◌, primary}

abbrev pub alone : Escaped → Text → Option (ℕ × Text)
alone (character c) t = Some (c, t)
alone (set s negated) t = None
alone (assertion l) t = None

-- a character that stands for itself or the escape of one, and what follows
unfoldable pub character_at : Text → Option (ℕ × Text)
character_at t = primary t >>= λ x. alone x.0 x.1
