use Rattle.std.proofs.Common.{◌≡◌, List, length, map, string_bytes}
use Rattle.std.specs.Prelude.{Ok, flat_map}
use Rattle.std.specs.Iterator.{Yields}
use Rattle.lalrpop_lexer.specs.Cutting.{left_of, GivesItem}
use Rattle.lexdfa_lib.specs.Whole.{Token, token_line}
use Rattle.lexdfa_lib.proofs.cutting.cut.Given as goal

-- all items so far are tokens
abbrev pub invariant-loop-item : goal.invariant-loop-item
invariant-loop-item l =
    (tokens : List Token) × (Yields GivesItem l.initial.items (map Ok tokens) l.items × (l.count ≡ length tokens) × (string_bytes l.lines ≡ flat_map token_line tokens))

abbrev pub decreases-loop-item : goal.decreases-loop-item
decreases-loop-item l = left_of l.items
