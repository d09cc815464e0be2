use Rattle.std.proofs.Common.{arith}
use Rattle.lalrpop_emit.specs.Internal.Lists.{list_numbers}
use Rattle.lalrpop_emit.proofs.Steps.{ascii_column}
use Rattle.lalrpop_emit.proofs.Walks.{scalar_below}
use Rattle.lalrpop_emit.proofs.longest_match.column_at.Goals as goal

pub returns-then-first-lt128 : goal.returns-then-first-lt128
returns-then-first-lt128 c = ascii_column (list_numbers c.args.table.now) c.args.text.now c.args.at c.requires.place (omega (arith, c.if-first-lt128.true))

pub column_of-requires-clause-small : goal.column_of-requires-clause-small
column_of-requires-clause-small c = λ high. c.requires.small c.in-Some.character.code high (scalar_below c.in-Some.character.code c.in-Some.ensures.0.scalar)
