use Rattle.std.proofs.Common.{rules}
use Rattle.lalrpop_nfa.proofs.Nfa.new.Goals as goal

pub returns : goal.returns
returns c = record { fresh = search rules }
