use Rattle.std.proofs.lemmas.Bool.Decides.{same_from_decides}
use Rattle.lalrpop_dfa.proofs.SameTables.{same_automaton_decides}
use Rattle.lalrpop_dfa.proofs.equality.DfaPartialEq.TheImpl.Goals as goal

pub eq-tells : goal.eq-tells
eq-tells c = same_from_decides _ _ c.ensures.same (same_automaton_decides c.args.self.now c.args.other.now)
