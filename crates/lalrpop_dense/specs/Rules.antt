-- cases: proofs/Cases/Rules.antt
-- What a lexer recognizes.
use Rattle.std.specs.Prelude.{ℕ, List}
use Rattle.lalrpop_hir.specs.Tree.{Tree}
use Rattle.lalrpop_hir.specs.Clash.{NoClash}
use Rattle.lalrpop_dfa.specs.Dfa.{Row, RecognizesAll}

-- the trees of a list of patterns, their precedences, and the states of the automaton
pub record Rules : Type 0 where
  pub trees : List Tree
  pub precedences : List ℕ
  pub automaton : List Row

-- no word is ambiguous, and the automaton recognizes the trees and precedences
pub record IsBuiltFrom (ts : List Tree) (ps : List ℕ) (d : List Row) : Type 0 where
  pub no_clash : NoClash ts ps
  pub stands : RecognizesAll d ts ps
