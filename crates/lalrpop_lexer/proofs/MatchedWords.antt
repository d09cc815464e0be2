-- The values of words that trees with automata match fit 32 bits.
use Rattle.std.proofs.Common.{◌≢◌, ℕ, ◌≤◌, List, [], ◌∷◌, ◌++◌, arith}
use Rattle.lalrpop_hir.specs.Tree.{Tree}
use Rattle.lalrpop_hir.specs.Language.{Words}
use Rattle.lalrpop_hir.specs.Winners.{Matched}
use Rattle.lalrpop_hir.specs.Word.{IsWord}
use Rattle.lalrpop_nfa.specs.Graph.{Graph}
use Rattle.lalrpop_nfa.specs.Path.{Path, here, epsilon, read, otherwise, noop, test, other}
use Rattle.lalrpop_hir.specs.States.{accept_state, reject_state, start_state}
use Rattle.lalrpop_nfa.specs.Compiled.{IsCompiled}
use Rattle.lalrpop_nfa.specs.Automata.{AreCompiled}
use Rattle.lalrpop_dfa.specs.Lookahead.{LeavesOpen}
use Rattle.lalrpop_dfa.specs.Witness.{IsOpenMatch}
use Rattle.lalrpop_build.proofs.Targets.{compiled_of}

-- a path to ACCEPT never passes REJECT, so it takes no other edges, and each test edge reads a code value
path_word : (t : Tree) (g : Graph) → IsCompiled t g → (p : ℕ) (w : List ℕ) → Path g.edges accept_state p w → (p ≢ reject_state) × IsWord w
path_word t g h p w (here a same) = ((λ e. omega (arith, same, e)), tt)
path_word t g h p w (epsilon a b u k s) = ((h.noops_in (noop a b) k).2, (path_word t g h b u s).1)
path_word t g h p w (read a b u r c k covers s) =
    let fits : c ≤ 4294967295 = omega (arith, covers.1, (h.labels (test a r b) k).2) in
    ((h.tests_in (test a r b) k).2, (fits, (path_word t g h b u s).1))
path_word t g h p w (otherwise a b u c k un s) = absurd ((path_word t g h b u s).0 (h.others_in (other a b) k).1)

-- what some tree matches is a word, if the trees have automata
pub matched_word : (ts : List Tree) (ns : List Graph) → AreCompiled ts ns → (w : List ℕ) → Matched ts w → IsWord w
matched_word ts ns h w (i, (t, (at, matches))) =
    let (g, (there, compiled)) = compiled_of ts ns h i t at in
    (path_word t g compiled start_state w ((compiled.reads w).1 matches)).1

word_parts : (v w : List ℕ) → IsWord (v ++ w) → IsWord v × IsWord w
word_parts [] w h = (tt, h)
word_parts (c ∷ v) w h = let rest = word_parts v w h.1 in ((h.0, rest.0), rest.1)

-- so are a match that is left open, and what leaves it open
pub open_words : (L : Words) → ((w : List ℕ) → L w → IsWord w) → (n : ℕ) (v x : List ℕ) → LeavesOpen L n v x → IsOpenMatch L n v x
open_words L words n v x left = record {
  word = words v left.word;
  values = (word_parts v x (word_parts (v ++ x) left.later.0 (words ((v ++ x) ++ left.later.0) left.later.1)).0).1;
  leaves_open = left;
}
