-- Cases of specs/Terminals.antt.
use Rattle.std.proofs.Common.{ℕ, [], ◌∷◌, codes}
use Rattle.lalrpop_hir.specs.Tree.{Tree}
use Rattle.lalrpop_hir.specs.Parts.{of_text}
use Rattle.lalrpop_lexer.specs.Terminals.{AreTerminals, FirstSays, AreSaid}
use Rattle.lalrpop_lexer.specs.declared.terminal_line.TerminalLine.TheVariants as meaning
use Rattle.lalrpop_lexer.specs.declared.terminals.Terminals.TheVariants.{Bad, NoTree}
use Rattle.lalrpop_lexer.proofs.Cases.Line.{line_says_a_literal, line_does_not_say_another_precedence, line_of_a_literal_is_not_bad, x_is_bad, x_says_no_terminal, line_says_no_tree, line_of_no_pattern_is_not_bad, line_of_a_literal_has_a_tree, x_is_not_without_a_tree}

-- each line has its tree and its precedence
pub lines_are_terminals : AreTerminals (codes "0 l a" ∷ []) (of_text (codes "a") ∷ []) (0 ∷ [])
lines_are_terminals = (line_says_a_literal, tt)

-- not another precedence
other_precedence_is_not_of_the_line : (t : Tree) → ¬ AreTerminals (codes "0 l a" ∷ []) (t ∷ []) (1 ∷ [])
other_precedence_is_not_of_the_line t h = line_does_not_say_another_precedence t h.0

-- and none is left over
line_without_a_tree_is_no_terminal : ¬ AreTerminals (codes "0 l a" ∷ []) [] []
line_without_a_tree_is_no_terminal h = h

tree_without_a_line_is_no_terminal : ¬ AreTerminals [] (of_text (codes "a") ∷ []) (0 ∷ [])
tree_without_a_line_is_no_terminal h = h

-- of `0 l a` and `x` the second line is the first bad one
first_bad_line : FirstSays (codes "0 l a" ∷ codes "x" ∷ []) 1 meaning.Bad
first_bad_line = ((0, (of_text (codes "a"), line_says_a_literal)), x_is_bad)

terminal_is_no_bad_line : ¬ FirstSays (codes "0 l a" ∷ codes "x" ∷ []) 0 meaning.Bad
terminal_is_no_bad_line h = line_of_a_literal_is_not_bad h

-- of two bad lines the second isn't the first
later_bad_line_is_not_the_first : ¬ FirstSays (codes "x" ∷ codes "x" ∷ []) 1 meaning.Bad
later_bad_line_is_not_the_first h = x_says_no_terminal h.0.0 h.0.1.0 h.0.1.1

-- no lines, no bad line
no_line_says_nothing : (i : ℕ) → ¬ FirstSays [] i meaning.Bad
no_line_says_nothing i h = h

-- the same for bytes
bytes_with_a_bad_line : AreSaid (codes "0 l a\nx\n") (Bad 1)
bytes_with_a_bad_line = first_bad_line

bytes_without_a_bad_line : ¬ AreSaid (codes "0 l a\n") (Bad 0)
bytes_without_a_bad_line h = line_of_a_literal_is_not_bad h

-- of `0 l a` and `0 r *a` the second line is the first that is not a terminal, and its pattern doesn't parse
bytes_with_a_pattern_without_a_tree : AreSaid (codes "0 l a\n0 r *a\n") (NoTree 1)
bytes_with_a_pattern_without_a_tree = ((0, (of_text (codes "a"), line_says_a_literal)), line_says_no_tree)

-- it isn't reported as a bad line, and neither a bad line nor a terminal as one that doesn't parse
pattern_without_a_tree_is_no_bad_line : ¬ AreSaid (codes "0 r *a\n") (Bad 0)
pattern_without_a_tree_is_no_bad_line h = line_of_no_pattern_is_not_bad h

bad_line_is_not_without_a_tree : ¬ AreSaid (codes "x\n") (NoTree 0)
bad_line_is_not_without_a_tree h = x_is_not_without_a_tree h

bytes_without_a_pattern_without_a_tree : ¬ AreSaid (codes "0 l a\n") (NoTree 0)
bytes_without_a_pattern_without_a_tree h = line_of_a_literal_has_a_tree h
