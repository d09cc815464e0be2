use Rattle.std.proofs.Common.{◌+◌, ◌*◌}
use Rattle.lexer_tests.proofs.trees.+show.Given as goal

abbrev pub decreases-show : goal.decreases-show
decreases-show l = 2 * l.levels

abbrev pub decreases-show_all : goal.decreases-show_all
decreases-show_all l = 2 * l.levels + 1
