-- The numbers of three states that the automaton of each pattern has.
use Rattle.std.specs.Prelude.{ℕ}

abbrev pub accept_state : ℕ
accept_state = 0

abbrev pub reject_state : ℕ
reject_state = 1

abbrev pub start_state : ℕ
start_state = 2
