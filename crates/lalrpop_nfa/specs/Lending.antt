-- cases: none, since both are formulas on how a borrow ends while code runs, and not on values
-- What an `Edges` or a `State` is once a `&mut` into it has ended.
use Rattle.std.specs.Prelude.{ℕ, Option, List}
use Rattle.std.specs.Borrow.{Lends, MutBor, Fml, RattleType, usize}
use Rattle.std.specs.contracts.alloc.Global as global
use Rattle.std.specs.contracts.vec.Vec as vec
use Rattle.std.specs.contracts.option.Option as option
use Rattle.std.specs.contracts.impls.GlobalAllocator.TheImpl.{ghosts}
use Rattle.lalrpop_nfa.specs.Graph.{Lists}
use Rattle.lalrpop_nfa.specs.declared.edge.Edge.{Edge}
use Rattle.lalrpop_nfa.specs.declared.edge.State.{State}
use Rattle.lalrpop_nfa.specs.contracts.edge.Edge as edge
use Rattle.lalrpop_nfa.specs.contracts.edge.Edges as edges
use Rattle.lalrpop_nfa.specs.contracts.edge.State as state

-- the list of the edges with labels of one type, as the logic holds it
abbrev pub list_row : RattleType → RattleType
list_row L = vec.the_row (edge.the_row L) global.the_row ghosts

-- once the list's borrow ends, the three lists are f of the last value of the list
abbrev pub LendsList : (L : RattleType) → MutBor Lists → MutBor (list_row L).Denot → (List (Edge L.Denot) → Lists) → Fml
LendsList L e r f = Lends edges.the_row (list_row L) e r (λ v. f v.items)

-- once the index's borrow ends, the state is f of the last value of the index
abbrev pub LendsFirst : MutBor State → MutBor (Option ℕ) → (Option ℕ → State) → Fml
LendsFirst s r f = Lends state.the_row (option.the_row usize) s r f
