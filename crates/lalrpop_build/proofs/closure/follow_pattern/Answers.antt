use Rattle.std.proofs.Common.{◌≡◌, ◌++◌, ◌∷◌, ◌∙◌, List, [], length, get_or, ap, sym, subst, arith, false}
use Rattle.std.specs.Result.{OnOk}
use Rattle.std.proofs.lemmas.List.{length-replicate}
use Rattle.lalrpop_dfa.specs.Ascending.{Item}
use Rattle.lalrpop_nfa.specs.Graph.{Graph}
use Rattle.lalrpop_build.specs.Internal.Given.{IsItemOf}
use Rattle.lalrpop_build.specs.Internal.Subsets.{closed}
use Rattle.lalrpop_build.specs.Internal.Worklist.{epsilon_targets, marked}
use Rattle.lalrpop_build.proofs.Marks.{none_marked}
use Rattle.lalrpop_build.proofs.WorklistSteps.{closed_alone, closed_room}
use Rattle.lalrpop_build.proofs.closure.follow_pattern.Goals as goal

-- a list with one element
alone : (xs : List Item) (x : Item) → length xs ≡ 1 → x ≡ get_or xs 0 x → xs ≡ x ∷ []
alone [] x l read = absurd (omega (arith, l))
alone (y ∷ []) x l read = ap (λ z. z ∷ []) (sym read)
alone (y ∷ z ∷ xs) x l read = absurd (omega (arith, l))

-- what is added if no edge leads on from it
alone_added : (ns : List Graph) (x : Item) (given old new : List Item) → given ≡ x ∷ [] → IsItemOf ns x → epsilon_targets ns x ≡ [] → new ≡ old ++ x ∷ [] → new ≡ old ++ closed ns given
alone_added ns x given old new one is none pushed =
    let all : x ∷ [] ≡ closed ns given = closed_alone ns x is none ∙ ap (closed ns) (sym one) in
    pushed ∙ ap (λ (ys : List Item). old ++ ys) all

pub stays-requires : goal.stays-requires
stays-requires c = c.requires.inside c.item-item.result (0, omega arith, sym c.item-item.is)

pub returns-then-stays : goal.returns-then-stays
returns-then-stays c =
    alone_added c.args.nfas.now c.item-item.result c.args.given.now c.args.found.now.items c.push.new.self.items (alone c.args.given.now c.item-item.result (omega arith) c.item-item.is)
    (c.requires.inside c.item-item.result (0, omega arith, sym c.item-item.is)) (c.stays.ensures.0 c.if-stays.true) c.in_ok-push.ensures.items

pub follow_from-requires-clause-empty : goal.follow_from-requires-clause-empty
follow_from-requires-clause-empty c = none_marked c.begin.new.self.pattern c.begin.new.self.marks.items c.len-states.result c.in_ok-begin.ensures.marks

pub follow_from-requires-clause-room : goal.follow_from-requires-clause-room
follow_from-requires-clause-room c x h =
    let (place, l) = closed_room c.args.nfas.now c.args.given.now c.args.pattern c.index.result c.index-nfas-index.result c.len-states.result c.index.ensures.value c.requires.within c.index-nfas-index.is c.len-states.ensures.value c.requires.pattern x h in
    (place ∙ sym c.in_ok-begin.ensures.pattern, omega (arith, l, ap length c.in_ok-begin.ensures.marks, length-replicate c.len-states.result false))

pub returns-then-states-given : goal.returns-then-states-given
returns-then-states-given c =
    let all : marked c.follow_from.new.self.seen.pattern c.deref.result.now ≡ closed c.args.nfas.now c.args.given.now = ap (marked c.follow_from.new.self.seen.pattern) c.deref.ensures.value ∙ c.in_ok-follow_from.ensures in
    subst (λ ys. OnOk c.push_states.result (c.push_states.new.found.items ≡ c.args.found.now.items ++ ys)) all c.push_states.ensures
