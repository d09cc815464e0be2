use Rattle.std.proofs.Common.{◌≡◌, ℕ, map, sym, subst, ◌↔◌, List}
use Rattle.std.specs.List.{Contains}
use Rattle.std.proofs.lemmas.Result.{IfOk-weaker}
use Rattle.lalrpop_build.specs.Internal.Best.{accepts_with}
use Rattle.lalrpop_build.specs.Internal.Built.{IsStrongestIn}
use Rattle.lalrpop_build.specs.Internal.Ties.{AreAscending}
use Rattle.lalrpop_build.proofs.Bests.{with_best, with_none, with_ascends}
use Rattle.lalrpop_build.proofs.build.best.strongest_of.Goals as goal

pub returns-in-Some-clause-all : goal.returns-in-Some-clause-all
returns-in-Some-clause-all c =
    let ps = map (λ p. p.0) c.args.precedences.now in
    IfOk-weaker c.accepted_with.result (λ found. found.items ≡ accepts_with ps c.args.set.now c.in-Some.best.precedence)
    (λ found. (i : ℕ) → Contains found.items i ↔ IsStrongestIn ps c.args.set.now i)
    (λ found e i. subst (λ (is : List ℕ). Contains is i ↔ IsStrongestIn ps c.args.set.now i) (sym e) (with_best ps c.args.set.now c.in-Some.best c.in-Some.ensures i))
    c.accepted_with.ensures

pub returns-in-None-clause-all : goal.returns-in-None-clause-all
returns-in-None-clause-all c = λ i.
    let ps = map (λ p. p.0) c.args.precedences.now in
    subst (λ (is : List ℕ). Contains is i ↔ IsStrongestIn ps c.args.set.now i) (sym c.new.ensures.items) (with_none ps c.args.set.now c.in-None.ensures i)

pub returns-in-Some-clause-ascending : goal.returns-in-Some-clause-ascending
returns-in-Some-clause-ascending c =
    let ps = map (λ p. p.0) c.args.precedences.now in
    IfOk-weaker c.accepted_with.result (λ found. found.items ≡ accepts_with ps c.args.set.now c.in-Some.best.precedence)
    (λ found. AreAscending found.items)
    (λ found e. subst AreAscending (sym e) (with_ascends ps c.args.set.now c.in-Some.best.precedence c.requires.ascending))
    c.accepted_with.ensures
