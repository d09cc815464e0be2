use Rattle.std.proofs.Common.{length, refl, subst, arith}
use Rattle.std.proofs.lemmas.Option.{slice_get_read}
use Rattle.lalrpop_dense.specs.Rules.{Rules}
use Rattle.lalrpop_lexer.specs.Internal.RunningOn.{AreRunningOn}
use Rattle.lalrpop_lexer.proofs.RunningOn.{list_at, marked, free_first}
use Rattle.lalrpop_lexer.proofs.neighbours.Neighbours.can_follow.Goals as goal

pub returns-in-Some-get : goal.returns-in-Some-get
returns-in-Some-get c =
    let list = rw c.deref.ensures.value at c.in-Some.ensures.lookup in
    let marks = subst (λ (r : Rules). AreRunningOn r c.args.second c.in-Some.marks.now.items) c.self.view_is
    (list_at (λ v. v.items) c.self.inside.running_on.items c.self.inside.lexer.now _ c.index.result c.args.second c.in-Some.marks.now c.self.invariant list.3.0 list.1 c.index.ensures.value) in
    let mark = rw (c.deref-2.ensures.value, c.index-2.ensures.value) at c.in-Some-get.ensures.lookup in
    record {
      answer =
          marked c.args.self.now c.args.first c.args.second c.in-Some.marks.now.items c.in-Some-get.runs_on.now marks
          (slice_get_read c.in-Some.marks.now.items (length c.in-Some.marks.now.items) c.args.first c.in-Some-get.runs_on.now refl mark.3.0 mark.1);
    }

pub returns-in-None : goal.returns-in-None
returns-in-None c =
    let list = rw c.deref.ensures.value at c.in-Some.ensures.lookup in
    let marks = subst (λ (r : Rules). AreRunningOn r c.args.second c.in-Some.marks.now.items) c.self.view_is
    (list_at (λ v. v.items) c.self.inside.running_on.items c.self.inside.lexer.now _ c.index.result c.args.second c.in-Some.marks.now c.self.invariant list.3.0 list.1 c.index.ensures.value) in
    let none = rw (c.deref-2.ensures.value, c.index-2.ensures.value) at c.in-None.ensures.lookup in
    record {
      answer = (λ _. free_first c.args.self.now.trees c.args.self.now.precedences c.args.first c.args.second (omega (arith, none.3, marks.same_length)), λ _. refl);
    }
