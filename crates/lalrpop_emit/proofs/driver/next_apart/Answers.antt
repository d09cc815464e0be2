use Rattle.std.proofs.Common.{◌≤◌, ◌-◌, ◌∙◌, length, get_or, arith, ap, refl, subst, sym, length-drop}
use Rattle.std.specs.Prelude.{Option, Some, None}
use Rattle.std.proofs.lemmas.Bool.{false≢true}
use Rattle.std.proofs.lemmas.Option.{slice_get-get_or}
use Rattle.lalrpop_dfa.proofs.Recognized.{on_words}
use Rattle.lalrpop_rules.specs.Modes.{trees_in}
use Rattle.bajofeki_rules.specs.Stack.{actions_of}
use Rattle.lalrpop_emit.specs.NumberedRules.{NumberedRules}
use Rattle.lalrpop_emit.specs.Internal.Driving.{stack_of}
use Rattle.lalrpop_emit.specs.Internal.Running.{IsRunOf}
use Rattle.lalrpop_emit.specs.Internal.Walking.{IsDrivable}
use Rattle.lalrpop_emit.specs.declared.driver.Match.{Match}
use Rattle.lalrpop_emit.specs.declared.run.Run.{Run}
use Rattle.lalrpop_emit.proofs.Actions.{length-below}
use Rattle.lalrpop_emit.proofs.ByteFaults.{none_at}
use Rattle.lalrpop_emit.proofs.Driving.{acts_of_rule, acts_there, fault_comes, goes_on, rule_read, same_stack, some_table, token_comes}
use Rattle.lalrpop_emit.proofs.Found.{IsFound, found_as, found_before, token_there, tokens_of}
use Rattle.lalrpop_emit.proofs.ModeRuns.{IsRunBefore, before, before_later, before_since, resumed}
use Rattle.lalrpop_emit.proofs.driver.next_apart.Goals as goal
use Rattle.lalrpop_emit.proofs.driver.next_apart.Goals.{in-Some, in-None, then-state-mode, else-state-mode}

pub returns-in_default-clause-next : goal.returns-in_default-clause-next
returns-in_default-clause-next c = λ r are.
    let n = c.args.numbers.now in
    let text = c.args.text.now in
    let s = c.args.state.now in
    let within = c.requires.state.there.0 in
    let table = some_table n s.mode within in
    let found : IsFound n s.mode s.at text c.match-known.run c.match-known.token =
    elim c.match-known.branch [
      | in-Some w ↦
          found_as n s.mode s.at text c.args.run.now c.match-known.run (Some w.in-Some.token) c.match-known.token w.run-is w.token-is
          (found_before n s.mode s.at text c.args.run.now c.args.known w.in-Some.token w.in-Some.is c.requires.known c.requires.run)
      | in-None w ↦
          let f = w.found-token.ensures in
          found_as n s.mode s.at text w.found-token.new.run c.match-known.run w.found-token.result c.match-known.token w.run-is w.token-is
          (record { found = λ t there. record { longest = f.answer t there; place = f.place; rules = f.rule t there }; of_mode = f.run })
    ] in
    let none : IsFound n s.mode s.at text c.match-known.run None = subst (λ (o : Option Match). IsFound n s.mode s.at text c.match-known.run o) c.in_default.is found in
    let right = are.tables s.mode table.0 table.1 in
    let ts = trees_in r s.mode in
    let recognizes = on_words right.automaton ts r.precedences right.recognizes.stands in
    let nothing = none_at ts r.precedences text s.at ((none.found table.0 table.1).longest right.automaton right.right ts r.precedences recognizes) in
    let below = c.args.below.now in
    fault_comes r n.kinds (length below) text s.at (stack_of s below) (stack_of c.fault-piece.new.state below) c.fault-piece.result c.fault-piece.ensures.piece
    (omega (arith, c.fault-piece.ensures.place.ends, c.fault-piece.ensures.place.within))
    (c.fault-piece.ensures.fault table.0 table.1 right.automaton right.right ts r.precedences recognizes nothing) (same_stack s c.fault-piece.new.state below c.fault-piece.ensures.stack)

pub returns-in_default-clause-run : goal.returns-in_default-clause-run
returns-in_default-clause-run c =
    let n = c.args.numbers.now in
    let text = c.args.text.now in
    let s = c.args.state.now in
    let found : IsFound n s.mode s.at text c.match-known.run c.match-known.token =
    elim c.match-known.branch [
      | in-Some w ↦
          found_as n s.mode s.at text c.args.run.now c.match-known.run (Some w.in-Some.token) c.match-known.token w.run-is w.token-is
          (found_before n s.mode s.at text c.args.run.now c.args.known w.in-Some.token w.in-Some.is c.requires.known c.requires.run)
      | in-None w ↦
          let f = w.found-token.ensures in
          found_as n s.mode s.at text w.found-token.new.run c.match-known.run w.found-token.result c.match-known.token w.run-is w.token-is
          (record { found = λ t there. record { longest = f.answer t there; place = f.place; rules = f.rule t there }; of_mode = f.run })
    ] in
    let at2 = c.fault-piece.new.state.at in
    let on : s.at ≤ at2 = omega (arith, c.fault-piece.ensures.place.ends) in
    let old = before_later n s.at text c.match-known.run at2 on (before n s.at text s.mode c.match-known.run found.of_mode) in
    subst (λ mode. IsRunOf n mode at2 text c.resume.new.run) (sym c.fault-piece.ensures.stack.0)
    (resumed n at2 text s.mode c.match-known.run c.resume.new.run c.resume.ensures.same c.resume.ensures.room old c.resume.ensures.serves)

pub index-requires : goal.index-requires
index-requires c =
    let n = c.args.numbers.now in
    let text = c.args.text.now in
    let s = c.args.state.now in
    let drivable = subst IsDrivable c.numbers.view_is c.numbers.invariant.1 in
    let within = c.requires.state.there.0 in
    let found : IsFound n s.mode s.at text c.match-known.run c.match-known.token =
    elim c.match-known.branch [
      | in-Some w ↦
          found_as n s.mode s.at text c.args.run.now c.match-known.run (Some w.in-Some.token) c.match-known.token w.run-is w.token-is
          (found_before n s.mode s.at text c.args.run.now c.args.known w.in-Some.token w.in-Some.is c.requires.known c.requires.run)
      | in-None w ↦
          let f = w.found-token.ensures in
          found_as n s.mode s.at text w.found-token.new.run c.match-known.run w.found-token.result c.match-known.token w.run-is w.token-is
          (record { found = λ t there. record { longest = f.answer t there; place = f.place; rules = f.rule t there }; of_mode = f.run })
    ] in
    let m = c.in-Some-token.token in
    let there : IsFound n s.mode s.at text c.match-known.run (Some m) = subst (λ (o : Option Match). IsFound n s.mode s.at text c.match-known.run o) c.in-Some-token.is found in
    let token = token_there n s.mode s.at text m.rule m.end drivable within (tokens_of n s.mode s.at text c.match-known.run m there) in
    omega (arith, token.below, drivable.first, ap (λ (x : NumberedRules). length x.first_actions) c.numbers.view_is, c.numbers.inside.first_actions.ok.0)

pub has_room-requires-clause-actions : goal.has_room-requires-clause-actions
has_room-requires-clause-actions c =
    let n = c.args.numbers.now in
    let text = c.args.text.now in
    let s = c.args.state.now in
    let drivable = subst IsDrivable c.numbers.view_is c.numbers.invariant.1 in
    let within = c.requires.state.there.0 in
    let found : IsFound n s.mode s.at text c.match-known.run c.match-known.token =
    elim c.match-known.branch [
      | in-Some w ↦
          found_as n s.mode s.at text c.args.run.now c.match-known.run (Some w.in-Some.token) c.match-known.token w.run-is w.token-is
          (found_before n s.mode s.at text c.args.run.now c.args.known w.in-Some.token w.in-Some.is c.requires.known c.requires.run)
      | in-None w ↦
          let f = w.found-token.ensures in
          found_as n s.mode s.at text w.found-token.new.run c.match-known.run w.found-token.result c.match-known.token w.run-is w.token-is
          (record { found = λ t there. record { longest = f.answer t there; place = f.place; rules = f.rule t there }; of_mode = f.run })
    ] in
    let m = c.in-Some-token.token in
    let there : IsFound n s.mode s.at text c.match-known.run (Some m) = subst (λ (o : Option Match). IsFound n s.mode s.at text c.match-known.run o) c.in-Some-token.is found in
    let token = token_there n s.mode s.at text m.rule m.end drivable within (tokens_of n s.mode s.at text c.match-known.run m there) in
    let rule = rule_read _ n m.rule c.index.result.now c.numbers.view_is drivable token.below c.index.ensures in
    rule.acts

pub returns-then-not-has_room-clause-next : goal.returns-then-not-has_room-clause-next
returns-then-not-has_room-clause-next c = λ r are.
    let n = c.args.numbers.now in
    let text = c.args.text.now in
    let s = c.args.state.now in
    let drivable = subst IsDrivable c.numbers.view_is c.numbers.invariant.1 in
    let within = c.requires.state.there.0 in
    let found : IsFound n s.mode s.at text c.match-known.run c.match-known.token =
    elim c.match-known.branch [
      | in-Some w ↦
          found_as n s.mode s.at text c.args.run.now c.match-known.run (Some w.in-Some.token) c.match-known.token w.run-is w.token-is
          (found_before n s.mode s.at text c.args.run.now c.args.known w.in-Some.token w.in-Some.is c.requires.known c.requires.run)
      | in-None w ↦
          let f = w.found-token.ensures in
          found_as n s.mode s.at text w.found-token.new.run c.match-known.run w.found-token.result c.match-known.token w.run-is w.token-is
          (record { found = λ t there. record { longest = f.answer t there; place = f.place; rules = f.rule t there }; of_mode = f.run })
    ] in
    let m = c.in-Some-token.token in
    let there : IsFound n s.mode s.at text c.match-known.run (Some m) = subst (λ (o : Option Match). IsFound n s.mode s.at text c.match-known.run o) c.in-Some-token.is found in
    let token = token_there n s.mode s.at text m.rule m.end drivable within (tokens_of n s.mode s.at text c.match-known.run m there) in
    let rule = rule_read _ n m.rule c.index.result.now c.numbers.view_is drivable token.below c.index.ensures in
    let depth = length-below s.mode s.depth c.args.below.now c.requires.state.within in
    let acts = acts_of_rule r n m.rule c.index.result.now are rule in
    let room = c.has_room.ensures (actions_of r.actions m.rule) acts (stack_of s c.args.below.now) depth in (
      (
        record { kind = Some (get_or n.kinds m.rule 0); rule = m.rule; start = s.at; length = m.end - s.at },
        (
          (
            refl,
            record {
              kind_is = slice_get-get_or n.kinds m.rule 0 token.below;
              within = omega (arith, token.place, length-drop s.at text);
              longest = token.longest r are;
            },
          ),
          λ fits. false≢true (sym c.if-not-has_room.true ∙ room.1 fits),
        ),
      ),
      refl,
    )

pub act-requires-clause-actions : goal.act-requires-clause-actions
act-requires-clause-actions c =
    let n = c.args.numbers.now in
    let text = c.args.text.now in
    let s = c.args.state.now in
    let drivable = subst IsDrivable c.numbers.view_is c.numbers.invariant.1 in
    let within = c.requires.state.there.0 in
    let found : IsFound n s.mode s.at text c.match-known.run c.match-known.token =
    elim c.match-known.branch [
      | in-Some w ↦
          found_as n s.mode s.at text c.args.run.now c.match-known.run (Some w.in-Some.token) c.match-known.token w.run-is w.token-is
          (found_before n s.mode s.at text c.args.run.now c.args.known w.in-Some.token w.in-Some.is c.requires.known c.requires.run)
      | in-None w ↦
          let f = w.found-token.ensures in
          found_as n s.mode s.at text w.found-token.new.run c.match-known.run w.found-token.result c.match-known.token w.run-is w.token-is
          (record { found = λ t there. record { longest = f.answer t there; place = f.place; rules = f.rule t there }; of_mode = f.run })
    ] in
    let m = c.in-Some-token.token in
    let there : IsFound n s.mode s.at text c.match-known.run (Some m) = subst (λ (o : Option Match). IsFound n s.mode s.at text c.match-known.run o) c.in-Some-token.is found in
    let token = token_there n s.mode s.at text m.rule m.end drivable within (tokens_of n s.mode s.at text c.match-known.run m there) in
    let rule = rule_read _ n m.rule c.index.result.now c.numbers.view_is drivable token.below c.index.ensures in
    let depth = length-below s.mode s.depth c.args.below.now c.requires.state.within in
    let room = c.has_room.ensures rule.acts.0 rule.acts.1 (stack_of s c.args.below.now) depth in
    (rule.acts.0, (rule.acts.1, room.0 c.if-not-has_room.false))

pub resume-requires-2-clause-behind : goal.resume-requires-2-clause-behind
resume-requires-2-clause-behind c =
    let n = c.args.numbers.now in
    let text = c.args.text.now in
    let s = c.args.state.now in
    let drivable = subst IsDrivable c.numbers.view_is c.numbers.invariant.1 in
    let within = c.requires.state.there.0 in
    let found : IsFound n s.mode s.at text c.match-known.run c.match-known.token =
    elim c.match-known.branch [
      | in-Some w ↦
          found_as n s.mode s.at text c.args.run.now c.match-known.run (Some w.in-Some.token) c.match-known.token w.run-is w.token-is
          (found_before n s.mode s.at text c.args.run.now c.args.known w.in-Some.token w.in-Some.is c.requires.known c.requires.run)
      | in-None w ↦
          let f = w.found-token.ensures in
          found_as n s.mode s.at text w.found-token.new.run c.match-known.run w.found-token.result c.match-known.token w.run-is w.token-is
          (record { found = λ t there. record { longest = f.answer t there; place = f.place; rules = f.rule t there }; of_mode = f.run })
    ] in
    let m = c.in-Some-token.token in
    let there : IsFound n s.mode s.at text c.match-known.run (Some m) = subst (λ (o : Option Match). IsFound n s.mode s.at text c.match-known.run o) c.in-Some-token.is found in
    let token = token_there n s.mode s.at text m.rule m.end drivable within (tokens_of n s.mode s.at text c.match-known.run m there) in
    let old = before n s.at text s.mode c.match-known.run there.of_mode in
    let later : IsRunBefore n m.end text c.if-state-mode.run =
    elim c.if-state-mode.branch [
      | then-state-mode w ↦
          subst (λ (r : Run). IsRunBefore n m.end text r) (sym w.run-is) (before_since n s.at text c.match-known.run m.end (omega (arith, token.place)) old)
      | else-state-mode w ↦
          subst (λ (r : Run). IsRunBefore n m.end text r) (sym w.run-is) (before_later n s.at text c.match-known.run m.end (omega (arith, token.place)) old)
    ] in
    later.behind

pub token_piece-requires-clause-rule : goal.token_piece-requires-clause-rule
token_piece-requires-clause-rule c =
    let n = c.args.numbers.now in
    let text = c.args.text.now in
    let s = c.args.state.now in
    let drivable = subst IsDrivable c.numbers.view_is c.numbers.invariant.1 in
    let within = c.requires.state.there.0 in
    let found : IsFound n s.mode s.at text c.match-known.run c.match-known.token =
    elim c.match-known.branch [
      | in-Some w ↦
          found_as n s.mode s.at text c.args.run.now c.match-known.run (Some w.in-Some.token) c.match-known.token w.run-is w.token-is
          (found_before n s.mode s.at text c.args.run.now c.args.known w.in-Some.token w.in-Some.is c.requires.known c.requires.run)
      | in-None w ↦
          let f = w.found-token.ensures in
          found_as n s.mode s.at text w.found-token.new.run c.match-known.run w.found-token.result c.match-known.token w.run-is w.token-is
          (record { found = λ t there. record { longest = f.answer t there; place = f.place; rules = f.rule t there }; of_mode = f.run })
    ] in
    let m = c.in-Some-token.token in
    let there : IsFound n s.mode s.at text c.match-known.run (Some m) = subst (λ (o : Option Match). IsFound n s.mode s.at text c.match-known.run o) c.in-Some-token.is found in
    let token = token_there n s.mode s.at text m.rule m.end drivable within (tokens_of n s.mode s.at text c.match-known.run m there) in
    token.below

pub token_piece-requires-clause-end : goal.token_piece-requires-clause-end
token_piece-requires-clause-end c =
    let n = c.args.numbers.now in
    let text = c.args.text.now in
    let s = c.args.state.now in
    let drivable = subst IsDrivable c.numbers.view_is c.numbers.invariant.1 in
    let within = c.requires.state.there.0 in
    let found : IsFound n s.mode s.at text c.match-known.run c.match-known.token =
    elim c.match-known.branch [
      | in-Some w ↦
          found_as n s.mode s.at text c.args.run.now c.match-known.run (Some w.in-Some.token) c.match-known.token w.run-is w.token-is
          (found_before n s.mode s.at text c.args.run.now c.args.known w.in-Some.token w.in-Some.is c.requires.known c.requires.run)
      | in-None w ↦
          let f = w.found-token.ensures in
          found_as n s.mode s.at text w.found-token.new.run c.match-known.run w.found-token.result c.match-known.token w.run-is w.token-is
          (record { found = λ t there. record { longest = f.answer t there; place = f.place; rules = f.rule t there }; of_mode = f.run })
    ] in
    let m = c.in-Some-token.token in
    let there : IsFound n s.mode s.at text c.match-known.run (Some m) = subst (λ (o : Option Match). IsFound n s.mode s.at text c.match-known.run o) c.in-Some-token.is found in
    let token = token_there n s.mode s.at text m.rule m.end drivable within (tokens_of n s.mode s.at text c.match-known.run m there) in
    omega (arith, token.place)

pub returns-clause-next : goal.returns-clause-next
returns-clause-next c = λ r are.
    let n = c.args.numbers.now in
    let text = c.args.text.now in
    let s = c.args.state.now in
    let drivable = subst IsDrivable c.numbers.view_is c.numbers.invariant.1 in
    let within = c.requires.state.there.0 in
    let found : IsFound n s.mode s.at text c.match-known.run c.match-known.token =
    elim c.match-known.branch [
      | in-Some w ↦
          found_as n s.mode s.at text c.args.run.now c.match-known.run (Some w.in-Some.token) c.match-known.token w.run-is w.token-is
          (found_before n s.mode s.at text c.args.run.now c.args.known w.in-Some.token w.in-Some.is c.requires.known c.requires.run)
      | in-None w ↦
          let f = w.found-token.ensures in
          found_as n s.mode s.at text w.found-token.new.run c.match-known.run w.found-token.result c.match-known.token w.run-is w.token-is
          (record { found = λ t there. record { longest = f.answer t there; place = f.place; rules = f.rule t there }; of_mode = f.run })
    ] in
    let m = c.in-Some-token.token in
    let there : IsFound n s.mode s.at text c.match-known.run (Some m) = subst (λ (o : Option Match). IsFound n s.mode s.at text c.match-known.run o) c.in-Some-token.is found in
    let token = token_there n s.mode s.at text m.rule m.end drivable within (tokens_of n s.mode s.at text c.match-known.run m there) in
    let rule = rule_read _ n m.rule c.index.result.now c.numbers.view_is drivable token.below c.index.ensures in
    let depth = length-below s.mode s.depth c.args.below.now c.requires.state.within in
    let acts = acts_of_rule r n m.rule c.index.result.now are rule in
    let stack = stack_of s c.args.below.now in
    let room = c.has_room.ensures (actions_of r.actions m.rule) acts stack depth in
    let fits = room.0 c.if-not-has_room.false in
    token_comes r n.kinds (length c.args.below.now) text s.at stack (stack_of c.act.new.state c.act.new.below) c.token_piece.result m.rule m.end c.token_piece.ensures.kind c.token_piece.ensures.rest token.place
    (token.longest r are) fits (c.act.ensures.acted (actions_of r.actions m.rule) acts fits)

pub returns-clause-state : goal.returns-clause-state
returns-clause-state c =
    let n = c.args.numbers.now in
    let text = c.args.text.now in
    let s = c.args.state.now in
    let drivable = subst IsDrivable c.numbers.view_is c.numbers.invariant.1 in
    let within = c.requires.state.there.0 in
    let found : IsFound n s.mode s.at text c.match-known.run c.match-known.token =
    elim c.match-known.branch [
      | in-Some w ↦
          found_as n s.mode s.at text c.args.run.now c.match-known.run (Some w.in-Some.token) c.match-known.token w.run-is w.token-is
          (found_before n s.mode s.at text c.args.run.now c.args.known w.in-Some.token w.in-Some.is c.requires.known c.requires.run)
      | in-None w ↦
          let f = w.found-token.ensures in
          found_as n s.mode s.at text w.found-token.new.run c.match-known.run w.found-token.result c.match-known.token w.run-is w.token-is
          (record { found = λ t there. record { longest = f.answer t there; place = f.place; rules = f.rule t there }; of_mode = f.run })
    ] in
    let m = c.in-Some-token.token in
    let there : IsFound n s.mode s.at text c.match-known.run (Some m) = subst (λ (o : Option Match). IsFound n s.mode s.at text c.match-known.run o) c.in-Some-token.is found in
    let token = token_there n s.mode s.at text m.rule m.end drivable within (tokens_of n s.mode s.at text c.match-known.run m there) in
    let rule = rule_read _ n m.rule c.index.result.now c.numbers.view_is drivable token.below c.index.ensures in
    let depth = length-below s.mode s.depth c.args.below.now c.requires.state.within in
    let room = c.has_room.ensures rule.acts.0 rule.acts.1 (stack_of s c.args.below.now) depth in
    let acted = c.act.ensures.acted rule.acts.0 rule.acts.1 (room.0 c.if-not-has_room.false) in
    record {
      within = omega (arith, c.act.ensures.within, c.act.auto.below);
      there = acts_there (length n.tables) (stack_of s c.args.below.now) (stack_of c.act.new.state c.act.new.below) n.actions c.index.result.now rule.acts.0 rule.acts.1 acted c.requires.state.there;
    }

pub returns-clause-goes_on : goal.returns-clause-goes_on
returns-clause-goes_on c =
    let n = c.args.numbers.now in
    let text = c.args.text.now in
    let s = c.args.state.now in
    let drivable = subst IsDrivable c.numbers.view_is c.numbers.invariant.1 in
    let within = c.requires.state.there.0 in
    let found : IsFound n s.mode s.at text c.match-known.run c.match-known.token =
    elim c.match-known.branch [
      | in-Some w ↦
          found_as n s.mode s.at text c.args.run.now c.match-known.run (Some w.in-Some.token) c.match-known.token w.run-is w.token-is
          (found_before n s.mode s.at text c.args.run.now c.args.known w.in-Some.token w.in-Some.is c.requires.known c.requires.run)
      | in-None w ↦
          let f = w.found-token.ensures in
          found_as n s.mode s.at text w.found-token.new.run c.match-known.run w.found-token.result c.match-known.token w.run-is w.token-is
          (record { found = λ t there. record { longest = f.answer t there; place = f.place; rules = f.rule t there }; of_mode = f.run })
    ] in
    let m = c.in-Some-token.token in
    let there : IsFound n s.mode s.at text c.match-known.run (Some m) = subst (λ (o : Option Match). IsFound n s.mode s.at text c.match-known.run o) c.in-Some-token.is found in
    let token = token_there n s.mode s.at text m.rule m.end drivable within (tokens_of n s.mode s.at text c.match-known.run m there) in
    goes_on text s.at m.end m.end c.token_piece.result m.rule c.token_piece.ensures.rest token.place refl

pub returns-clause-run : goal.returns-clause-run
returns-clause-run c =
    let n = c.args.numbers.now in
    let text = c.args.text.now in
    let s = c.args.state.now in
    let drivable = subst IsDrivable c.numbers.view_is c.numbers.invariant.1 in
    let within = c.requires.state.there.0 in
    let found : IsFound n s.mode s.at text c.match-known.run c.match-known.token =
    elim c.match-known.branch [
      | in-Some w ↦
          found_as n s.mode s.at text c.args.run.now c.match-known.run (Some w.in-Some.token) c.match-known.token w.run-is w.token-is
          (found_before n s.mode s.at text c.args.run.now c.args.known w.in-Some.token w.in-Some.is c.requires.known c.requires.run)
      | in-None w ↦
          let f = w.found-token.ensures in
          found_as n s.mode s.at text w.found-token.new.run c.match-known.run w.found-token.result c.match-known.token w.run-is w.token-is
          (record { found = λ t there. record { longest = f.answer t there; place = f.place; rules = f.rule t there }; of_mode = f.run })
    ] in
    let m = c.in-Some-token.token in
    let there : IsFound n s.mode s.at text c.match-known.run (Some m) = subst (λ (o : Option Match). IsFound n s.mode s.at text c.match-known.run o) c.in-Some-token.is found in
    let token = token_there n s.mode s.at text m.rule m.end drivable within (tokens_of n s.mode s.at text c.match-known.run m there) in
    let old = before n s.at text s.mode c.match-known.run there.of_mode in
    let later : IsRunBefore n m.end text c.if-state-mode.run =
    elim c.if-state-mode.branch [
      | then-state-mode w ↦
          subst (λ (r : Run). IsRunBefore n m.end text r) (sym w.run-is) (before_since n s.at text c.match-known.run m.end (omega (arith, token.place)) old)
      | else-state-mode w ↦
          subst (λ (r : Run). IsRunBefore n m.end text r) (sym w.run-is) (before_later n s.at text c.match-known.run m.end (omega (arith, token.place)) old)
    ] in
    resumed n m.end text c.act.new.state.mode c.if-state-mode.run c.resume-2.new.run c.resume-2.ensures.same c.resume-2.ensures.room later c.resume-2.ensures.serves
