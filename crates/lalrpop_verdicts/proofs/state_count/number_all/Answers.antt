use Rattle.std.proofs.Common.{◌≡◌, ◌<◌, ◌≤◌, ◌∙◌, List, ℕ, length, get_or, sym, ap, subst, arith}
use Rattle.std.specs.List.{Contains}
use Rattle.std.proofs.lemmas.List.Elements.{Contains-get_or}
use Rattle.lalrpop_verdicts.specs.Internal.ClassRows.{AreNumbered, IsMetClass, IsNumberOf}
use Rattle.lalrpop_verdicts.proofs.ClassWalks.{met_then, met_weaker}
use Rattle.lalrpop_verdicts.proofs.StateCounts.{all_found, all_more}
use Rattle.lalrpop_verdicts.proofs.state_count.number_all.Goals as goal

pub number-requires-clause-within : goal.number-requires-clause-within
number-requires-clause-within c =
    let states = c.args.states.now in
    let k = c.loop-state.state-index in
    let within : get_or states k 0 < length c.args.met.now.classes.items = c.requires.within (get_or states k 0) (Contains-get_or states k 0 c.loop-state-test.true) in
    omega (arith, within, c.new.ensures.value, ap length c.loop-state.invariant.classes)

pub loop-state-preserved : goal.loop-state-preserved
loop-state-preserved c =
    let states = c.args.states.now in
    let k = c.loop-state.state-index in
    let p = c.new.result in
    let classes = c.args.met.now.classes.items in
    let before = c.loop-state.met.states.items in
    let after = c.number.new.self.states.items in
    let n = c.in_ok-number.field-0 in
    let i = c.loop-state.invariant in
    let met = c.in_ok-number.ensures.met in
    let has : Contains states (get_or states k 0) = Contains-get_or states k 0 c.loop-state-test.true in
    let same_classes = c.in_ok-number.ensures.classes ∙ i.classes in
    let is : IsNumberOf classes after p n = subst (λ (cs : List ℕ). IsNumberOf cs after p n) same_classes c.in_ok-number.ensures.number in
    record {
      classes = same_classes;
      numbered = subst (λ (cs : List ℕ). AreNumbered cs c.number.new.self.numbers.items after) same_classes c.in_ok-number.ensures.numbered;
      met = met_then (Contains states) c.args.met.now.states.items before after i.met
          (met_weaker (λ q. q ≡ p) (Contains states) before after (λ q e. subst (Contains states) (sym (e ∙ c.new.ensures.value)) has) met);
      all = all_more classes before after states k p n met i.all c.new.ensures.value is;
    }

pub returns-clause-all : goal.returns-clause-all
returns-clause-all c =
    let states = c.args.states.now in
    let met = c.loop-state.met.states.items in
    let i = c.loop-state.invariant in
    let past : length states ≤ c.loop-state.state-index = omega (arith, c.loop-state-test.false) in
    λ q m. subst (λ (cs : List ℕ). IsMetClass cs met q) (sym i.classes) (all_found c.args.met.now.classes.items met states c.loop-state.state-index i.all past q m)
