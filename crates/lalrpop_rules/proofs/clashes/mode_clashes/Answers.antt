use Rattle.std.proofs.Common.{[], ◌∙◌, length, map, ap, sym, refl}
use Rattle.std.specs.Prelude.{IfOk}
use Rattle.std.proofs.lemmas.Result.{IfOk-weaker, err_from_is_err_and}
use Rattle.lalrpop_rules.specs.ModeClashes.{AreModeClashes}
use Rattle.lalrpop_rules.specs.ModeSet.{AreModeRules, rules_of}
use Rattle.lalrpop_rules.specs.Modes.{ModeRules}
use Rattle.lalrpop_rules.specs.Internal.Lexers.{seen}
use Rattle.lalrpop_rules.specs.RuleSet.{names_of, skips_of}
use Rattle.lalrpop_rules.proofs.ClashLists.{clashes_of_rules, fault_of_rules, fault_of_texts, on_err_of}
use Rattle.lalrpop_rules.proofs.ModeByMode.{count_of_trees, count_of_known}
use Rattle.lalrpop_rules.proofs.clashes.mode_clashes.Goals as goal

pub returns-in_err-all_there-clause-error : goal.returns-in_err-all_there-clause-error
returns-in_err-all_there-clause-error c =
    let p = err_from_is_err_and c.from_residual.result c.from_residual.ensures.1 in
    rw (p.1, p.2) c.in_err-all_there.ensures.fault

pub returns-in_err-regexs-clause-error : goal.returns-in_err-regexs-clause-error
returns-in_err-regexs-clause-error c =
    let p = err_from_is_err_and c.from_residual-in_err-regexs.result c.from_residual-in_err-regexs.ensures.1 in
    rw (p.1, p.2) (fault_of_texts c.args.rules.now c.args.modes _ (λ j m q below at names. c.in_ok-all_there.ensures.there j m q at names) c.in_err-regexs.ensures.error)

pub clash_lists-requires-clause-same_len : goal.clash_lists-requires-clause-same_len
clash_lists-requires-clause-same_len c =
    ap length c.deref.ensures.value ∙ count_of_trees c.args.rules.now c.in_ok-regexs.regexs.items c.in_ok-regexs.ensures.trees
    ∙ sym (ap length c.deref-4.ensures.value ∙ count_of_known _ c.in_ok-known.known.items c.args.rules.now c.in_ok-known.ensures.modes)

pub clash_lists-requires-clause-kinds : goal.clash_lists-requires-clause-kinds
clash_lists-requires-clause-kinds c = ap length c.deref-3.ensures.value ∙ c.in_ok-kinds.ensures.kinds.one_each
    ∙ sym (ap length c.deref-4.ensures.value ∙ count_of_known _ c.in_ok-known.known.items c.args.rules.now c.in_ok-known.ensures.modes)

pub clash_lists-requires-clause-no_fault : goal.clash_lists-requires-clause-no_fault
clash_lists-requires-clause-no_fault c = rw c.deref.ensures.value c.in_ok-regexs.ensures.no_fault

pub returns-clause-clashes : goal.returns-clause-clashes
returns-clause-clashes c =
    let r : ModeRules = record {
      names = names_of (rules_of c.args.rules.now);
      trees = c.in_ok-regexs.regexs.items;
      precedences = map (λ p. p.0) c.in_ok-precedences.precedences.items;
      skips = skips_of (rules_of c.args.rules.now);
      actions = map (λ k. k.actions.items) c.in_ok-known.known.items;
      members = map (λ k. k.modes.items) c.in_ok-known.known.items;
      kinds = c.in_ok-kinds.kinds.items;
      modes = c.args.modes;
      mode_names = [];
      automata = [];
    } in
    let are : AreModeRules c.args.rules.now c.args.modes r = record {
      names = refl;
      trees = c.in_ok-regexs.ensures.trees;
      no_fault = c.in_ok-regexs.ensures.no_fault;
      precedences = c.in_ok-precedences.ensures.precedences;
      skips = refl;
      actions = c.in_ok-known.ensures.actions;
      members = c.in_ok-known.ensures.modes;
      kinds = c.in_ok-kinds.ensures.kinds;
      count = refl;
    } in
    let found : IfOk c.clash_lists.result (λ all. AreModeClashes (seen r.trees r.precedences r.members r.kinds c.args.modes) (map (λ cs. cs.items) all.items)) =
    rw (c.deref.ensures.value, c.deref-2.ensures.value, c.deref-3.ensures.value, c.deref-4.ensures.value) at c.clash_lists.ensures.clashes in
    IfOk-weaker c.clash_lists.result _ _ (λ all is. (r, (are, clashes_of_rules c.args.rules.now c.args.modes r (map (λ cs. cs.items) all.items) are is))) found

pub returns-clause-error : goal.returns-clause-error
returns-clause-error c = on_err_of c.clash_lists.result (λ e is. fault_of_rules c.args.rules.now c.args.modes e is) c.clash_lists.ensures.error
