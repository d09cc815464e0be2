use Rattle.std.proofs.Common.{◌<◌, ℕ, [], ◌∙◌, map, length, ap, sym, subst, refl}
use Rattle.std.specs.String.{string_bytes}
use Rattle.std.proofs.lemmas.List.{length-map}
use Rattle.std.proofs.lemmas.Result.{err_from_is_err_and}
use Rattle.lalrpop_rules.specs.ModeSet.{AreModeRules}
use Rattle.lalrpop_rules.specs.Modes.{ModeRules, NoModeClash}
use Rattle.lalrpop_rules.specs.Internal.Lexers.{IsModeFault, seen}
use Rattle.lalrpop_rules.proofs.NamedModes.{lead_within}
use Rattle.lalrpop_rules.proofs.ModeByMode.{error_of_fault, error_of_texts, count_of_trees, count_of_known}
use Rattle.lalrpop_rules.proofs.rule_lexer.RuleLexer.build.Goals as goal

pub returns-in_err-regexs-clause-error : goal.returns-in_err-regexs-clause-error
returns-in_err-regexs-clause-error c =
    let p = err_from_is_err_and c.from_residual-in_err-regexs.result c.from_residual-in_err-regexs.ensures.1 in
    rw (p.1, p.2) (error_of_texts c.args.rules.now c.args.modes _ (λ j m q below at names. c.in_ok-all_there.ensures.there j m q at names) c.in_err-regexs.ensures.error)

pub lexers_of-requires-clause-same_len : goal.lexers_of-requires-clause-same_len
lexers_of-requires-clause-same_len c = ap length c.deref.ensures.value ∙ count_of_trees c.args.rules.now c.in_ok-regexs.regexs.items c.in_ok-regexs.ensures.trees
    ∙ sym (ap length c.deref-4.ensures.value ∙ count_of_known _ c.in_ok-known.known.items c.args.rules.now c.in_ok-known.ensures.modes)

pub lexers_of-requires-clause-kinds : goal.lexers_of-requires-clause-kinds
lexers_of-requires-clause-kinds c = ap length c.deref-3.ensures.value ∙ c.in_ok-kinds.ensures.kinds.one_each
    ∙ sym (ap length c.deref-4.ensures.value ∙ count_of_known _ c.in_ok-known.known.items c.args.rules.now c.in_ok-known.ensures.modes)

pub lexers_of-requires-clause-no_fault : goal.lexers_of-requires-clause-no_fault
lexers_of-requires-clause-no_fault c = rw c.deref.ensures.value c.in_ok-regexs.ensures.no_fault

pub returns-in_err-lexers-clause-error : goal.returns-in_err-lexers-clause-error
returns-in_err-lexers-clause-error c =
    let r : ModeRules = record {
      names = map (λ s. string_bytes s) c.in_ok-names.names.items;
      trees = c.in_ok-regexs.regexs.items;
      precedences = map (λ p. p.0) c.in_ok-precedences.precedences.items;
      skips = c.in_ok-skips.skips.items;
      actions = map (λ k. k.actions.items) c.in_ok-known.known.items;
      members = map (λ k. k.modes.items) c.in_ok-known.known.items;
      kinds = c.in_ok-kinds.kinds.items;
      modes = c.args.modes;
      mode_names = [];
      automata = [];
    } in
    let are : AreModeRules c.args.rules.now c.args.modes r = record {
      names = c.in_ok-names.ensures.names;
      trees = c.in_ok-regexs.ensures.trees;
      no_fault = c.in_ok-regexs.ensures.no_fault;
      precedences = c.in_ok-precedences.ensures.precedences;
      skips = c.in_ok-skips.ensures.skips;
      actions = c.in_ok-known.ensures.actions;
      members = c.in_ok-known.ensures.modes;
      kinds = c.in_ok-kinds.ensures.kinds;
      count = refl;
    } in
    let fault : IsModeFault (seen r.trees r.precedences r.members r.kinds c.args.modes) c.in_err-lexers.field-0.0 =
    rw (c.deref.ensures.value, c.deref-2.ensures.value, c.deref-3.ensures.value, c.deref-4.ensures.value) at c.in_err-lexers.ensures.error in
    let p = err_from_is_err_and c.from_residual-in_err-lexers.result c.from_residual-in_err-lexers.ensures.1 in
    rw (p.1, p.2) (error_of_fault c.args.rules.now c.args.modes r _ (λ j m q below at names. c.in_ok-all_there.ensures.there j m q at names) are fault)

pub invariant_of-result : goal.invariant_of-result
invariant_of-result c = record {
  lexers = rw (c.deref.ensures.value, c.deref-2.ensures.value, c.deref-3.ensures.value, c.deref-4.ensures.value) at c.in_ok-lexers.ensures.lexers;
  clear = λ m within.
      let none : NoModeClash (seen c.in_ok-regexs.regexs.items (map (λ p. p.0) c.in_ok-precedences.precedences.items)
      (map (λ k. k.modes.items) c.in_ok-known.known.items) c.in_ok-kinds.kinds.items c.args.modes) =
      rw (c.deref.ensures.value, c.deref-2.ensures.value, c.deref-3.ensures.value, c.deref-4.ensures.value) at c.in_ok-lexers.ensures.no_clash in
      none m (subst (λ (n : ℕ). m < n) c.in_ok-lexers.ensures.count within);
  within = λ i m leads.
      subst (λ (n : ℕ). m < n) (sym c.in_ok-lexers.ensures.count)
      (lead_within c.args.modes c.args.rules.now _ c.in_ok-all_there.ensures.there c.in_ok-known.ensures.actions i m leads);
  some = subst (λ (n : ℕ). 0 < n) (sym c.in_ok-lexers.ensures.count) c.requires.some;
  named =
      ap length c.in_ok-names.ensures.names ∙ length-map _ _ ∙ length-map _ _
      ∙ sym (count_of_trees c.args.rules.now c.in_ok-regexs.regexs.items c.in_ok-regexs.ensures.trees);
  modes_named = ap length c.in_ok-mode_names.ensures.names ∙ length-map _ _ ∙ c.requires.named ∙ sym c.in_ok-lexers.ensures.count;
}

pub returns-clause-no_clash : goal.returns-clause-no_clash
returns-clause-no_clash c m within =
    let none : NoModeClash (seen c.in_ok-regexs.regexs.items (map (λ p. p.0) c.in_ok-precedences.precedences.items)
    (map (λ k. k.modes.items) c.in_ok-known.known.items) c.in_ok-kinds.kinds.items c.args.modes) =
    rw (c.deref.ensures.value, c.deref-2.ensures.value, c.deref-3.ensures.value, c.deref-4.ensures.value) at c.in_ok-lexers.ensures.no_clash in
    none m (subst (λ (n : ℕ). m < n) c.in_ok-lexers.ensures.count within)
