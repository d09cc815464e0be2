use Rattle.std.proofs.Common.{List, ℕ, length, map, sym, ap, subst}
use Rattle.bajofeki_rules.specs.Lines.{lines}
use Rattle.lalrpop_rule_file.specs.RuleFile.{without_mark}
use Rattle.reports_lib.specs.NamedRules.{RulesRefused, SayRules, IsSetOf}
use Rattle.reports_lib.proofs.Refusals.{names_only}
use Rattle.reports_lib.proofs.RuleLaws.{in_both, in_found}
use Rattle.reports_lib.proofs.by_rules.lexer_of_rules.Goals as goal

pub returns-clause-refused : goal.returns-clause-refused
returns-clause-refused c =
    let ls = ap lines c.without_mark.ensures in
    let rs = c.in_ok-file.file.rules.items in
    let modes = map (λ m. m.now) c.in_ok-file.file.modes.items in
    let say : SayRules (lines (without_mark c.args.bytes.now)) modes rs =
    (c.args.file.now.rules.items, (c.args.file.now.parts.items, (rw c.in_ok-file.ensures.modes c.requires.rules, (c.requires.parts, c.in_ok-file.ensures.rules)))) in
    in_both c.lexer_of_file.result
    (λ answer is. (modes, (rs, (say, subst (λ (l : List (List ℕ)). RulesRefused c.args.name.now l modes rs answer) ls is))))
    c.lexer_of_file.ensures.refused

pub returns-clause-lexer : goal.returns-clause-lexer
returns-clause-lexer c =
    let rs = c.in_ok-file.file.rules.items in
    let modes = map (λ m. m.now) c.in_ok-file.file.modes.items in
    let say : SayRules (lines (without_mark c.args.bytes.now)) modes rs =
    (c.args.file.now.rules.items, (c.args.file.now.parts.items, (rw c.in_ok-file.ensures.modes c.requires.rules, (c.requires.parts, c.in_ok-file.ensures.rules)))) in
    in_found c.lexer_of_file.result
    (λ f is names. (
      rs,
      (
        subst (λ (ms : List (List ℕ)). SayRules (lines (without_mark c.args.bytes.now)) ms rs) (sym names) say,
        subst (λ (ms : List (List ℕ)). IsSetOf rs ms f) (sym names) is,
      ),
    ))
    c.lexer_of_file.ensures.lexer c.lexer_of_file.ensures.names

pub lexer_of_file-requires : goal.lexer_of_file-requires
lexer_of_file-requires c = record {
  places = rw c.without_mark.ensures (c.args.file.now.rules.items, (c.args.file.now.parts.items, (c.in_ok-file.ensures.rules, (c.requires.places, c.in_ok-file.ensures.places))));
  some = rw c.in_ok-file.ensures.modes c.requires.some;
  within = names_only c.args.file.now.parts.items c.args.file.now.rules.items c.in_ok-file.file.rules.items (length c.in_ok-file.file.modes.items) c.in_ok-file.ensures.rules (rw c.in_ok-file.ensures.modes c.requires.within);
}
