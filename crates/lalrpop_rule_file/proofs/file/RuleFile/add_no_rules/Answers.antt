use Rattle.std.proofs.Common.{◌≡◌, length, refl, sym, arith}
use Rattle.std.proofs.lemmas.Bool.Decides.{Decides-eqb}
use Rattle.lalrpop_rule_file.specs.declared.warning.Warning.TheVariants.{NoRules}
use Rattle.lalrpop_rule_file.proofs.FoundWarnings.{empty_list, found_kind, found_more, no_rules_end}
use Rattle.lalrpop_rule_file.proofs.file.RuleFile.add_no_rules.Goals as goal

pub returns-in_ok-push : goal.returns-in_ok-push
returns-in_ok-push c =
    let file = c.args.self.now in
    let none : length file.rules.items ≡ 0 = omega (arith, (Decides-eqb _ 0).0 (sym c.if-is_empty.ensures), file.rules.ok.0) in
    λ h. found_kind file 0 1 c.push.new.self.items
    (found_more file 0 0 c.args.found.now.items h c.push.new.self.items NoRules refl refl (empty_list file.rules.items none) c.in_ok-push.ensures.items) (no_rules_end file)
