use Rattle.std.proofs.Common.{◌++◌, ◌∙◌, List, ℕ, string_bytes, ap}
use Rattle.std.specs.Prelude.{codes}
use Rattle.lalrpop_dense.specs.DenseTable.{TableNumbers}
use Rattle.lalrpop_emit.specs.Ahead.{AheadNumbers}
use Rattle.lalrpop_emit.specs.CSource.{ahead_text, c_file, filled, rules_text, tables_text}
use Rattle.lalrpop_emit.specs.declared.c_text.TheConstants.{HEAD, DRIVER}
use Rattle.lalrpop_emit.proofs.Appended.{grown}
use Rattle.lalrpop_emit.proofs.c_file.source_text.Goals as goal

pub returns-clause-file : goal.returns-clause-file
unfolding c_file
returns-clause-file c =
    let p = c.args.prefix.now in
    let numbers = c.args.numbers.now in
    let rest = HEAD.now ++ (rules_text p numbers ++ (tables_text p numbers.tables ++ (ahead_text p numbers.ahead ++ filled p DRIVER.now))) in
    let tables = c.in_ok-push_tables.ensures ∙ ap (λ (ts : List TableNumbers). string_bytes c.push_rules.new.source ++ tables_text p ts) c.tables.ensures.table in
    let ahead = c.in_ok-push_ahead.ensures ∙ ap (λ (xs : List AheadNumbers). string_bytes c.push_tables.new.source ++ ahead_text p xs) c.ahead.ensures in
    grown (string_bytes c.in_ok-source.source) _ _ _ _ c.in_ok-push_str.ensures.bytes
    (grown (string_bytes c.push_str.new.self) _ _ _ _ c.in_ok-push_str-2.ensures.bytes
    (grown (string_bytes c.push_str-2.new.self) _ _ _ _ c.in_ok-push_str-3.ensures.bytes
    (grown (string_bytes c.push_str-3.new.self) _ _ _ _ c.in_ok-push_rules.ensures
    (grown (string_bytes c.push_rules.new.source) _ _ _ _ tables
    (grown (string_bytes c.push_tables.new.source) _ _ _ _ ahead c.in_ok-push_filled.ensures)))))
    ∙ ap (λ (x : List ℕ). x ++ (p ++ (codes ":" ++ rest))) c.in_ok-source.ensures.ok
