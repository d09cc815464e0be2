use Rattle.std.proofs.Common.{sym, ◌∙◌}
use Rattle.std.proofs.lemmas.List.{length-map}
use Rattle.uses_rules.proofs.ReadFiles.{names_of_file}
use Rattle.uses_rules.proofs.read_a_file.lexer_of_file.Goals as goal

pub returns-in-Ok-with_modes : goal.returns-in-Ok-with_modes
returns-in-Ok-with_modes c =
    let file = c.in-Ok.file in
    let rules = rw (c.deref.ensures.value, c.deref-in-Ok.ensures.value) at c.in-Ok-with_modes.ensures.rules in
    let count = rules.count ∙ sym (length-map file.modes.items (λ m. m.now)) in
    record { names = (_, (file.rules.items, (c.in-Ok.ensures.rules, names_of_file c.in_ok-rules-in-Ok.rules.items file.rules.items c.in-Ok-with_modes.lexer.names c.in_ok-rules-in-Ok.ensures.names rules.names, count))) }

pub with_modes-requires : goal.with_modes-requires
with_modes-requires c = record { some = rw c.deref-in-Ok.ensures.value c.in-Ok.ensures.some }
