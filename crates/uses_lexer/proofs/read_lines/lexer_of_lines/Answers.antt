use Rattle.std.proofs.Common.{◌∙◌}
use Rattle.std.proofs.lemmas.List.{length-map}
use Rattle.lalrpop_lexer.proofs.TerminalLemmas.{length-AreTerminals}
use Rattle.uses_lexer.proofs.read_lines.lexer_of_lines.Goals as goal

pub new-requires : goal.new-requires
new-requires c =
    let said = rw c.in-All.is at c.in_ok-regexs.ensures.said in
    record { same_len = length-AreTerminals _ _ _ said ∙ length-map _ _ }
