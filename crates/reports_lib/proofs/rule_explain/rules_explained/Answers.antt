use Rattle.reports_lib.proofs.rule_explain.rules_explained.Goals as goal

pub characters_before-inside-requires : goal.characters_before-inside-requires
characters_before-inside-requires c =
    let not = rw c.in-NotParsed.is at c.requires.error in
    record { boundary = rw (c.text_of.ensures, c.deref.ensures.value) not }

pub returns-in-Clash : goal.returns-in-Clash
returns-in-Clash c = record { said = rw c.in-Clash.is (rw c.deref-in-Clash.ensures.value at c.clash_explained.ensures.said) }
