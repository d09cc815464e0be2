use Rattle.uses_lexer.proofs.build_a_lexer.keyword_and_names.Goals as goal

pub returns-clause-no_fault : goal.returns-clause-no_fault
returns-clause-no_fault c = rw c.in_ok-regexs.ensures.items at c.new.ensures.no_fault

pub returns-clause-no_clash : goal.returns-clause-no_clash
returns-clause-no_clash c =
    rw (c.in_ok-regexs.ensures.items, c.in_ok-precedences.ensures.items) at c.new.ensures.no_clash
