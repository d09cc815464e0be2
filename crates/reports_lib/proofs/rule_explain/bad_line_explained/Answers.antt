use Rattle.reports_lib.proofs.rule_explain.bad_line_explained.Goals as goal

pub returns-in-RepeatedPart : goal.returns-in-RepeatedPart
returns-in-RepeatedPart c = record { said = rw c.in-RepeatedPart.is c.place_explained-in-RepeatedPart.ensures.placed }
