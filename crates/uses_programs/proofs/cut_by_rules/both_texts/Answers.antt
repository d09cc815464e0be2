use Rattle.uses_programs.proofs.cut_by_rules.both_texts.Goals as goal

pub returns : goal.returns
returns g c =
    let one = c.in_ok-one.ensures.written in
    let two = c.in_ok-two.ensures.written in
    record { written = (c.write_lines.new.console, (one.0, (two.0, (one.1.0, (two.1.0, (one.1.1, two.1.1)))))) }
