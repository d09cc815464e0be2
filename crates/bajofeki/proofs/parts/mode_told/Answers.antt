use Rattle.std.proofs.Common.{rules, ◌≡◌, get_or}
use Rattle.bajofeki.proofs.Chunking.{cutter_more, walker_there}
use Rattle.bajofeki.proofs.parts.mode_told.Goals as goal

pub told_by-requires-clause-sound : goal.told_by-requires-clause-sound
told_by-requires-clause-sound c =
    let cutter = c.args.cutter.now in
    let walker = c.index-walker.result.now in
    let same : get_or cutter.walkers.items c.args.mode walker ≡ walker = first_of (cc, search rules) in
    c.requires.cutter.sound c.args.mode walker (walker_there c.args.lexer.now cutter c.args.at c.args.mode walker c.args.text.now c.requires.cutter c.requires.there same)

pub returns-clause-cutter : goal.returns-clause-cutter
returns-clause-cutter c =
    let cutter = c.args.cutter.now in
    let walker = c.index-walker.result.now in
    let same : get_or cutter.walkers.items c.args.mode walker ≡ walker = first_of (cc, search rules) in
    let there = walker_there c.args.lexer.now cutter c.args.at c.args.mode walker c.args.text.now c.requires.cutter c.requires.there same in
    cutter_more c.args.lexer.now cutter c.told_by.new.memo c.args.mode c.args.at walker c.args.text.now c.requires.cutter there c.told_by.ensures.sound c.told_by.ensures.others

pub returns-clause-told : goal.returns-clause-told
returns-clause-told c = rw (← c.lexer.ensures.trees, ← c.lexer.ensures.precedences) c.told_by.ensures.told
