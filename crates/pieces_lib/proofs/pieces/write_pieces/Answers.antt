use Rattle.std.proofs.Common.{refl, ap, subst, ◌∙◌, []}
use Rattle.std.specs.Prelude.{Option}
use Rattle.lalrpop_rules.proofs.Results.{handed_on}
use Rattle.lalrpop_rules.specs.Modes.{ModeRules}
use Rattle.lexdfa_lib.specs.declared.error.RunError.{RunError}
use Rattle.lexdfa_lib.specs.declared.error.RunError.TheVariants.{OutOfMemory}
use Rattle.pieces_lib.specs.Internal.CutTexts.{Comes, GivesAll}
use Rattle.pieces_lib.specs.declared.cut_end.CutEnd.{CutEnd}
use Rattle.pieces_lib.proofs.ComingLaws.{WritesSome, at_a_fault, ends_at_last, gives_so, goes_further, has_read, in_part, lost, part_so}
use Rattle.lexdfa_lib.specs.Streams.{LeftOff}
use Rattle.lexdfa_lib.proofs.StreamLaws.{reads_none}
use Rattle.pieces_lib.proofs.pieces.write_pieces.Goals as goal

pub returns-in_err-brought-clause-part : goal.returns-in_err-brought-clause-part
returns-in_err-brought-clause-part g c =
    let lost_now = c.in_err-brought.ensures.lost in
    handed_on
    (λ (error : RunError). WritesSome c.args.sheet.now.form c.args.sheet.now.lexer.now c.args.reader.now c.read_on.new.reader c.args.console.now error c.reading.console)
    c.from_residual.result OutOfMemory c.from_residual.ensures.1
    (lost c.args.sheet.now.form c.args.sheet.now.lexer.now c.args.reader.now c.reading.reader c.read_on.new.reader c.args.console.now c.reading.console
    c.reading.cutter c.reading.invariant.between lost_now.0 OutOfMemory refl lost_now.1)

pub returns-in_err-ended-clause-part : goal.returns-in_err-ended-clause-part
returns-in_err-ended-clause-part g c =
    let i = c.reading.invariant in
    let form = c.args.sheet.now.form in
    let rules = c.args.sheet.now.lexer.now in
    let begun = c.args.console.now in
    let comes = subst (λ (r : ModeRules). Comes r c.reading.reader c.read_on.new.reader c.reading.cutter c.read_on.new.self c.in_ok-brought.brought)
    i.between.given.cut.lexer c.in_ok-brought.ensures.comes in
    let read = has_read form rules c.args.reader.now c.reading.reader c.read_on.new.reader begun c.reading.console c.reading.cutter i.between c.read_on.new.self c.in_ok-brought.brought comes in
    let part = part_so c.reading.sheet.form form c.reading.sheet.lexer.now rules i.form (ap (λ l. l.now) i.lexer) read.text read.xs c.read_on.new.self c.reading.sheet.waiting.items begun c.reading.console c.give.new.console i.none
    c.in_err-ended.field-0.0 (c.in_err-ended.ensures.part begun read.text read.xs) read.given in
    handed_on (λ (error : RunError). WritesSome form rules c.args.reader.now c.read_on.new.reader begun error c.give.new.console)
    c.from_residual-in_err-ended.result c.in_err-ended.field-0.0 c.from_residual-in_err-ended.ensures.1
    (in_part form rules c.args.reader.now c.read_on.new.reader begun c.reading.console c.read_on.new.self c.in_ok-brought.brought read
    c.in_err-ended.field-0.0 c.give.new.console part.0 part.1.0 part.1.1.0 part.1.1.1)

pub returns-in-Some-clause-written : goal.returns-in-Some-clause-written
returns-in-Some-clause-written g c =
    let i = c.reading.invariant in
    let form = c.args.sheet.now.form in
    let rules = c.args.sheet.now.lexer.now in
    let begun = c.args.console.now in
    let comes = subst (λ (r : ModeRules). Comes r c.reading.reader c.read_on.new.reader c.reading.cutter c.read_on.new.self c.in_ok-brought.brought)
    i.between.given.cut.lexer c.in_ok-brought.ensures.comes in
    let read = has_read form rules c.args.reader.now c.reading.reader c.read_on.new.reader begun c.reading.console c.reading.cutter i.between c.read_on.new.self c.in_ok-brought.brought comes in
    let given = gives_so c.reading.sheet.form form c.reading.sheet.lexer.now rules i.form (ap (λ l. l.now) i.lexer) read.text read.xs c.read_on.new.self c.reading.sheet.waiting.items begun c.reading.console c.give.new.console i.none
    c.give.new.cutter [] c.in_ok-ended.field-0 (c.in_ok-ended.ensures.given begun read.text read.xs) read.given in
    at_a_fault form rules c.args.reader.now c.read_on.new.reader begun c.reading.console c.read_on.new.self c.in_ok-brought.brought read c.give.new.console c.give.new.cutter c.in-Some.ended
    (subst (λ (o : Option CutEnd). GivesAll form rules read.text c.read_on.new.self c.give.new.cutter [] begun c.give.new.console o) c.in-Some.is given)

pub returns-in-Some-end-clause-written : goal.returns-in-Some-end-clause-written
returns-in-Some-end-clause-written g c =
    let i = c.reading.invariant in
    let form = c.args.sheet.now.form in
    let rules = c.args.sheet.now.lexer.now in
    let begun = c.args.console.now in
    let comes = subst (λ (r : ModeRules). Comes r c.reading.reader c.read_on.new.reader c.reading.cutter c.read_on.new.self c.in_ok-brought.brought)
    i.between.given.cut.lexer c.in_ok-brought.ensures.comes in
    let read = has_read form rules c.args.reader.now c.reading.reader c.read_on.new.reader begun c.reading.console c.reading.cutter i.between c.read_on.new.self c.in_ok-brought.brought comes in
    let given = gives_so c.reading.sheet.form form c.reading.sheet.lexer.now rules i.form (ap (λ l. l.now) i.lexer) read.text read.xs c.read_on.new.self c.reading.sheet.waiting.items begun c.reading.console c.give.new.console i.none
    c.give.new.cutter [] c.in_ok-ended.field-0 (c.in_ok-ended.ensures.given begun read.text read.xs) read.given in
    ends_at_last form rules c.args.reader.now c.read_on.new.reader begun c.reading.console c.read_on.new.self c.in_ok-brought.brought read c.give.new.console c.give.new.cutter
    (subst (λ (o : Option CutEnd). GivesAll form rules read.text c.read_on.new.self c.give.new.cutter [] begun c.give.new.console o) c.in_default.is given)
    c.end.result c.in-Some-end.ended c.end.ensures.end c.in-Some-end.is

pub reading-preserved : goal.reading-preserved
reading-preserved g c =
    let i = c.reading.invariant in
    let form = c.args.sheet.now.form in
    let rules = c.args.sheet.now.lexer.now in
    let begun = c.args.console.now in
    let comes = subst (λ (r : ModeRules). Comes r c.reading.reader c.read_on.new.reader c.reading.cutter c.read_on.new.self c.in_ok-brought.brought)
    i.between.given.cut.lexer c.in_ok-brought.ensures.comes in
    let read = has_read form rules c.args.reader.now c.reading.reader c.read_on.new.reader begun c.reading.console c.reading.cutter i.between c.read_on.new.self c.in_ok-brought.brought comes in
    let given = gives_so c.reading.sheet.form form c.reading.sheet.lexer.now rules i.form (ap (λ l. l.now) i.lexer) read.text read.xs c.read_on.new.self c.reading.sheet.waiting.items begun c.reading.console c.give.new.console i.none
    c.give.new.cutter [] c.in_ok-ended.field-0 (c.in_ok-ended.ensures.given begun read.text read.xs) read.given in
    record {
      between = goes_further form rules c.args.reader.now c.read_on.new.reader begun c.reading.console c.read_on.new.self c.in_ok-brought.brought read c.give.new.console c.give.new.cutter
          (subst (λ (o : Option CutEnd). GivesAll form rules read.text c.read_on.new.self c.give.new.cutter [] begun c.give.new.console o) c.in_default.is given)
          c.end.result c.end.ensures.end c.in_default-end.is;
      none = c.in_ok-ended.ensures.none;
      form = c.in_ok-ended.ensures.form ∙ i.form;
      lexer = c.in_ok-ended.ensures.lexer ∙ i.lexer;
    }

pub returns-clause-part : goal.returns-clause-part
returns-clause-part g c =
    lost c.args.sheet.now.form c.args.sheet.now.lexer.now c.args.reader.now c.reading.reader c.reading.reader c.args.console.now c.reading.console
    c.reading.cutter c.reading.invariant.between (record { bytes = []; end = LeftOff }) OutOfMemory refl (reads_none c.reading.reader)
