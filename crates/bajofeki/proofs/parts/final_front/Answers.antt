use Rattle.std.proofs.Common.{◌+◌, ◌++◌, sym, subst}
use Rattle.lalrpop_rules.specs.Found.{NoMatchBefore}
use Rattle.lalrpop_rules.specs.Modes.{trees_in}
use Rattle.bajofeki.specs.declared.parts.Turn.TheVariants.{Void}
use Rattle.bajofeki.specs.Internal.Parts.{IsGiven, TellsTurn, text_in}
use Rattle.bajofeki.proofs.PartLaws.{all_or_none, bad_void}
use Rattle.bajofeki.proofs.parts.final_front.Goals as goal

pub returns-in-Given-clause-given : goal.returns-in-Given-clause-given
returns-in-Given-clause-given c =
    let ts = trees_in c.args.lexer.now c.args.mode in
    subst (λ p. IsGiven ts c.args.lexer.now.precedences c.args.bytes.now c.args.is_ended p c.in-Given.piece) (sym (c.in-Given.ensures.same tt)) c.in-Given.ensures.told

pub returns-then-not-part-clause-given : goal.returns-then-not-part-clause-given
returns-then-not-part-clause-given c =
    let ts = trees_in c.args.lexer.now c.args.mode in
    let ps = c.args.lexer.now.precedences in
    let bytes = c.args.bytes.now in
    let over = c.args.is_ended in
    let p = c.part_told.new.part in
    let void = subst (λ q. TellsTurn ts ps bytes over q Void) (sym (c.in-Void.ensures.same tt)) c.in-Void.ensures.told in
    all_or_none ts ps bytes over p c.in-Void.ensures.part void c.if-not-part.true c.all_of.result c.all_of.ensures.some

pub parts-preserved : goal.parts-preserved
parts-preserved c =
    let r = c.args.lexer.now in
    let ts = trees_in r c.args.mode in
    let bytes = c.args.bytes.now in
    let p = c.part_told.new.part in
    let void = subst (λ q. TellsTurn ts r.precedences bytes c.args.is_ended q Void) (sym (c.in-Void.ensures.same tt)) c.in-Void.ensures.told in
    record {
      part = record {
        parted = c.after_bad.ensures.parted;
        nothing = λ more.
            subst (λ n. NoMatchBefore ts (bytes ++ more) n) (sym c.after_bad.ensures.from)
            (bad_void ts r.precedences bytes p c.args.is_ended c.in-Void.ensures.part.parted void c.if-not-part.false more);
      };
      cutter = c.forget.ensures.right r (c.args.at + p.from) (c.args.at + c.after_bad.result.from) (text_in bytes p) (text_in bytes c.after_bad.result) c.in-Void.ensures.cutter;
      run = tt;
    }
