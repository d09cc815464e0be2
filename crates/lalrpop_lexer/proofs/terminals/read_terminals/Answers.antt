use Rattle.std.proofs.Common.{[], ◌∷◌, ◌++◌, sym, append_assoc}
use Rattle.std.proofs.lemmas.List.{map-append}
use Rattle.bajofeki_rules.specs.Lines.{lines}
use Rattle.lalrpop_lexer.specs.declared.terminal_line.TerminalLine.TheVariants.{Bad, NoTree}
use Rattle.lalrpop_lexer.proofs.TerminalLemmas.{AreTerminals-push, FirstSays-after}
use Rattle.lalrpop_lexer.proofs.terminals.read_terminals.Goals as goal

pub returns-in-Bad : goal.returns-in-Bad
returns-in-Bad c =
    let so_far = c.loop-line.invariant in
    let line = c.in-Some.line.now in
    let after = lines c.in-Some.after.now in
    let said = rw c.in-Bad.is at c.in_ok-parse_terminal.ensures.said in
    rw (so_far.1.0, c.in-Some.ensures.lines, c.len-number.ensures, c.loop-line.regexs.ok.0) (record { said = FirstSays-after so_far.0 _ _ line after Bad so_far.1.1 said })

pub returns-in-NoTree : goal.returns-in-NoTree
returns-in-NoTree c =
    let so_far = c.loop-line.invariant in
    let line = c.in-Some.line.now in
    let after = lines c.in-Some.after.now in
    let said = rw c.in-NoTree.is at c.in_ok-parse_terminal.ensures.said in
    rw (so_far.1.0, c.in-Some.ensures.lines, c.len-number.ensures, c.loop-line.regexs.ok.0) (record { said = FirstSays-after so_far.0 _ _ line after NoTree so_far.1.1 said })

pub loop-line-preserved : goal.loop-line-preserved
loop-line-preserved c =
    let so_far = c.loop-line.invariant in
    let line = c.in-Some.line.now in
    let after = lines c.in-Some.after.now in
    let said = rw c.in-Terminal.is at c.in_ok-parse_terminal.ensures.said in
    let are = AreTerminals-push so_far.0 _ _ line c.in-Terminal.regex c.in-Terminal.precedence so_far.1.1 said in (
      so_far.0 ++ line ∷ [],
      (
        rw (so_far.1.0, c.in-Some.ensures.lines) (sym (append_assoc so_far.0 (line ∷ []) after)),
        rw (c.in_ok-push-in-Terminal.ensures.items, c.in_ok-push-in-Terminal-2.ensures.items, map-append) are,
      ),
    )
