use Rattle.std.proofs.Common.{◌≡◌, ◌+◌, ◌-◌, length, take, drop, sym, arith, length-drop}
use Rattle.std.proofs.lemmas.List.{take_all}
use Rattle.std.proofs.lemmas.Bool.{eqb-false}
use Rattle.bajofeki_rules.proofs.LineLemmas.{lines-position, lines-position_none}
use Rattle.bajofeki_rules.proofs.lines.split_line.Goals as goal

pub returns-in-Some-clause-lines : goal.returns-in-Some-clause-lines
returns-in-Some-clause-lines c =
    let bytes = c.args.bytes.now in
    let after = c.in-Some.at + 1 in
    let all : take (length bytes - after) (drop after bytes) ≡ drop after bytes = take_all _ _ (omega (arith, length-drop after bytes)) in
    rw all (lines-position bytes c.in-Some.at (sym c.in-Some.ensures))

pub returns-in-None-clause-lines : goal.returns-in-None-clause-lines
returns-in-None-clause-lines c = lines-position_none c.args.bytes.now (eqb-false _ _ (sym c.if-is_empty.ensures)) (sym c.in-None.ensures)
