use Rattle.std.proofs.Common.{◌-◌, ap, sym, ◌∙◌, arith}
use Rattle.bajofeki_rules.specs.declared.position.Position.{Position}
use Rattle.bajofeki_rules.proofs.InLine.{further, place_in_line, room_in_line}
use Rattle.bajofeki_rules.proofs.position.place_from.Goals as goal

pub overflow_add-column : goal.overflow_add-column
overflow_add-column c =
    let is = place_in_line c.args.text.now c.args.from c.args.to c.utf8.text c.requires.from c.requires.ascending c.requires.to.0 (c.are_in_line.ensures c.if-not-are_in_line.false) in
    let room = room_in_line c.args.text.now c.args.from c.args.to c.utf8.text c.requires.to is in
    let same = ap (λ (p : Position). p.column) c.requires.position in
    record { fits = omega (arith, room, same) }

pub returns : goal.returns
returns c =
    let is = place_in_line c.args.text.now c.args.from c.args.to c.utf8.text c.requires.from c.requires.ascending c.requires.to.0 (c.are_in_line.ensures c.if-not-are_in_line.false) in
    ap (λ (p : Position). further p (c.args.to - c.args.from)) c.requires.position ∙ sym is
