use Rattle.std.proofs.lemmas.Result.{IfErr-weaker, err_from_is_err_and}
use Rattle.lexdfa_lib.specs.Streams.{Reads}
use Rattle.pieces_lib.specs.TextAnswer.{lines_of}
use Rattle.pieces_lib.proofs.TextLaws.{same_lines, where_ok, cut_part, cut_answered, cut_untold}
use Rattle.pieces_lib.proofs.cut_files.cut_pieces.Goals as goal

pub returns-in_err-end-clause-fails : goal.returns-in_err-end-clause-fails
returns-in_err-end-clause-fails g c =
    let p = err_from_is_err_and c.from_residual.result c.from_residual.ensures.1 in
    rw (p.1, p.2) (cut_part c.args.rules.now c.args.rules.now.mode_names c.args.recovers _
    (lines_of c.args.rules.now c.args.rules.now.mode_names c.args.form c.args.recovers c.args.several)
    c.args.name.now (Reads c.args.reader.now c.write_lines.new.reader)
    (same_lines c.args.rules.now c.args.form c.args.recovers c.args.several c.args.name c.then_some.result c.mode_names-modes.result c.args.rules.now.mode_names c.then_some.ensures c.mode_names-modes.ensures.names)
    c.args.console.now c.write_lines.new.console _ c.in_err-end.ensures.part)

pub returns-clause-answer : goal.returns-clause-answer
returns-clause-answer g c =
    where_ok c.tell_end.result _ _ _
    (λ status is said. cut_answered c.args.rules.now c.args.rules.now.mode_names c.args.recovers _
    (lines_of c.args.rules.now c.args.rules.now.mode_names c.args.form c.args.recovers c.args.several)
    c.args.name.now (Reads c.args.reader.now c.write_lines.new.reader)
    (same_lines c.args.rules.now c.args.form c.args.recovers c.args.several c.args.name c.then_some.result c.mode_names-modes.result c.args.rules.now.mode_names c.then_some.ensures c.mode_names-modes.ensures.names)
    c.args.console.now c.write_lines.new.console c.tell_end.new.console c.in_ok-end.end status c.in_ok-end.ensures.written is said)
    c.tell_end.ensures.status (rw c.mode_names-modes.ensures.names at c.tell_end.ensures.said)

pub returns-clause-fails : goal.returns-clause-fails
returns-clause-fails g c =
    IfErr-weaker c.tell_end.result _ _
    (λ e h. cut_untold c.args.rules.now c.args.rules.now.mode_names c.args.recovers _
    (lines_of c.args.rules.now c.args.rules.now.mode_names c.args.form c.args.recovers c.args.several)
    c.args.name.now (Reads c.args.reader.now c.write_lines.new.reader)
    (same_lines c.args.rules.now c.args.form c.args.recovers c.args.several c.args.name c.then_some.result c.mode_names-modes.result c.args.rules.now.mode_names c.then_some.ensures c.mode_names-modes.ensures.names)
    c.args.console.now c.write_lines.new.console c.tell_end.new.console c.in_ok-end.end e c.in_ok-end.ensures.written h)
    (rw c.mode_names-modes.ensures.names at c.tell_end.ensures.fails)
