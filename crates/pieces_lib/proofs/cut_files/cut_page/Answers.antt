use Rattle.std.proofs.Common.{true, refl}
use Rattle.std.proofs.lemmas.Result.{IfErr-weaker, err_from_is_err_and}
use Rattle.lexdfa_lib.specs.Streams.{Reads}
use Rattle.pieces_lib.specs.TextAnswer.{page_of}
use Rattle.pieces_lib.proofs.TextLaws.{where_ok, cut_part, cut_answered, cut_untold}
use Rattle.pieces_lib.proofs.cut_files.cut_page.Goals as goal

pub returns-in_err-end-clause-fails : goal.returns-in_err-end-clause-fails
returns-in_err-end-clause-fails g c =
    let p = err_from_is_err_and c.from_residual.result c.from_residual.ensures.1 in
    rw (p.1, p.2) (cut_part c.args.rules.now c.args.rules.now.mode_names true _
    (λ name text xs. page_of c.args.markup c.args.rules.now.names xs)
    c.args.name.now (Reads c.args.reader.now c.write_page.new.reader)
    (λ text xs. refl)
    c.args.console.now c.write_page.new.console _ c.in_err-end.ensures.part)

pub returns-clause-answer : goal.returns-clause-answer
returns-clause-answer g c =
    where_ok c.tell_end.result _ _ _
    (λ status is said. cut_answered c.args.rules.now c.args.rules.now.mode_names true _
    (λ name text xs. page_of c.args.markup c.args.rules.now.names xs)
    c.args.name.now (Reads c.args.reader.now c.write_page.new.reader)
    (λ text xs. refl)
    c.args.console.now c.write_page.new.console c.tell_end.new.console c.in_ok-end.end status c.in_ok-end.ensures.written is said)
    c.tell_end.ensures.status (rw c.mode_names.ensures.names at c.tell_end.ensures.said)

pub returns-clause-fails : goal.returns-clause-fails
returns-clause-fails g c =
    IfErr-weaker c.tell_end.result _ _
    (λ e h. cut_untold c.args.rules.now c.args.rules.now.mode_names true _
    (λ name text xs. page_of c.args.markup c.args.rules.now.names xs)
    c.args.name.now (Reads c.args.reader.now c.write_page.new.reader)
    (λ text xs. refl)
    c.args.console.now c.write_page.new.console c.tell_end.new.console c.in_ok-end.end e c.in_ok-end.ensures.written h)
    (rw c.mode_names.ensures.names at c.tell_end.ensures.fails)
