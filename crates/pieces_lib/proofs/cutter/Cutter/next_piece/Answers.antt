use Rattle.std.proofs.Common.{◌≡◌, ap, ◌∙◌}
use Rattle.std.specs.Prelude.{Option, Some, Result, Ok}
use Rattle.bajofeki.specs.declared.given_piece.GivenPiece.{GivenPiece}
use Rattle.bajofeki.specs.declared.error.EditError.{EditError}
use Rattle.bajofeki.proofs.ChunkLaws.{gives_some}
use Rattle.pieces_lib.specs.declared.incoming.Incoming.{Incoming}
use Rattle.pieces_lib.proofs.CutLaws.{gives_cut}
use Rattle.pieces_lib.proofs.cutter.Cutter.next_piece.Goals as goal

pub returns-clause-gives : goal.returns-clause-gives
returns-clause-gives c slice same =
    let note = c.in_ok-note.ensures in
    let last : slice.now ≡ c.next_piece.new.self.last = same ∙ ap (λ (i : Incoming). i.chunks.last) note.incoming in
    let told_some : ◌≡◌ {A = Result (Option GivenPiece) EditError} (Ok c.in-Ok-Some.field-0) (Ok (Some c.in-Ok-Some.piece)) = cc in
    gives_cut c.args.self.now c.note.new.self c.next_piece.new.self c.in-Ok-Some.piece slice c.mode-mode.result
    (gives_some c.args.self.now.incoming.chunks c.next_piece.new.self _ c.in-Ok-Some.piece slice told_some c.in-Ok-Some.ensures.gives last) last c.mode-mode.ensures.mode
    note.incoming note.lexer note.here note.at note.fault note.places
