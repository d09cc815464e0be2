use Rattle.pieces_lib.proofs.cut_files.run_task.Goals as goal

pub returns-in-Pieces-clause-answer : goal.returns-in-Pieces-clause-answer
returns-in-Pieces-clause-answer g c = rw c.in-Pieces.is c.cut_pieces.ensures.answer

pub returns-in-Pieces-clause-fails : goal.returns-in-Pieces-clause-fails
returns-in-Pieces-clause-fails g c = rw c.in-Pieces.is c.cut_pieces.ensures.fails

pub returns-in-Markup-clause-fails : goal.returns-in-Markup-clause-fails
returns-in-Markup-clause-fails g c = rw c.in-Markup.is c.cut_page.ensures.fails
