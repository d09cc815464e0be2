use Rattle.lalrpop_hir.proofs.Cuts.{IsCut}
use Rattle.bajofeki.specs.Internal.BlockPlaces.{IsMark}
use Rattle.bajofeki.proofs.LineLaws.{HasNone}
use Rattle.bajofeki.proofs.lines.mark_reaching.Given as goal

-- the mark is where the next character begins, and nothing from the first mark up to it has the place
abbrev pub invariant-loop-c : goal.invariant-loop-c
invariant-loop-c l = record {
  mark : IsMark l.text l.mark;
  cut : IsCut l.text l.mark.at l.c-iterator.rest.now;
  between : HasNone l.text l.place l.fn.from.at l.mark.at;
}
