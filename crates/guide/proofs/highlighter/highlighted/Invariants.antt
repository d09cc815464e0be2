use Rattle.std.proofs.Common.{string_bytes}
use Rattle.guide.proofs.ShowLemmas.{ShowsFront}
use Rattle.guide.proofs.highlighter.highlighted.Given as goal

-- what is shown so far is the text in front of the rest
abbrev pub invariant-loop-item : goal.invariant-loop-item
invariant-loop-item l = ShowsFront (string_bytes l.shown) l.text l.item-iterator
