use Rattle.std.proofs.Common.{◌≡◌, ℕ, min, map, length, ap, sym, subst, ◌∙◌, arith}
use Rattle.std.proofs.lemmas.List.{length-map, take-map}
use Rattle.bajofeki_c.specs.Document.{told}
use Rattle.bajofeki_c.specs.Rules.{IsWritten}
use Rattle.bajofeki_c.proofs.Writing.{written_all}
use Rattle.bajofeki_c.proofs.document.write_pieces.Goals as goal

pub returns : goal.returns
returns c =
    let i = c.writing.invariant in let pieces = c.args.pieces.now in let before = c.args.out.now in
    let all : length (map told pieces) ≡ length pieces = length-map pieces told in
    let same : c.writing.count ≡ c.min-room.result = omega (arith, c.writing-test.false, i.within) in
    let count : c.writing.count ≡ min (length before) (length (map told pieces)) = same ∙ c.min-room.ensures ∙ ap (λ n. min (length before) n) (sym all) in
    let written = written_all (map told pieces) before c.writing.out c.writing.count count i.size (i.front ∙ sym (take-map told c.writing.count pieces)) i.behind in
    record { written = subst (λ (n : ℕ). IsWritten (map told pieces) before c.writing.out n) all written }
