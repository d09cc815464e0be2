use Rattle.std.proofs.Common.{◌≡◌, ℕ, List, length, map, sym, ap, subst, ◌∙◌, arith}
use Rattle.std.proofs.lemmas.List.{take_all}
use Rattle.lalrpop_emit.specs.BytePieces.{numbered}
use Rattle.lalrpop_emit.specs.declared.error.EmitError.TheVariants.{NoTable, OutOfMemory}
use Rattle.lalrpop_rules.specs.Modes.{ArePiecesFrom}
use Rattle.bajofeki_rules.specs.Stack.{start}
use Rattle.uses_rules.proofs.cut_by_numbers.pieces_by_numbers.Goals as goal

pub returns-clause-same : goal.returns-clause-same
returns-clause-same c = λ whole items end are.
    let rules = c.args.rules.now in
    let numbers = c.in_ok-numbers.ensures.numbers in
    let there = subst (λ (text : List ℕ). ArePiecesFrom rules text 0 start items end) (sym c.as_bytes.ensures.value) are in
    let size = c.in_ok-all.ensures.whole rules numbers items end there whole in
    c.in_ok-all.ensures.of_rules rules numbers items end there
    ∙ ap (λ front. map (numbered c.in_ok-numbers.numbers.kinds) front) (take_all (length c.in_ok-all.all.pieces.items) items (omega (arith, size)))
    ∙ ap (λ kinds. map (numbered kinds) items) numbers.kinds

pub returns-clause-small : goal.returns-clause-small
returns-clause-small c = λ large. let same : NoTable ≡ OutOfMemory = c.in_ok-numbers.ensures.exact NoTable large in cc
