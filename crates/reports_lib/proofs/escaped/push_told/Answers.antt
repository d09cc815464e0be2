use Rattle.std.proofs.Common.{◌≡◌, ℕ, true, List, ◌++◌, flat_map, sym, ap, ◌∙◌}
use Rattle.std.proofs.lemmas.List.{take_all}
use Rattle.bajofeki_rules.specs.Quoted.{is_unseen}
use Rattle.reports_lib.specs.PieceLines.{unit_told}
use Rattle.reports_lib.proofs.escaped.push_told.Goals as goal

pub returns : goal.returns
returns c =
    let unseen : is_unseen c.args.c ≡ true = sym c.is_unseen.ensures ∙ c.if-not-is_unseen.false in
    rw unseen
    (c.loop-unit.invariant ∙ ap (λ (us : List ℕ). c.args.line.now.items ++ flat_map unit_told us) (take_all _ _ c.loop-unit-test.false ∙ c.encode_utf16.ensures.value))
