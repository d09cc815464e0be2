use Rattle.std.proofs.Common.{◌≡◌, ◌∙◌, length, refl, sym}
use Rattle.std.specs.Prelude.{Some, slice_get}
use Rattle.std.proofs.lemmas.Bool.{false≢true}
use Rattle.std.proofs.lemmas.Option.{slice_get_read}
use Rattle.lalrpop_rule_file.proofs.UsedParts.{is_unused}
use Rattle.lalrpop_rule_file.proofs.file.RuleFile.is_unused.Goals as goal

pub returns : goal.returns
returns c =
    let file = c.args.self.now in
    let i = c.args.part in
    let at : slice_get file.part_lines.items i ≡ Some c.index.result.now =
    slice_get_read file.part_lines.items (length file.part_lines.items) i c.index.result.now refl c.requires.within c.index.ensures in
    let parts = rw (c.deref.ensures.value, c.deref-2.ensures) at c.stands_in_part.ensures in
    let rules = rw (c.deref-3.ensures.value, c.deref-4.ensures) at c.stands_in_rule.ensures in
    is_unused file i c.index.result.now _ c.stands_in_rule.result at c.in_ok-reference.ensures (λ stands. false≢true (sym c.if-stands_in_part.false ∙ parts.1 stands)) rules
