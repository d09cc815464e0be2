use Rattle.std.proofs.Common.{refl, subst, ◌∙◌}
use Rattle.std.specs.Str.{IsUtf8}
use Rattle.std.proofs.lemmas.Option.{IfSome_then}
use Rattle.bajofeki_rules.proofs.PlaceLaws.{one_offset}
use Rattle.uses_rules.proofs.edit_a_text.back_again.Goals as goal

pub returns-clause-same : goal.returns-clause-same
returns-clause-same c =
    let utf8 : IsUtf8 c.args.lexed.now.text = subst IsUtf8 c.text-text.ensures.text c.text-text.utf8 in
    IfSome_then c.offset.result c.offset.ensures.some
    (λ n is. one_offset c.args.lexed.now.text n c.args.at utf8 is.0 (c.in_ok-position.ensures.boundary.0 refl) (is.1 ∙ c.in_ok-position.ensures.position))
