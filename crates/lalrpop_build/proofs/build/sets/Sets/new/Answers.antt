use Rattle.std.proofs.Common.{ap, ◌∙◌, [], ◌∷◌, ◌++◌}
use Rattle.lalrpop_build.proofs.Adding.{clones_equal, first_added}
use Rattle.lalrpop_build.proofs.build.sets.Sets.new.Goals as goal

pub add_state-requires : goal.add_state-requires
add_state-requires c = record { clones = clones_equal }

pub returns : goal.returns
returns c =
    let first = first_added c.new-kernels.result c.add_state.new.self c.in_ok-first.first c.new-kernels.ensures.empty c.in_ok-add_state.ensures.list in (
      first.0 ∙ ap (λ s. s ∷ []) c.in_ok-first.ensures,
      first.1,
      c.in_ok-push.ensures.items ∙ (ap (λ ys. ys ++ c.new.result ∷ []) c.new-origins.ensures.items ∙ ap (λ o. o ∷ []) c.new.ensures),
    )
