use Rattle.std.proofs.Common.{ℕ, List, ◌<◌}
use Rattle.std.specs.Prelude.{Option, Some, None, IfSome, slice_index}
use Rattle.std.specs.Str.{chars}
use Rattle.lalrpop_hir.specs.Tree.{Tree}
use Rattle.lalrpop_hir.specs.Tokens.{IsToken}
use Rattle.lalrpop_hir.specs.Winners.{TreeMatches}
use Rattle.lalrpop_hir.specs.declared.token.Token.{Token}
use Rattle.lalrpop_rules.proofs.CallerLaws.{lesser_never_wins}
use Rattle.uses_rules.proofs.follow_laws.strongest_at_front.Goals as goal

of_found : (ts : List Tree) (ps text : List ℕ) (found : Option Token) → IfSome found (λ token. IsToken ts ps text 0 token)
    → IfSome found (λ token. (j : ℕ) → slice_index ps token.index < slice_index ps j → ¬ TreeMatches ts (chars token.slice.now) j)
of_found ts ps text None is = tt
of_found ts ps text (Some token) is = λ j. lesser_never_wins ts ps text 0 j token is

pub returns : goal.returns
returns c = record { strongest = of_found _ _ c.args.text.now c.token.result c.token.ensures.token }
