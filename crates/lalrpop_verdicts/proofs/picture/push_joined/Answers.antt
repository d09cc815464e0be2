use Rattle.std.proofs.Common.{◌++◌, ◌∙◌, ℕ, List, string_bytes, ap}
use Rattle.lalrpop_verdicts.proofs.Codes.{joined_split}
use Rattle.lalrpop_verdicts.proofs.picture.push_joined.Goals as goal

pub returns : goal.returns
returns c =
    let first = c.in_ok-push_str.ensures.bytes ∙ ap (λ (t : List ℕ). string_bytes c.args.text.now ++ t) c.deref.ensures in
    joined_split string_bytes c.args.parts.now c.in-Some.rest.now c.in-Some.first.now (string_bytes c.args.text.now) (string_bytes c.push_str.new.self) _
    c.in-Some.ensures.cases.0 first c.in_ok-push_behind.ensures
