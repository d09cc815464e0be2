use Rattle.std.proofs.Common.{◌≡◌, [], ◌∷◌, ◌++◌, flat_map, sym, ap, ◌∙◌}
use Rattle.std.specs.Str.{chars}
use Rattle.std.proofs.lemmas.List.{map-id}
use Rattle.std.proofs.lemmas.Iterator.{YieldsList-from_chars}
use Rattle.std.proofs.lemmas.Iterator.Consumers.{YieldsList-end}
use Rattle.bajofeki_rules.specs.Quoted.{told}
use Rattle.bajofeki_rules.proofs.quote.quoted.Goals as goal

pub returns : goal.returns
returns c =
    let all = YieldsList-end (YieldsList-from_chars c.args.slice.now c.utf8.slice cc) c.loop-c.yielded _ c.loop-c.yielded_by _ _ c.in-None.is c.next.ensures.steps in
    let same : c.loop-c.yielded ≡ chars c.args.slice.now = sym (map-id c.loop-c.yielded) ∙ all.0 in
    record { quoted = rw (c.in_ok-push_str.ensures.bytes, c.loop-c.invariant) (ap (λ u. 34 ∷ (flat_map told u ++ 34 ∷ [])) same) }
