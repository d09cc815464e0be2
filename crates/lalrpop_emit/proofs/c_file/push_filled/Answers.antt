use Rattle.std.proofs.Common.{◌≡◌, ◌∙◌, ◌++◌, List, ℕ, flat_map, string_bytes, sym, ap, if◌then◌else◌, ◌==◌}
use Rattle.std.specs.Prelude.{encode_utf8}
use Rattle.std.specs.Str.{chars}
use Rattle.std.proofs.lemmas.List.{map-id}
use Rattle.std.proofs.lemmas.Iterator.{YieldsList-from_chars}
use Rattle.std.proofs.lemmas.Iterator.Consumers.{YieldsList-end}
use Rattle.lalrpop_emit.specs.CSource.{filled}
use Rattle.lalrpop_emit.proofs.c_file.push_filled.Goals as goal

pub returns : goal.returns
unfolding filled
returns c =
    let all = YieldsList-end (YieldsList-from_chars c.args.text.now c.utf8.text cc) c.loop-c.yielded _ c.loop-c.yielded_by _ _ c.in-None.is c.next.ensures.steps in
    let same : c.loop-c.yielded ≡ chars c.args.text.now = sym (map-id c.loop-c.yielded) ∙ all.0 in
    c.loop-c.invariant ∙ ap (λ (u : List ℕ). string_bytes c.args.source.now ++ flat_map (λ n. if n == 36 then c.args.prefix.now else encode_utf8 n) u) same
