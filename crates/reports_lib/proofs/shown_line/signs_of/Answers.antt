use Rattle.std.proofs.Common.{◌≡◌, map, sym, ap, ◌∙◌}
use Rattle.std.specs.Str.{chars}
use Rattle.std.proofs.lemmas.List.{map-id}
use Rattle.std.proofs.lemmas.Iterator.{YieldsList-from_chars}
use Rattle.std.proofs.lemmas.Iterator.Consumers.{YieldsList-end}
use Rattle.reports_lib.specs.ShownLine.{sign}
use Rattle.reports_lib.proofs.shown_line.signs_of.Goals as goal

pub returns : goal.returns
returns c =
    let all = YieldsList-end (YieldsList-from_chars c.args.text.now c.utf8.text cc) c.loop-c.yielded _ c.loop-c.yielded_by _ _ c.in-None.is c.next.ensures.steps in
    let same : c.loop-c.yielded ≡ chars c.args.text.now = sym (map-id c.loop-c.yielded) ∙ all.0 in
    c.loop-c.invariant ∙ ap (map sign) same
