use Rattle.std.proofs.Common.{◌≡◌, ℕ, List, ◌++◌, take, drop, flat_map, sym, ap, ◌∙◌, subst}
use Rattle.std.specs.Str.{chars}
use Rattle.std.specs.Str.Lossy.{utf8_lossy}
use Rattle.std.proofs.lemmas.List.{map-id, take-append-drop}
use Rattle.std.proofs.lemmas.Iterator.{YieldsList-from_chars}
use Rattle.std.proofs.lemmas.Iterator.Consumers.{YieldsList-end}
use Rattle.reports_lib.specs.PieceLines.{escaped, json_told}
use Rattle.reports_lib.proofs.JsonLaws.{rest_of}
use Rattle.reports_lib.proofs.escaped.escape_from.Goals as goal

pub returns-then-is_as_escaped : goal.returns-then-is_as_escaped
returns-then-is_as_escaped c =
    let line = c.args.line.now.items in
    let same : escaped (drop c.args.start line) ≡ drop c.args.start line =
    subst (λ (t : List ℕ). escaped t ≡ t) (rest_of c.args.start c.deref.result.now line c.deref.ensures.value) (c.is_as_escaped.ensures c.if-is_as_escaped.true) in
    sym (ap (λ (t : List ℕ). take c.args.start line ++ t) same ∙ take-append-drop c.args.start line)

pub returns : goal.returns
returns c =
    let line = c.args.line.now.items in
    let text : c.deref-3.result.now ≡ utf8_lossy (drop c.args.start line) =
    c.deref-3.ensures ∙ c.in_ok-text.ensures.lossy ∙ ap utf8_lossy (rest_of c.args.start c.deref-2.result.now line c.deref-2.ensures.value) in
    let all = YieldsList-end (YieldsList-from_chars c.deref-3.result.now c.deref-3.utf8 cc) c.loop-c.yielded _ c.loop-c.yielded_by _ _ c.in-None.is c.next.ensures.steps in
    let same : c.loop-c.yielded ≡ chars c.deref-3.result.now = sym (map-id c.loop-c.yielded) ∙ all.0 in
    c.loop-c.invariant ∙ ap (λ (u : List ℕ). take c.args.start line ++ flat_map json_told u) (same ∙ ap chars text)
