use Rattle.std.proofs.Common.{◌≡◌, flat_map, sym, ◌∙◌, subst, List, ℕ}
use Rattle.std.specs.Str.{chars, encode_utf8_all}
use Rattle.std.proofs.lemmas.List.{map-id}
use Rattle.std.proofs.lemmas.Iterator.{YieldsList-from_chars}
use Rattle.std.proofs.lemmas.Iterator.Consumers.{YieldsList-end}
use Rattle.reports_lib.specs.PieceLines.{json_told}
use Rattle.reports_lib.proofs.JsonLaws.{all_as_is, one_more}
use Rattle.reports_lib.proofs.escaped.all_seen.Goals as goal

pub loop-c-preserved : goal.loop-c-preserved
loop-c-preserved c = one_more c.loop-c.yielded c.in-Some.c (sym c.is_unseen.ensures ∙ c.if-is_unseen.false) c.loop-c.invariant

pub returns : goal.returns
returns c _ =
    let all = YieldsList-end (YieldsList-from_chars c.args.text.now c.utf8.text cc) c.loop-c.yielded _ c.loop-c.yielded_by _ _ c.in-None.is c.next.ensures.steps in
    let same : c.loop-c.yielded ≡ chars c.args.text.now = sym (map-id c.loop-c.yielded) ∙ all.0 in
    all_as_is c.args.text.now c.utf8.text (subst (λ (cs : List ℕ). flat_map json_told cs ≡ encode_utf8_all cs) same c.loop-c.invariant)
