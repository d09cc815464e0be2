use Rattle.std.proofs.Common.{◌∙◌, arith, ap, sym}
use Rattle.std.proofs.lemmas.List.{get_or_default}
use Rattle.lalrpop_build.proofs.ByPattern.{apart_none, apart_more, part_pattern, closed_none, closed_more, pattern_within}
use Rattle.lalrpop_build.proofs.closure.follow_all.Goals as goal

pub loop-from-init : goal.loop-from-init
loop-from-init c = record {
  found = c.clear.ensures.items ∙ sym (closed_none c.args.nfas.now);
  within = omega arith;
  apart = apart_none c.args.given.now;
}

pub follow_pattern-requires-clause-pattern : goal.follow_pattern-requires-clause-pattern
follow_pattern-requires-clause-pattern c x h =
    let e = c.end_of_pattern-end.ensures in
    part_pattern c.args.given.now c.loop-from.from c.end_of_pattern-end.result c.requires.by_pattern e.behind e.within c.loop-from.invariant.apart e.same x h
    ∙ sym (c.pattern.ensures ∙ ap (λ y. y.0) (c.index-given-from.is ∙ get_or_default c.args.given.now c.loop-from.from c.index-given-from.result (0, 0) c.loop-from-test.true))

pub follow_pattern-requires-clause-within : goal.follow_pattern-requires-clause-within
follow_pattern-requires-clause-within c = omega (arith, c.pattern.ensures, pattern_within c.args.nfas.now c.args.given.now c.loop-from.from c.index-given-from.result c.requires.inside c.loop-from-test.true c.index-given-from.is)

pub loop-from-preserved : goal.loop-from-preserved
loop-from-preserved c =
    let e = c.end_of_pattern-end.ensures in
    let given = c.args.given.now in
    record {
      found = closed_more given c.loop-from.from c.end_of_pattern-end.result c.requires.by_pattern e.behind e.within c.loop-from.invariant.apart e.same c.args.nfas.now c.loop-from.found.items c.follow_pattern.new.found.items c.loop-from.invariant.found
          c.in_ok-follow_pattern.ensures;
      within = e.within;
      apart = apart_more given c.loop-from.from c.end_of_pattern-end.result c.requires.by_pattern e.behind e.within c.loop-from.invariant.apart e.same e.next;
    }
