use Rattle.std.proofs.Common.{[], ◌∷◌, sym, string_bytes}
use Rattle.std.specs.Str.{chars}
use Rattle.std.proofs.lemmas.Iterator.{YieldsList-from_chars}
use Rattle.std.proofs.lemmas.Iterator.Consumers.{YieldsList-end}
use Rattle.std.proofs.lemmas.Str.{encodes-append}
use Rattle.lalrpop_re.specs.Escaped.{escaped}
use Rattle.lalrpop_re.proofs.EscapedLemmas.{escaped-append, text_of_bytes, tree_of_text}
use Rattle.lalrpop_re.proofs.escape_text.escape.Goals as goal

pub loop-c-init : goal.loop-c-init
unfolding escaped
loop-c-init c = c.new-pattern.ensures.bytes

pub loop-c-preserved : goal.loop-c-preserved
loop-c-preserved c =
    rw (c.in_ok-push_escaped.ensures, c.loop-c.invariant, escaped-append) (sym (encodes-append (escaped c.loop-c.yielded) (escaped (c.in-Some.c ∷ []))))

pub returns-clause-text : goal.returns-clause-text
returns-clause-text c =
    let all = YieldsList-end (YieldsList-from_chars c.args.s.now c.utf8.s cc) c.loop-c.yielded _ c.loop-c.yielded_by _ _ c.in-None.is c.next.ensures.steps in
    text_of_bytes (string_bytes c.loop-c.pattern) c.args.s.now c.loop-c.yielded c.loop-c.invariant all.0 c.utf8.s

pub returns-clause-tree : goal.returns-clause-tree
returns-clause-tree c = tree_of_text (chars (string_bytes c.loop-c.pattern)) (chars c.args.s.now) (returns-clause-text c)
