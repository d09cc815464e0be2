use Rattle.std.proofs.Common.{◌++◌, ◌∷◌, [], sym, ◌∙◌, rules, string_bytes}
use Rattle.std.proofs.lemmas.Result.{err_from_is_err_and}
use Rattle.lalrpop_re.specs.Internal.Views.{text}
use Rattle.lalrpop_re.proofs.BracketLoops.{is_empty}
use Rattle.lalrpop_re.proofs.UnescapeSteps.{left_first, left_next, left_end, left_refused, not_empty}
use Rattle.lalrpop_re.proofs.unescape_text.parse_characters.Goals as goal

pub loop-cursor-init : goal.loop-cursor-init
loop-cursor-init c = ([], rw c.new-said.ensures.bytes (left_first (text c.args.cursor.now)))

pub returns-in_err-c-clause-none : goal.returns-in_err-c-clause-none
returns-in_err-c-clause-none c =
    let p = err_from_is_err_and c.from_residual.result c.from_residual.ensures.1 in
    rw (p.1, p.2) (left_refused (text c.args.cursor.now) (text c.loop-cursor.cursor) c.loop-cursor.invariant.0 (string_bytes c.loop-cursor.said) c.in_err-c.field-0.0
    (not_empty (text c.loop-cursor.cursor) (rw c.rest.ensures at (sym c.is_empty.ensures ∙ c.loop-cursor-test.true))) c.loop-cursor.invariant.1 c.in_err-c.ensures.value)

pub loop-cursor-preserved : goal.loop-cursor-preserved
loop-cursor-preserved c = (
  c.loop-cursor.invariant.0 ++ c.in_ok-c.c ∷ [],
  left_next (text c.args.cursor.now) (text c.loop-cursor.cursor) (text c.parse_character.new.cursor) c.loop-cursor.invariant.0 (string_bytes c.loop-cursor.said) (string_bytes c.push.new.self) c.in_ok-c.c
      (search rules) c.in_ok-c.ensures.value c.in_ok-push.ensures.bytes c.loop-cursor.invariant.1,
)

pub returns-clause-value : goal.returns-clause-value
returns-clause-value c =
    left_end (text c.args.cursor.now) (text c.loop-cursor.cursor) c.loop-cursor.invariant.0 (string_bytes c.loop-cursor.said)
    (is_empty (text c.loop-cursor.cursor) (rw c.rest.ensures at (sym c.is_empty.ensures ∙ c.loop-cursor-test.false))) c.loop-cursor.invariant.1
