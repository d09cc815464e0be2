use Rattle.std.proofs.Common.{append-nil, refl, sym, ap, take, lit<}
use Rattle.std.proofs.lemmas.List.{take-append-drop}
use Rattle.std.proofs.lemmas.Str.Pattern.{drop_at_char}
use Rattle.lalrpop_rule_file.specs.Words.{begins, is_no_apostrophe}
use Rattle.lalrpop_rule_file.proofs.Closings.{no_char}
use Rattle.lalrpop_rule_file.proofs.line_text.from_apostrophe.Goals as goal

pub returns-in-Some : goal.returns-in-Some
returns-in-Some c =
    let inner = c.args.inner.now in
    let at = c.in-Some.at in
    let found = c.in-Some.ensures.cases in
    rw c.range_from.ensures.value (
      take at inner,
      record {
        parts = sym (take-append-drop at inner);
        passes = no_char 39 (take at inner) (lit< tt) found.1.0;
        stops = ap (begins is_no_apostrophe) (drop_at_char 39 inner at found.0 found.1.1 (lit< tt));
      },
    )

pub returns-in-None : goal.returns-in-None
returns-in-None c =
    let inner = c.args.inner.now in
    (inner, record { parts = sym (append-nil inner); passes = no_char 39 inner (lit< tt) c.in-None.ensures.cases; stops = refl })
