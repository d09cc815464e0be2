use Rattle.std.proofs.Common.{◌≡◌, ◌+◌, ◌≤◌, ◌∙◌, true, false, drop, length, ap, sym, refl, subst, arith, length-drop}
use Rattle.std.specs.Char.{is_ascii_lowercase}
use Rattle.std.proofs.lemmas.List.{drop-drop}
use Rattle.lalrpop_re.specs.Text.{Text, begins}
use Rattle.lalrpop_re.specs.Internal.Reading.{span}
use Rattle.lalrpop_re.specs.Internal.Views.{text}
use Rattle.lalrpop_re.proofs.BracketLoops.{posix_open, posix_unknown, posix_known, name_part, tail_part}
use Rattle.lalrpop_re.proofs.bracket.parse_posix_name.Goals as goal

pub returns-in_default-clause-value : goal.returns-in_default-clause-value
returns-in_default-clause-value c =
    let t : Text = drop c.args.front (text c.args.cursor.now) in
    let part = tail_part c.args.front c.rest-rest.result.now ∙ ap (drop c.args.front) c.rest-rest.ensures in
    (posix_open c.args.negated t (subst (λ (u : Text). begins ":]" (span is_ascii_lowercase u).1 ≡ false) part c.in_default.ensures.value), refl)

pub returns-in_default-2-clause-value : goal.returns-in_default-2-clause-value
returns-in_default-2-clause-value c =
    let t : Text = drop c.args.front (text c.args.cursor.now) in
    let part = tail_part c.args.front c.rest-rest.result.now ∙ ap (drop c.args.front) c.rest-rest.ensures in
    let long : c.in-Some.len ≡ length (span is_ascii_lowercase t).0 = subst (λ (u : Text). c.in-Some.len ≡ length (span is_ascii_lowercase u).0) part c.in-Some.ensures.value.1 in
    (posix_unknown c.args.negated t _ (name_part c.args.front c.in-Some.len c.rest-rest.result.now (text c.args.cursor.now) c.rest-rest.ensures long) (rw c.in_default-2.is at c.in_ok-class.ensures.found), refl)

pub returns-clause-value : goal.returns-clause-value
returns-clause-value c =
    let t : Text = drop c.args.front (text c.args.cursor.now) in
    let part = tail_part c.args.front c.rest-rest.result.now ∙ ap (drop c.args.front) c.rest-rest.ensures in
    let long : c.in-Some.len ≡ length (span is_ascii_lowercase t).0 = subst (λ (u : Text). c.in-Some.len ≡ length (span is_ascii_lowercase u).0) part c.in-Some.ensures.value.1 in
    let closed : begins ":]" (span is_ascii_lowercase t).1 ≡ true = subst (λ (u : Text). begins ":]" (span is_ascii_lowercase u).1 ≡ true) part c.in-Some.ensures.value.0 in
    let found = rw c.in-Some-2.is at c.in_ok-class.ensures.found in
    let named = posix_known c.args.negated t _ found.0 closed (name_part c.args.front c.in-Some.len c.rest-rest.result.now (text c.args.cursor.now) c.rest-rest.ensures long) found.1 in
    let fits : c.in-Some.len + 2 ≤ length t = subst (λ (u : Text). c.in-Some.len + 2 ≤ length u) part c.in-Some.ensures.within in
    let k : c.args.front + (c.in-Some.len + 2) ≡ c.args.front + c.in-Some.len + 2 = omega arith in
    let rest : drop (length (span is_ascii_lowercase t).0 + 2) t ≡ text c.advance.new.self =
    ap (λ n. drop (n + 2) t) (sym long) ∙ drop-drop (c.in-Some.len + 2) c.args.front (text c.args.cursor.now) ∙ ap (λ n. drop n (text c.args.cursor.now)) k ∙ sym c.advance.ensures.text in
    (found.0, rw (sym rest) named, found.2, omega (arith, ap length c.advance.ensures.text, length-drop (c.args.front + c.in-Some.len + 2) (text c.args.cursor.now), length-drop c.args.front (text c.args.cursor.now)))
