use Rattle.std.proofs.Common.{◌≡◌, ◌∷◌, ◌++◌, [], length, Some, None, sym, ap, ◌∙◌, subst, arith}
use Rattle.std.specs.HashMap.{get, Updates}
use Rattle.std.specs.Option.{option_copied}
use Rattle.lalrpop_verdicts.specs.Internal.Classes.{AreFirsts, list_eq}
use Rattle.lalrpop_verdicts.proofs.FirstLaws.{push_found, push_missing}
use Rattle.lalrpop_verdicts.proofs.classes.first_equal.FirstEqual.push.Goals as goal

pub returns-in-Some : goal.returns-in-Some
returns-in-Some c = λ lists h.
    let found : get list_eq c.args.self.now.known c.args.list ≡ Some c.in-Some.first.now = sym c.in-Some.ensures.value in
    rw c.in_ok-push.ensures.items (push_found lists c.args.self.now.known c.args.self.now.places.items h c.args.list c.in-Some.first.now found)

pub returns : goal.returns
returns c = λ lists h.
    let known = c.args.self.now.known in
    let places = c.args.self.now.places.items in
    let none : get list_eq known c.args.list ≡ None = sym c.get.ensures.value ∙ ap option_copied c.in_default.is in
    let place : c.len-place.result ≡ length lists = omega (arith, c.len-place.ensures, h.classes.same_length) in
    let up : Updates list_eq known c.insert.new.self c.args.list (Some (length lists)) =
    subst (λ k. Updates list_eq known c.insert.new.self c.args.list (Some k)) place c.in_ok-insert.ensures.updates in
    let all = push_missing lists known places h c.args.list c.insert.new.self none up in
    rw c.in_ok-push-2.ensures.items
    (subst (λ k. AreFirsts (lists ++ c.args.list.items ∷ []) c.insert.new.self (places ++ k ∷ [])) (sym place) all)
