use Rattle.std.proofs.Common.{◌≡◌, ◌++◌, ◌∷◌, [], Some, length, sym, ◌∙◌, ap}
use Rattle.std.specs.BTreeMap.{get}
use Rattle.lalrpop_build.specs.Internal.EdgeGroups.{labels_cmp}
use Rattle.lalrpop_build.proofs.EdgeGroupLaws.{numbers_kept, numbers_pushed, pushed_list, grown_pushed}
use Rattle.lalrpop_build.proofs.alphabet.groups.Lists.number_of.Goals as goal

pub returns-in-Some-clause-number : goal.returns-in-Some-clause-number
returns-in-Some-clause-number c =
    let found : get labels_cmp c.self.inside.numbers c.args.labels.now ≡ Some c.in-Some.number.now = sym c.in-Some.ensures.value in
    rw (← c.self.view_is) (c.self.invariant.found c.args.labels.now c.in-Some.number.now found)

pub invariant_of-self-in_err-insert : goal.invariant_of-self-in_err-insert
invariant_of-self-in_err-insert c = numbers_kept c.self.inside.numbers c.insert.new.self c.self.inside.lists.items c.reserve.new.self.items c.self.invariant c.reserve.ensures.items c.in_err-insert.ensures.err

pub invariant_of-self-2 : goal.invariant_of-self-2
invariant_of-self-2 c =
    let lists = c.self.inside.lists.items in
    let items : c.push.new.self.items ≡ lists ++ c.in_ok-list.list ∷ [] = c.in_ok-push.ensures.items ∙ ap (λ xs. xs ++ c.in_ok-list.list ∷ []) c.reserve.ensures.items in
    let number : c.len-number.result ≡ length lists = c.len-number.ensures ∙ c.self.inside.lists.ok.0 in
    rw items (numbers_pushed c.self.inside.numbers c.insert.new.self lists c.in_ok-key.key c.in_ok-list.list c.self.invariant (c.in_ok-key.ensures.cases ∙ sym c.in_ok-list.ensures.cases) (rw number at c.in_ok-insert.ensures.updates))

pub returns-clause-number : goal.returns-clause-number
returns-clause-number c =
    let lists = c.self.inside.lists.items in
    let items : c.push.new.self.items ≡ lists ++ c.in_ok-list.list ∷ [] = c.in_ok-push.ensures.items ∙ ap (λ xs. xs ++ c.in_ok-list.list ∷ []) c.reserve.ensures.items in
    let number : c.len-number.result ≡ length lists = c.len-number.ensures ∙ c.self.inside.lists.ok.0 in
    rw (items, number) (pushed_list lists c.in_ok-list.list c.args.labels.now.list.items c.in_ok-list.ensures.cases)

pub returns-clause-grown : goal.returns-clause-grown
returns-clause-grown c =
    let lists = c.self.inside.lists.items in
    let items : c.push.new.self.items ≡ lists ++ c.in_ok-list.list ∷ [] = c.in_ok-push.ensures.items ∙ ap (λ xs. xs ++ c.in_ok-list.list ∷ []) c.reserve.ensures.items in
    rw (items, ← c.self.view_is) (grown_pushed lists c.in_ok-list.list)
