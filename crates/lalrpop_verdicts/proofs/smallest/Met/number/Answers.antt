use Rattle.std.proofs.Common.{◌≡◌, ◌<◌, ◌∙◌, length, ap, arith}
use Rattle.std.specs.Prelude.{Some}
use Rattle.lalrpop_verdicts.proofs.ClassOrder.{known_in_turn, next_in_turn}
use Rattle.lalrpop_verdicts.proofs.ClassWalks.{met_new, not_some, number_found, number_new, numbered_new, read_index, read_number}
use Rattle.lalrpop_verdicts.proofs.smallest.Met.number.Goals as goal

pub returns-in-Some-clause-number : goal.returns-in-Some-clause-number
returns-in-Some-clause-number c =
    let m = c.args.self.now in
    let h = c.requires.numbered in
    let k = c.index-class.result.now in
    let class = read_index m.classes.items c.index.result c.args.state k c.index.ensures.value c.requires.within c.index-class.ensures in
    let l : k < length m.numbers.items = omega (arith, class, h.room c.args.state c.requires.within) in
    let here = read_number m.numbers.items k c.index-2.result.now l c.index-2.ensures ∙ ap (λ o. Some o) c.in-Some.is in
    rw c.new.ensures.value (number_found m.classes.items m.numbers.items m.states.items h c.args.state k c.in-Some.number class here)

pub returns-clause-numbered : goal.returns-clause-numbered
returns-clause-numbered c =
    let m = c.args.self.now in
    let h = c.requires.numbered in
    let k = c.index-class.result.now in
    let class = read_index m.classes.items c.index.result c.args.state k c.index.ensures.value c.requires.within c.index-class.ensures in
    let l : k < length m.numbers.items = omega (arith, class, h.room c.args.state c.requires.within) in
    let none = read_number m.numbers.items k c.index-2.result.now l c.index-2.ensures ∙ ap (λ o. Some o) (not_some c.index-2.result.now c.in_default.not-Some) in
    let next : c.len-number.result ≡ length m.states.items = omega (arith, c.len-number.ensures, m.states.ok.0) in
    rw c.in_ok-push.ensures.items (numbered_new m.classes.items m.numbers.items m.states.items h c.args.state k c.len-number.result c.requires.within class none next)

pub returns-clause-number : goal.returns-clause-number
returns-clause-number c =
    let m = c.args.self.now in
    let h = c.requires.numbered in
    let k = c.index-class.result.now in
    let class = read_index m.classes.items c.index.result c.args.state k c.index.ensures.value c.requires.within c.index-class.ensures in
    let l : k < length m.numbers.items = omega (arith, class, h.room c.args.state c.requires.within) in
    let none = read_number m.numbers.items k c.index-2.result.now l c.index-2.ensures ∙ ap (λ o. Some o) (not_some c.index-2.result.now c.in_default.not-Some) in
    let next : c.len-number.result ≡ length m.states.items = omega (arith, c.len-number.ensures, m.states.ok.0) in
    rw (c.in_ok-push.ensures.items, c.new-2.ensures.value) (number_new m.classes.items m.numbers.items m.states.items h c.args.state k c.len-number.result c.requires.within class none next)

pub returns-clause-met : goal.returns-clause-met
returns-clause-met c =
    let m = c.args.self.now in
    let h = c.requires.numbered in
    let k = c.index-class.result.now in
    let class = read_index m.classes.items c.index.result c.args.state k c.index.ensures.value c.requires.within c.index-class.ensures in
    let l : k < length m.numbers.items = omega (arith, class, h.room c.args.state c.requires.within) in
    let none = read_number m.numbers.items k c.index-2.result.now l c.index-2.ensures ∙ ap (λ o. Some o) (not_some c.index-2.result.now c.in_default.not-Some) in
    let next : c.len-number.result ≡ length m.states.items = omega (arith, c.len-number.ensures, m.states.ok.0) in
    rw c.in_ok-push.ensures.items (met_new m.classes.items m.numbers.items m.states.items h c.args.state k c.len-number.result c.requires.within class none next)

pub returns-in-Some-clause-turn : goal.returns-in-Some-clause-turn
returns-in-Some-clause-turn c =
    let m = c.args.self.now in
    let h = c.requires.numbered in
    let k = c.index-class.result.now in
    let class = read_index m.classes.items c.index.result c.args.state k c.index.ensures.value c.requires.within c.index-class.ensures in
    let l : k < length m.numbers.items = omega (arith, class, h.room c.args.state c.requires.within) in
    let here = read_number m.numbers.items k c.index-2.result.now l c.index-2.ensures ∙ ap (λ o. Some o) c.in-Some.is in
    rw c.new.ensures.value (known_in_turn m.states.items c.in-Some.number (number_found m.classes.items m.numbers.items m.states.items h c.args.state k c.in-Some.number class here).within)

pub returns-clause-turn : goal.returns-clause-turn
returns-clause-turn c =
    let m = c.args.self.now in
    let next : c.len-number.result ≡ length m.states.items = omega (arith, c.len-number.ensures, m.states.ok.0) in
    rw (c.in_ok-push.ensures.items, c.new-2.ensures.value) (next_in_turn m.states.items c.args.state c.len-number.result next)
