use Rattle.std.proofs.Common.{◌≡◌, ◌≤◌, ◌+◌, ◌-◌, ◌∙◌, ℕ, List, take, drop, length, arith, sym, ap, subst}
use Rattle.std.specs.Option.{option_map}
use Rattle.std.specs.Str.{chars, IsUtf8}
use Rattle.lalrpop_hir.specs.Prefix.{IsPrefix}
use Rattle.lalrpop_dense.specs.Matching.{Matching, characters_of}
use Rattle.lalrpop_dense.specs.Internal.Blocks.{Rest}
use Rattle.lalrpop_dense.specs.Internal.Memory.{room}
use Rattle.lalrpop_dense.specs.Internal.Standing.{IsStanding, IsReached}
use Rattle.lalrpop_dense.proofs.Blocks.{sought_some, sought_none}
use Rattle.lalrpop_dense.proofs.Standings.{standing_counted, standing_here, standing_behind, reached_here, count_between, fewer_behind, remembered_pays}
use Rattle.lalrpop_dense.proofs.linear_matches.LinearMatches.next_remembered.Goals as goal
use Rattle.lalrpop_dense.proofs.linear_matches.LinearMatches.next_remembered.Goals.{After-count_chars}

-- the characters between the place up to which they are counted and the rest
part : (c : After-count_chars) → c.range.result.now ≡ take (c.self.inside.ahead.at - c.self.inside.counted) (drop c.self.inside.counted c.self.inside.ahead.text)
part c =
    let i = c.self.inside in
    c.range.ensures.value ∙ ap (λ (n : ℕ). take (n - i.counted) (drop i.counted c.text.result.now)) c.offset-at.ensures.offset ∙ ap (λ (t : List ℕ). take (i.ahead.at - i.counted) (drop i.counted t)) c.text.ensures.same

-- once they are counted, the memory is for the rest
standing : (c : After-count_chars) → IsStanding c.self.inside.ahead.automaton c.self.inside.ahead.text c.self.inside.ahead.at (c.self.inside.index + c.count_chars.result) c.self.inside.memo
standing c =
    let i = c.self.inside in
    let h = c.self.invariant in
    standing_counted i.ahead.automaton i.ahead.text c.range.result.now i.counted i.ahead.at i.index c.count_chars.result i.memo
    (subst IsUtf8 c.rest-rest.ensures.rest c.rest-rest.utf8) h.boundary.0 h.behind (part c) c.range.utf8 c.count_chars.ensures.count h.standing

counted_between : (c : After-count_chars) → length (chars (drop c.self.inside.counted c.self.inside.ahead.text)) ≡ length (chars c.range.result.now) + length (chars (drop c.self.inside.ahead.at c.self.inside.ahead.text))
counted_between c = let i = c.self.inside in count_between i.ahead.text c.range.result.now i.counted i.ahead.at c.self.invariant.behind (part c) c.range.utf8

pub overflow_add-start : goal.overflow_add-start
overflow_add-start c = omega (arith, (standing c).small)

pub longest_remembering-found-requires-clause-fits : goal.longest_remembering-found-requires-clause-fits
longest_remembering-found-requires-clause-fits c =
    let i = c.self.inside in
    let dfa : c.dfa-dfa.result.now ≡ i.ahead.automaton = c.dfa-dfa.ensures.same ∙ c.dense.ensures.same in
    rw dfa c.self.invariant.standing.fits

pub longest_remembering-found-requires-clause-places : goal.longest_remembering-found-requires-clause-places
longest_remembering-found-requires-clause-places c = rw c.rest-rest.ensures.rest (standing (goal.at.longest_remembering-found-requires-clause-places c).After-count_chars).places

pub longest_remembering-found-requires-clause-index : goal.longest_remembering-found-requires-clause-index
longest_remembering-found-requires-clause-index c = rw c.rest-rest.ensures.rest (omega (arith, (standing (goal.at.longest_remembering-found-requires-clause-index c).After-count_chars).small))

pub longest_remembering-found-requires-clause-sound : goal.longest_remembering-found-requires-clause-sound
longest_remembering-found-requires-clause-sound c =
    let dfa : c.dfa-dfa.result.now ≡ c.self.inside.ahead.automaton = c.dfa-dfa.ensures.same ∙ c.dense.ensures.same in
    rw (c.rest-rest.ensures.rest, dfa) (standing (goal.at.longest_remembering-found-requires-clause-sound c).After-count_chars).sound

pub invariant_of-self : goal.invariant_of-self
invariant_of-self c =
    let i = c.self.inside in
    let text = i.ahead.text in
    let rest : c.rest-rest.result.now ≡ drop i.ahead.at text = c.rest-rest.ensures.rest in
    let start = standing (goal.at.invariant_of-self c).After-count_chars in
    let dfa : c.dfa-dfa.result.now ≡ i.ahead.automaton = c.dfa-dfa.ensures.same ∙ c.dense.ensures.same in
    let found = c.longest_remembering-found in
    let p = c.in-Some.matched.now in
    let prefix = rw c.in-Some.is at found.ensures.prefix in
    let moved = rw c.in-Some.is at found.ensures.end in
    let sound = rw (rest, dfa) at (found.ensures.found.1 (length (chars p)) moved) in
    let there : c.offset-self-inside.result ≡ i.ahead.at + length p = c.offset-self-inside.ensures.offset ∙ ap (λ (r : Rest). r.at) c.pass.ensures.passes in
    subst (λ (r : Rest). IsReached r.automaton r.text r.at c.offset-self-inside.result found.result.end found.new.memo) (sym c.pass.ensures.passes)
    (subst (λ (n : ℕ). IsReached i.ahead.automaton text (i.ahead.at + length p) n found.result.end found.new.memo) (sym there)
    (reached_here i.ahead.automaton text (i.ahead.at + length p) found.result.end found.new.memo
    (standing_behind i.ahead.automaton text p i.ahead.at (i.index + c.count_chars.result) found.result.end i.memo found.new.memo
    (subst IsUtf8 rest c.rest-rest.utf8) (subst (IsPrefix p) rest prefix.0) found.ensures.same moved sound start)))

pub invariant_of-self-in_default : goal.invariant_of-self-in_default
invariant_of-self-in_default c =
    let i = c.self.inside in
    let text = i.ahead.text in
    let rest : c.rest-rest.result.now ≡ drop i.ahead.at text = c.rest-rest.ensures.rest in
    let start = standing (goal.at.invariant_of-self-in_default c).After-count_chars in
    let dfa : c.dfa-dfa.result.now ≡ i.ahead.automaton = c.dfa-dfa.ensures.same ∙ c.dense.ensures.same in
    let found = c.longest_remembering-found in
    let stays = rw c.in_default.is at found.ensures.end in
    let sound = rw (rest, dfa) at (found.ensures.found.1 0 stays) in
    subst (λ (n : ℕ). IsReached i.ahead.automaton text i.ahead.at n found.result.end found.new.memo) (sym c.offset-at.ensures.offset)
    (reached_here i.ahead.automaton text i.ahead.at found.result.end found.new.memo
    (standing_here i.ahead.automaton text i.ahead.at (i.index + c.count_chars.result) found.result.end i.memo found.new.memo found.ensures.same (omega (arith, stays)) sound start))

pub returns-in-Some-clause-next : goal.returns-in-Some-clause-next
returns-in-Some-clause-next c =
    let i = c.self.inside in
    let dfa : c.dfa-dfa.result.now ≡ i.ahead.automaton = c.dfa-dfa.ensures.same ∙ c.dense.ensures.same in
    sought_some _ i.ahead c.pass.new.self c.dfa-dfa.result.now c.rest-rest.result.now c.longest_remembering-found.result.longest (c.in-Some.field-0-0, c.in-Some.matched) _ _ c.in-Some.is c.self.view_is dfa c.rest-rest.ensures.rest
    c.longest_remembering-found.ensures.found.0 c.longest_remembering-found.ensures.prefix c.pass.ensures.passes

pub returns-in_default-clause-next : goal.returns-in_default-clause-next
returns-in_default-clause-next c =
    let i = c.self.inside in
    let dfa : c.dfa-dfa.result.now ≡ i.ahead.automaton = c.dfa-dfa.ensures.same ∙ c.dense.ensures.same in
    sought_none _ i.ahead c.dfa-dfa.result.now c.rest-rest.result.now c.longest_remembering-found.result.longest _ _ c.in_default.is c.self.view_is dfa c.rest-rest.ensures.rest
    c.longest_remembering-found.ensures.found.0

pub returns-in-Some-clause-paid : goal.returns-in-Some-clause-paid
returns-in-Some-clause-paid c =
    let i = c.self.inside in
    let text = i.ahead.text in
    let rest : c.rest-rest.result.now ≡ drop i.ahead.at text = c.rest-rest.ensures.rest in
    let found = c.longest_remembering-found in
    let p = c.in-Some.matched.now in
    let more : c.saturating_add-self-inside.result ≤ i.credit + (64 - found.result.past) = omega (arith, c.saturating_sub.ensures, c.saturating_add-self-inside.ensures) in
    let between = counted_between (goal.at.returns-in-Some-clause-paid c).After-count_chars in
    let prefix = rw c.in-Some.is at found.ensures.prefix in
    let fewer = fewer_behind text p i.ahead.at (subst (IsPrefix p) rest prefix.0) in
    let there : c.offset-self-inside.result ≡ i.ahead.at + length p = c.offset-self-inside.ensures.offset ∙ ap (λ (r : Rest). r.at) c.pass.ensures.passes in
    let uncounted : length (chars (drop c.offset-self-inside.result c.pass.new.self.text)) ≡ length (chars (drop (i.ahead.at + length p) text)) =
    ap (λ (r : Rest). length (chars (drop c.offset-self-inside.result r.text))) c.pass.ensures.passes ∙ ap (λ (n : ℕ). length (chars (drop n text))) there in
    let spare = ap (λ (s : Matching). s.spare) c.self.view_is in
    let pays = remembered_pays c.args.steps.now c.count_chars.new.steps found.new.steps (i.index + c.count_chars.result) found.result.end found.result.past (characters_of (option_map (λ m. m.1.now) found.result.longest))
    (length (chars c.range.result.now)) (length (chars (drop i.ahead.at text))) (length (chars (drop (i.ahead.at + length p) text))) (length (chars (drop i.counted text))) (room i.memo) (room found.new.memo)
    i.credit c.saturating_add-self-inside.result c.count_chars.ensures.steps between fewer found.ensures.end found.ensures.paid found.ensures.read found.ensures.fewer more in
    record { paid = omega (arith, pays, uncounted, spare); read = omega (arith, c.count_chars.ensures.steps, found.ensures.end, found.ensures.at_least) }

pub returns-in_default-clause-paid : goal.returns-in_default-clause-paid
returns-in_default-clause-paid c =
    let i = c.self.inside in
    let text = i.ahead.text in
    let found = c.longest_remembering-found in
    let more : c.saturating_add-self-inside.result ≤ i.credit + (64 - found.result.past) = omega (arith, c.saturating_sub.ensures, c.saturating_add-self-inside.ensures) in
    let between = counted_between (goal.at.returns-in_default-clause-paid c).After-count_chars in
    let fewer : length (chars (drop i.ahead.at text)) ≤ length (chars (drop i.ahead.at text)) = omega arith in
    let uncounted : length (chars (drop c.offset-at.result text)) ≡ length (chars (drop i.ahead.at text)) = ap (λ (n : ℕ). length (chars (drop n text))) c.offset-at.ensures.offset in
    let spare = ap (λ (s : Matching). s.spare) c.self.view_is in
    let pays = remembered_pays c.args.steps.now c.count_chars.new.steps found.new.steps (i.index + c.count_chars.result) found.result.end found.result.past (characters_of (option_map (λ m. m.1.now) found.result.longest))
    (length (chars c.range.result.now)) (length (chars (drop i.ahead.at text))) (length (chars (drop i.ahead.at text))) (length (chars (drop i.counted text))) (room i.memo) (room found.new.memo)
    i.credit c.saturating_add-self-inside.result c.count_chars.ensures.steps between fewer found.ensures.end found.ensures.paid found.ensures.read found.ensures.fewer more in
    record { paid = omega (arith, pays, uncounted, spare); read = omega (arith, c.count_chars.ensures.steps, found.ensures.end, found.ensures.at_least) }
