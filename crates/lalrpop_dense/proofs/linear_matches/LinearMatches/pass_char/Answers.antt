use Rattle.std.proofs.Common.{◌≡◌, ◌+◌, ◌-◌, ◌++◌, ◌∙◌, ℕ, List, length, take, drop, arith, ap, sym, subst}
use Rattle.std.specs.Char.{encode_utf8, len_utf8}
use Rattle.std.specs.Str.{IsUtf8}
use Rattle.std.specs.Str.Iter.{chars_rest}
use Rattle.lalrpop_hir.specs.Prefix.{IsPrefix}
use Rattle.lalrpop_dense.specs.Matching.{Matching, rest_of}
use Rattle.lalrpop_dense.specs.Internal.Blocks.{Rest}
use Rattle.lalrpop_dense.specs.Internal.Standing.{IsReached}
use Rattle.lalrpop_dense.proofs.Blocks.{first_char}
use Rattle.lalrpop_dense.proofs.Standings.{split_past, reached_on}
use Rattle.lalrpop_dense.proofs.linear_matches.LinearMatches.pass_char.Goals as goal

pub range-requires-clause-end_boundary : goal.range-requires-clause-end_boundary
range-requires-clause-end_boundary c =
    (first_char c.rest-rest.result.now (chars_rest c.chars.result) (chars_rest c.next.new.self) c.in-Some.first c.len_utf8.result c.rest-rest.utf8 c.chars.ensures.rest c.in-Some.ensures.steps.0
    c.len_utf8.ensures.len).0

pub invariant_of-self : goal.invariant_of-self
invariant_of-self c =
    let i = c.self.inside in
    let char = c.in-Some.first in
    let first = first_char c.rest-rest.result.now (chars_rest c.chars.result) (chars_rest c.next.new.self) char c.len_utf8.result c.rest-rest.utf8 c.chars.ensures.rest c.in-Some.ensures.steps.0 c.len_utf8.ensures.len in
    let whole : c.len_utf8.result - 0 ≡ c.len_utf8.result = omega arith in
    let is : c.range.result.now ≡ encode_utf8 char = c.range.ensures.value ∙ ap (λ (n : ℕ). take n c.rest-rest.result.now) whole ∙ first.1 in
    let p = c.range.result.now in
    let split : drop i.ahead.at i.ahead.text ≡ p ++ chars_rest c.next.new.self =
    sym (c.chars.ensures.rest ∙ c.rest-rest.ensures.rest) ∙ c.in-Some.ensures.steps.0 ∙ ap (λ (t : List ℕ). t ++ chars_rest c.next.new.self) (sym is) in
    let b : IsPrefix p (drop i.ahead.at i.ahead.text) = (chars_rest c.next.new.self, (split, c.range.utf8)) in
    subst (λ (r : Rest). IsReached r.automaton r.text r.at i.counted i.index i.memo) (sym c.pass.ensures.passes)
    (reached_on i.ahead.automaton i.ahead.text p i.ahead.at i.counted i.index i.memo (subst IsUtf8 c.rest-rest.ensures.rest c.rest-rest.utf8) b c.self.invariant)

pub returns-in-Some-clause-first : goal.returns-in-Some-clause-first
returns-in-Some-clause-first c =
    let s = c.args.self.now in
    let i = c.self.inside in
    let char = c.in-Some.first in
    let first = first_char c.rest-rest.result.now (chars_rest c.chars.result) (chars_rest c.next.new.self) char c.len_utf8.result c.rest-rest.utf8 c.chars.ensures.rest c.in-Some.ensures.steps.0 c.len_utf8.ensures.len in
    let whole : c.len_utf8.result - 0 ≡ c.len_utf8.result = omega arith in
    let is : c.range.result.now ≡ encode_utf8 char = c.range.ensures.value ∙ ap (λ (n : ℕ). take n c.rest-rest.result.now) whole ∙ first.1 in
    let here : chars_rest c.chars.result ≡ drop i.ahead.at i.ahead.text = c.chars.ensures.rest ∙ c.rest-rest.ensures.rest in
    let long : len_utf8 char ≡ length c.range.result.now = sym (ap length is ∙ sym c.len_utf8.ensures.len ∙ c.len_utf8.ensures.value) in
    sym (ap (λ (m : Matching). rest_of m) c.self.view_is) ∙ split_past i.ahead.text (chars_rest c.chars.result) (chars_rest c.next.new.self) i.ahead.at char here c.in-Some.ensures.steps.0
    ∙ ap (λ (n : ℕ). encode_utf8 char ++ drop (i.ahead.at + n) i.ahead.text) long ∙ ap (λ (t : List ℕ). encode_utf8 char ++ t) (sym (ap (λ (r : Rest). drop r.at r.text) c.pass.ensures.passes))
