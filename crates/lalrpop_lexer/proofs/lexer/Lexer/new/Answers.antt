use Rattle.std.proofs.Common.{sym, subst}
use Rattle.std.specs.Prelude.{map}
use Rattle.lalrpop_dfa.specs.Dfa.{RecognizesAll}
use Rattle.lalrpop_dfa.specs.Lookahead.{Accepted, IsLookahead, IsTrim}
use Rattle.lalrpop_dfa.proofs.Recognized.{recognized_words}
use Rattle.lalrpop_dfa.proofs.Trimming.{trimmed_trim}
use Rattle.lalrpop_dfa.proofs.WitnessLaws.{same_lookahead}
use Rattle.lalrpop_lexer.proofs.MatchedWords.{matched_word}
use Rattle.lalrpop_lexer.proofs.lexer.Lexer.new.Goals as goal

pub invariant_of-result : goal.invariant_of-result
invariant_of-result c =
    let built = rw (c.deref.ensures.value, c.deref-2.ensures.value) at c.in_ok-built.ensures.ok in
    let ts = c.args.regexs.items in
    let ps = map (λ p. p.0) c.args.precedences.items in
    let same = sym c.in_ok-dense.ensures.same in
    let all = rw (c.deref.ensures.value, c.deref-2.ensures.value) at c.in_ok-built.ensures.all in
    let stands = subst (λ d. RecognizesAll d ts ps) same (c.in_ok-dfa.ensures.recognizes ts ps all) in
    let trim = subst IsTrim same (trimmed_trim c.in_ok-built.built c.in_ok-dfa.dfa c.in_ok-dfa.ensures.trimmed) in
    let looks = subst (λ d. IsLookahead (Accepted d) c.in_ok-lookahead.lookahead) c.dfa.ensures.same c.in_ok-lookahead.ensures.answer in
    let items = rw c.deref.ensures.value at c.in_ok-built.ensures.items in
    (record { no_clash = built.1; stands = stands }, trim, same_lookahead _ _ (recognized_words _ _ _ stands) _ looks, matched_word ts items.0 items.1)

pub returns-clause-no_clash : goal.returns-clause-no_clash
returns-clause-no_clash c =
    let built = rw (c.deref.ensures.value, c.deref-2.ensures.value) at c.in_ok-built.ensures.ok in
    built.1
