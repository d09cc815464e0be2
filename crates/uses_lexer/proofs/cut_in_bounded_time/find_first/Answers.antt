use Rattle.std.proofs.Common.{subst}
use Rattle.std.specs.Option.{option_map}
use Rattle.lalrpop_lexer.specs.Longest.{IsLongest}
use Rattle.lalrpop_lexer.specs.Matching.{Matching, rest_of}
use Rattle.lalrpop_lexer.proofs.Recognized.{on_words}
use Rattle.uses_lexer.proofs.cut_in_bounded_time.find_first.Goals as goal

pub returns-clause-longest : goal.returns-clause-longest
returns-clause-longest c =
    let ts = c.args.lexer.now.trees in
    let ps = c.args.lexer.now.precedences in
    let longest = c.next_match.ensures.answer ts ps (on_words _ ts ps c.in_ok-matches.ensures.built.stands) in
    subst (λ (s : Matching). IsLongest ts ps (rest_of s) (option_map (λ m. (m.0, m.1.now)) c.next_match.result)) c.in_ok-matches.ensures.start longest
