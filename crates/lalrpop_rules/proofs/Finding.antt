-- A match at the front of a rest, or its first character, is passed.
use Rattle.std.proofs.Common.{◌≡◌, ◌≢◌, ℕ, suc, ◌+◌, ◌≤◌, List, [], ◌++◌, length, drop, arith, sym, ap, ◌∙◌, length-append}
use Rattle.std.specs.Prelude.{Option, Some, None, IfSome, IfNone}
use Rattle.std.specs.Option.{option_map}
use Rattle.std.specs.Char.{encode_utf8}
use Rattle.std.specs.Str.{chars, IsUtf8}
use Rattle.std.proofs.lemmas.Str.{chars_past_char, chars-append}
use Rattle.lalrpop_hir.specs.Longest.{IsLongest}
use Rattle.lalrpop_hir.specs.Prefix.{IsPrefix}
use Rattle.lalrpop_hir.specs.Tree.{Tree}
use Rattle.lalrpop_lexer.proofs.Cuttings.{some_char}
use Rattle.lalrpop_lexer.proofs.Recognized.{on_words}
use Rattle.lalrpop_lexer.specs.Dfa.{Row, Recognizes}
use Rattle.lalrpop_lexer.specs.Matching.{Matching, rest_of}
use Rattle.lalrpop_rules.specs.Internal.CutToEnd.{Memo, IsPaid}
use Rattle.lalrpop_rules.specs.Internal.Finding.{Match, IsMatchOf, Passes, memo_of}
use Rattle.lalrpop_rules.proofs.PieceLaws.{after_prefix, split_at}

-- what an automaton finds is the longest match for any rules that it is built from
pub found_for : (d : List Row) (rest : List ℕ) (found : Option Match)
    → ((ts : List Tree) (ps : List ℕ) → Recognizes d ts ps → IsLongest ts ps rest (option_map (λ m. (m.0, m.1.now)) found)) → IsMatchOf d rest found
found_for d rest found answer = λ ts ps built. answer ts ps (on_words d ts ps built.stands)

-- where nothing matches, the first character is passed
pub char_passed : (m between n : Matching) (o : Option ℕ) → rest_of m ≢ [] → between ≡ record m { spare = between.spare }
    → IfSome o (λ c. rest_of between ≡ encode_utf8 c ++ rest_of n) → IfSome o (λ c. n ≡ record between { at = between.at + length (encode_utf8 c) })
    → IfNone o ((rest_of between ≡ []) × (n ≡ between)) → Passes m n None × (n.spare ≡ between.spare)
char_passed m between n None some stays first passes end = absurd (some (sym (ap (λ (x : Matching). rest_of x) stays) ∙ end.0))
char_passed m between n (Some c) some stays first passes end =
    let same : n.spare ≡ between.spare = ap (λ (x : Matching). x.spare) passes in
    let rest : rest_of m ≡ encode_utf8 c ++ rest_of n = sym (ap (λ (x : Matching). rest_of x) stays) ∙ first in
    let behind : n ≡ record m { at = m.at + length (encode_utf8 c); spare = n.spare } =
    passes ∙ ap (λ (x : Matching). record x { at = x.at + length (encode_utf8 c) }) stays
    ∙ ap (λ (u : ℕ). record m { at = m.at + length (encode_utf8 c); spare = u }) (sym same) in
    ((c, (rest, behind)), same)

-- ---- what it costs

-- a match pays for itself, and for 64 characters besides
pub match_pays : (m n : Matching) (p : List ℕ) (before after : ℕ) → IsPrefix p (rest_of m) → p ≢ [] → n ≡ record m { at = m.at + length p; spare = n.spare }
    → before ≤ after → after + n.spare ≤ before + length (chars p) + m.spare + 64 → IsPaid before (memo_of m) after (memo_of n)
match_pays m n p before after b some e grows paid =
    let later : rest_of n ≡ drop (m.at + length p) m.text = ap (λ (x : Matching). rest_of x) e in
    let parts : length (chars (rest_of m)) ≡ length (chars p) + length (chars (rest_of n)) =
    ap (λ (t : List ℕ). length (chars t)) (split_at m.text m.at p (after_prefix p (rest_of m) b) ∙ ap (λ (t : List ℕ). p ++ t) (sym later))
    ∙ ap (λ (w : List ℕ). length w) (chars-append p (rest_of n) b.1.1) ∙ length-append (chars p) (chars (rest_of n)) in
    (grows, omega (arith, parts, some_char p b.1.1 some, paid))

-- and so does a character that is passed
pub char_pays : (m n : Matching) (between before after : ℕ) → IsUtf8 (rest_of m) → Passes m n None → n.spare ≡ between → before ≤ after
    → after + between ≤ before + m.spare + 64 → IsPaid before (memo_of m) after (memo_of n)
char_pays m n between before after u (c, (e, behind)) same grows paid =
    let count : length (chars (rest_of m)) ≡ suc (length (chars (rest_of n))) = ap (λ (w : List ℕ). length w) (chars_past_char (rest_of m) (rest_of n) c u e) in
    (grows, omega (arith, count, paid, same))

-- what is paid for step by step is paid for
pub paid_on : (a b c : ℕ) (l m n : Memo) → IsPaid a l b m → IsPaid b m c n → IsPaid a l c n
paid_on a b c l m n first then = (omega (arith, first.0, then.0), omega (arith, first.1, then.1))
