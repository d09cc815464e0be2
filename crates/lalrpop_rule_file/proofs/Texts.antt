-- What is read of a text, after what stands before it.
use Rattle.std.proofs.Common.{◌≡◌, ℕ, List, [], ◌∷◌, ◌++◌, Option, Result, Ok, Err, sym, ap, subst, ◌∙◌}
use Rattle.std.specs.Prelude.{IfOk, IfErr}
use Rattle.lalrpop_rule_file.specs.Words.{IsSpan, is_blank}
use Rattle.lalrpop_rule_file.specs.RuleLine.{Head, Part, Equals, Closed, Lexeme, Reads, lexeme_then, nothing, rule_of}
use Rattle.lalrpop_rule_file.specs.RuleFault.{StopsBefore}
use Rattle.lalrpop_rule_file.specs.Internal.Values.{text_of}
use Rattle.lalrpop_rule_file.specs.Internal.Stops.{IsBeforeText, ReadsText, StopsText}
use Rattle.lalrpop_rule_file.specs.declared.stop.Stop.{Stop}
use Rattle.lalrpop_rule_file.specs.declared.written.LineText.{LineText}
use Rattle.lalrpop_rule_file.proofs.Lexemes.{joined, span_read}
use Rattle.lalrpop_rule_file.proofs.Stopping.{ends_behind, stops_behind}

pub here_in_quotes : (rest inner : List ℕ) (mark : ℕ) (r : Result LineText Stop) → rest ≡ mark ∷ inner → IfOk r (λ m. m.here.now ≡ inner) → IfOk r (λ m. (front : List ℕ) × (rest ≡ front ++ m.here.now))
here_in_quotes rest inner mark (Ok m) parts is = (mark ∷ [], parts ∙ ap (λ (x : List ℕ). mark ∷ x) (sym is))
here_in_quotes rest inner mark (Err e) parts is = tt

pub here_behind : (front mid line : List ℕ) (r : Result LineText Stop) → line ≡ front ++ mid → IfOk r (λ m. (own : List ℕ) × (mid ≡ own ++ m.here.now)) → IfOk r (λ m. (own : List ℕ) × (line ≡ own ++ m.here.now))
here_behind front mid line (Ok m) parts is = ends_behind front mid m.here.now line parts is
here_behind front mid line (Err e) parts is = tt

-- ---- after a word

-- after this word, whatever stands before it, the text is read to its end
abbrev pub ReadsIn : (Head → Option ℕ → Part) → List ℕ → LineText → Type 0
ReadsIn word text m = (head : Head) (written : Option ℕ) → Reads (word head written) text (Closed (rule_of head written (text_of m.text))) []

abbrev pub StopsIn : (Head → Option ℕ → Part) → List ℕ → Stop → Type 0
StopsIn word text stop = (head : Head) (written : Option ℕ) → StopsBefore (word head written) text stop.rest.now stop.fault

-- the word is at the front
abbrev pub IsWord : (Head → Option ℕ → Part) → List ℕ → List ℕ → Type 0
IsWord word rest text = (head : Head) (written : Option ℕ) → Lexeme (Equals head written) rest (word head written) text

pub text_behind : (word : Head → Option ℕ → Part) (rest text : List ℕ) (r : Result LineText Stop) → IsWord word rest text → IfOk r (ReadsIn word text)
    → IfOk r (λ m. (written : Option ℕ) → ReadsText written rest (text_of m.text))
text_behind word rest text (Ok m) is reads = λ written head. lexeme_then (is head written) (reads head written)
text_behind word rest text (Err e) is reads = tt

pub stops_in_text : (word : Head → Option ℕ → Part) (rest text : List ℕ) (r : Result LineText Stop) → IsWord word rest text → IfErr r (StopsIn word text)
    → IfErr r (λ stop. (written : Option ℕ) → IsBeforeText written rest → StopsText written rest stop.rest.now stop.fault)
stops_in_text word rest text (Ok m) is stops = tt
stops_in_text word rest text (Err e) is stops = λ written before head. stops_behind (lexeme_then (is head written) nothing) (stops head written)

-- ---- after blanks and an apostrophe

pub in_quote : (word : Head → Option ℕ → Part) (text gap here inner : List ℕ) (r : Result LineText Stop) → IsSpan is_blank text gap here → here ≡ 39 ∷ inner → IfOk r (ReadsIn word (39 ∷ inner)) → IfOk r (ReadsIn word text)
in_quote word text gap here inner (Ok m) blanks parts reads = λ head written.
    joined (span_read (word head written) text gap here blanks) (subst (λ (x : List ℕ). Reads (word head written) x (Closed (rule_of head written (text_of m.text))) []) (sym parts) (reads head written))
in_quote word text gap here inner (Err e) blanks parts reads = tt

pub stops_in_quote : (word : Head → Option ℕ → Part) (text gap here inner : List ℕ) (r : Result LineText Stop) → IsSpan is_blank text gap here → here ≡ 39 ∷ inner → IfErr r (StopsIn word (39 ∷ inner)) → IfErr r (StopsIn word text)
stops_in_quote word text gap here inner (Ok m) blanks parts stops = tt
stops_in_quote word text gap here inner (Err e) blanks parts stops = λ head written.
    stops_behind (span_read (word head written) text gap here blanks) (subst (λ (x : List ℕ). StopsBefore (word head written) x e.rest.now e.fault) (sym parts) (stops head written))
