use Rattle.std.proofs.Common.{◌≡◌, ℕ, ◌<◌, Bool, true, false, List, map, [], length, get_or, sym, ap, ◌∙◌, below_more, arith}
use Rattle.std.specs.Prelude.{string_bytes}
use Rattle.std.proofs.lemmas.List.{length-map, get_or-map}
use Rattle.std.proofs.lemmas.List.Sums.{position_or_len_is}
use Rattle.lexdfa_lib.specs.Options.{is_end}
use Rattle.lexdfa_lib.proofs.options.end_of.Goals as goal

-- what is asked of an element is asked of its text
at_text : {X : Type 0} (f : X → List ℕ) (xs : List X) (i : ℕ) (x : X) (w : List ℕ) (b : Bool) → i < length xs → x ≡ get_or xs i x → w ≡ f x → b ≡ is_end w → is_end (get_or (map f xs) i []) ≡ b
at_text f xs i x w b l e h t = ap is_end (get_or-map f xs i x [] l ∙ ap f (sym e) ∙ sym h) ∙ sym t

pub returns-then-is_end : goal.returns-then-is_end
returns-then-is_end c =
    let xs = c.args.words.now in
    let n : length (map string_bytes xs) ≡ length xs = length-map xs string_bytes in
    let l : c.loop-i.i < length xs = c.loop-i-test.true in
    sym (position_or_len_is is_end (map string_bytes xs) c.loop-i.i [] (omega (arith, n, l)) c.loop-i.invariant
    (λ _. at_text string_bytes xs c.loop-i.i c.index-words-i.result c.as_str.result.now true l c.index-words-i.is c.as_str.ensures.value (sym c.if-is_end.true ∙ c.is_end.ensures)))

pub returns : goal.returns
returns c =
    let xs = c.args.words.now in
    let n : length (map string_bytes xs) ≡ length xs = length-map xs string_bytes in
    let e : c.loop-i.i ≡ length xs = omega (arith, c.loop-i-test.false, c.loop-i.auto.i-end) in
    sym (position_or_len_is is_end (map string_bytes xs) (length xs) [] (omega (arith, n)) (λ k l. c.loop-i.invariant k (omega (arith, e, l))) (λ l. absurd (omega (arith, n, l))))

pub loop-i-preserved : goal.loop-i-preserved
loop-i-preserved c =
    let xs = c.args.words.now in
    below_more _ _ c.loop-i.invariant
    (at_text string_bytes xs c.loop-i.i c.index-words-i.result c.as_str.result.now false c.loop-i-test.true c.index-words-i.is c.as_str.ensures.value (sym c.if-is_end.false ∙ c.is_end.ensures))
