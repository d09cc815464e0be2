use Rattle.std.proofs.Common.{◌≡◌, ◌++◌, decimal, ℕ, ◌+◌, ◌-◌, ◌≤◌, length, List, [], ◌∷◌, slice_set, drop, take, take_all, length-drop, ap, ◌∙◌, arith, rules}
use Rattle.std.proofs.lemmas.Fmt.{length-decimal-le}
use Rattle.std.proofs.lemmas.List.{drop-set}
use Rattle.std.proofs.Math.ListN.{length-set}
use Rattle.reports_lib.proofs.numbers.push_numbers.Goals as goal

pub write_digits-later-requires : goal.write_digits-later-requires
write_digits-later-requires c = search (rules, length-decimal-le 20)

pub overflow_sub-text : goal.overflow_sub-text
overflow_sub-text c = omega (arith, c.write_digits-later.ensures.start, length-decimal-le 20 c.args.second (search rules) (omega arith) (omega arith))

pub overflow_sub-later : goal.overflow_sub-later
overflow_sub-later c = omega (arith, c.write_digits-later.ensures.start, length-decimal-le 20 c.args.second (search rules) (omega arith) (omega arith))

pub write_digits-start-requires : goal.write_digits-start-requires
write_digits-start-requires c =
    let second = length-decimal-le 20 c.args.second (search rules) (omega arith) (omega arith) in
    let first = length-decimal-le 20 c.args.first (search rules) (omega arith) (omega arith) in
    (omega (arith, c.write_digits-later.ensures.start), omega (arith, c.write_digits-later.ensures.start, length-set {A = ℕ}))

-- the digits of both numbers and the bytes after them are the end of the room
text_of : (text numbers : List ℕ) (later start between : ℕ) (first second behind : List ℕ) → 1 ≤ later → later ≤ length numbers
    → drop start text ≡ first ++ drop (later - 1) (slice_set numbers (later - 1) between) → drop later numbers ≡ second ++ behind
    → drop start text ≡ first ++ (between ∷ (second ++ behind))
text_of text numbers later start between first second behind some within written before =
    let same : later - 1 + 1 ≡ later = omega arith in
    written ∙ ap (λ (xs : List ℕ). first ++ xs)
    (drop-set numbers (later - 1) between (omega arith) ∙ ap (λ n. between ∷ drop n numbers) same ∙ ap (λ (xs : List ℕ). between ∷ xs) before)

pub returns : goal.returns
returns c =
    let long = length-decimal-le 20 c.args.second (search rules) (omega arith) (omega arith) in
    let whole : take (42 - c.write_digits-start.result) (drop c.write_digits-start.result c.write_digits-start.new.buf) ≡ drop c.write_digits-start.result c.write_digits-start.new.buf =
    take_all _ _ (omega (arith, length-drop {A = ℕ}, length-set {A = ℕ})) in
    c.in_ok-extend_from_slice.ensures.items ∙ ap (λ (xs : List ℕ). c.args.line.now.items ++ xs)
    (whole ∙ text_of c.write_digits-start.new.buf c.write_digits-later.new.buf c.write_digits-later.result c.write_digits-start.result c.args.between
    (decimal c.args.first) (decimal c.args.second) (c.args.behind ∷ [])
    (omega (arith, c.write_digits-later.ensures.start)) (omega (arith, c.write_digits-later.ensures.start)) c.write_digits-start.ensures.written c.write_digits-later.ensures.written)
