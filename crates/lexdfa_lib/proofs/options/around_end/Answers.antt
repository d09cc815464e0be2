use Rattle.std.proofs.Common.{◌≡◌, ℕ, ◌+◌, ◌-◌, List, map, length, take, drop, sym, ap, ◌∙◌, arith, length-drop}
use Rattle.std.specs.Prelude.{string_bytes}
use Rattle.std.proofs.lemmas.List.{take-map, drop-map, take_all}
use Rattle.lexdfa_lib.proofs.options.around_end.Goals as goal

front : {X Y : Type 0} (f : X → Y) (xs : List X) (i j : ℕ) → i ≡ j → map f (take i xs) ≡ take j (map f xs)
front f xs i j e = sym (take-map f i xs) ∙ ap (λ n. take n (map f xs)) e

rest : {X Y : Type 0} (f : X → Y) (xs : List X) (i j : ℕ) → i ≡ j → map f (take (length xs - (i + 1)) (drop (i + 1) xs)) ≡ drop (j + 1) (map f xs)
rest f xs i j e =
    ap (map f) (take_all (length xs - (i + 1)) (drop (i + 1) xs) (omega (arith, length-drop (i + 1) xs))) ∙ sym (drop-map f (i + 1) xs) ∙ ap (λ n. drop (n + 1) (map f xs)) e

pub returns-then-end-words-clause-before : goal.returns-then-end-words-clause-before
returns-then-end-words-clause-before c = front string_bytes c.args.words.now _ _ c.end_of-end.ensures

pub returns-then-end-words-clause-behind : goal.returns-then-end-words-clause-behind
returns-then-end-words-clause-behind c = rest string_bytes c.args.words.now _ _ c.end_of-end.ensures
