use Rattle.std.proofs.Common.{◌≡◌, List, [], ℕ, ◌<◌, Bor, map, length, get_or, true, sym, ◌∙◌, ap, arith}
use Rattle.std.specs.Str.{bytes_eq}
use Rattle.std.proofs.lemmas.List.{length-map, get_or-map}
use Rattle.std.proofs.lemmas.List.Folds.{list_any_at}
use Rattle.lexdfa_lib.specs.Command.{has}
use Rattle.lexdfa_lib.proofs.command.has.Goals as goal

abbrev text : Bor (List ℕ) → List ℕ
text r = r.now

-- the word stands at i
has-at : (xs : List (Bor (List ℕ))) (word : List ℕ) (i : ℕ) (d : Bor (List ℕ)) → i < length xs → true ≡ bytes_eq (get_or xs i d).now word → true ≡ has (map text xs) word
has-at xs word i d l t = sym (list_any_at (λ other. bytes_eq other word) (map text xs) i [] (omega (arith, length-map xs text, l)) (ap (λ other. bytes_eq other word) (get_or-map text xs i d [] l) ∙ sym t))

pub returns-then-eq : goal.returns-then-eq
returns-then-eq c = has-at c.args.words.now c.args.word.now c.loop-other.other-index (record { ref_ptr = (0, 0); now = [] }) c.loop-other-test.true (sym c.if-eq.true ∙ c.eq.ensures)
