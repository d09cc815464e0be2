use Rattle.std.proofs.Common.{◌≡◌, List, [], ℕ, ◌<◌, map, length, get_or, true, string_bytes, sym, ◌∙◌, ap, arith}
use Rattle.std.specs.Str.{bytes_eq}
use Rattle.std.proofs.lemmas.List.{length-map, get_or-map}
use Rattle.std.proofs.lemmas.List.Folds.{list_any_at}
use Rattle.lexdfa_lib.specs.Command.{has}
use Rattle.reviews_lib.proofs.pictured.has_name.Goals as goal

-- the word stands at i
has-at : {A : Type 0} (v : A → List ℕ) (xs : List A) (word : List ℕ) (i : ℕ) (x : A) → i < length xs → x ≡ get_or xs i x → true ≡ bytes_eq (v x) word → true ≡ has (map v xs) word
has-at v xs word i x l is t =
    sym (list_any_at (λ other. bytes_eq other word) (map v xs) i [] (omega (arith, length-map xs v, l)) (ap (λ other. bytes_eq other word) (get_or-map v xs i x [] l ∙ ap v (sym is)) ∙ sym t))

pub returns-then-eq : goal.returns-then-eq
returns-then-eq c =
    has-at string_bytes c.args.names.now c.args.name.now c.loop-own.own-index c.own-item.result c.loop-own-test.true c.own-item.is (rw c.as_str.ensures.value at (sym c.if-eq.true ∙ c.eq.ensures))
