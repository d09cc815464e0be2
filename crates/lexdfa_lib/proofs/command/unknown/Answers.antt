use Rattle.std.proofs.Common.{◌≡◌, List, [], ℕ, ◌+◌, ◌<◌, Bor, Bool, true, false, not, cond, map, length, drop, get_or, sym, ◌∙◌, ap}
use Rattle.std.specs.Prelude.{Option, Some, find}
use Rattle.std.proofs.lemmas.List.{at_drop_more, at_drop_all}
use Rattle.lexdfa_lib.specs.Command.{is_known}
use Rattle.lexdfa_lib.proofs.command.unknown.Goals as goal

abbrev text : Bor (List ℕ) → List ℕ
text r = r.now

abbrev is_unknown : List ℕ → Bool
is_unknown option = not (is_known option)

abbrev first : List (Bor (List ℕ)) → Option (List ℕ)
first xs = find is_unknown (map text xs)

-- what is found from the i-th one on, where it is unknown, and where it is known
found : (xs : List (Bor (List ℕ))) (i : ℕ) (d : Bor (List ℕ)) → i < length xs → is_known (get_or xs i d).now ≡ false → first (drop i xs) ≡ first xs → Some (get_or xs i d).now ≡ first xs
found xs i d l t before = sym (ap (λ b. cond (not b) (Some (get_or xs i d).now) (first (drop (i + 1) xs))) t) ∙ sym (at_drop_more first xs i d l) ∙ before

passed : (xs : List (Bor (List ℕ))) (i : ℕ) (d : Bor (List ℕ)) → i < length xs → is_known (get_or xs i d).now ≡ true → first (drop i xs) ≡ first xs → first (drop (i + 1) xs) ≡ first xs
passed xs i d l t before = sym (ap (λ b. cond (not b) (Some (get_or xs i d).now) (first (drop (i + 1) xs))) t) ∙ sym (at_drop_more first xs i d l) ∙ before

pub returns-then-not-is_known : goal.returns-then-not-is_known
returns-then-not-is_known c =
    found c.args.options.now c.loop-option.option-index (record { ref_ptr = (0, 0); now = [] }) c.loop-option-test.true (sym c.is_known.ensures ∙ c.if-not-is_known.true) c.loop-option.invariant

pub loop-option-preserved : goal.loop-option-preserved
loop-option-preserved c =
    passed c.args.options.now c.loop-option.option-index (record { ref_ptr = (0, 0); now = [] }) c.loop-option-test.true (sym c.is_known.ensures ∙ c.if-not-is_known.false) c.loop-option.invariant

pub returns : goal.returns
returns c = sym (at_drop_all first c.args.options.now c.loop-option.option-index c.loop-option-test.false) ∙ c.loop-option.invariant
