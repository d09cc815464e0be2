-- What it costs a lexer to cut a text.
use Rattle.std.proofs.Common.{◌≡◌, ℕ, ◌+◌, ◌*◌, ◌≤◌, List, [], ◌∷◌, length, arith, refl, sym, ap, subst}
use Rattle.std.specs.Prelude.{Option, Some, None, Ok, Err}
use Rattle.std.specs.Iterator.{Yields}
use Rattle.std.specs.Str.{chars}
use Rattle.lalrpop_hir.specs.Tokens.{Item}
use Rattle.lalrpop_dfa.specs.Dfa.{Row}
use Rattle.lalrpop_dfa.specs.Lookahead.{ReadsAtMost}
use Rattle.lalrpop_dense.specs.Matching.{open_states}
use Rattle.lalrpop_dense.specs.Cutting.{Cutting, start_of, steps_with, IsPaid, IsPaidBy, GivesItem, most_steps}

-- each item is paid for
item_paid : (s t : Cutting) (x : Item) → GivesItem s (Some x) t → IsPaid s t
item_paid s t (Ok m) g = g.5
item_paid s t (Err fault) g = g.5

-- ---- the cost without a memo
same_automaton : (s t : Cutting) (x : Item) → GivesItem s (Some x) t → t.automaton ≡ s.automaton
same_automaton s t (Ok m) g = ap (λ (x : Cutting). x.automaton) g.4
same_automaton s t (Err fault) g = ap (λ (x : Cutting). x.automaton) g.4

pays_without : (a b : Option ℕ) (s t : Cutting) → IsPaidBy a b s t → a ≡ None
    → (b ≡ None) × ((n : ℕ) → ReadsAtMost s.automaton n → steps_with (n + 2) t ≤ steps_with (n + 2) s)
pays_without None None s t paid e = (refl, paid)
pays_without None (Some b) s t paid e = absurd paid
pays_without (Some a) b s t paid e = absurd (cc)

paid_without : (s t : Cutting) (xs : List Item) (n : ℕ) → Yields GivesItem s xs t → s.spare ≡ None → ReadsAtMost s.automaton n
    → steps_with (n + 2) t ≤ steps_with (n + 2) s
paid_without s t [] n y none most = subst (λ (x : Cutting). steps_with (n + 2) x ≤ steps_with (n + 2) s) y (omega arith)
paid_without s t (x ∷ xs) n (j, g, y) none most =
    let here = pays_without s.spare j.spare s j (item_paid s j x g).1 none in
    let still : ReadsAtMost j.automaton n = subst (λ (d : List Row). ReadsAtMost d n) (sym (same_automaton s j x g)) most in
    omega (arith, here.1 n most, paid_without j t xs n y here.0 still)

pub cost_without : (s : Cutting) (d : List Row) (text : List ℕ) → s ≡ start_of d text None → (xs : List Item) (t : Cutting)
    → Yields GivesItem s xs t → (n : ℕ) → ReadsAtMost d n → t.steps ≤ (n + 2) * length (chars text)
cost_without s d text e =
    subst (λ (s : Cutting). (xs : List Item) (t : Cutting) → Yields GivesItem s xs t → (n : ℕ) → ReadsAtMost d n → t.steps ≤ (n + 2) * length (chars text)) (sym e)
    (λ xs t y n most. omega (arith, paid_without (start_of d text None) t xs n y refl most))

-- ---- the cost with one
pays_with : (a b : Option ℕ) (s t : Cutting) (k : ℕ) → IsPaidBy a b s t → a ≡ Some k → (l : ℕ) × ((b ≡ Some l) × (steps_with 65 t + l ≤ steps_with 65 s + k))
pays_with (Some a) (Some b) s t k paid e = (b, (refl, subst (λ (n : ℕ). steps_with 65 t + b ≤ steps_with 65 s + n) (cc) paid))
pays_with (Some a) None s t k paid e = absurd paid
pays_with None b s t k paid e = absurd (cc)

paid_with : (s t : Cutting) (xs : List Item) (k : ℕ) → Yields GivesItem s xs t → s.spare ≡ Some k → t.steps ≤ steps_with 65 s + k
paid_with s t [] k y some = let same : s.steps ≡ t.steps = ap (λ (x : Cutting). x.steps) y in omega arith
paid_with s t (x ∷ xs) k (j, g, y) some =
    let here = pays_with s.spare j.spare s j k (item_paid s j x g).1 some in
    omega (arith, here.1.1, paid_with j t xs here.0 y here.1.0)

pub cost_with : (s : Cutting) (d : List Row) (text : List ℕ) (k : ℕ) → s ≡ start_of d text (Some k)
    → k ≤ length (chars text) + length text + open_states d * (length text + 64) → (xs : List Item) (t : Cutting) → Yields GivesItem s xs t
    → t.steps ≤ most_steps d text None
cost_with s d text k e few xs t y =
    let all : steps_with 65 s ≡ 0 + 65 * length (chars text) = ap (λ (x : Cutting). steps_with 65 x) e in
    omega (arith, all, few, paid_with s t xs k y (ap (λ (x : Cutting). x.spare) e))
