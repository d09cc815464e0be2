-- Pages of one class.
use Rattle.std.proofs.Common.{◌≡◌, ℕ, ◌+◌, ◌-◌, ◌*◌, ◌/◌, ◌%◌, ◌<◌, ◌≤◌, ⊎_elim, get_or, arith, sym, ap, ◌∙◌}
use Rattle.std.proofs.lemmas.Bool.{cases_lt}
use Rattle.lalrpop_dense.specs.Internal.Table.{class_of, page_of}
use Rattle.lalrpop_dense.specs.Internal.Runs.{IsPageAgain}
use Rattle.lalrpop_dense.specs.declared.table.Layout.{Layout}

-- a page with the block of the page before it: each character has the class of the one 128 before it
again : (t : Layout) (value c : ℕ) → IsPageAgain t value → value ≤ c → c < value + 128 → class_of t c ≡ class_of t (c - 128)
again t value c p from below =
    let page : c / 128 ≡ value / 128 = omega (arith, p.begins) in
    let before : (c - 128) / 128 ≡ value / 128 - 1 = omega (arith, p.begins, p.later) in
    let place : c % 128 ≡ (c - 128) % 128 = omega (arith, p.begins, p.later) in
    ap (λ (k : ℕ). get_or t.blocks.items (page_of t k * 128 + c % 128) 0) page
    ∙ ap (λ (k : ℕ). get_or t.blocks.items (k * 128 + c % 128) 0) p.again
    ∙ ap (λ (k : ℕ). get_or t.blocks.items (page_of t k * 128 + c % 128) 0) (sym before)
    ∙ ap (λ (k : ℕ). get_or t.blocks.items (page_of t ((c - 128) / 128) * 128 + k) 0) place

-- if all characters from `start` on are of one class, and the page before is among them, those of the page are of it too
pub same_on_next_page : (t : Layout) (class start value : ℕ) → IsPageAgain t value → start + 128 ≤ value
    → ((c : ℕ) → start ≤ c → c < value → class_of t c ≡ class) → (c : ℕ) → start ≤ c → c < value + 128 → class_of t c ≡ class
same_on_next_page t class start value p room alike c from below =
    ⊎_elim (λ (l : c < value). alike c from l)
    (λ (h : value ≤ c). again t value c p h below ∙ alike (c - 128) (omega arith) (omega (arith, p.later)))
    (cases_lt c value)
