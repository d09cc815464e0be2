-- What an edit costs, by lengths.
use Rattle.std.proofs.Common.{◌≡◌, ℕ, ◌+◌, ◌-◌, ◌*◌, ◌<◌, ◌≤◌, ◌⊎◌, inl, inr, List, [], length, arith, ap, subst, ◌∙◌, length-append}
use Rattle.std.specs.Str.{IsCharBoundary}
use Rattle.std.proofs.lemmas.Bool.{cases_order}
use Rattle.std.proofs.Math.Nat.{mul-le-mul_left}
use Rattle.lalrpop_rules.specs.Modes.{ModeRules, trees_in}
use Rattle.lalrpop_rules.specs.ModeCut.{open_in_all}
use Rattle.bajofeki.specs.Costs.{IsReadTo, IsPaidFor}
use Rattle.bajofeki.specs.Lexed.{Lexed, ReadsTo, replaced}
use Rattle.bajofeki.specs.declared.change.Change.{Change}

-- what is read is within the text
pub within_text : (l : Lexed) (c : Change) (before after : ℕ) → IsPaidFor l c before after
    → after ≤ before + 270 * length l.text + open_in_all l.rules * (2 * length l.text + 256)
within_text l c before after paid =
    let far = paid.0 in
    let within : far ≤ length l.text = paid.1.0.boundary.0 in
    let past : c.new_end ≤ far = paid.1.0.past in
    let less : 2 * (far - c.start) + 256 ≤ 2 * length l.text + 256 = omega (arith, within) in
    omega (arith, within, past, paid.1.1, mul-le-mul_left (open_in_all l.rules) less)

-- a text that is put into an empty one
pub whole_text : (l m : Lexed) (r : ModeRules) (empty text : List ℕ) (c : Change) (before after : ℕ) → l ≡ record { rules = r; text = empty } → empty ≡ []
    → m ≡ record l { text = replaced l.text 0 0 text } → IsPaidFor m c before after → after ≤ before + 270 * length text + open_in_all r * (2 * length text + 256)
whole_text l m r empty text c before after first none edited paid =
    let cost = within_text m c before after paid in
    let rules : m.rules ≡ r = ap (λ (x : Lexed). x.rules) edited ∙ ap (λ (x : Lexed). x.rules) first in
    let size : length m.text ≡ length text =
    omega (arith, ap (λ (x : Lexed). length x.text) edited, length-append text l.text, ap (λ (x : Lexed). length x.text) first, ap length none) in
    subst (λ (n : ℕ). after ≤ before + 270 * n + open_in_all r * (2 * n + 256)) size
    (subst (λ (q : ModeRules). after ≤ before + 270 * length m.text + open_in_all q * (2 * length m.text + 256)) rules cost)

-- where nothing from a place in it up to a place after it begins a word, no more is read
pub read_no_further : (r : ModeRules) (text : List ℕ) (from to far : ℕ)
    → ((mode k behind : ℕ) → from ≤ k → k ≤ to → to < behind → ¬ ReadsTo (trees_in r mode) text k behind) → IsReadTo r text from to far → far ≡ to
read_no_further r text from to far none is = by_place is.reads
  where
    by_order : (mode k : ℕ) → from ≤ k → k ≤ to → ReadsTo (trees_in r mode) text k far → (far ≡ to) ⊎ ((far < to) ⊎ (to < far)) → far ≡ to
    by_order mode k above below reads (inl same) = same
    by_order mode k above below reads (inr (inl less)) = absurd (omega (arith, less, is.past))
    by_order mode k above below reads (inr (inr more)) = absurd (none mode k far above below more reads)

    by_place : (far ≡ to) ⊎ ((mode k : ℕ) × ((from ≤ k) × (k ≤ to) × IsCharBoundary text k × ReadsTo (trees_in r mode) text k far)) → far ≡ to
    by_place (inl same) = same
    by_place (inr (mode, k, reads)) = by_order mode k reads.0 reads.1 reads.3 (cases_order far to)

pub within_stretch : (l : Lexed) (c : Change) (before after : ℕ)
    → ((mode k behind : ℕ) → c.start ≤ k → k ≤ c.new_end → c.new_end < behind → ¬ ReadsTo (trees_in l.rules mode) l.text k behind) → IsPaidFor l c before after
    → after ≤ before + 270 * (c.new_end - c.start) + open_in_all l.rules * (2 * (c.new_end - c.start) + 256)
within_stretch l c before after none paid =
    let same : paid.0 ≡ c.new_end = read_no_further l.rules l.text c.start c.new_end paid.0 none paid.1.0 in
    let cost : after ≤ before + (269 * (c.new_end - c.start) + (c.new_end - c.start) + open_in_all l.rules * (2 * (c.new_end - c.start) + 256)) =
    subst (λ (far : ℕ). after ≤ before + (269 * (c.new_end - c.start) + (far - c.start) + open_in_all l.rules * (2 * (far - c.start) + 256))) same paid.1.1 in
    omega (arith, cost)
