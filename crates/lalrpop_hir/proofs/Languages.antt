-- What small trees match.
use Rattle.std.proofs.Common.{◌≡◌, ℕ, zero, suc, ◌≤◌, ◌↔◌, List, [], ◌∷◌, ◌++◌, Bool, Option, Some, refl, sym, ap, subst, ◌∙◌, arith}
use Rattle.std.specs.Str.{chars}
use Rattle.std.proofs.lemmas.Str.{chars-nil}
use Rattle.std.proofs.lemmas.List.{append-nil}
use Rattle.lalrpop_hir.specs.Tree.{Tree, repetition, concat, alternation, none, also}
use Rattle.lalrpop_hir.specs.Parts.{of_text}
use Rattle.lalrpop_hir.specs.Language.{Words, Then, Power, Matches}

-- a concatenation without parts matches only the empty word
pub Matches-concat-none : (w : List ℕ) → Matches (concat none) w ↔ (w ≡ [])
Matches-concat-none w = (λ h. h, λ h. h)

-- an alternation without parts matches nothing
pub Matches-alternation-none : (w : List ℕ) → ¬ Matches (alternation none) w
Matches-alternation-none w h = h

-- a word of the set, and then nothing
then-nothing : (L : Words) (w : List ℕ) → Then L (λ v. v ≡ []) w ↔ L w
then-nothing L w = (λ h. subst L (sym (h.2.0 ∙ ap (λ v. h.0 ++ v) h.2.2 ∙ append-nil h.0)) h.2.1, λ h. (w, [], (sym (append-nil w), h, refl)))

-- a concatenation of one part matches what the part does
pub Matches-concat-one : (t : Tree) (w : List ℕ) → Matches (concat (also t none)) w ↔ Matches t w
Matches-concat-one t w = then-nothing (Matches t) w

power-at-most-zero : (k : ℕ) (L : Words) (w : List ℕ) → k ≤ 0 → Power k L w → w ≡ []
power-at-most-zero zero L w h p = p
power-at-most-zero (suc k) L w h p = absurd (omega arith)

-- no repetitions: only the empty word
pub Matches-no-turns : (greedy : Bool) (t : Tree) (w : List ℕ) → Matches (repetition 0 (Some 0) greedy t) w ↔ (w ≡ [])
Matches-no-turns greedy t w = (λ h. power-at-most-zero h.0 (Matches t) w h.1.0.1 h.1.1, λ h. (0, ((omega arith, omega arith), h)))

power-one : (k : ℕ) (L : Words) (w : List ℕ) → 1 ≤ k → k ≤ 1 → Power k L w → L w
power-one zero L w h g p = absurd (omega arith)
power-one (suc zero) L w h g p = (then-nothing L w).0 p
power-one (suc (suc k)) L w h g p = absurd (omega arith)

-- one repetition: what the part matches
pub Matches-one-turn : (greedy : Bool) (t : Tree) (w : List ℕ) → Matches (repetition 1 (Some 1) greedy t) w ↔ Matches t w
Matches-one-turn greedy t w = (λ h. power-one h.0 (Matches t) w h.1.0.0 h.1.0.1 h.1.1, λ h. (1, ((omega arith, omega arith), (then-nothing (Matches t) w).1 h)))

-- greed makes no difference
pub Matches-greed : (min : ℕ) (max : Option ℕ) (g h : Bool) (t : Tree) (w : List ℕ) → Matches (repetition min max g t) w → Matches (repetition min max h t) w
Matches-greed min max g h t w m = m

-- the tree of a text matches only the text's word
pub Matches-of_text : (bs w : List ℕ) → Matches (of_text bs) w ↔ (w ≡ chars bs)
Matches-of_text [] w = (λ h. h ∙ sym chars-nil, λ h. h ∙ chars-nil)
Matches-of_text (b ∷ bs) w = (λ h. h, λ h. h)
