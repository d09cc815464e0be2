-- The longest match is unique.
use Rattle.std.proofs.Common.{◌≡◌, ℕ, ◌≤◌, List, length, take, Option, Some, None, refl, sym, ap, subst, ◌∙◌, arith}
use Rattle.std.proofs.Math.Seq.{take-append_seam}
use Rattle.std.specs.Str.{chars}
use Rattle.lalrpop_hir.specs.Tree.{Tree}
use Rattle.lalrpop_hir.specs.Winners.{IsHighestStrongest}
use Rattle.lalrpop_hir.specs.Longest.{IsLongest}
use Rattle.lalrpop_hir.specs.Prefix.{IsPrefix}

-- two prefixes of the same length are equal
prefix-unique : (p q text : List ℕ) → IsPrefix p text → IsPrefix q text → length p ≡ length q → p ≡ q
prefix-unique p q text h g e =
    sym (take-append_seam p h.0) ∙ ap (take (length p)) (sym h.1.0) ∙ ap (λ n. take n text) e ∙ ap (take (length q)) g.1.0 ∙ take-append_seam q g.0

pub longest-unique : (ts : List Tree) (ps text : List ℕ) (a b : Option (ℕ × List ℕ)) → IsLongest ts ps text a → IsLongest ts ps text b → a ≡ b
longest-unique ts ps text None None h g = refl
longest-unique ts ps text None (Some n) h g = absurd (h n.1 g.0)
longest-unique ts ps text (Some m) None h g = absurd (g m.1 h.0)
longest-unique ts ps text (Some m) (Some n) h g =
    let low : length m.1 ≤ length n.1 = g.1 m.1 h.0 in
    let high : length n.1 ≤ length m.1 = h.1 n.1 g.0 in
    let same : m.1 ≡ n.1 = prefix-unique m.1 n.1 text h.0.0 g.0.0 (omega arith) in
    let there = subst (λ p. IsHighestStrongest ts ps (chars p) m.0) same h.2 in
    let back = subst (λ p. IsHighestStrongest ts ps (chars p) n.0) (sym same) g.2 in
    let first : m.0 ≡ n.0 = omega (arith, g.2.1 m.0 there.0, h.2.1 n.0 back.0) in
    ap Some (ap (λ i. let x : ℕ × List ℕ = (i, m.1) in x) first ∙ ap (λ p. let x : ℕ × List ℕ = (n.0, p) in x) same)
