-- A code as `format!` writes it, and parts with a space between.
use Rattle.std.proofs.Common.{◌≡◌, ℕ, ◌-◌, ◌^◌, List, [], ◌∷◌, ◌++◌, length, false, replicate, map, sym, ap, ◌∙◌, append_assoc}
use Rattle.std.specs.Prelude.{flat_map}
use Rattle.std.specs.List.{join_with_byte}
use Rattle.std.specs.Fmt.{padded_integral, format_spec, char_count}
use Rattle.std.proofs.Math.Nat.{sub-zero}
use Rattle.std.proofs.lemmas.List.{append-nil}

-- what `{:04X}` writes of a number with these digits
pub padded_four : (ds : List ℕ) → padded_integral (format_spec 32 0 4 4 (2 ^ 64 - 1)) false [] ds ≡ replicate (4 - length ds) 48 ++ ds
unfolding padded_integral char_count
padded_four ds = simp (sub-zero, append-nil)

-- each part has a space in front of it but the first
pub joined_behind : (x : List ℕ) (xs : List (List ℕ)) → join_with_byte 32 (x ∷ xs) ≡ x ++ flat_map (λ (y : List ℕ). 32 ∷ y) xs
joined_behind x [] = sym (append-nil x)
joined_behind x (y ∷ ys) = ap (λ (w : List ℕ). x ++ (32 ∷ w)) (joined_behind y ys)

-- the parts, from the first on
pub joined_split : {X : Type 0} (v : X → List ℕ) (xs rest : List X) (first : X) (old mid new : List ℕ) → xs ≡ first ∷ rest → mid ≡ old ++ v first
    → new ≡ mid ++ flat_map (λ (part : List ℕ). 32 ∷ part) (map v rest) → new ≡ old ++ join_with_byte 32 (map v xs)
joined_split {X = X} v xs rest first old mid new parts grown more =
    let behind = flat_map (λ (part : List ℕ). 32 ∷ part) (map v rest) in
    more ∙ ap (λ (t : List ℕ). t ++ behind) grown ∙ append_assoc old (v first) behind
    ∙ ap (λ (t : List ℕ). old ++ t) (sym (ap (λ (ys : List X). join_with_byte 32 (map v ys)) parts ∙ joined_behind (v first) (map v rest)))
