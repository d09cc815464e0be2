use Rattle.std.proofs.Common.{◌≡◌, ℕ, ◌+◌, ◌-◌, ◌<◌, ◌≤◌, List, [], ◌∷◌, ◌++◌, length, suc, get_or, take, drop, replicate, refl, sym, ap, subst, ◌∙◌, arith, append_assoc, length-append}
use Rattle.std.proofs.lemmas.List.{take_at, get_or_append_left}
use Rattle.std.proofs.lemmas.Simd.{get_or-replicate, length-replicate}
use Rattle.std.proofs.Math.Seq.{drop-cons}
use Rattle.bajofeki_rules.specs.Internal.ByteRuns.{IsPlain}
use Rattle.bajofeki_rules.specs.Quoted.{quoted}
use Rattle.bajofeki_rules.proofs.ByteRuns.{EachPlain, quoted_as_is}
use Rattle.bajofeki_rules.proofs.quote.push_short.Goals as goal

-- a slice between two quotes, in a buffer that is full of quotes
between_quotes : (s copy behind : List ℕ) (run : ℕ) → copy ≡ s → (quote : (rest : List ℕ) × (behind ≡ 34 ∷ rest)) → length s ≤ run
    → ((k : ℕ) → 1 ≤ k → k < 1 + run → IsPlain (get_or (34 ∷ (copy ++ behind)) k 0)) → take (length s + 2) (34 ∷ (copy ++ behind)) ≡ quoted s
between_quotes s copy behind run same quote long plain =
    let each : EachPlain s = (λ k within. subst IsPlain (ap (λ (xs : List ℕ). get_or (xs ++ behind) k 0) same ∙ get_or_append_left s behind 0 k within) (plain (suc k) (omega arith) (omega (arith, within)))) in
    let split : 34 ∷ (copy ++ behind) ≡ (34 ∷ (s ++ 34 ∷ [])) ++ quote.0 =
    ap (λ (xs : List ℕ). 34 ∷ (xs ++ behind)) same ∙ ap (λ (xs : List ℕ). 34 ∷ (s ++ xs)) quote.1 ∙ ap (λ (xs : List ℕ). 34 ∷ xs) (sym (append_assoc s (34 ∷ []) quote.0)) in
    ap (take (length s + 2)) split ∙ take_at (34 ∷ (s ++ 34 ∷ [])) quote.0 (length s + 2) (omega (arith, length-append s (34 ∷ []))) ∙ sym (quoted_as_is s each)

-- the buffer after its first quote
abbrev quotes : List ℕ
quotes = replicate 33 34

-- it is full of quotes after the slice too
quote_behind : (n m : ℕ) (full : List ℕ) → full ≡ replicate 34 34 → m ≡ n → n ≤ 32 → (rest : List ℕ) × (drop m (drop 1 full) ≡ 34 ∷ rest)
quote_behind n m full are same short =
    let some : n < length quotes = omega (arith, length-replicate {A = ℕ} 33 34) in (
      drop (suc n) quotes,
      ap (λ (xs : List ℕ). drop m (drop 1 xs)) are ∙ ap (λ i. drop i quotes) same
          ∙ drop-cons quotes n 0 some ∙ ap (λ x. x ∷ drop (suc n) quotes) (get_or-replicate 33 n 34 0 (omega arith)),
    )

pub returns-clause-quoted : goal.returns-clause-quoted
returns-clause-quoted c =
    let quote = quote_behind (length c.args.slice.now) (length c.args.slice.now + 1 - 1) _ refl (omega arith) c.if-len-gt-LANES.false in
    λ _. c.in_ok-extend_from_slice.ensures.items ∙ ap (λ (xs : List ℕ). c.args.bytes.now.items ++ xs)
    (between_quotes c.args.slice.now c.copy_from_slice.new.self _ c.plain_run.result (c.copy_from_slice.ensures.after ∙ c.as_bytes.ensures.value) quote c.if-plain_run-len.false c.plain_run.ensures.plain)
