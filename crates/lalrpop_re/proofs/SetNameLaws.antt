-- The sets that names stand for.
use Rattle.std.proofs.Common.{◌≡◌, ℕ, true, false, ◌&&◌, List, Some, None, refl, sym, ap, ◌∙◌, arith, codes, bytes_eq}
use Rattle.std.specs.Char.{is_ascii}
use Rattle.std.proofs.lemmas.Bool.Decides.{nat_tests}
use Rattle.unicode.specs.Loose.{normalize}
use Rattle.unicode.specs.Lookup.{by_name}
use Rattle.unicode.specs.Sets.{in_set}
use Rattle.unicode.specs.Rows.{in_ranges, HasExactly}
use Rattle.lalrpop_hir.specs.Range.{Range}
use Rattle.lalrpop_hir.specs.Runs.{IsScalar}
use Rattle.lalrpop_re.specs.CharacterSet.{Set, is_scalar, range, HasRuns}
use Rattle.lalrpop_re.specs.NamedSet.{named}
use Rattle.lalrpop_re.proofs.CanonLaws.{IsScalar-is_scalar}
use Rattle.lalrpop_re.proofs.SpanLaws.{HasRuns-same, HasRuns-exactly}

range-all : (c : ℕ) → IsScalar c → range 0 0x10_FFFF c ≡ is_scalar c
range-all c u = let e = IsScalar-is_scalar c u in grind (arith, nat_tests, e)

range-ascii : (c : ℕ) → IsScalar c → range 0 0x7F c ≡ is_ascii c
range-ascii c u = let e = IsScalar-is_scalar c u in grind (arith, nat_tests, e)

-- the name stands for a set with these runs
abbrev pub NamesRuns : List ℕ → List Range → Type 0
NamesRuns name rs = (s : Set) × (named name ≡ Some s) × HasRuns rs s

pub named-any : (name bytes : List ℕ) (rs : List Range) → bytes ≡ normalize name → bytes_eq bytes (codes "any") ≡ true → HasRuns rs (range 0 0x10_FFFF) → NamesRuns name rs
unfolding named
named-any name bytes rs e h k =
    let t : bytes_eq (normalize name) (codes "any") ≡ true = ap (λ l. bytes_eq l (codes "any")) (sym e) ∙ h in
    (is_scalar, rw t refl, HasRuns-same rs (range 0 0x10_FFFF) is_scalar range-all k)

pub named-ascii : (name bytes : List ℕ) (rs : List Range) → bytes ≡ normalize name → bytes_eq bytes (codes "any") ≡ false → bytes_eq bytes (codes "ascii") ≡ true → HasRuns rs (range 0 0x7F) → NamesRuns name rs
unfolding named
named-ascii name bytes rs e h g k =
    let t : bytes_eq (normalize name) (codes "any") ≡ false = ap (λ l. bytes_eq l (codes "any")) (sym e) ∙ h in
    let u : bytes_eq (normalize name) (codes "ascii") ≡ true = ap (λ l. bytes_eq l (codes "ascii")) (sym e) ∙ g in
    (is_ascii, rw (t, u) refl, HasRuns-same rs (range 0 0x7F) is_ascii range-ascii k)

pub named-found : (name bytes : List ℕ) (rs : List Range) (found : _) (ps : List (ℕ × ℕ)) → bytes ≡ normalize name → bytes_eq bytes (codes "any") ≡ false → bytes_eq bytes (codes "ascii") ≡ false → by_name bytes ≡ Some found → HasExactly ps (in_set found) → HasRuns rs (in_ranges ps) → NamesRuns name rs
unfolding named
named-found name bytes rs found ps e h g f exact k =
    let t : bytes_eq (normalize name) (codes "any") ≡ false = ap (λ l. bytes_eq l (codes "any")) (sym e) ∙ h in
    let u : bytes_eq (normalize name) (codes "ascii") ≡ false = ap (λ l. bytes_eq l (codes "ascii")) (sym e) ∙ g in
    let v : by_name (normalize name) ≡ Some found = ap by_name (sym e) ∙ f in
    let set : Set = λ c. is_scalar c && in_set found c in
    (set, rw (t, u, v) refl, HasRuns-same rs (in_set found) set (λ c s. let n = IsScalar-is_scalar c s in rw n refl) (HasRuns-exactly rs ps (in_set found) exact k))

pub named-unknown : (name bytes : List ℕ) → bytes ≡ normalize name → bytes_eq bytes (codes "any") ≡ false → bytes_eq bytes (codes "ascii") ≡ false → by_name bytes ≡ None → named name ≡ None
unfolding named
named-unknown name bytes e h g f =
    let t : bytes_eq (normalize name) (codes "any") ≡ false = ap (λ l. bytes_eq l (codes "any")) (sym e) ∙ h in
    let u : bytes_eq (normalize name) (codes "ascii") ≡ false = ap (λ l. bytes_eq l (codes "ascii")) (sym e) ∙ g in
    let v : by_name (normalize name) ≡ None = ap by_name (sym e) ∙ f in rw (t, u, v) refl
