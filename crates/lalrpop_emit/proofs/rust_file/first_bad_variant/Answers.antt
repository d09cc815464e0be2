use Rattle.std.proofs.Common.{◌≡◌, ◌∙◌, ◌+◌, ◌<◌, ◌≤◌, ℕ, List, [], ⊎_elim, get_or, length, map, string_bytes, arith, ap, sym, subst, Global}
use Rattle.std.specs.Prelude.{String, slice_get, Some}
use Rattle.std.specs.List.{All}
use Rattle.std.proofs.lemmas.Bool.{cases_lt}
use Rattle.std.proofs.lemmas.List.{length-map}
use Rattle.std.proofs.lemmas.Option.{get_or_from_slice_get, slice_get-get_or}
use Rattle.lalrpop_emit.specs.RustSource.{IsVariant}
use Rattle.lalrpop_emit.proofs.NameLists.{name_read}
use Rattle.lalrpop_emit.proofs.rust_file.first_bad_variant.Goals as goal

one_more : (names : List (String Global)) (k : ℕ) (x : String Global) → k < length names → x ≡ get_or names k x → IsVariant (string_bytes x)
    → ((j : ℕ) (n : List ℕ) → j < k → slice_get (map string_bytes names) j ≡ Some n → IsVariant n) → (j : ℕ) (n : List ℕ) → j < k + 1 → slice_get (map string_bytes names) j ≡ Some n → IsVariant n
one_more names k x below is good before j n l e =
    ⊎_elim (λ (h : j < k). before j n h e)
    (λ (h : k ≤ j).
    let here : j ≡ k = omega arith in
    let read : get_or (map string_bytes names) j [] ≡ n = get_or_from_slice_get (map string_bytes names) j n [] e in
    subst IsVariant (sym (name_read names k x below is) ∙ ap (λ (i : ℕ). get_or (map string_bytes names) i []) (sym here) ∙ read) good)
    (cases_lt j k)

all_of_them : (names : List (List ℕ)) (m : ℕ) → length names ≤ m → ((j : ℕ) (n : List ℕ) → j < m → slice_get names j ≡ Some n → IsVariant n) → All IsVariant names
all_of_them names m enough each k d l = each k (get_or names k d) (omega arith) (slice_get-get_or names k d l)

pub loop-kind-preserved : goal.loop-kind-preserved
loop-kind-preserved c =
    one_more c.args.names.now c.loop-kind.kind c.index-names-kind.result (omega arith) c.index-names-kind.is
    (subst IsVariant c.deref.ensures (c.is_variant.ensures.0 c.if-not-is_variant.false)) c.loop-kind.invariant

pub returns : goal.returns
returns c = all_of_them (map string_bytes c.args.names.now) c.loop-kind.kind (omega (arith, length-map c.args.names.now string_bytes)) c.loop-kind.invariant
