-- The tables of modes.
use Rattle.std.proofs.Common.{◌≡◌, ℕ, ◌+◌, ◌<◌, ◌≤◌, ⊎_elim, List, [], ◌∷◌, ◌++◌, length, map, get_or, sym, ap, subst, ◌∙◌, arith, length-append}
use Rattle.std.specs.Prelude.{slice_get, Some, IfOk, Result, Ok, Err}
use Rattle.std.proofs.Math.ListN.{get_or-append}
use Rattle.std.proofs.Math.Seq.{get_or-append_seam}
use Rattle.std.proofs.lemmas.Bool.{cases_lt}
use Rattle.std.proofs.lemmas.List.{length-map, map-append}
use Rattle.std.proofs.lemmas.Option.{get_or_from_slice_get, slice_get_within, slice_get-get_or}
use Rattle.lalrpop_dfa.specs.Dfa.{Row, after}
use Rattle.lalrpop_dfa.proofs.EdgeTargets.{the_some}
use Rattle.lalrpop_dense.specs.DenseTable.{TableNumbers, IsRowLike, IsTableFor, row_after}
use Rattle.lalrpop_rules.specs.Modes.{ModeRules}
use Rattle.lalrpop_emit.specs.Internal.Lists.{AreBelow, AreModeTables, IsModeTable, list_numbers}
use Rattle.lalrpop_emit.specs.Internal.Walking.{AreRulesBelow, IsWalkable}
use Rattle.lalrpop_emit.specs.declared.table_lists.TableLists.{TableLists}
use Rattle.lalrpop_emit.proofs.Walks.{kind_accepts}

-- the numbers that are right for an automaton can be walked along
pub walkable : (t : TableNumbers) (d : List Row) → IsTableFor t d → IsWalkable t
walkable t d h = record { classes = h.classes; within = h.within }

-- the rules that the rows accept are patterns of the automaton
pub rules_below : (t : TableNumbers) (d : List Row) (count : ℕ) → IsTableFor t d → AreBelow d count → AreRulesBelow t count
rules_below t d count h below w word live accept =
    let found = the_some (slice_get d (after d w)) (λ r. IsRowLike t (row_after t t.start w) r.kind) (h.alike w word) in
    below (after d w) (get_or t.cells (row_after t t.start w + t.width) 0) found.0 found.1.0 (kind_accepts t (row_after t t.start w) found.0.kind found.1.1 live accept)

-- ---- one table more

tables_more : (r : ModeRules) (ts : List TableNumbers) (t : TableNumbers) → AreModeTables r ts → IsModeTable r (length ts) t → AreModeTables r (ts ++ t ∷ [])
tables_more r ts t each this m x at =
    let within : m < length (ts ++ t ∷ []) = slice_get_within (ts ++ t ∷ []) m x at in
    let read : get_or (ts ++ t ∷ []) m x ≡ x = get_or_from_slice_get (ts ++ t ∷ []) m x x at in
    ⊎_elim (λ (h : m < length ts). each m x (slice_get-get_or ts m x h ∙ ap Some (sym (get_or-append ts (t ∷ []) x m h) ∙ read)))
    (λ (h : length ts ≤ m).
    let last : length ts ≡ m = omega (arith, length-append ts (t ∷ [])) in
    let same : t ≡ x = sym (get_or-append_seam ts t [] x) ∙ ap (λ (k : ℕ). get_or (ts ++ t ∷ []) k x) last ∙ read in
    subst (λ (k : ℕ). IsModeTable r k x) last (subst (IsModeTable r (length ts)) same this))
    (cases_lt m (length ts))

pub lists_more : (r : ModeRules) (ts more : List TableLists) (t : TableLists) (m : ℕ) → more ≡ ts ++ t ∷ [] → length ts ≡ m → AreModeTables r (map list_numbers ts)
    → IsModeTable r m (list_numbers t) → AreModeTables r (map list_numbers more)
lists_more r ts more t m grown size each this =
    let maps : map list_numbers more ≡ map list_numbers ts ++ list_numbers t ∷ [] = ap (map list_numbers) grown ∙ map-append list_numbers ts (t ∷ []) in
    let place : m ≡ length (map list_numbers ts) = sym size ∙ sym (length-map ts list_numbers) in
    subst (AreModeTables r) (sym maps) (tables_more r (map list_numbers ts) (list_numbers t) each (subst (λ (k : ℕ). IsModeTable r k (list_numbers t)) place this))

-- what follows from two facts of a result
pub both_ok : {T E : Type 0} {P Q S : T → Type 0} → (r : Result T E) → ((x : T) → P x → Q x → S x) → IfOk r P → IfOk r Q → IfOk r S
both_ok (Ok x) follows p q = follows x p q
both_ok (Err e) follows p q = tt
