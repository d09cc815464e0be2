-- The numbers of a table run the automaton that the table is of.
use Rattle.std.proofs.Common.{◌≡◌, ℕ, ◌<◌, ◌+◌, List, [], ◌∷◌, length, get_or, refl, sym, ap, subst, ◌∙◌, arith, inl, inr}
use Rattle.std.specs.Prelude.{slice_get, IsSomeAnd}
use Rattle.std.specs.List.{All}
use Rattle.std.proofs.lemmas.List.{get_or_read}
use Rattle.std.proofs.lemmas.List.Elements.{All-head, All-tail}
use Rattle.std.proofs.lemmas.Option.{slice_get_cases}
use Rattle.lalrpop_dfa.specs.Dfa.{Row, step, run, after, IsWellFormed}
use Rattle.lalrpop_dfa.proofs.AfterLaws.{run_within}
use Rattle.lalrpop_dfa.proofs.EdgeTargets.{step_within}
use Rattle.lalrpop_dfa.specs.declared.Kind.{Kind}
use Rattle.lalrpop_dfa.specs.declared.Kind.TheVariants.{Accepts, Reject, Neither}
use Rattle.lalrpop_dense.specs.DenseTable.{AreAlikeInClasses, TableNumbers, IsRowLike, IsTableFor, row_after}
use Rattle.lalrpop_dense.specs.Internal.Table.{IsTableOf, IsRowOfKind, row_of}
use Rattle.lalrpop_dense.specs.declared.table.Layout.{Layout}

-- the numbers of the layout and the cells
abbrev pub numbers_of_layout : Layout → List ℕ → TableNumbers
numbers_of_layout t cells = record {
  blocks = t.blocks.items;
  pages = t.pages.items;
  start = row_of t 0;
  width = t.width;
  live = t.live;
  accept = t.accept;
  cells = cells;
}

-- a word leads from the row of a state to the row of the state that it leads to
rows_follow : (t : Layout) (cells : List ℕ) (d : List Row) (p : ℕ) (w : List ℕ) → IsTableOf t cells d → IsWellFormed d → p < length d → All (λ c. c < 1114112) w
    → row_after (numbers_of_layout t cells) (row_of t p) w ≡ row_of t (run d p w)
rows_follow t cells d p [] h wf l all = refl
rows_follow t cells d p (c ∷ w) h wf l all =
    ap (λ (row : ℕ). row_after (numbers_of_layout t cells) row w) (h.leads p l c (All-head (λ n. n < 1114112) c w all))
    ∙ rows_follow t cells d (step d p c) w h wf (step_within d p c wf l) (All-tail (λ n. n < 1114112) c w all)

like_of_kind : (t : Layout) (cells : List ℕ) (row : ℕ) (k : Kind) → IsRowOfKind t cells row k → IsRowLike (numbers_of_layout t cells) row k
like_of_kind t cells row (Accepts i) h = h
like_of_kind t cells row Reject h = h
like_of_kind t cells row Neither h = h

state_like : (t : Layout) (cells : List ℕ) (d : List Row) (p row : ℕ) → IsTableOf t cells d → p < length d → row ≡ row_of t p
    → IsSomeAnd (slice_get d p) (λ r. IsRowLike (numbers_of_layout t cells) row r.kind)
state_like t cells d p row h l e =
    elim (slice_get_cases d p).1 [
      | inl x ↦
          subst (λ o. IsSomeAnd o (λ (r : Row). IsRowLike (numbers_of_layout t cells) row r.kind)) (sym x.2)
          (subst (λ (n : ℕ). IsRowLike (numbers_of_layout t cells) n x.0.kind) (sym e) (like_of_kind t cells (row_of t p) x.0.kind (h.kinds p x.0 x.2)))
      | inr past ↦ absurd (omega (arith, past.0))
    ]

pub table_runs : (t : Layout) (cells : List ℕ) (d : List Row) → IsTableOf t cells d → IsWellFormed d → IsTableFor (numbers_of_layout t cells) d
table_runs t cells d h wf = record {
  classes = record { some_page = h.classes.pages; ascii = h.classes.ascii; whole_blocks = h.classes.blocks; below = h.classes.below };
  within = λ w all. omega (arith, rows_follow t cells d 0 w h wf wf.some all, run_within d 0 w wf wf.some, h.rows, h.within (after d w));
  alike = λ w all. state_like t cells d (after d w) (row_after (numbers_of_layout t cells) (row_of t 0) w) h (run_within d 0 w wf wf.some) (rows_follow t cells d 0 w h wf wf.some all);
  one_row = λ u w us ws same. rows_follow t cells d 0 u h wf wf.some us ∙ ap (row_of t) same ∙ sym (rows_follow t cells d 0 w h wf wf.some ws);
}

-- the same where each part is known by an equation
pub table_of_parts : (t : Layout) (cells : List ℕ) (d : List Row) (blocks pages same : List ℕ) (start : ℕ) → IsTableOf t cells d → IsWellFormed d
    → blocks ≡ t.blocks.items → pages ≡ t.pages.items → start ≡ get_or t.rows.items 0 start → same ≡ cells
    → IsTableFor (record { blocks = blocks; pages = pages; start = start; width = t.width; live = t.live; accept = t.accept; cells = same }) d
table_of_parts t cells d blocks pages same start h wf b p s e =
    let first : start ≡ row_of t 0 = get_or_read t.rows.items 0 start (omega (arith, h.rows, wf.some)) s 0 in
    subst (λ (x : List ℕ). IsTableFor (record { blocks = x; pages = pages; start = start; width = t.width; live = t.live; accept = t.accept; cells = same }) d) (sym b)
    (subst (λ (x : List ℕ). IsTableFor (record { blocks = t.blocks.items; pages = x; start = start; width = t.width; live = t.live; accept = t.accept; cells = same }) d) (sym p)
    (subst (λ (x : ℕ). IsTableFor (record { blocks = t.blocks.items; pages = t.pages.items; start = x; width = t.width; live = t.live; accept = t.accept; cells = same }) d) (sym first)
    (subst (λ (x : List ℕ). IsTableFor (record { blocks = t.blocks.items; pages = t.pages.items; start = row_of t 0; width = t.width; live = t.live; accept = t.accept; cells = x }) d) (sym e)
    (table_runs t cells d h wf))))

-- characters of one class lead from each state to the state whose row is in the cell
alike : (t : Layout) (cells : List ℕ) (d : List Row) → IsTableOf t cells d → IsWellFormed d → AreAlikeInClasses (numbers_of_layout t cells) d
alike t cells d h wf c e state character other same l =
    h.own (step d state c) (step d state e) (omega (arith, step_within d state c wf l, h.rows)) (omega (arith, step_within d state e wf l, h.rows))
    (sym (h.leads state l c character) ∙ ap (λ (class : ℕ). get_or cells (row_of t state + class) 0) same ∙ h.leads state l e other)

-- the same where the blocks and pages are known by an equation: the rest doesn't matter
pub alike_of_parts : (t : Layout) (cells : List ℕ) (d : List Row) (blocks pages others : List ℕ) (start : ℕ) → IsTableOf t cells d → IsWellFormed d
    → blocks ≡ t.blocks.items → pages ≡ t.pages.items
    → AreAlikeInClasses (record { blocks = blocks; pages = pages; start = start; width = t.width; live = t.live; accept = t.accept; cells = others }) d
alike_of_parts t cells d blocks pages others start h wf b p =
    subst (λ (x : List ℕ). AreAlikeInClasses (record { blocks = x; pages = pages; start = start; width = t.width; live = t.live; accept = t.accept; cells = others }) d) (sym b)
    (subst (λ (x : List ℕ). AreAlikeInClasses (record { blocks = t.blocks.items; pages = x; start = start; width = t.width; live = t.live; accept = t.accept; cells = others }) d) (sym p)
    (alike t cells d h wf))
