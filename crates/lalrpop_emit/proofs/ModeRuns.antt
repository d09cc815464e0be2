-- Runs of the mode on top, as the text is cut on.
use Rattle.std.proofs.Common.{◌≡◌, ℕ, ◌-◌, ◌*◌, ◌<◌, ◌≤◌, List, length, sym, subst, ◌∙◌, inr, arith, ⊎_elim}
use Rattle.std.specs.Prelude.{slice_get, Some}
use Rattle.lalrpop_dense.specs.DenseTable.{TableNumbers}
use Rattle.lalrpop_emit.specs.Ahead.{AheadNumbers}
use Rattle.lalrpop_emit.specs.NumberedRules.{NumberedRules}
use Rattle.lalrpop_emit.specs.declared.run.Run.{Run}
use Rattle.lalrpop_emit.specs.Internal.Running.{HasNoEnd, HasRoom, IsAt, IsAtPlace, IsBlock, IsNextEnd, IsRunOf, IsRunThrough, IsSameBlock, OfMode, Serves}
use Rattle.lalrpop_emit.proofs.RunBits.{is_some_left}
use Rattle.lalrpop_emit.proofs.RunTokens.{same_run, same_block, block_since}

-- what holds of these tables holds of the tables of the mode, which they are
pub of_mode : (n : NumberedRules) (mode : ℕ) (P : AheadNumbers → TableNumbers → Type 0) (a : AheadNumbers) (t : TableNumbers) → slice_get n.ahead mode ≡ Some a → slice_get n.tables mode ≡ Some t → P a t
    → OfMode n mode P
of_mode n mode P a t at_a at_t h b u at_b at_u =
    let same_a : a ≡ b = (let e : Some a ≡ Some b = sym at_a ∙ at_b in cc) in
    let same_t : t ≡ u = (let e : Some t ≡ Some u = sym at_t ∙ at_u in cc) in
    subst (λ (x : AheadNumbers). P x u) same_a (subst (λ (v : TableNumbers). P a v) same_t h)

-- only the bits have changed
pub room_same : (old new : Run) → IsSameBlock old new → new.word ≡ old.word → HasRoom old → HasRoom new
room_same old new same word h = record {
  columns = subst (λ v. length new.rows.items ≤ length v.items) (sym same.columns) (subst (λ v. length v.items ≤ length old.columns.items) (sym same.rows) h.columns);
  ends = subst (λ v. length new.rows.items ≤ length v.items * 64) (sym same.ends) (subst (λ v. length v.items ≤ length old.ends.items * 64) (sym same.rows) h.ends);
  length = subst (λ v. new.length ≤ length v.items) (sym same.rows) (omega (arith, same.length, h.length));
  word = omega (arith, word, same.length, h.word);
}

-- ---- a run, wherever the next token in it begins

pub record IsRunBefore (n : NumberedRules) (at : ℕ) (text : List ℕ) (run : Run) : Type 0 where
  pub room : HasRoom run
  pub behind : run.base ≤ at
  pub since : run.since ≤ at
  pub block : OfMode n run.mode (λ a t. IsBlock a t text run)

module _ (n : NumberedRules) (at : ℕ) (text : List ℕ) where
  pub before : (mode : ℕ) (run : Run) → IsRunOf n mode at text run → IsRunBefore n at text run
  before mode run h = record { room = h.room; behind = h.behind; since = h.since; block = h.block }

  -- a later mode came on top
  pub before_since : (run : Run) (since : ℕ) → at ≤ since → IsRunBefore n at text run → IsRunBefore n since text (record run { since = since })
  before_since run since later h = record {
    room = record { columns = h.room.columns; ends = h.room.ends; length = h.room.length; word = h.room.word };
    behind = omega (arith, later, h.behind);
    since = omega arith;
    block = λ a t at_a at_t. block_since a t text run since (h.block a t at_a at_t);
  }

  pub before_later : (run : Run) (at2 : ℕ) → at ≤ at2 → IsRunBefore n at text run → IsRunBefore n at2 text run
  before_later run at2 later h = record { room = h.room; behind = omega (arith, later, h.behind); since = omega (arith, later, h.since); block = h.block }

  pub before_same : (old new : Run) → IsSameBlock old new → HasRoom new → IsRunBefore n at text old → IsRunBefore n at text new
  before_same old new same room h = record {
    room = room;
    behind = omega (arith, same.base, h.behind);
    since = omega (arith, same.since, h.since);
    block = λ a t at_a at_t.
        same_block a t text old new same
        (h.block a t (subst (λ (m : ℕ). slice_get n.ahead m ≡ Some a) same.mode at_a) (subst (λ (m : ℕ). slice_get n.tables m ≡ Some t) same.mode at_t));
  }

  pub serving : (mode : ℕ) (run : Run) → IsRunBefore n at text run → OfMode n mode (λ a t. Serves a t text run at) → IsRunOf n mode at text run
  serving mode run h serves = record { room = h.room; behind = h.behind; since = h.since; block = h.block; serves = serves }

  -- the place was found again, or no end is left
  pub resumed : (mode : ℕ) (old new : Run) → IsSameBlock old new → HasRoom new → IsRunBefore n at text old
      → ((a : AheadNumbers) (t : TableNumbers) (text : List ℕ) → (mode ≡ old.mode → IsBlock a t text old) → Serves a t text new at)
      → IsRunOf n mode at text new
  resumed mode old new same room h serves =
      serving mode new (before_same old new same room h)
      (λ a t at_a at_t.
      serves a t text
      (λ is. h.block a t (subst (λ (m : ℕ). slice_get n.ahead m ≡ Some a) is at_a) (subst (λ (m : ℕ). slice_get n.tables m ≡ Some t) is at_t)))

  -- the next end was looked for
  pub looked : (mode : ℕ) (old new : Run) → IsSameBlock old new → HasRoom new → IsRunOf n mode at text old
      → (a : AheadNumbers) → slice_get n.ahead mode ≡ Some a → ((t : TableNumbers) → Serves a t text old at → Serves a t text new at)
      → IsRunOf n mode at text new
  looked mode old new same room h a at_a on =
      serving mode new (before_same old new same room (before mode old h))
      (λ b t at_b at_t.
      let is : a ≡ b = (let e : Some a ≡ Some b = sym at_a ∙ at_b in cc) in
      subst (λ (x : AheadNumbers). Serves x t text new at) is (on t (h.serves a t at_a at_t)))

  -- a new block
  pub begun : (a : AheadNumbers) (t : TableNumbers) (run : Run) → IsRunThrough a t text run → IsAtPlace a.ends run 0 → run.base ≡ at → Serves a t text run at
  begun a t run through place begins =
      let here : 0 ≡ at - run.base = omega (arith, begins) in
      inr (record { through = through; behind = omega (arith, begins); place = subst (λ (k : ℕ). IsAtPlace a.ends run k) here place })

  pub filled : (a : AheadNumbers) (t : TableNumbers) (mode : ℕ) (old run new : Run) → slice_get n.ahead mode ≡ Some a → slice_get n.tables mode ≡ Some t → IsRunOf n mode at text old
      → IsRunThrough a t text run → (run.base ≡ at) × (run.mode ≡ mode) × (run.since ≡ old.since) → IsSameBlock run new → HasRoom new → Serves a t text new at → IsRunOf n mode at text new
  filled a t mode old run new at_a at_t h through begins same room serves = record {
    room = room;
    behind = omega (arith, same.base, begins.0);
    since = omega (arith, same.since, begins.2, h.since);
    block =
        let is : mode ≡ new.mode = sym (same.mode ∙ begins.1) in
        subst (λ (m : ℕ). OfMode n m (λ b u. IsBlock b u text new)) is (of_mode n mode (λ b u. IsBlock b u text new) a t at_a at_t (inr (same_run a t text run new same through)));
    serves = of_mode n mode (λ b u. Serves b u text new at) a t at_a at_t serves;
  }

  -- the token that ends next was taken
  module _ (mode end : ℕ) (old new : Run) (same : IsSameBlock old new) (room : HasRoom new) (h : IsRunOf n mode at text old) (later : at < end)
      (a : AheadNumbers) (at_a : slice_get n.ahead mode ≡ Some a)
      (is_next : (t : TableNumbers) → slice_get n.tables mode ≡ Some t → IsAtPlace a.ends old (at - old.base) × IsNextEnd a.ends old (at - old.base) (end - old.base))
      (place : (least place end : ℕ) → IsAtPlace least old place → IsNextEnd least old place end → IsAtPlace least new end) where
    there : (t : TableNumbers) → slice_get n.tables mode ≡ Some t → IsAt a t text new end
    there t at_t =
        let next = is_next t at_t in
        let some : ¬ HasNoEnd old = λ none. omega (arith, none.bits, is_some_left a.ends old (at - old.base) next.0 (end - old.base) next.1) in
        record {
          through = ⊎_elim (λ none. absurd (some none)) (λ (i : IsAt a t text old at). same_run a t text old new same i.through) (h.serves a t at_a at_t);
          behind = omega (arith, same.base, h.behind, later);
          place = subst (λ (k : ℕ). IsAtPlace a.ends new (end - k)) (sym same.base) (place a.ends (at - old.base) (end - old.base) next.0 next.1);
        }

    serves_then : OfMode n mode (λ b t. Serves b t text new end)
    serves_then b t at_b at_t =
        let is : a ≡ b = (let e : Some a ≡ Some b = sym at_a ∙ at_b in cc) in
        subst (λ (x : AheadNumbers). Serves x t text new end) is (inr (there t at_t))

    pub taken : IsRunOf n mode end text new
    taken =
        let known = before_later new end (omega (arith, later)) (before_same old new same room (before mode old h)) in
        record { room = known.room; behind = known.behind; since = known.since; block = known.block; serves = serves_then }
