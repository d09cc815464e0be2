-- The memo of all modes: what is noted in one part of it, while the others stay as they are.
use Rattle.std.proofs.Common.{◌≡◌, ℕ, ◌+◌, ◌-◌, ◌*◌, ◌/◌, ◌%◌, ◌^◌, ◌<◌, ◌≤◌, ◌⊎◌, inl, inr, List, ◌++◌, length, map, take, drop, replicate, get_or, sym, ap, subst, ◌∙◌, arith, min}
use Rattle.std.specs.Prelude.{slice_get, Some}
use Rattle.std.specs.Int.{bit_at}
use Rattle.std.proofs.lemmas.Bool.{cases_lt, cases_eq}
use Rattle.std.proofs.lemmas.List.{get_or-take, get_or-drop, get_or_append_left, get_or-append_right, get_or_past, get_or-replicate, length-take, length-take-le, length-map, length-replicate, take-take, take_all, take_more, drop_at, take_at}
use Rattle.std.proofs.lemmas.List.Elements.{All-take}
use Rattle.std.proofs.lemmas.List.Sums.{sum_by-le, sum_by_more_le, sum_by_push}
use Rattle.std.proofs.lemmas.Nat.Bits.{bit_at-zero}
use Rattle.std.proofs.lemmas.Option.{get_or_from_slice_get, slice_get_within}
use Rattle.std.proofs.Math.Nat.{mul-le-mul_right}
use Rattle.lalrpop_dense.specs.DenseTable.{TableNumbers}
use Rattle.lalrpop_emit.specs.Ahead.{AheadNumbers}
use Rattle.lalrpop_emit.specs.NumberedRules.{AreCounted, IsStorable, IsStorableAhead, NumberedRules, row_words, waiting_rows}
use Rattle.lalrpop_emit.specs.Internal.Memo.{IsMemoFor, IsMemoOf, memo_part, memo_word}
use Rattle.lalrpop_emit.specs.Internal.Lists.{ahead_numbers, list_numbers}
use Rattle.lalrpop_emit.specs.Internal.Walking.{CanRunAhead, IsDrivable, IsWalkable}
use Rattle.lalrpop_emit.specs.declared.ahead_table.AheadLists.{AheadLists}
use Rattle.lalrpop_emit.specs.declared.table_lists.TableLists.{TableLists}
use Rattle.lalrpop_emit.proofs.Driving.{ahead_read, mode_read, walkable_there}
use borrow.Rule.Slice.PartMut.{put_mid, post_of, same_len_mid, mid_len, Post-is}

-- ---- lists

-- a place outside the part that was written
outside : (from to : ℕ) (memo part : List ℕ) (k : ℕ) → from ≤ to → to ≤ length memo → length part ≡ to - from → (k < from) ⊎ (to ≤ k)
    → get_or (put_mid from (to - from) memo part) k 0 ≡ get_or memo k 0
outside from to memo part k ordered within size (inl before) =
    let first = length-take-le from memo (omega (arith, ordered, within)) in
    get_or_append_left (take from memo) (part ++ post_of from (to - from) memo) 0 k (omega (arith, first, before)) ∙ get_or-take from memo k 0 before
outside from to memo part k ordered within size (inr behind) =
    let first = length-take-le from memo (omega (arith, ordered, within)) in
    get_or-append_right (take from memo) (part ++ post_of from (to - from) memo) from k 0 first (omega (arith, ordered, behind))
    ∙ get_or-append_right part (post_of from (to - from) memo) (to - from) (k - from) 0 size (omega (arith, ordered, behind))
    ∙ ap (λ (xs : List ℕ). get_or xs (k - from - (to - from)) 0) (Post-is from to memo ordered)
    ∙ get_or-drop to memo (k - from - (to - from)) 0
    ∙ ap (λ (n : ℕ). get_or memo n 0) (omega (arith, ordered, behind))

-- what stands in a part of a list
in_part : (size from : ℕ) (memo : List ℕ) (k : ℕ) → k < size → get_or (take size (drop from memo)) k 0 ≡ get_or memo (from + k) 0
in_part size from memo k small = get_or-take size (drop from memo) k 0 small ∙ get_or-drop from memo k 0

past_part : (size from : ℕ) (memo : List ℕ) (k : ℕ) → size ≤ k → get_or (take size (drop from memo)) k 0 ≡ 0
past_part size from memo k past = get_or_past (take size (drop from memo)) k 0 (omega (arith, past, length-take size (drop from memo)))

-- the part that was written
written_part : (from to : ℕ) (memo part : List ℕ) → from ≤ to → to ≤ length memo → length part ≡ to - from → take (to - from) (drop from (put_mid from (to - from) memo part)) ≡ part
written_part from to memo part ordered within size =
    ap (take (to - from)) (drop_at (take from memo) (part ++ post_of from (to - from) memo) from (length-take-le from memo (omega (arith, ordered, within))))
    ∙ take_at part (post_of from (to - from) memo) (to - from) size

-- the part of this size from a place on, cut off where the list ends
part_same : (from to first size : ℕ) (memo : List ℕ) → from ≡ min first (length memo) → to ≡ min (first + size) (length memo)
    → (k : ℕ) → get_or (take (to - from) (drop from memo)) k 0 ≡ get_or (take size (drop first memo)) k 0
part_same from to first size memo from_is to_is k = elim (cases_lt k (to - from)) [
  | inl small ↦
      in_part (to - from) from memo k small ∙ ap (λ (n : ℕ). get_or memo (n + k) 0) (omega (arith, from_is, to_is, small))
      ∙ sym (in_part size first memo k (omega (arith, from_is, to_is, small)))
  | inr past ↦
      past_part (to - from) from memo k past
      ∙ sym (elim (cases_lt k size) [
        | inl small ↦ in_part size first memo k small ∙ get_or_past {X = ℕ} memo (first + k) 0 (omega (arith, from_is, to_is, past, small))
        | inr all ↦ past_part size first memo k all
      ])
]

-- another part stays as it is
other_part : (from to first size first2 size2 : ℕ) (memo part : List ℕ) (i : ℕ) → from ≡ min first (length memo) → to ≡ min (first + size) (length memo) → length part ≡ to - from
    → (first2 + size2 ≤ first) ⊎ (first + size ≤ first2)
    → get_or (take size2 (drop first2 (put_mid from (to - from) memo part))) i 0 ≡ get_or (take size2 (drop first2 memo)) i 0
other_part from to first size first2 size2 memo part i from_is to_is full apart = elim (cases_lt i size2) [
  | inl small ↦
      let place : (first2 + i < from) ⊎ (to ≤ first2 + i) = elim apart [
        | inl before ↦ elim (cases_lt (first2 + i) (length memo)) [ inl within ↦ inl (omega (arith, from_is, before, small, within)) | inr behind ↦ inr (omega (arith, to_is, behind)) ]
        | inr behind ↦ inr (omega (arith, to_is, behind))
      ] in
      in_part size2 first2 (put_mid from (to - from) memo part) i small
      ∙ outside from to memo part (first2 + i) (omega (arith, from_is, to_is)) (omega (arith, to_is)) full place
      ∙ sym (in_part size2 first2 memo i small)
  | inr past ↦ past_part size2 first2 (put_mid from (to - from) memo part) i past ∙ sym (past_part size2 first2 memo i past)
]

-- ---- how many rows wait

module _ (aheads : List AheadNumbers) (counted : AreCounted aheads) where
  counted_apart : (k m : ℕ) (b a : AheadNumbers) → slice_get aheads k ≡ Some b → slice_get aheads m ≡ Some a → k < m → b.before + b.waiting ≤ a.before
  counted_apart k m b a at_b at_a less =
      let within = slice_get_within aheads k b at_b in
      let least : waiting_rows (take k (take m aheads)) + (get_or (take m aheads) k b).waiting ≤ waiting_rows (take m aheads) =
      sum_by_more_le (λ (x : AheadNumbers). x.waiting) (take m aheads) k b (omega (arith, less, within, length-take m aheads)) in
      let first : waiting_rows (take k (take m aheads)) ≡ b.before = ap waiting_rows (take-take k m aheads (omega (arith, less))) ∙ sym (counted k b at_b) in
      let here : (get_or (take m aheads) k b).waiting ≡ b.waiting = ap (λ (x : AheadNumbers). x.waiting) (get_or-take m aheads k b less ∙ get_or_from_slice_get aheads k b b at_b) in
      omega (arith, least, first, here, counted m a at_a)

  counted_all : (m : ℕ) (a : AheadNumbers) → slice_get aheads m ≡ Some a → length aheads ≤ m + 1 → waiting_rows aheads ≡ a.before + a.waiting
  counted_all m a at_a last =
      let all : waiting_rows aheads ≡ waiting_rows (take m aheads) + (get_or aheads m a).waiting =
      ap waiting_rows (sym (take_all (m + 1) aheads last) ∙ take_more aheads m a (slice_get_within aheads m a at_a)) ∙ sum_by_push (λ (x : AheadNumbers). x.waiting) (take m aheads) (get_or aheads m a) in
      let here : (get_or aheads m a).waiting ≡ a.waiting = ap (λ (x : AheadNumbers). x.waiting) (get_or_from_slice_get aheads m a a at_a) in
      omega (arith, all, here, counted m a at_a)

-- so few that their number fits 64 bits
counted_small : (n : NumberedRules) (m : ℕ) (a : AheadNumbers) → IsStorable n → IsDrivable n → slice_get n.ahead m ≡ Some a → a.before + a.waiting < 2 ^ 64
counted_small n m a storable drivable at_a =
    let within = slice_get_within n.ahead m a at_a in
    let here : IsStorableAhead a = subst IsStorableAhead (get_or_from_slice_get n.ahead m a a at_a) (storable.ahead m a within) in
    let sum : waiting_rows (take m n.ahead) ≤ length (take m n.ahead) * 2 ^ 32 =
    sum_by-le (λ (x : AheadNumbers). x.waiting) (2 ^ 32) (take m n.ahead) (λ k d l. let each = All-take IsStorableAhead m n.ahead storable.ahead k d l in omega (arith, each.waiting)) in
    omega (arith, here.waiting, sum, within, length-take m n.ahead, storable.modes, drivable.as_many, drivable.counted m a at_a)

sum_times : (b w r : ℕ) → (b + w) * r ≡ b * r + w * r
sum_times b w r = omega arith

-- the parts of two modes lie apart
parts_apart : (n : NumberedRules) (k m size : ℕ) (b a : AheadNumbers) → AreCounted n.ahead → slice_get n.ahead k ≡ Some b → slice_get n.ahead m ≡ Some a → k < m
    → b.before * size + b.waiting * size ≤ a.before * size
parts_apart n k m size b a counted at_b at_a less =
    let all : (b.before + b.waiting) * size ≤ a.before * size = mul-le-mul_right size (counted_apart n.ahead counted k m b a at_b at_a less) in
    omega (arith, all)

-- ---- memos

-- only what can be read matters
memo_same : (a : AheadNumbers) (t : TableNumbers) (text memo memo2 : List ℕ) → ((k : ℕ) → get_or memo2 k 0 ≡ get_or memo k 0) → IsMemoFor a t text memo → IsMemoFor a t text memo2
memo_same a t text memo memo2 same right row at is some p noted =
    right row at is some p (ap (λ (n : ℕ). bit_at n (at / 64 % 64)) (sym (same (memo_word a (length text) row at))) ∙ noted)

-- where nothing is noted
memo_nothing : (a : AheadNumbers) (t : TableNumbers) (text memo : List ℕ) → ((k : ℕ) → get_or memo k 0 ≡ 0) → IsMemoFor a t text memo
memo_nothing a t text memo none row at is some p noted =
    absurd (omega (arith, sym noted ∙ ap (λ (n : ℕ). bit_at n (at / 64 % 64)) (none (memo_word a (length text) row at)) ∙ bit_at-zero (at / 64 % 64)))

zero_there : (n k : ℕ) → ◌≡◌ {A = ℕ} (get_or (replicate n 0) k 0) 0
zero_there n k = elim (cases_lt k n) [
  | inl less ↦ get_or-replicate {A = ℕ} n k 0 0 less
  | inr past ↦ get_or_past {X = ℕ} (replicate n 0) k 0 (omega (arith, past, length-replicate {A = ℕ} n 0))
]

pub memo_begins : (n : NumberedRules) (text memo : List ℕ) (words : ℕ) → memo ≡ replicate words 0 → IsMemoOf n text memo
memo_begins n text memo words is mode a t at_a at_t =
    let first = a.before * row_words (length text) in
    let size = a.waiting * row_words (length text) in
    memo_nothing a t text (memo_part a (length text) memo) (λ k. elim (cases_lt k size) [
      | inl small ↦ in_part size first memo k small ∙ ap (λ (xs : List ℕ). get_or xs (first + k) 0) is ∙ zero_there words (first + k)
      | inr past ↦ past_part size first memo k past
    ])

-- where the part of a table lies
pub record IsPartOf (a : AheadNumbers) (size : ℕ) (memo : List ℕ) (from to : ℕ) : Type 0 where
  pub begins : from ≡ min (a.before * row_words size) (length memo)
  pub ends : to ≡ min ((a.before + a.waiting) * row_words size) (length memo)

-- the tables of a mode
pub record AreTablesOf (n : NumberedRules) (mode : ℕ) (a : AheadNumbers) (t : TableNumbers) : Type 0 where
  pub ahead : slice_get n.ahead mode ≡ Some a
  pub table : slice_get n.tables mode ≡ Some t
  pub can : CanRunAhead a t
  pub walkable : IsWalkable t
  pub counted : AreCounted n.ahead
  pub small : a.before + a.waiting < 2 ^ 64

pub tables_read : (seen n : NumberedRules) (tables : List TableLists) (aheads : List AheadLists) (mode : ℕ) (t : TableLists) (a : AheadLists) → seen ≡ n → IsStorable seen × IsDrivable seen
    → map list_numbers tables ≡ seen.tables → map ahead_numbers aheads ≡ seen.ahead → mode < length n.tables → t ≡ get_or tables mode t → a ≡ get_or aheads mode a
    → AreTablesOf n mode (ahead_numbers a) (list_numbers t)
tables_read seen n tables aheads mode t a same known tables_are aheads_are within t_is a_is =
    let read = mode_read seen n tables mode t same known.1 tables_are within t_is in
    let ahead = ahead_read seen n aheads mode a same aheads_are (omega (arith, within, read.drivable.as_many)) a_is in
    record {
      ahead = ahead;
      table = read.there;
      can = read.drivable.ahead mode (ahead_numbers a) (list_numbers t) ahead read.there;
      walkable = walkable_there n mode (list_numbers t) read;
      counted = read.drivable.counted;
      small = counted_small n mode (ahead_numbers a) (subst IsStorable same known.0) read.drivable ahead;
    }

pub same_table : (n : NumberedRules) (mode : ℕ) (t u : TableNumbers) → slice_get n.tables mode ≡ Some t → slice_get n.tables mode ≡ Some u → t ≡ u
same_table n mode t u at_t at_u = let e : Some t ≡ Some u = sym at_t ∙ at_u in cc

pub memo_of_part : (n : NumberedRules) (mode : ℕ) (text memo : List ℕ) (from to : ℕ) (a : AheadNumbers) (t : TableNumbers) → IsPartOf a (length text) memo from to
    → slice_get n.ahead mode ≡ Some a → slice_get n.tables mode ≡ Some t → IsMemoOf n text memo → IsMemoFor a t text (take (to - from) (drop from memo))
memo_of_part n mode text memo from to a t part at_a at_t right =
    let each = row_words (length text) in
    memo_same a t text (memo_part a (length text) memo) (take (to - from) (drop from memo))
    (part_same from to (a.before * each) (a.waiting * each) memo part.begins (part.ends ∙ ap (λ (k : ℕ). min k (length memo)) (sum_times a.before a.waiting each)))
    (right mode a t at_a at_t)

pub memo_by_part : (n : NumberedRules) (mode : ℕ) (text memo part : List ℕ) (from to : ℕ) (a : AheadNumbers) (t : TableNumbers) → AreCounted n.ahead → IsPartOf a (length text) memo from to
    → slice_get n.ahead mode ≡ Some a → slice_get n.tables mode ≡ Some t → IsMemoOf n text memo → length part ≡ length (take (to - from) (drop from memo)) → IsMemoFor a t text part
    → IsMemoOf n text (put_mid from (to - from) memo part)
memo_by_part n mode text memo part from to a t counted there at_a at_t right same new k a2 t2 at_a2 at_t2 =
    let memo2 = put_mid from (to - from) memo part in
    let each = row_words (length text) in
    let ends : to ≡ min (a.before * each + a.waiting * each) (length memo) = there.ends ∙ ap (λ (k : ℕ). min k (length memo)) (sum_times a.before a.waiting each) in
    let within : to ≤ length memo = omega (arith, ends) in
    let ordered : from ≤ to = omega (arith, there.begins, ends) in
    let full : length part ≡ to - from = same ∙ mid_len from to memo within in
    elim (cases_eq k mode) [
      | inl is ↦
          let same_a : a ≡ a2 = (let e : Some a ≡ Some a2 = sym at_a ∙ ap (slice_get n.ahead) (sym is) ∙ at_a2 in cc) in
          let same_t : t ≡ t2 = (let e : Some t ≡ Some t2 = sym at_t ∙ ap (slice_get n.tables) (sym is) ∙ at_t2 in cc) in
          let all : length memo ≡ length memo2 = sym (same_len_mid from (to - from) memo part same) in
          let read : (i : ℕ) → get_or (memo_part a (length text) memo2) i 0 ≡ get_or part i 0 =
          λ i. sym (part_same from to (a.before * each) (a.waiting * each) memo2 (there.begins ∙ ap (min (a.before * each)) all) (ends ∙ ap (min (a.before * each + a.waiting * each)) all) i)
          ∙ ap (λ (xs : List ℕ). get_or xs i 0) (written_part from to memo part ordered within full) in
          let now : IsMemoFor a t text (memo_part a (length text) memo2) = memo_same a t text part (memo_part a (length text) memo2) read new in
          subst (λ (u : TableNumbers). IsMemoFor a2 u text (memo_part a2 (length text) memo2)) same_t
          (subst (λ (b : AheadNumbers). IsMemoFor b t text (memo_part b (length text) memo2)) same_a now)
      | inr other ↦
          let apart : (a2.before * each + a2.waiting * each ≤ a.before * each) ⊎ (a.before * each + a.waiting * each ≤ a2.before * each) = elim (cases_lt k mode) [
            | inl less ↦ inl (parts_apart n k mode each a2 a counted at_a2 at_a less)
            | inr more ↦ inr (parts_apart n mode k each a a2 counted at_a at_a2 (omega (arith, more, other)))
          ] in
          memo_same a2 t2 text (memo_part a2 (length text) memo) (memo_part a2 (length text) memo2)
          (λ i. other_part from to (a.before * each) (a.waiting * each) (a2.before * each) (a2.waiting * each) memo part i there.begins ends full apart)
          (right k a2 t2 at_a2 at_t2)
    ]

-- ---- the last table

module _ (seen n : NumberedRules) (lists : List AheadLists) (count : ℕ) (last : AheadLists) (same : seen ≡ n) (known : IsStorable seen × IsDrivable seen) (are : map ahead_numbers lists ≡ seen.ahead)
    (all : count ≡ length lists) where
  pub some_last : 0 < count
  some_last = omega (arith, all, length-map lists ahead_numbers, ap length are, known.1.as_many, known.1.some)

  module _ (is : last ≡ get_or lists (count - 1) last) where
    last_read : slice_get n.ahead (count - 1) ≡ Some (ahead_numbers last)
    last_read = ahead_read seen n lists (count - 1) last same are (omega (arith, some_last, all, length-map lists ahead_numbers, ap length are, ap (λ (m : NumberedRules). length m.ahead) same)) is

    pub last_small : last.before + last.waiting < 2 ^ 64
    last_small = counted_small n (count - 1) (ahead_numbers last) (subst IsStorable same known.0) (subst IsDrivable same known.1) last_read

    pub waiting_of_all : waiting_rows n.ahead ≡ last.before + last.waiting
    waiting_of_all =
        let drivable = subst IsDrivable same known.1 in
        counted_all n.ahead drivable.counted (count - 1) (ahead_numbers last) last_read
        (omega (arith, all, length-map lists ahead_numbers, ap length are, ap (λ (m : NumberedRules). length m.ahead) same))
