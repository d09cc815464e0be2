-- The run of a table along a text: what holds after each character.
use Rattle.std.proofs.Common.{◌≡◌, ℕ, ◌+◌, ◌*◌, ◌/◌, ◌%◌, ◌≢◌, ◌<◌, ◌≤◌, inl, inr, List, [], length, take, drop, get_or, refl, sym, ap, subst, ◌∙◌, arith, ◌-◌, min}
use Rattle.std.specs.Prelude.{slice_get, Option, Some, None, IfSome}
use Rattle.std.specs.Str.{chars, IsUtf8, IsCharBoundary}
use Rattle.std.proofs.lemmas.List.{get_or_read}
use Rattle.std.proofs.lemmas.Option.{slice_get_cases}
use Rattle.std.proofs.lemmas.Str.{chars-nil, len_utf8_bounds, length-encode, IsCharBoundary-from_take}
use Rattle.lalrpop_hir.specs.Tree.{Tree}
use Rattle.lalrpop_hir.proofs.Cuts.{IsCut, cut_start, cut_within, cut_more, count_more, count_within, word_after}
use Rattle.lalrpop_dfa.specs.Dfa.{Row, step, after, Recognizes, IsRightKind, IsWellFormed}
use Rattle.lalrpop_hir.specs.Longest.{IsLongest}
use Rattle.lalrpop_dense.specs.Leading.{IsDeadEnd, IsStopped}
use Rattle.lalrpop_dfa.specs.declared.Kind.{Kind}
use Rattle.lalrpop_dfa.specs.declared.Kind.TheVariants.{Accepts, Reject, Neither}
use Rattle.lalrpop_dfa.proofs.AfterLaws.{after_push}
use Rattle.lalrpop_dfa.proofs.EdgeTargets.{step_within}
use Rattle.lalrpop_hir.proofs.TextWords.{text_word}
use Rattle.lalrpop_dfa.proofs.LongestLemmas.{IsLongestUpTo, says_of, reject_at, longest_accept, longest_pass, longest_end, longest_stop, none_after, part_accept}
use Rattle.lalrpop_dfa.proofs.Trails.{HasTrail, trail_accept, trail_pass}
use Rattle.lalrpop_dense.specs.Internal.Table.{HasClasses, IsTableOf, IsRowOfKind, class_of, row_of, page_of}
use Rattle.lalrpop_dense.specs.Internal.Reading.{ReadsChar, IsPlace, PaysPast, found}
use Rattle.lalrpop_dense.specs.declared.table.Layout.{Layout}

-- the state after the first `at` bytes has this row
pub record IsWalked (t : Layout) (d : List Row) (text : List ℕ) (at state : ℕ) : Type 0 where
  pub cut : IsCut text at (drop at text)
  pub within : after d (chars (take at text)) < length d
  pub row : state ≡ row_of t (after d (chars (take at text)))

-- ---- classes and kinds

pub class_below : (t : Layout) (c : ℕ) → HasClasses t → class_of t c < t.width
class_below t c h =
    let place = min (c / 128) (length t.pages.items - 1) in
    let page : place < length t.pages.items = omega (arith, h.pages) in
    h.below (page_of t (c / 128) * 128 + c % 128) (omega (arith, h.blocks place page))

kind_reject : (t : Layout) (cells : List ℕ) (row : ℕ) (k : Kind) → IsRowOfKind t cells row k → row < t.live → k ≡ Reject
kind_reject t cells row (Accepts i) h l = absurd (omega (arith, h.0))
kind_reject t cells row Reject h l = refl
kind_reject t cells row Neither h l = absurd (omega (arith, h.0))

kind_neither : (t : Layout) (cells : List ℕ) (row : ℕ) (k : Kind) → IsRowOfKind t cells row k → t.live ≤ row → row < t.accept → k ≡ Neither
kind_neither t cells row (Accepts i) h l m = absurd (omega (arith, h.1))
kind_neither t cells row Reject h l m = absurd (omega (arith, h))
kind_neither t cells row Neither h l m = refl

kind_accepts : (t : Layout) (cells : List ℕ) (row : ℕ) (k : Kind) → IsRowOfKind t cells row k → t.live ≤ row → t.accept ≤ row → k ≡ Accepts (get_or cells (row + t.width) 0)
kind_accepts t cells row (Accepts i) h l m = ap (λ n. Accepts n) (sym h.2)
kind_accepts t cells row Reject h l m = absurd (omega (arith, h))
kind_accepts t cells row Neither h l m = absurd (omega (arith, h.1))

-- ---- one character more

pub walked_start : (t : Layout) (d : List Row) (text : List ℕ) (state : ℕ) → IsUtf8 text → 0 < length d → length t.rows.items ≡ length d → state ≡ get_or t.rows.items 0 state
    → IsWalked t d text 0 state
walked_start t d text state u some rows e =
    let start : after d (chars (take 0 text)) ≡ 0 = ap (after d) chars-nil in
    record {
      cut = cut_start text u;
      within = omega (arith, start);
      row = get_or_read t.rows.items 0 state (omega arith) e 0 ∙ ap (row_of t) (sym start);
    }

-- the cell of a character is in the table
pub in_row : (t : Layout) (cells : List ℕ) (d : List Row) (text : List ℕ) (at at2 state class c : ℕ) → IsTableOf t cells d
    → IsWalked t d text at state → ReadsChar text at at2 c → class ≡ class_of t c → state + class < length cells
in_row t cells d text at at2 state class c h w r k =
    omega (arith, w.row, k, class_below t c h.classes, h.within (after d (chars (take at text))) (omega (arith, w.within, h.rows)))

pub walked_more : (t : Layout) (cells : List ℕ) (d : List Row) (text : List ℕ) (at at2 state state2 class c : ℕ) → IsTableOf t cells d → IsWellFormed d → IsUtf8 text
    → IsWalked t d text at state → ReadsChar text at at2 c → class ≡ class_of t c → state2 ≡ get_or cells (state + class) 0
    → IsWalked t d text at2 state2
walked_more t cells d text at at2 state state2 class c h wf u w r k e =
    let p = after d (chars (take at text)) in
    let there : after d (chars (take at2 text)) ≡ step d p c =
    ap (after d) (word_after text (drop at text) (drop at2 text) at at2 c w.cut r.split r.place) ∙ after_push d (chars (take at text)) c in
    record {
      cut = cut_more text (drop at text) (drop at2 text) at at2 c u w.cut r.split r.place;
      within = omega (arith, there, step_within d p c wf w.within);
      row = e ∙ ap (λ (x : ℕ). get_or cells (x + class) 0) w.row
          ∙ ap (λ (x : ℕ). get_or cells (row_of t p + x) 0) k ∙ h.leads p w.within c r.scalar ∙ ap (row_of t) (sym there);
    }

pub walked_on : (text : List ℕ) (at at2 c : ℕ) → ReadsChar text at at2 c → at < at2
walked_on text at at2 c r = omega (arith, r.place, length-encode c, len_utf8_bounds c)

pub walked_boundary : (t : Layout) (d : List Row) (text : List ℕ) (at state : ℕ) → IsUtf8 text → IsWalked t d text at state → IsCharBoundary text at
walked_boundary t d text at state u w = IsCharBoundary-from_take text at u (omega (arith, cut_within text (drop at text) at w.cut)) w.cut.seen_utf8

-- ---- the state's row, and what it says

row_at : (t : Layout) (cells : List ℕ) (d : List Row) (text : List ℕ) (at state : ℕ) → IsTableOf t cells d → IsWalked t d text at state
    → (r : Row) × ((slice_get d (after d (chars (take at text))) ≡ Some r) × IsRowOfKind t cells state r.kind)
row_at t cells d text at state h w =
    let p = after d (chars (take at text)) in
    elim (slice_get_cases d p).1 [
      | inl x ↦ (x.0, (x.2, subst (λ (n : ℕ). IsRowOfKind t cells n x.0.kind) (sym w.row) (h.kinds p x.0 x.2)))
      | inr past ↦ absurd (omega (arith, past.0, w.within))
    ]

says : (t : Layout) (d : List Row) (text : List ℕ) (at state : ℕ) (k : Kind) (ts : List Tree) (ps : List ℕ) (r : Row) → IsUtf8 (take at text) → slice_get d (after d (chars (take at text))) ≡ Some r
    → r.kind ≡ k → Recognizes d ts ps → IsRightKind ts ps (chars (take at text)) k
says t d text at state k ts ps r utf8 e is s = says_of d ts ps (chars (take at text)) (after d (chars (take at text))) r r.kind k (text_word (take at text) utf8) s refl e refl is

pub walk_accepts : (t : Layout) (cells : List ℕ) (d : List Row) (text : List ℕ) (at state : ℕ) → IsTableOf t cells d → IsWalked t d text at state → 0 < at → t.live ≤ state → t.accept ≤ state
    → (ts : List Tree) (ps : List ℕ) → Recognizes d ts ps → IsLongestUpTo ts ps text at (Some (found t cells text (state, at)))
walk_accepts t cells d text at state h w some live accept ts ps s =
    let r = row_at t cells d text at state h w in
    longest_accept ts ps text (drop at text) at (get_or cells (state + t.width) 0) (take at text) w.cut some refl
    (says t d text at state (Accepts (get_or cells (state + t.width) 0)) ts ps r.0 w.cut.seen_utf8 r.1.0 (kind_accepts t cells state r.0.kind r.1.1 live accept) s)

pub walk_place : (t : Layout) (cells : List ℕ) (d : List Row) (text : List ℕ) (at state : ℕ) → IsTableOf t cells d → IsUtf8 text → IsWalked t d text at state → 0 < at → IsPlace t cells text (state, at)
walk_place t cells d text at state h u w some =
    let part = part_accept text (drop at text) at (take at text) w.cut some refl in
    record {
      cell = omega (arith, w.row, h.within (after d (chars (take at text))) (omega (arith, w.within, h.rows)));
      boundary = walked_boundary t d text at state u w;
      prefix = part.0;
      some = part.1;
    }

pub walk_passes : (t : Layout) (cells : List ℕ) (d : List Row) (text : List ℕ) (at at2 state state2 c : ℕ) (best : Option (ℕ × List ℕ)) → IsTableOf t cells d → IsWalked t d text at state
    → IsWalked t d text at2 state2 → ReadsChar text at at2 c → t.live ≤ state2 → state2 < t.accept
    → (ts : List Tree) (ps : List ℕ) → Recognizes d ts ps → IsLongestUpTo ts ps text at best → IsLongestUpTo ts ps text at2 best
walk_passes t cells d text at at2 state state2 c best h w w2 read live accept ts ps s up =
    let r = row_at t cells d text at2 state2 h w2 in
    longest_pass ts ps text (drop at text) (drop at2 text) at at2 c best w.cut read.split read.place
    (says t d text at2 state2 Neither ts ps r.0 w2.cut.seen_utf8 r.1.0 (kind_neither t cells state2 r.0.kind r.1.1 live accept) s) up

pub walk_rejects : (t : Layout) (cells : List ℕ) (d : List Row) (text : List ℕ) (at at2 state state2 c : ℕ) (best : Option (ℕ × List ℕ)) → IsTableOf t cells d → IsWalked t d text at state
    → IsWalked t d text at2 state2 → ReadsChar text at at2 c → state2 < t.live
    → (ts : List Tree) (ps : List ℕ) → Recognizes d ts ps → IsLongestUpTo ts ps text at best → IsLongest ts ps text best
walk_rejects t cells d text at at2 state state2 c best h w w2 read low ts ps s up =
    let p = after d (chars (take at2 text)) in
    let r = row_at t cells d text at2 state2 h w2 in
    let kind : r.0.kind ≡ Reject = kind_reject t cells state2 r.0.kind r.1.1 low in
    longest_stop d ts ps text (drop at2 text) at2 p best s w2.cut (record { reached = refl; within = w2.within })
    (reject_at d p r.0 r.0.kind r.1.0 refl kind)
    (longest_pass ts ps text (drop at text) (drop at2 text) at at2 c best w.cut read.split read.place
    (says t d text at2 state2 Reject ts ps r.0 w2.cut.seen_utf8 r.1.0 kind s) up)

-- so no tree matches a word that goes on from there
pub walk_dead : (t : Layout) (cells : List ℕ) (d : List Row) (text : List ℕ) (at state : ℕ) → IsTableOf t cells d → IsWalked t d text at state → state < t.live
    → IsDeadEnd d (chars (take at text))
walk_dead t cells d text at state h w low = λ ts ps v s more.
    let p = after d (chars (take at text)) in
    let r = row_at t cells d text at state h w in
    none_after d ts ps (chars (take at text)) v p (text_word (take at text) w.cut.seen_utf8) more s refl (reject_at d p r.0 r.0.kind r.1.0 refl (kind_reject t cells state r.0.kind r.1.1 low))

-- and the character that leads there settles what matches before it
pub walk_stopped : (t : Layout) (cells : List ℕ) (d : List Row) (text : List ℕ) (at at2 state state2 c : ℕ) → IsTableOf t cells d → IsWalked t d text at state
    → IsWalked t d text at2 state2 → ReadsChar text at at2 c → state2 < t.live → IsStopped d (chars (take at text)) (drop at text)
walk_stopped t cells d text at at2 state state2 c h w w2 read low = record {
  next = c;
  rest = drop at2 text;
  scalar = read.scalar;
  split = read.split;
  dead = subst (IsDeadEnd d) (word_after text (drop at text) (drop at2 text) at at2 c w.cut read.split read.place) (walk_dead t cells d text at2 state2 h w2 low);
}

pub walk_ends : (t : Layout) (d : List Row) (text : List ℕ) (at state : ℕ) (best : Option (ℕ × List ℕ)) → IsWalked t d text at state → length text ≤ at
    → (ts : List Tree) (ps : List ℕ) → IsLongestUpTo ts ps text at best → IsLongest ts ps text best
walk_ends t d text at state best w done ts ps up =
    longest_end ts ps text (drop at text) at best w.cut (omega (arith, cut_within text (drop at text) at w.cut)) up

-- ---- what is read

-- one character more was read
pub walk_counts : (t : Layout) (d : List Row) (text : List ℕ) (at at2 state c : ℕ) → IsWalked t d text at state → ReadsChar text at at2 c
    → length (chars (take at2 text)) ≡ length (chars (take at text)) + 1
walk_counts t d text at at2 state c w read = count_more text (drop at text) (drop at2 text) at at2 c w.cut read.split read.place

-- no more characters were read than the text has
pub walk_count : (t : Layout) (d : List Row) (text : List ℕ) (at state : ℕ) → IsWalked t d text at state → length (chars (take at text)) ≤ length (chars text)
walk_count t d text at state w = count_within text (drop at text) at w.cut

-- nothing was read past a match that ends here
pub walk_trail : (t : Layout) (cells : List ℕ) (d : List Row) (text : List ℕ) (at state : ℕ) → IsTableOf t cells d → IsWalked t d text at state → t.live ≤ state → t.accept ≤ state → chars (take at text) ≢ []
    → HasTrail d text at (take at text)
walk_trail t cells d text at state h w live accept some =
    let r = row_at t cells d text at state h w in
    trail_accept d text at (take at text) (after d (chars (take at text))) r.0 (get_or cells (state + t.width) 0) refl refl r.1.0
    (kind_accepts t cells state r.0.kind r.1.1 live accept) some

-- a character that leaves the match open is read past it
pub walk_trails : (t : Layout) (cells : List ℕ) (d : List Row) (text : List ℕ) (at at2 state state2 c : ℕ) (o : Option (ℕ × ℕ)) → IsTableOf t cells d → IsWalked t d text at state
    → IsWalked t d text at2 state2 → ReadsChar text at at2 c → t.live ≤ state2 → state2 < t.accept
    → IfSome o (λ m. HasTrail d text at (take m.1 text)) → IfSome o (λ m. HasTrail d text at2 (take m.1 text))
walk_trails t cells d text at at2 state state2 c o h w w2 read live accept trail =
    let r = row_at t cells d text at2 state2 h w2 in
    trail_pass (λ m. take m.1 text) d text (drop at text) (drop at2 text) at at2 c (after d (chars (take at2 text))) r.0 o w.cut read.split read.place refl r.1.0
    (kind_neither t cells state2 r.0.kind r.1.1 live accept) trail

-- one more character after the match is paid for by its bytes
pub past_more : (text : List ℕ) (at at2 before after after2 : ℕ) (o : Option (ℕ × ℕ)) → after2 ≡ after + 1 → at < at2 → PaysPast text at before after o → PaysPast text at2 before after2 o
past_more text at at2 before after after2 None one on h = omega arith
past_more text at at2 before after after2 (Some m) one on h = (omega (arith, h.0), omega (arith, h.1))

-- the same after `before` steps
pub past_of : (text : List ℕ) (at before after count : ℕ) (o : Option (ℕ × ℕ)) → after ≡ before + count → PaysPast text at 0 count o → PaysPast text at before after o
past_of text at before after count None more h = omega arith
past_of text at before after count (Some m) more h = (h.0, omega (arith, h.1))
