-- The run of a fused table along a text: what holds after each character.
use Rattle.std.proofs.Common.{◌≡◌, ◌≢◌, ℕ, zero, suc, ◌+◌, ◌-◌, ◌*◌, ◌/◌, ◌%◌, ◌<◌, ◌≤◌, min, add-zero, add-one, drop-cons, inl, inr, List, [], ◌∷◌, ◌++◌, length, map, take, drop, get_or, slice_set, ◌⊎◌, refl, sym, ap, subst, ◌∙◌, arith}
use Rattle.std.specs.Prelude.{Some, None, slice_get}
use Rattle.std.specs.Char.{encode_utf8}
use Rattle.std.specs.Str.{chars, IsUtf8, IsCharBoundary}
use Rattle.std.proofs.lemmas.List.{drop-drop, take-append-drop, take_at, length-take-le, take-set, take_more_set}
use Rattle.std.proofs.lemmas.Option.{slice_get-get_or, get_or_from_slice_get, slice_get_within}
use Rattle.std.proofs.lemmas.Bool.{cases_lt}
use Rattle.std.proofs.lemmas.Str.{chars-nil, encode_ascii, IsCharBoundary-from_take, IsUtf8-drop, IsUtf8-take}
use Rattle.lalrpop_hir.specs.Longest.{IsLongest}
use Rattle.lalrpop_hir.proofs.Cuts.{IsCut, cut_start, cut_within, cut_more}
use Rattle.lalrpop_dfa.specs.Dfa.{Row, after, IsWellFormed}
use Rattle.lalrpop_dense.specs.Internal.Table.{HasClasses, IsTableOf, class_of, numbers_of, page_of, row_of}
use Rattle.lalrpop_dense.specs.Internal.SelfLoops.{IsIn, AreIn}
use Rattle.std.specs.List.{All, Contains}
use Rattle.std.proofs.lemmas.List.Elements.{All-nil, All-cons}
use Rattle.lalrpop_dense.specs.declared.self_loop.SelfLoop.{SelfLoop}
use Rattle.lalrpop_dense.specs.Internal.Fused.{IsRow, EndsBefore, IsFusedOf, StaysOn}
use Rattle.lalrpop_dense.specs.Leading.{IsEnd, IsStopped, AreAhead, last_end}
use Rattle.lalrpop_dense.specs.Internal.Marks.{IsMark, AreMarks, named, ends_of}
use Rattle.lalrpop_dense.specs.Internal.Reading.{ReadsChar, found}
use Rattle.lalrpop_dense.specs.declared.table.Layout.{Layout}
use Rattle.lalrpop_dense.specs.declared.fused.Fused.{Fused}
use Rattle.lalrpop_dense.specs.declared.mark.Mark.{Mark}
use Rattle.lalrpop_dense.proofs.Walks.{IsWalked, walked_more, walk_accepts, walk_rejects, walk_stopped, class_below}

-- from `begin` on n bytes were read, and this is the fused row that they lead to
pub record IsOpen (f : Fused) (t : Layout) (d : List Row) (text : List ℕ) (begin n row : ℕ) : Type 0 where
  pub utf8 : IsUtf8 (drop begin text)
  pub origin : ℕ
  pub is_row : IsRow f row origin
  pub walked : IsWalked t d (drop begin text) n origin

-- the text was read up to the place, and the ends of tokens up to there are marked
pub record IsMarked (f : Fused) (t : Layout) (d : List Row) (text : List ℕ) (from at row : ℕ) (marks : List Mark) : Type 0 where
  pub cut : IsCut text at (drop at text)
  pub begin : ℕ
  pub read : ℕ
  pub place : at ≡ begin + read
  pub marked : AreMarks f t d text from from begin marks
  pub is_open : IsOpen f t d text begin read row

-- the character is in what is left from `begin` on
reads_from : (text : List ℕ) (begin n n2 at at2 c : ℕ) → ReadsChar text at at2 c → at ≡ begin + n → n2 ≡ n + length (encode_utf8 c) → ReadsChar (drop begin text) n n2 c
reads_from text begin n n2 at at2 c r e l =
    let from : drop n (drop begin text) ≡ drop at text = drop-drop n begin text ∙ ap (λ (k : ℕ). drop k text) (sym e) in
    let to_at : begin + n2 ≡ at2 = omega (arith, e, l, r.place) in
    let to : drop n2 (drop begin text) ≡ drop at2 text = drop-drop n2 begin text ∙ ap (λ (k : ℕ). drop k text) to_at in
    record {
      split = from ∙ r.split ∙ ap (λ (xs : List ℕ). encode_utf8 c ++ xs) (sym to);
      place = l;
      scalar = r.scalar;
    }

at_start : (t : Layout) (d : List Row) (text : List ℕ) → IsUtf8 text → 0 < length d → IsWalked t d text 0 (row_of t 0)
at_start t d text u some =
    let start : after d (chars (take 0 text)) ≡ 0 = ap (after d) chars-nil in
    record { cut = cut_start text u; within = omega (arith, start, some); row = ap (row_of t) (sym start) }

pub marked_start : (f : Fused) (t : Layout) (cells : List ℕ) (d : List Row) (text : List ℕ) (from row : ℕ) → IsTableOf t cells d → IsFusedOf f t cells → IsUtf8 text → 0 < length d
    → IsCharBoundary text from → row ≡ f.first → IsMarked f t d text from from row []
marked_start f t cells d text from row h k u some b e =
    let rest : IsUtf8 (drop from text) = IsUtf8-drop text from u b in
    record {
      cut = record { split = sym (take-append-drop from text); place = length-take-le from text b.0; seen_utf8 = IsUtf8-take text from u b; rest_utf8 = rest };
      begin = from;
      read = 0;
      place = omega arith;
      marked = refl;
      is_open = record {
        utf8 = rest;
        origin = row_of t 0;
        is_row = subst (λ (x : ℕ). IsRow f x (row_of t 0)) (sym e) k.start;
        walked = at_start t d (drop from text) rest some;
      };
    }

-- the cell of a character is in the fused table
pub in_fused_row : (f : Fused) (t : Layout) (cells : List ℕ) (d : List Row) (text : List ℕ) (from at row class c : ℕ) (marks : List Mark) → IsTableOf t cells d → IsFusedOf f t cells
    → IsMarked f t d text from at row marks → class ≡ class_of t c → row + class < length (numbers_of f.cells)
in_fused_row f t cells d text from at row class c marks h k m e =
    omega (arith, e, class_below t c h.classes, (k.rows record { start = row; origin = m.is_open.origin } m.is_open.is_row).within)

pub marked_boundary : (f : Fused) (t : Layout) (d : List Row) (text : List ℕ) (from at row : ℕ) (marks : List Mark) → IsUtf8 text → IsMarked f t d text from at row marks → IsCharBoundary text at
marked_boundary f t d text from at row marks u m =
    IsCharBoundary-from_take text at u (omega (arith, cut_within text (drop at text) at m.cut)) m.cut.seen_utf8

-- ---- one character more

marks_push : (f : Fused) (t : Layout) (d : List Row) (text : List ℕ) (base from to : ℕ) (ms : List Mark) (m : Mark) → AreMarks f t d text base from to ms → IsMark f t d text base to m
    → AreMarks f t d text base from (base + m.place) (ms ++ m ∷ [])
marks_push f t d text base from to [] m h k = (subst (λ (n : ℕ). IsMark f t d text base n m) (sym h) k, refl)
marks_push f t d text base from to (x ∷ ms) m h k = (h.0, marks_push f t d text base (base + x.place) to ms m h.1 k)

-- a row that isn't START's was reached by some character
some_read : (t : Layout) (d : List Row) (left : List ℕ) (n row : ℕ) → IsWalked t d left n row → row ≢ row_of t 0 → 0 < n
some_read t d left n row w later = elim (cases_lt 0 n) [
  | inl above ↦ above
  | inr below ↦ (
      let none : n ≡ 0 = omega (arith, below) in
      let start : after d (chars (take n left)) ≡ 0 = ap (λ (m : ℕ). after d (chars (take m left))) none ∙ ap (after d) chars-nil in
      absurd (later (w.row ∙ ap (row_of t) start))
      )
]

-- the match that began at `begin` goes on
open_on : (f : Fused) (t : Layout) (cells : List ℕ) (d : List Row) (text : List ℕ) (begin n n2 row next class c at at2 : ℕ) → IsTableOf t cells d → IsWellFormed d
    → (o : IsOpen f t d text begin n row) → ReadsChar text at at2 c → at ≡ begin + n → n2 ≡ n + length (encode_utf8 c) → class ≡ class_of t c
    → IsRow f next (get_or cells (o.origin + class) 0) → IsOpen f t d text begin n2 next
open_on f t cells d text begin n n2 row next class c at at2 h wf o r e l k leads =
    record {
      utf8 = o.utf8;
      origin = get_or cells (o.origin + class) 0;
      is_row = leads;
      walked = walked_more t cells d (drop begin text) n n2 o.origin (get_or cells (o.origin + class) 0) class c h wf o.utf8 o.walked (reads_from text begin n n2 at at2 c r e l) k refl;
    }

-- a match begins with the character
open_new : (f : Fused) (t : Layout) (cells : List ℕ) (d : List Row) (text : List ℕ) (next class c at at2 n2 : ℕ) → IsTableOf t cells d → IsWellFormed d
    → IsUtf8 (drop at text) → ReadsChar text at at2 c → n2 ≡ length (encode_utf8 c) → class ≡ class_of t c
    → IsRow f next (get_or cells (row_of t 0 + class) 0) → IsOpen f t d text at n2 next
open_new f t cells d text next class c at at2 n2 h wf u r l k leads =
    record {
      utf8 = u;
      origin = get_or cells (row_of t 0 + class) 0;
      is_row = leads;
      walked = walked_more t cells d (drop at text) 0 n2 (row_of t 0) (get_or cells (row_of t 0 + class) 0) class c h wf u
          (at_start t d (drop at text) u wf.some) (reads_from text at 0 n2 at at2 c r (omega arith) (omega (arith, l))) k refl;
    }

-- a match has ended before the character
mark_of : (f : Fused) (t : Layout) (cells : List ℕ) (d : List Row) (text : List ℕ) (base place begin n row class c at at2 : ℕ) → IsTableOf t cells d → IsFusedOf f t cells → IsWellFormed d
    → (o : IsOpen f t d text begin n row) → IsCharBoundary text at → ReadsChar text at at2 c → at ≡ begin + n → base + place ≡ at → class ≡ class_of t c → EndsBefore t cells o.origin class
    → IsMark f t d text base begin (record { place = place; number = row })
mark_of f t cells d text base place begin n row class c at at2 h k wf o b r e there same ends =
    let left = drop begin text in
    let right = k.rows record { start = row; origin = o.origin } o.is_row in
    let n2 = n + length (encode_utf8 c) in
    let read : ReadsChar left n n2 c = reads_from text begin n n2 at at2 c r e refl in
    let some : 0 < n = some_read t d left n o.origin o.walked ends.later in
    let w2 : IsWalked t d left n2 (get_or cells (o.origin + class) 0) = walked_more t cells d left n n2 o.origin (get_or cells (o.origin + class) 0) class c h wf o.utf8 o.walked read same refl in
    let size : at - begin ≡ n = omega (arith, e) in
    let ends_here : IsEnd d text begin (get_or (numbers_of f.cells) (row + t.width) 0) at = record {
      some = omega (arith, some, e);
      boundary = b;
      longest = λ ts ps s.
          subst (λ (i : ℕ). IsLongest ts ps left (Some (i, take (at - begin) left))) (sym right.pattern)
          (subst (λ (m : ℕ). IsLongest ts ps left (Some (get_or cells (o.origin + t.width) 0, take m left))) (sym size)
          (walk_rejects t cells d left n n2 o.origin (get_or cells (o.origin + class) 0) c (Some (found t cells left (o.origin, n))) h o.walked w2 read ends.dead ts ps s
          (walk_accepts t cells d left n o.origin h o.walked some ends.live ends.accepts ts ps s)));
      stopped =
          subst (λ (m : ℕ). IsStopped d (chars (take m left)) (drop at text)) (sym size)
          (subst (IsStopped d (chars (take n left))) (drop-drop n begin text ∙ ap (λ (k : ℕ). drop k text) (sym e))
          (walk_stopped t cells d left n n2 o.origin (get_or cells (o.origin + class) 0) c h o.walked w2 read ends.dead));
    } in
    record { within = right.within; ends = subst (IsEnd d text begin (get_or (numbers_of f.cells) (row + t.width) 0)) (sym there) ends_here }

-- one character more: the marks are kept, or one is added
pub marked_more : (f : Fused) (t : Layout) (cells : List ℕ) (d : List Row) (text : List ℕ) (from at at2 row next class c : ℕ) (ms : List Mark) → IsTableOf t cells d → IsFusedOf f t cells → IsWellFormed d
    → IsUtf8 text → IsMarked f t d text from at row ms → ReadsChar text at at2 c → class ≡ class_of t c → next ≡ get_or (numbers_of f.cells) (row + class) 0 → next ≢ 0
    → (next < f.emit → IsMarked f t d text from at2 next ms)
    × (f.emit ≤ next → (place : ℕ) → from + place ≡ at → IsMarked f t d text from at2 next (ms ++ record { place = place; number = row } ∷ []))
marked_more f t cells d text from at at2 row next class c ms h k wf u m r same e some =
    let o = m.is_open in
    let right = k.rows record { start = row; origin = o.origin } o.is_row in
    let below : class < t.width = omega (arith, same, class_below t c h.classes) in
    let cut : IsCut text at2 (drop at2 text) = cut_more text (drop at text) (drop at2 text) at at2 c u m.cut r.split r.place in
    elim (right.leads class below) [
      | inl nowhere ↦ absurd (some (e ∙ nowhere))
      | inr (inl on) ↦ (
        λ below. record {
          cut = cut;
          begin = m.begin;
          read = m.read + length (encode_utf8 c);
          place = omega (arith, m.place, r.place);
          marked = m.marked;
          is_open = open_on f t cells d text m.begin m.read (m.read + length (encode_utf8 c)) row next class c at at2 h wf o r m.place refl same
              (subst (λ (x : ℕ). IsRow f x (get_or cells (o.origin + class) 0)) (sym e) on.1);
        },
        λ above place there. absurd (omega (arith, e, on.0, above)),
      )
      | inr (inr ends) ↦ (
        λ below. absurd (omega (arith, e, ends.0, below)),
        λ above place there. record {
          cut = cut;
          begin = at;
          read = length (encode_utf8 c);
          place = r.place;
          marked = subst (λ (to : ℕ). AreMarks f t d text from from to (ms ++ record { place = place; number = row } ∷ [])) there
              (marks_push f t d text from from m.begin ms (record { place = place; number = row }) m.marked
              (mark_of f t cells d text from place m.begin m.read row class c at at2 h k wf o (marked_boundary f t d text from at row ms u m) r m.place there same ends.1));
          is_open = open_new f t cells d text next class c at at2 (length (encode_utf8 c)) h wf m.cut.rest_utf8 r refl same
              (subst (λ (x : ℕ). IsRow f x (get_or cells (row_of t 0 + class) 0)) (sym e) ends.2);
        },
      )
    ]

-- the marks that are kept, after one more was written
pub marked_kept : (f : Fused) (t : Layout) (d : List Row) (text : List ℕ) (from at2 next place row count one : ℕ) (all all2 : List Mark)
    → (next < f.emit → IsMarked f t d text from at2 next (take count all)) × (f.emit ≤ next → IsMarked f t d text from at2 next (take count all ++ record { place = place; number = row } ∷ []))
    → count < length all → all2 ≡ slice_set all count (record { place = place; number = row })
    → ((next < f.emit) × (one ≡ 0)) ⊎ ((f.emit ≤ next) × (one ≡ 1)) → IsMarked f t d text from at2 next (take (count + one) all2)
marked_kept f t d text from at2 next place row count one all all2 m within e (inl below) =
    let same : count + one ≡ count = omega (arith, below.1) in
    subst (IsMarked f t d text from at2 next) (sym (ap (λ (n : ℕ). take n all2) same ∙ ap (take count) e ∙ take-set all count (record { place = place; number = row }))) (m.0 below.0)
marked_kept f t d text from at2 next place row count one all all2 m within e (inr above) =
    let same : count + one ≡ count + 1 = omega (arith, above.1) in
    subst (IsMarked f t d text from at2 next) (sym (ap (λ (n : ℕ). take n all2) same ∙ ap (take (count + 1)) e ∙ take_more_set all count (record { place = place; number = row }) within)) (m.1 above.0)

-- at most one
pub kept_few : (next emit one : ℕ) → ((next < emit) × (one ≡ 0)) ⊎ ((emit ≤ next) × (one ≡ 1)) → one ≤ 1
kept_few next emit one (inl below) = omega (arith, below.1)
kept_few next emit one (inr above) = omega (arith, above.1)

-- one character more, with its mark written
pub marked_next : (f : Fused) (t : Layout) (cells : List ℕ) (d : List Row) (text : List ℕ) (from at at2 place row next class c count one : ℕ) (all all2 : List Mark) → IsTableOf t cells d → IsFusedOf f t cells → IsWellFormed d
    → IsUtf8 text → IsMarked f t d text from at row (take count all) → ReadsChar text at at2 c → class ≡ class_of t c → next ≡ get_or (numbers_of f.cells) (row + class) 0 → next ≢ 0 → from + place ≡ at
    → count < length all → all2 ≡ slice_set all count (record { place = place; number = row })
    → ((next < f.emit) × (one ≡ 0)) ⊎ ((f.emit ≤ next) × (one ≡ 1)) → IsMarked f t d text from at2 next (take (count + one) all2)
marked_next f t cells d text from at at2 place row next class c count one all all2 h k wf u m r same e some there within set is_kept =
    let more = marked_more f t cells d text from at at2 row next class c (take count all) h k wf u m r same e some in
    marked_kept f t d text from at2 next place row count one all all2 (more.0, λ above. more.1 above place there) within set is_kept

-- ---- bytes of ASCII

-- a byte of ASCII is a character
pub reads_ascii : (text : List ℕ) (at : ℕ) → at < length text → get_or text at 0 < 128 → ReadsChar text at (at + 1) (get_or text at 0)
reads_ascii text at within low =
    let byte = get_or text at 0 in
    let one : encode_utf8 byte ≡ byte ∷ [] = encode_ascii byte low in
    record {
      split = rw (one, add-one, drop-cons text at 0);
      place = omega (arith, ap (length {A = ℕ}) one);
      scalar = omega (arith, low);
    }

-- its class is in the first block
pub class_ascii : (t : Layout) (byte : ℕ) → HasClasses t → byte < 128 → (byte < length t.blocks.items) × (get_or t.blocks.items byte 0 ≡ class_of t byte)
class_ascii t byte h low =
    let zero : min (byte / 128) (length t.pages.items - 1) ≡ 0 = omega (arith, low) in
    let page : page_of t (byte / 128) ≡ 0 = ap (λ (k : ℕ). get_or t.pages.items k 0) zero ∙ h.ascii in
    let place : page_of t (byte / 128) * 128 + byte % 128 ≡ byte = omega (arith, page, low) in (
      omega (arith, low, h.blocks 0 h.pages, h.ascii),
      ap (λ (k : ℕ). get_or t.blocks.items k 0) (sym place),
    )

-- bytes on which the row stays
pub marked_stay : (f : Fused) (t : Layout) (cells : List ℕ) (d : List Row) (text : List ℕ) (from at row : ℕ) (ms : List Mark) (s : SelfLoop) → IsTableOf t cells d → IsFusedOf f t cells → IsWellFormed d
    → IsUtf8 text → Contains f.stays.items s → s.row ≡ row → IsMarked f t d text from at row ms → (n : ℕ) → at + n ≤ length text → AreIn s text at (at + n)
    → IsMarked f t d text from (at + n) row ms
marked_stay f t cells d text from at row ms s h k wf u has same m zero within are = subst (λ (x : ℕ). IsMarked f t d text from x row ms) (sym (add-zero at)) m
marked_stay f t cells d text from at row ms s h k wf u has same m (suc n) within are =
    let place = at + n in
    let byte = get_or text place 0 in
    let before : IsMarked f t d text from place row ms = marked_stay f t cells d text from at row ms s h k wf u has same m n (omega (arith, within)) (λ j from to. are j from (omega (arith, to))) in
    let back = k.stays s has in
    let is_in : IsIn s byte = are place (omega arith) (omega arith) in
    let next : row ≡ get_or (numbers_of f.cells) (row + class_of t byte) 0 = sym (subst (λ (x : ℕ). get_or (numbers_of f.cells) (x + class_of t byte) 0 ≡ x) same (back.back byte is_in)) in
    let more = marked_more f t cells d text from place (place + 1) row row (class_of t byte) byte ms h k wf u before (reads_ascii text place (omega (arith, within)) is_in.ascii) refl next (λ none. omega (arith, none, same, back.some)) in
    let end : place + 1 ≡ at + suc n = omega arith in
    subst (λ (x : ℕ). IsMarked f t d text from x row ms) end (more.0 (omega (arith, same, back.plain)))

-- the bytes up to which a row is listed as staying
pub marked_stays : (f : Fused) (t : Layout) (cells : List ℕ) (d : List Row) (text : List ℕ) (from at to row : ℕ) (ms : List Mark) → IsTableOf t cells d → IsFusedOf f t cells → IsWellFormed d
    → IsUtf8 text → IsMarked f t d text from at row ms → at ≤ to → to ≤ length text → StaysOn f row text at to → IsMarked f t d text from to row ms
marked_stays f t cells d text from at to row ms h k wf u m on within (inl same) = subst (λ (x : ℕ). IsMarked f t d text from x row ms) same m
marked_stays f t cells d text from at to row ms h k wf u m on within (inr (s, has, same, are)) =
    let place : at + (to - at) ≡ to = omega (arith, on) in
    subst (λ (x : ℕ). IsMarked f t d text from x row ms) place
    (marked_stay f t cells d text from at row ms s h k wf u has same m (to - at) (omega (arith, place, within)) (λ j above below. are j above (omega (arith, place, below))))

-- the class of a byte, read from slices
class_byte : (t : Layout) (text bytes blocks : List ℕ) (at : ℕ) → HasClasses t → bytes ≡ text → blocks ≡ t.blocks.items → get_or bytes at 0 < 128
    → get_or blocks (get_or bytes at 0) 0 ≡ class_of t (get_or text at 0)
class_byte t text bytes blocks at h same lent low =
    let byte : get_or bytes at 0 ≡ get_or text at 0 = ap (λ (xs : List ℕ). get_or xs at 0) same in
    ap (λ (xs : List ℕ). get_or xs (get_or bytes at 0) 0) lent ∙ ap (λ (k : ℕ). get_or t.blocks.items k 0) byte
    ∙ (class_ascii t (get_or text at 0) h (omega (arith, byte, low))).1

-- the cell of a byte is in the fused table
pub byte_in_row : (f : Fused) (t : Layout) (cells : List ℕ) (d : List Row) (text : List ℕ) (from at row : ℕ) (marks : List Mark) (bytes blocks numbers : List ℕ) → IsTableOf t cells d → IsFusedOf f t cells
    → bytes ≡ text → blocks ≡ t.blocks.items → numbers ≡ (numbers_of f.cells) → IsMarked f t d text from at row marks → get_or bytes at 0 < 128
    → row + get_or blocks (get_or bytes at 0) 0 < length numbers
byte_in_row f t cells d text from at row marks bytes blocks numbers h k same lent shown m low =
    omega (
      arith,
      ap (length {A = ℕ}) shown,
      in_fused_row f t cells d text from at row (get_or blocks (get_or bytes at 0) 0) (get_or text at 0) marks h k m (class_byte t text bytes blocks at h.classes same lent low),
    )

-- one byte of ASCII more, with its mark written
pub marked_byte : (f : Fused) (t : Layout) (cells : List ℕ) (d : List Row) (text : List ℕ) (from at at2 place row next count one : ℕ) (all all2 : List Mark) (bytes blocks numbers : List ℕ) → IsTableOf t cells d → IsFusedOf f t cells
    → IsWellFormed d → IsUtf8 text → bytes ≡ text → blocks ≡ t.blocks.items → numbers ≡ (numbers_of f.cells) → IsMarked f t d text from at row (take count all) → at < length text → get_or bytes at 0 < 128 → at2 ≡ at + 1
    → next ≡ get_or numbers (row + get_or blocks (get_or bytes at 0) 0) 0 → next ≢ 0 → from + place ≡ at
    → count < length all → all2 ≡ slice_set all count (record { place = place; number = row })
    → ((next < f.emit) × (one ≡ 0)) ⊎ ((f.emit ≤ next) × (one ≡ 1)) → IsMarked f t d text from at2 next (take (count + one) all2)
marked_byte f t cells d text from at at2 place row next count one all all2 bytes blocks numbers h k wf u same lent shown m inside low on e some there within set is_kept =
    let class = get_or blocks (get_or bytes at 0) 0 in
    let byte : get_or bytes at 0 ≡ get_or text at 0 = ap (λ (xs : List ℕ). get_or xs at 0) same in
    let read : ReadsChar text at at2 (get_or text at 0) = subst (λ (n : ℕ). ReadsChar text at n (get_or text at 0)) (sym on) (reads_ascii text at inside (omega (arith, byte, low))) in
    marked_next f t cells d text from at at2 place row next class (get_or text at 0) count one all all2 h k wf u m read (class_byte t text bytes blocks at h.classes same lent low)
    (e ∙ ap (λ (xs : List ℕ). get_or xs (row + class) 0) shown) some there within set is_kept

-- ---- marks with their patterns

-- the marks, from where the first match begins up to the place
pub marks_of : (f : Fused) (t : Layout) (d : List Row) (text : List ℕ) (from at row end : ℕ) (ms : List Mark) → IsMarked f t d text from at row ms → at ≤ end
    → (to : ℕ) × (to ≤ end) × AreMarks f t d text from from to ms
marks_of f t d text from at row end ms m below = (m.begin, omega (arith, m.place, below), m.marked)

pub marks_within : (f : Fused) (t : Layout) (d : List Row) (text : List ℕ) (base begin to : ℕ) (ms : List Mark) → AreMarks f t d text base begin to ms
    → All (λ m. m.number + t.width < length (numbers_of f.cells)) ms
marks_within f t d text base begin to [] h = All-nil (λ m. m.number + t.width < length (numbers_of f.cells))
marks_within f t d text base begin to (m ∷ ms) h = All-cons (λ m. m.number + t.width < length (numbers_of f.cells)) m ms h.0.within (marks_within f t d text base (base + m.place) to ms h.1)

pub marks_ahead : (f : Fused) (t : Layout) (d : List Row) (text : List ℕ) (base begin to : ℕ) (ms : List Mark) → AreMarks f t d text base begin to ms
    → AreAhead d text begin (ends_of base (map (named (numbers_of f.cells) t.width) ms))
marks_ahead f t d text base begin to [] h = tt
marks_ahead f t d text base begin to (m ∷ ms) h = (h.0.ends, marks_ahead f t d text base (base + m.place) to ms h.1)

pub marks_last : (f : Fused) (t : Layout) (d : List Row) (text : List ℕ) (base begin to : ℕ) (ms : List Mark) → AreMarks f t d text base begin to ms
    → last_end begin (ends_of base (map (named (numbers_of f.cells) t.width) ms)) ≡ to
marks_last f t d text base begin to [] h = h
marks_last f t d text base begin to (m ∷ ms) h = marks_last f t d text base (base + m.place) to ms h.1

pub marks_on : (f : Fused) (t : Layout) (d : List Row) (text : List ℕ) (base begin to : ℕ) (ms : List Mark) → AreMarks f t d text base begin to ms → begin ≤ to
marks_on f t d text base begin to [] h = omega (arith, h)
marks_on f t d text base begin to (m ∷ ms) h = omega (arith, h.0.ends.some, marks_on f t d text base (base + m.place) to ms h.1)

-- the last mark is where the last token ends
pub last_of_mark : (at base n : ℕ) (ms : List Mark) (d : Mark) → length ms ≡ suc n → last_end at (ends_of base ms) ≡ base + (get_or ms n d).place
last_of_mark at base n [] d e = absurd (omega (arith, e))
last_of_mark at base zero (m ∷ []) d e = refl
last_of_mark at base zero (m ∷ (x ∷ ms)) d e = absurd (omega (arith, e))
last_of_mark at base (suc n) (m ∷ ms) d e = last_of_mark (base + m.place) base n ms d (omega (arith, e))

-- what the last of the marks says, if there is one
pub last_by : (base : ℕ) (ms : List Mark) (m : Mark) → slice_get ms (length ms - 1) ≡ Some m → last_end base (ends_of base ms) ≡ base + m.place
last_by base ms m e =
    let within : length ms - 1 < length ms = slice_get_within ms (length ms - 1) m e in
    last_of_mark base base (length ms - 1) ms m (omega (arith, within)) ∙ ap (λ (x : Mark). base + x.place) (get_or_from_slice_get ms (length ms - 1) m m e)

pub last_by_none : (base : ℕ) (ms : List Mark) → slice_get ms (length ms - 1) ≡ None → last_end base (ends_of base ms) ≡ base
last_by_none base [] e = refl
last_by_none base (m ∷ ms) e =
    let i = length (m ∷ ms) - 1 in
    let some : slice_get (m ∷ ms) i ≡ Some (get_or (m ∷ ms) i m) = slice_get-get_or (m ∷ ms) i m (omega arith) in
    cc

-- the first marks of an array are those that are ahead
pub ahead_in : (d : List Row) (text : List ℕ) (at base count : ℕ) (new rest : List Mark) → length new ≡ count → AreAhead d text at (ends_of base new)
    → AreAhead d text at (ends_of base (drop 0 (take count (new ++ rest))))
ahead_in d text at base count new rest size h = subst (λ (ms : List Mark). AreAhead d text at (ends_of base ms)) (sym (take_at new rest count size)) h

pub last_in : (at base count : ℕ) (new rest : List Mark) → length new ≡ count
    → last_end at (ends_of base (drop 0 (take count (new ++ rest)))) ≡ last_end at (ends_of base new)
last_in at base count new rest size = ap (λ (ms : List Mark). last_end at (ends_of base ms)) (take_at new rest count size)
