-- What the piece at the front of a text costs, run by run, and the notes that pay for it.
use Rattle.std.proofs.Common.{◌≡◌, ℕ, ◌+◌, ◌-◌, ◌*◌, ◌/◌, ◌<◌, ◌≤◌, ◌⊎◌, inl, inr, List, [], ◌++◌, length, drop, arith, refl, sym, ap, subst, ◌∙◌, length-append, length-drop, get_or-drop}
use Rattle.std.specs.Prelude.{Some, None, slice_index}
use Rattle.std.specs.List.{All, Contains}
use Rattle.std.specs.Str.{IsUtf8, IsCharBoundary}
use Rattle.std.proofs.lemmas.Bool.{cases_lt}
use Rattle.std.proofs.lemmas.List.Elements.{All-nil, All-append, All-weaker, All-contains}
use Rattle.std.proofs.lemmas.Str.{IsCharBoundary-from_rest, IsUtf8-take, IsUtf8-drop}
use Rattle.lalrpop_hir.specs.Tree.{Tree}
use Rattle.lalrpop_hir.specs.Longest.{IsMatch, IsLongest}
use Rattle.lalrpop_dfa.specs.Dfa.{Row, RecognizesAll}
use Rattle.lalrpop_dfa.specs.Lookahead.{IsTrim}
use Rattle.bajofeki.specs.Lexed.{ReadsTo}
use Rattle.bajofeki.specs.declared.front.Front.{Front}
use Rattle.bajofeki.specs.declared.memo.Memo.{Memo}
use Rattle.bajofeki.specs.declared.walker.Walker.{Walker}
use Rattle.bajofeki.specs.Internal.Noted.{IsKnown}
use Rattle.bajofeki.specs.Internal.Paying.{AreDistinct, IsCrossing, IsNew, IsRunPaid, IsFrontPaid}
use Rattle.bajofeki.specs.Internal.Walking.{IsWalkerOf}
use Rattle.bajofeki.proofs.Distinct.{distinct_both}
use Rattle.bajofeki.proofs.NewNotes.{new_more}
use Rattle.bajofeki.proofs.Reading.{match_reads, open_reads}

-- ---- notes for a later text are notes for the whole

-- a place in what is left of a text
pub boundary_left : (text : List ℕ) (at k : ℕ) → at ≤ k → IsCharBoundary text k → IsCharBoundary (drop at text) (k - at)
boundary_left text at k le here =
    let sum : at + (k - at) ≡ k = omega arith in
    let same : slice_index (drop at text) (k - at) ≡ slice_index text k = get_or-drop at text (k - at) 0 ∙ ap (slice_index text) sum in
    (omega (arith, here.0, length-drop at text), λ within high. let h = here.1 (omega (arith, length-drop at text)) (omega (arith, same)) in omega (arith, same))

pub crossing_before : (begin at n : ℕ) (text : List ℕ) → at ≤ length text → IsCrossing (begin + at) (drop at text) n → IsCrossing begin text (at + n)
crossing_before begin at n text within c = record {
  boundary = IsCharBoundary-from_rest text at n within c.boundary;
  later = omega (arith, later);
  first = λ k less from here. c.first (k - at) (omega (arith, less, past k from)) (omega (arith, past k from, subst (λ (j : ℕ). j / 64 * 64 ≤ begin + k) (sym sum) from)) (boundary_left text at k (past k from) here);
}
  where
    sum : (begin + at) + n ≡ begin + (at + n)
    sum = omega arith

    later : begin + at < (begin + (at + n)) / 64 * 64
    later = subst (λ (j : ℕ). begin + at < j / 64 * 64) sum c.later

    past : (k : ℕ) → (begin + (at + n)) / 64 * 64 ≤ begin + k → at ≤ k
    past k from = omega (arith, later, from)

pub new_before : (w : Walker) (old mid new : Memo) (mode begin at far far2 : ℕ) (text : List ℕ) (x : ℕ × (ℕ × ℕ)) → at ≤ length text → at + far ≤ far2
    → ((m p e : ℕ) → IsKnown old m p e → IsKnown mid m p e) → IsNew w mid new mode (begin + at) (drop at text) far x → IsNew w old new mode begin text far2 x
new_before w old mid new mode begin at far far2 text x within le stays is = record {
  mode_is = is.mode_is;
  met = is.met;
  is_open = is.is_open;
  there = (at + is.there.0, (omega (arith, is.there.1.0), omega (arith, is.there.1.1, le), crossing_before begin at is.there.0 text within is.there.1.2));
  unknown = λ known. is.unknown (stays x.0 x.1.0 x.1.1 known);
  known = is.known;
}

-- ---- how far a text is read

-- all was read up to the place; or further, from a character up to it on, and that begins a word that some tree matches
pub record IsRead (ts : List Tree) (text : List ℕ) (to far : ℕ) : Type 0 where
  pub boundary : IsCharBoundary text far
  pub past : to ≤ far
  pub reads : (far ≡ to) ⊎ ((k : ℕ) × ((k ≤ to) × IsCharBoundary text k × ReadsTo ts text k far))

-- up to a later place
read_to : (ts : List Tree) (text : List ℕ) (at to far : ℕ) → at ≤ to → IsCharBoundary text to → IsRead ts text at far → (n : ℕ) × ((far ≤ n) × IsRead ts text to n)
read_to ts text at to far le here is = by_order (cases_lt to far) is.reads
  where
    by_order : (to < far) ⊎ (far ≤ to) → (far ≡ at) ⊎ ((k : ℕ) × ((k ≤ at) × IsCharBoundary text k × ReadsTo ts text k far)) → (n : ℕ) × ((far ≤ n) × IsRead ts text to n)
    by_order (inl above) (inl same) = absurd (omega arith)
    by_order (inl above) (inr (k, (less, begins, reads))) = (far, (omega arith, record { boundary = is.boundary; past = omega arith; reads = inr (k, (omega arith, begins, reads)) }))
    by_order (inr below) _ = (to, (below, record { boundary = here; past = omega arith; reads = inl refl }))

-- and from one more place on
read_from : (ts : List Tree) (text : List ℕ) (at to far n : ℕ) → at ≤ to → IsCharBoundary text at → IsCharBoundary text (at + n) → (n ≡ 0) ⊎ ReadsTo ts text at (at + n) → IsRead ts text to far
    → (m : ℕ) × ((far ≤ m) × (at + n ≤ m) × IsRead ts text to m)
read_from ts text at to far n le here there reads is = by_order (cases_lt far (at + n)) reads
  where
    by_order : (far < at + n) ⊎ (at + n ≤ far) → (n ≡ 0) ⊎ ReadsTo ts text at (at + n) → (m : ℕ) × ((far ≤ m) × (at + n ≤ m) × IsRead ts text to m)
    by_order (inr below) _ = (far, (omega arith, below, is))
    by_order (inl above) (inl none) = absurd (omega (arith, is.past))
    by_order (inl above) (inr begun) = (at + n, (omega arith, omega arith, record { boundary = there; past = omega (arith, is.past); reads = inr (at, (le, here, begun)) }))

-- ---- run by run

-- the text was read up to this place, with these notes
pub record IsWalked (w : Walker) (ts : List Tree) (old new : Memo) (mode begin : ℕ) (text : List ℕ) (to : ℕ) (news : List (ℕ × (ℕ × ℕ))) (far : ℕ) : Type 0 where
  pub read : IsRead ts text to far
  pub each : All (IsNew w old new mode begin text far) news
  pub distinct : AreDistinct news

pub walked_start : (w : Walker) (ts : List Tree) (memo : Memo) (mode begin : ℕ) (text : List ℕ) → IsCharBoundary text 0 → IsWalked w ts memo memo mode begin text 0 [] 0
walked_start w ts memo mode begin text here = record {
  read = record { boundary = here; past = omega arith; reads = inl refl };
  each = All-nil (IsNew w memo memo mode begin text 0);
  distinct = tt;
}

-- one more run, from the place on; what is found after it ends at another
pub walked_more : (w : Walker) (d : List Row) (ts : List Tree) (ps : List ℕ) (old mid new : Memo) (mode begin : ℕ) (text : List ℕ) (at to size before after far run : ℕ) (xs ys : List (ℕ × (ℕ × ℕ)))
    → IsWalkerOf w d → IsTrim d → RecognizesAll d ts ps → IsUtf8 text → IsCharBoundary text at → IsCharBoundary text to → at ≤ to
    → ((m p e : ℕ) → IsKnown old m p e → IsKnown mid m p e) → ((m p e : ℕ) → IsKnown mid m p e → IsKnown new m p e)
    → (size ≡ 0) ⊎ ((p : List ℕ) × ((length p ≡ size) × IsMatch ts (drop at text) p))
    → IsWalked w ts old mid mode begin text at xs far → IsRunPaid w mid new mode (begin + at) (drop at text) size before after ys run
    → (n : ℕ) × ((at + run ≤ n) × IsWalked w ts old new mode begin text to (xs ++ ys) n)
walked_more w d ts ps old mid new mode begin text at to size before after far run xs ys walks trim h utf8 here there le knew stays ends is paid = (
  second.0,
  (
    second.1.1,
    record {
      read = second.1.2;
      each = All-append (IsNew w old new mode begin text second.0) xs ys (All-weaker _ (IsNew w old new mode begin text second.0) earlier xs is.each)
          (All-weaker _ (IsNew w old new mode begin text second.0) later ys paid.each);
      distinct = distinct_both xs ys is.distinct paid.distinct apart;
    },
  ),
)
  where
    within : at ≤ length text
    within = here.0

    begun : (run ≡ 0) ⊎ ReadsTo ts text at (at + run)
    begun = by_order (cases_lt size run) ends
      where
        by_order : (size < run) ⊎ (run ≤ size) → (size ≡ 0) ⊎ ((p : List ℕ) × ((length p ≡ size) × IsMatch ts (drop at text) p)) → (run ≡ 0) ⊎ ReadsTo ts text at (at + run)
        by_order (inl above) _ =
            inr (open_reads w d ts ps walks trim h text at run (IsUtf8-take (drop at text) run (IsUtf8-drop text at utf8 here) paid.boundary) (paid.is_open above))
        by_order (inr below) (inl none) = inl (omega arith)
        by_order (inr below) (inr (p, (same, m))) =
            let whole : length p ≡ run = omega (arith, same, below, paid.past) in
            inr (subst (λ (n : ℕ). ReadsTo ts text at (at + n)) whole (match_reads ts text p at m))

    first : (n : ℕ) × ((far ≤ n) × IsRead ts text to n)
    first = read_to ts text at to far le there is.read

    second : (n : ℕ) × ((first.0 ≤ n) × (at + run ≤ n) × IsRead ts text to n)
    second = read_from ts text at to first.0 run le here (IsCharBoundary-from_rest text at run within paid.boundary) begun first.1.1

    earlier : (x : ℕ × (ℕ × ℕ)) → IsNew w old mid mode begin text far x → IsNew w old new mode begin text second.0 x
    earlier x = new_more w old mid new mode begin text far second.0 x stays (omega (arith, first.1.0, second.1.0))

    later : (x : ℕ × (ℕ × ℕ)) → IsNew w mid new mode (begin + at) (drop at text) run x → IsNew w old new mode begin text second.0 x
    later x = new_before w old mid new mode begin at run second.0 text x within second.1.1 knew

    -- the later ones were not known before
    apart : (x : ℕ × (ℕ × ℕ)) → Contains xs x → ¬ Contains ys x
    apart x a b =
        let left = All-contains (IsNew w old mid mode begin text far) xs x is.each a in
        let right = All-contains (IsNew w mid new mode (begin + at) (drop at text) run) ys x paid.each b in
        right.unknown left.known

-- what a run costs is told at another place, if the text there is the same
pub run_there : (w : Walker) (old new : Memo) (mode begin k at size before after far : ℕ) (text part : List ℕ) (news : List (ℕ × (ℕ × ℕ))) → part ≡ drop k text → k ≡ at
    → IsRunPaid w old new mode (begin + k) part size before after news far → IsRunPaid w old new mode (begin + at) (drop at text) size before after news far
run_there w old new mode begin k at size before after far text part news is same paid =
    subst (λ (n : ℕ). IsRunPaid w old new mode (begin + n) (drop n text) size before after news far) same
    (subst (λ (t : List ℕ). IsRunPaid w old new mode (begin + k) t size before after news far) is paid)

-- ---- the piece

-- a token: the walk to its match, from the beginning on
pub token_paid : (w : Walker) (d : List Row) (ts : List Tree) (ps : List ℕ) (old mid new : Memo) (mode begin : ℕ) (text : List ℕ) (f : Front) (at start before after far run : ℕ) (p : List ℕ)
    (xs ys : List (ℕ × (ℕ × ℕ))) → IsWalkerOf w d → IsTrim d → RecognizesAll d ts ps → IsUtf8 text → IsCharBoundary text at → IsCharBoundary text (length p)
    → ((m p e : ℕ) → IsKnown old m p e → IsKnown mid m p e) → ((m p e : ℕ) → IsKnown mid m p e → IsKnown new m p e) → at ≡ 0 → f.size ≡ length p → 0 < length p → IsMatch ts (drop at text) p
    → IsWalked w ts old mid mode begin text at xs far → before ≤ start + 134 * at + 128 * length xs → IsRunPaid w mid new mode (begin + at) (drop at text) (length p) before after ys run
    → (news : List (ℕ × (ℕ × ℕ))) × ((n : ℕ) × IsFrontPaid w ts ps old new mode begin text f start after news n)
token_paid w d ts ps old mid new mode begin text f at start before after far run p xs ys walks trim h utf8 here there knew stays zero same some m is cost paid = (
  xs ++ ys,
  (
    walked.0,
    record {
      boundary = walked.1.1.read.boundary;
      past = omega (arith, same, walked.1.1.read.past);
      reads = subst (λ (n : ℕ). (walked.0 ≡ n) ⊎ ((k : ℕ) × ((k ≤ n) × IsCharBoundary text k × ReadsTo ts text k walked.0))) (sym same) walked.1.1.read.reads;
      each = walked.1.1.each;
      distinct = walked.1.1.distinct;
      cost = (0, (inl refl, omega (arith, same, some, zero, cost, paid.cost, length-append xs ys)));
    },
  ),
)
  where
    walked : (n : ℕ) × ((at + run ≤ n) × IsWalked w ts old new mode begin text (length p) (xs ++ ys) n)
    walked =
        walked_more w d ts ps old mid new mode begin text at (length p) (length p) before after far run xs ys walks trim h utf8 here there (omega (arith, zero)) knew stays (inr (p, (refl, m))) is paid

-- a fault before a match, which the last run found: that is owed
pub fault_paid : (w : Walker) (d : List Row) (ts : List Tree) (ps : List ℕ) (old mid new : Memo) (mode begin : ℕ) (text : List ℕ) (f : Front) (at start before after far run i : ℕ) (p : List ℕ)
    (xs ys : List (ℕ × (ℕ × ℕ))) → IsWalkerOf w d → IsTrim d → RecognizesAll d ts ps → IsUtf8 text → IsCharBoundary text at
    → ((m p e : ℕ) → IsKnown old m p e → IsKnown mid m p e) → ((m p e : ℕ) → IsKnown mid m p e → IsKnown new m p e) → f.rule ≡ None → f.size ≡ at → 0 < at
    → IsLongest ts ps (drop at text) (Some (i, p)) → IsWalked w ts old mid mode begin text at xs far → before ≤ start + 134 * at + 128 * length xs
    → IsRunPaid w mid new mode (begin + at) (drop at text) (length p) before after ys run
    → (news : List (ℕ × (ℕ × ℕ))) × ((n : ℕ) × IsFrontPaid w ts ps old new mode begin text f start after news n)
fault_paid w d ts ps old mid new mode begin text f at start before after far run i p xs ys walks trim h utf8 here knew stays rule same some longest is cost paid = (
  xs ++ ys,
  (
    walked.0,
    record {
      boundary = walked.1.1.read.boundary;
      past = omega (arith, same, walked.1.1.read.past);
      reads = subst (λ (n : ℕ). (walked.0 ≡ n) ⊎ ((k : ℕ) × ((k ≤ n) × IsCharBoundary text k × ReadsTo ts text k walked.0))) (sym same) walked.1.1.read.reads;
      each = walked.1.1.each;
      distinct = walked.1.1.distinct;
      cost = (
        length p,
        (
          inr (rule, omega (arith, same, walked.1.0, paid.past), (i, (p, (refl, subst (λ (n : ℕ). IsLongest ts ps (drop n text) (Some (i, p))) (sym same) longest)))),
          omega (arith, same, some, cost, paid.cost, length-append xs ys),
        ),
      );
    },
  ),
)
  where
    walked : (n : ℕ) × ((at + run ≤ n) × IsWalked w ts old new mode begin text at (xs ++ ys) n)
    walked =
        walked_more w d ts ps old mid new mode begin text at at (length p) before after far run xs ys walks trim h utf8 here here (omega arith) knew stays (inr (p, (refl, longest.0))) is paid

-- a fault to the end
pub end_paid : (w : Walker) (ts : List Tree) (ps : List ℕ) (old new : Memo) (mode begin : ℕ) (text : List ℕ) (f : Front) (at start after far : ℕ) (xs : List (ℕ × (ℕ × ℕ)))
    → f.size ≡ at → IsWalked w ts old new mode begin text at xs far → after ≤ start + 134 * at + 128 * length xs → IsFrontPaid w ts ps old new mode begin text f start after xs far
end_paid w ts ps old new mode begin text f at start after far xs same is cost = record {
  boundary = is.read.boundary;
  past = omega (arith, same, is.read.past);
  reads = subst (λ (n : ℕ). (far ≡ n) ⊎ ((k : ℕ) × ((k ≤ n) × IsCharBoundary text k × ReadsTo ts text k far))) (sym same) is.read.reads;
  each = is.each;
  distinct = is.distinct;
  cost = (0, (inl refl, omega (arith, same, cost)));
}
