-- The walk along the numbers of a table: what holds after each character.
use Rattle.std.proofs.Common.{◌≡◌, ℕ, ◌+◌, ◌*◌, ◌/◌, ◌%◌, ◌-◌, ◌<◌, ◌≤◌, ⊎_elim, List, [], ◌∷◌, ◌++◌, length, take, drop, get_or, min, refl, sym, ap, subst, ◌∙◌, arith}
use Rattle.std.specs.Prelude.{slice_get, Option, Some, None}
use Rattle.std.specs.List.{All}
use Rattle.std.specs.Char.{encode_utf8, IsScalar}
use Rattle.std.specs.Str.{chars, IsUtf8}
use Rattle.std.proofs.lemmas.Bool.{cases_lt}
use Rattle.std.proofs.lemmas.Bool.Decides.{nat_tests}
use Rattle.std.proofs.lemmas.List.{get_or_read, length-take-le, take-append-drop}
use Rattle.std.proofs.lemmas.List.Elements.{All-push, All-nil}
use Rattle.std.proofs.lemmas.Str.{chars-nil, chars-append, len_utf8_bounds, length-encode}
use Rattle.lalrpop_hir.specs.Tree.{Tree}
use Rattle.lalrpop_hir.specs.Longest.{IsMatch, IsLongest}
use Rattle.lalrpop_hir.specs.Winners.{Matched, IsOnlyStrongest}
use Rattle.lalrpop_dfa.specs.Dfa.{Row, after, Recognizes, IsRightKind, IsReject}
use Rattle.lalrpop_dfa.specs.declared.Kind.{Kind}
use Rattle.lalrpop_dfa.specs.declared.Kind.TheVariants.{Accepts, Reject, Neither}
use Rattle.lalrpop_dfa.proofs.EdgeTargets.{the_some}
use Rattle.lalrpop_hir.proofs.TextWords.{text_word}
use Rattle.lalrpop_dfa.proofs.LongestLemmas.{IsLongestUpTo, longest_start, says_of, reject_at, none_after, done}
use Rattle.lalrpop_dense.specs.DenseTable.{TableNumbers, AreClasses, IsRowLike, IsTableFor, block_of_page, character_class, next_row, row_after}
use Rattle.lalrpop_emit.specs.Internal.Characters.{IsCharacterAt}
use Rattle.lalrpop_emit.specs.Internal.Walking.{IsWalkable, AreRulesBelow}
use Rattle.lalrpop_emit.proofs.ByteCuts.{IsRead, read_start, read_more, word_after, goes_on, ends_there, no_longer}

-- the first `at` bytes are whole characters, and lead from the start to the row
pub record IsWalked (t : TableNumbers) (text : List ℕ) (at row : ℕ) : Type 0 where
  pub read : IsRead text at
  pub word : All (λ c. c < 1114112) (chars (take at text))
  pub reached : row ≡ row_after t t.start (chars (take at text))

-- ---- classes and kinds

pub class_below : (t : TableNumbers) (c : ℕ) → AreClasses t → character_class t c < t.width
class_below t c h =
    let place = min (c / 128) (length t.pages - 1) in
    let page : place < length t.pages = omega (arith, h.some_page) in
    h.below (block_of_page t (c / 128) * 128 + c % 128) (omega (arith, h.whole_blocks place page))

kind_reject : (t : TableNumbers) (row : ℕ) (k : Kind) → IsRowLike t row k → row < t.live → k ≡ Reject
kind_reject t row (Accepts i) h l = absurd (omega (arith, h.0))
kind_reject t row Reject h l = refl
kind_reject t row Neither h l = absurd (omega (arith, h.0))

kind_neither : (t : TableNumbers) (row : ℕ) (k : Kind) → IsRowLike t row k → t.live ≤ row → row < t.accept → k ≡ Neither
kind_neither t row (Accepts i) h l m = absurd (omega (arith, h.1))
kind_neither t row Reject h l m = absurd (omega (arith, h))
kind_neither t row Neither h l m = refl

pub kind_accepts : (t : TableNumbers) (row : ℕ) (k : Kind) → IsRowLike t row k → t.live ≤ row → t.accept ≤ row → k ≡ Accepts (get_or t.cells (row + t.width) 0)
kind_accepts t row (Accepts i) h l m = ap (λ n. Accepts n) (sym h.2)
kind_accepts t row Reject h l m = absurd (omega (arith, h))
kind_accepts t row Neither h l m = absurd (omega (arith, h.1))

-- ---- one character more

row_push : (t : TableNumbers) (row : ℕ) (w : List ℕ) (c : ℕ) → row_after t row (w ++ c ∷ []) ≡ next_row t (row_after t row w) c
row_push t row [] c = refl
row_push t row (x ∷ w) c = row_push t (next_row t row x) w c

pub scalar_below : (c : ℕ) → IsScalar c → c < 1114112
scalar_below c is = grind (arith, nat_tests)

pub walked_start : (t : TableNumbers) (text : List ℕ) → IsWalked t text 0 t.start
walked_start t text = record {
  read = read_start text;
  word = subst (All (λ c. c < 1114112)) (sym chars-nil) (All-nil (λ c. c < 1114112));
  reached = ap (row_after t t.start) (sym chars-nil);
}

pub walked_more : (t : TableNumbers) (text : List ℕ) (at at2 row row2 c : ℕ) → IsWalked t text at row → IsCharacterAt text at c → at2 ≡ at + length (encode_utf8 c)
    → row2 ≡ next_row t row c → IsWalked t text at2 row2
walked_more t text at at2 row row2 c w h l e =
    let more : chars (take at2 text) ≡ chars (take at text) ++ c ∷ [] = word_after text at at2 c w.read h l in
    record {
      read = read_more text at at2 c w.read h l;
      word = subst (All (λ n. n < 1114112)) (sym more) (All-push (λ n. n < 1114112) (chars (take at text)) c w.word (scalar_below c h.scalar));
      reached = e ∙ ap (λ (n : ℕ). next_row t n c) w.reached ∙ sym (row_push t t.start (chars (take at text)) c) ∙ ap (row_after t t.start) (sym more);
    }

pub in_row : (t : TableNumbers) (text : List ℕ) (at row k : ℕ) → IsWalkable t → IsWalked t text at row → k ≤ t.width → row + k < length t.cells
in_row t text at row k h w l = omega (arith, w.reached, h.within (chars (take at text)) w.word)

-- the cell of the character's class is the next row
pub cell_read : (t : TableNumbers) (text : List ℕ) (at row class c row2 : ℕ) → IsWalkable t → IsWalked t text at row → class ≡ character_class t c → row2 ≡ get_or t.cells (row + class) row2
    → row2 ≡ next_row t row c
cell_read t text at row class c row2 h w k e =
    get_or_read t.cells (row + class) row2 (in_row t text at row class h w (omega (arith, k, class_below t c h.classes))) e 0
    ∙ ap (λ (n : ℕ). get_or t.cells (row + n) 0) k

pub character_size : (c : ℕ) → 0 < length (encode_utf8 c)
character_size c = omega (arith, length-encode c, len_utf8_bounds c)

-- ---- the state's row, and what it says

row_at : (t : TableNumbers) (d : List Row) (text : List ℕ) (at row : ℕ) → IsTableFor t d → IsWalked t text at row
    → (r : Row) × ((slice_get d (after d (chars (take at text))) ≡ Some r) × IsRowLike t row r.kind)
row_at t d text at row h w =
    let found = the_some (slice_get d (after d (chars (take at text)))) (λ r. IsRowLike t (row_after t t.start (chars (take at text))) r.kind) (h.alike (chars (take at text)) w.word) in
    (found.0, (found.1.0, subst (λ (n : ℕ). IsRowLike t n found.0.kind) (sym w.reached) found.1.1))

says : (d : List Row) (text : List ℕ) (at : ℕ) (k : Kind) (ts : List Tree) (ps : List ℕ) (r : Row) → IsUtf8 (take at text) → slice_get d (after d (chars (take at text))) ≡ Some r
    → r.kind ≡ k → Recognizes d ts ps → IsRightKind ts ps (chars (take at text)) k
says d text at k ts ps r utf8 e is s = says_of d ts ps (chars (take at text)) (after d (chars (take at text))) r r.kind k (text_word (take at text) utf8) s refl e refl is

-- ---- the longest match

-- what was read is accepted
accepted : (ts : List Tree) (ps text : List ℕ) (at i : ℕ) → IsRead text at → 0 < at → IsOnlyStrongest ts ps (chars (take at text)) i
    → IsLongestUpTo ts ps text at (Some (i, take at text))
accepted ts ps text at i r some only =
    let size : length (take at text) ≡ at = length-take-le at text r.within in (
      (
        (drop at text, (sym (take-append-drop at text), r.utf8)),
        λ none. let zero : length (take at text) ≡ 0 = ap length none in absurd (omega arith),
        (i, only.0.0),
      ),
      λ p q l. omega arith,
      (only.0, λ j t. omega (arith, only.1 j t)),
    )

pub walk_accepts : (t : TableNumbers) (d : List Row) (text : List ℕ) (at row : ℕ) → IsTableFor t d → IsWalked t text at row → 0 < at → t.live ≤ row → t.accept ≤ row
    → (ts : List Tree) (ps : List ℕ) → Recognizes d ts ps → IsLongestUpTo ts ps text at (Some (get_or t.cells (row + t.width) 0, take at text))
walk_accepts t d text at row h w some live accept ts ps s =
    let r = row_at t d text at row h w in
    accepted ts ps text at (get_or t.cells (row + t.width) 0) w.read some
    (says d text at (Accepts (get_or t.cells (row + t.width) 0)) ts ps r.0 w.read.utf8 r.1.0 (kind_accepts t row r.0.kind r.1.1 live accept) s)

-- one more character was read, and what was read doesn't match
no_match_with : (ts : List Tree) (text : List ℕ) (at at2 c : ℕ) (p : List ℕ) → IsRead text at → IsCharacterAt text at c → at2 ≡ at + length (encode_utf8 c)
    → ¬ Matched ts (chars (take at2 text)) → IsMatch ts text p → length p ≤ at2 → length p ≤ at
no_match_with ts text at at2 c p r h l not m below =
    ⊎_elim (λ (a : at < length p). absurd (not (subst (λ xs. Matched ts (chars xs)) (ends_there text at at2 c p r h l m.0 a below) m.2)))
    (λ (a : length p ≤ at). a)
    (cases_lt at (length p))

passed : (ts : List Tree) (ps text : List ℕ) (at at2 c : ℕ) (best : Option (ℕ × List ℕ)) → IsRead text at → IsCharacterAt text at c → at2 ≡ at + length (encode_utf8 c)
    → ¬ Matched ts (chars (take at2 text)) → IsLongestUpTo ts ps text at best → IsLongestUpTo ts ps text at2 best
passed ts ps text at at2 c None r h l not up = λ p m below. up p m (no_match_with ts text at at2 c p r h l not m below)
passed ts ps text at at2 c (Some best) r h l not up = (up.0, λ p m below. up.1 p m (no_match_with ts text at at2 c p r h l not m below), up.2)

pub walk_passes : (t : TableNumbers) (d : List Row) (text : List ℕ) (at at2 row row2 c : ℕ) (best : Option (ℕ × List ℕ)) → IsTableFor t d → IsWalked t text at row → IsWalked t text at2 row2
    → IsCharacterAt text at c → at2 ≡ at + length (encode_utf8 c) → t.live ≤ row2 → row2 < t.accept → (ts : List Tree) (ps : List ℕ) → Recognizes d ts ps → IsLongestUpTo ts ps text at best
    → IsLongestUpTo ts ps text at2 best
walk_passes t d text at at2 row row2 c best h w w2 here l live accept ts ps s up =
    let r = row_at t d text at2 row2 h w2 in
    passed ts ps text at at2 c best w.read here l (says d text at2 Neither ts ps r.0 w2.read.utf8 r.1.0 (kind_neither t row2 r.0.kind r.1.1 live accept) s) up

-- the row is dead: no longer prefix matches
pub walk_rejects : (t : TableNumbers) (d : List Row) (text : List ℕ) (at at2 row row2 c : ℕ) (best : Option (ℕ × List ℕ)) → IsTableFor t d → IsWalked t text at row → IsWalked t text at2 row2
    → IsCharacterAt text at c → at2 ≡ at + length (encode_utf8 c) → row2 < t.live → (ts : List Tree) (ps : List ℕ) → Recognizes d ts ps → IsLongestUpTo ts ps text at best
    → IsLongest ts ps text best
walk_rejects t d text at at2 row row2 c best h w w2 here l low ts ps s up =
    let p2 = after d (chars (take at2 text)) in
    let r = row_at t d text at2 row2 h w2 in
    let kind : r.0.kind ≡ Reject = kind_reject t row2 r.0.kind r.1.1 low in
    let dead : IsReject d p2 = reject_at d p2 r.0 r.0.kind r.1.0 refl kind in
    done ts ps text at2 best
    (λ p m.
    ⊎_elim (λ (above : at2 < length p).
    let g = goes_on text at2 p w2.read m.0 (omega arith) in
    let word : chars p ≡ chars (take at2 text) ++ chars g.more = ap chars g.is ∙ chars-append (take at2 text) g.more w2.read.utf8 in
    absurd (none_after d ts ps (chars (take at2 text)) (chars g.more) p2 (text_word (take at2 text) w2.read.utf8) (text_word g.more g.utf8) s refl dead (subst (Matched ts) word m.2)))
    (λ (below : length p ≤ at2). below)
    (cases_lt at2 (length p)))
    (passed ts ps text at at2 c best w.read here l (says d text at2 Reject ts ps r.0 w2.read.utf8 r.1.0 kind s) up)

-- no character is next: no longer prefix is UTF-8
pub walk_stops : (t : TableNumbers) (text : List ℕ) (at row : ℕ) (best : Option (ℕ × List ℕ)) → IsWalked t text at row → ((c : ℕ) → ¬ IsCharacterAt text at c)
    → (ts : List Tree) (ps : List ℕ) → IsLongestUpTo ts ps text at best → IsLongest ts ps text best
walk_stops t text at row best w none ts ps up = done ts ps text at best (λ p m. no_longer text at p w.read none m.0) up

-- ---- a step along the rest of a text from a start on

pub record Step (t : TableNumbers) (text : List ℕ) (start at at2 row2 c : ℕ) : Type 0 where
  pub here : IsCharacterAt (drop start text) (at - start) c
  pub place : at2 - start ≡ (at - start) + length (encode_utf8 c)
  pub walked : IsWalked t (drop start text) (at2 - start) row2
  pub further : at < at2
  pub within : at2 ≤ length text

pub walked_first : (t : TableNumbers) (text : List ℕ) (n : ℕ) → n ≡ 0 → IsWalked t text n t.start
walked_first t text n e = subst (λ (k : ℕ). IsWalked t text k t.start) (sym e) (walked_start t text)

pub longest_first : (ts : List Tree) (ps text : List ℕ) (n : ℕ) → n ≡ 0 → IsLongestUpTo ts ps text n None
longest_first ts ps text n e = subst (λ (k : ℕ). IsLongestUpTo ts ps text k None) (sym e) (longest_start ts ps text)

-- the rule of an accepting row is among the first `count`
pub rule_below : (t : TableNumbers) (text : List ℕ) (at row rule count : ℕ) → AreRulesBelow t count → IsWalked t text at row → t.live ≤ row → t.accept ≤ row
    → rule ≡ get_or t.cells (row + t.width) 0 → rule < count
rule_below t text at row rule count below w live accept is =
    subst (λ (n : ℕ). n < count) (sym is)
    (subst (λ (n : ℕ). t.live ≤ n → t.accept ≤ n → get_or t.cells (n + t.width) 0 < count) (sym w.reached) (below (chars (take at text)) w.word) live accept)
