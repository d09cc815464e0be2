-- How a text in memory ends, by what a lexer knows.
use Rattle.std.proofs.Common.{◌≡◌, ◌≢◌, ℕ, zero, suc, ◌+◌, ◌≤◌, ◌<◌, ◌⊎◌, Bool, true, false, cond, List, [], ◌∷◌, ◌++◌, Some, None, inl, inr, length, take, drop, refl, sym, ap, ◌∙◌, subst, append-nil, append_assoc, length-append, arith}
use Rattle.std.specs.Prelude.{Option, is_some, slice_get}
use Rattle.std.specs.Bool.{then_some}
use Rattle.std.specs.Borrow.{Bor}
use Rattle.std.specs.Io.KnownBytes.{Consumes, IsAtEnd}
use Rattle.std.specs.Str.{IsUtf8, bytes_eq, chars, encode_utf8_all}
use Rattle.std.specs.Char.{encode_utf8}
use Rattle.std.proofs.iter.TextItems.{one_code}
use Rattle.std.proofs.lemmas.List.{take-append-drop, take-append-le, take_at, drop_at}
use Rattle.std.proofs.lemmas.Slice.Eq.{bytes_eq-Decides}
use Rattle.std.proofs.lemmas.Str.{IsUtf8-append, IsUtf8-encode, IsUtf8-nil, chars-append}
use Rattle.std.proofs.lemmas.Bool.{cases_order}
use Rattle.lalrpop_hir.specs.Prefix.{IsPrefix}
use Rattle.bajofeki_rules.specs.Stack.{Stack, start}
use Rattle.bajofeki_rules.specs.declared.action.Action.{Action}
use Rattle.bajofeki_rules.specs.declared.position.Position.{Position}
use Rattle.bajofeki_rules.specs.Position.{byte_place_of}
use Rattle.bajofeki.specs.Chunked.{Chunked, BeginsFault, Came}
use Rattle.bajofeki.specs.Begun.{NoCharacter}
use Rattle.bajofeki.proofs.ChunkLaws.{came_rest, came_to, fault_follows}
use Rattle.bajofeki.proofs.Chunking.{ArePiecesTo, begin_all}
use Rattle.lalrpop_rule_file.specs.RuleFile.{without_mark}
use Rattle.lalrpop_rules.specs.Modes.{ModeRules, ArePiecesFrom, after, trees_in}
use Rattle.lalrpop_rules.specs.Pieces.{AreSame, IsSame, joined, slice_of, start_of}
use Rattle.lalrpop_rules.specs.declared.piece.Piece.{Piece}
use Rattle.lalrpop_rules.specs.declared.piece.Piece.TheVariants.{Token, Skipped, Fault}
use Rattle.lalrpop_rules.proofs.ModePieces.{pieces-from-unique, same_after}
use Rattle.lalrpop_rules.proofs.PieceLaws.{is_front, utf8_behind}
use Rattle.lalrpop_rules.proofs.CallerLaws.{starts_at}
use Rattle.lexdfa_lib.specs.Streams.{AtEnd, EndsReading, ReadEnd, Reading, Reads, Stream, opened}
use Rattle.reports_lib.specs.Answer.{Answer}
use Rattle.reports_lib.specs.PieceLines.{fault_line, line_at, line_in, mode_named, name_at, piece_line, piece_lines}
use Rattle.lexdfa_lib.specs.declared.layout.LineForm.{LineForm}
use Rattle.pieces_lib.specs.CutEnds.{AreGiven, IsCutTo, IsFound, IsFoundNext, first_fault}
use Rattle.pieces_lib.specs.OpenModes.{open_after, open_behind, open_mode}
use Rattle.pieces_lib.specs.TextAnswer.{PiecesAnswer, cut_status, cut_text, lines_of}
use Rattle.pieces_lib.specs.declared.cut_end.CutEnd.{CutEnd}
use Rattle.pieces_lib.specs.declared.cut_end.CutEnd.TheVariants.{Whole, Stopped, Unread}
use Rattle.pieces_lib.specs.declared.cut_end.Found.{Found}
use Rattle.pieces_lib.specs.declared.cut_end.Found.TheVariants.{Character, Byte}
use Rattle.pieces_lib.specs.declared.cut_end.OpenMode.{OpenMode}
use Rattle.pieces_lib.proofs.CutLaws.{place_stays, place_within}
use Rattle.uses_programs.specs.Endings.{AreAllPieces, TextEnds, Way, cut_answer, whole_end}

-- ---- pieces that are the same

same_fault : (xs ys : List Piece) → AreSame xs ys → first_fault xs ≡ first_fault ys
same_fault [] [] same = refl
same_fault (Token a ∷ xs) (Token b ∷ ys) same = same_fault xs ys same.1
same_fault (Skipped a ∷ xs) (Skipped b ∷ ys) same = same_fault xs ys same.1
same_fault (Fault at slice ∷ xs) (Fault to piece ∷ ys) same = ap Some same.0.0
same_fault (x ∷ xs) (y ∷ ys) same = absurd same.0
same_fault xs ys same = absurd same

same_opened : (actions : List (List Action)) (x y : Piece) (begins : List ℕ) → IsSame x y → open_after actions x begins ≡ open_after actions y begins
same_opened actions (Token a) (Token b) begins same =
    ap (λ (i : ℕ). open_after actions (Token (record a { index = i })) begins) same.0 ∙ ap (λ (n : ℕ). open_after actions (Token (record b { start = n })) begins) same.1
same_opened actions (Skipped a) (Skipped b) begins same =
    ap (λ (i : ℕ). open_after actions (Skipped (record a { index = i })) begins) same.0 ∙ ap (λ (n : ℕ). open_after actions (Skipped (record b { start = n })) begins) same.1
same_opened actions (Fault at slice) (Fault to piece) begins same = refl
same_opened actions x y begins same = absurd same

same_open : (actions : List (List Action)) (xs ys : List Piece) (begins : List ℕ) → AreSame xs ys → open_behind actions xs begins ≡ open_behind actions ys begins
same_open actions [] [] begins same = refl
same_open actions (x ∷ xs) (y ∷ ys) begins same =
    same_open actions xs ys (open_after actions x begins) same.1 ∙ ap (λ (l : List ℕ). open_behind actions ys l) (same_opened actions x y begins same.0)
same_open actions xs ys begins same = absurd same

module _ (form : LineForm) (recovers : Bool) (file : Option (List ℕ)) (modes : List (List ℕ)) (r : ModeRules) (text : List ℕ) where
  same_line : (mode : Option (List ℕ)) (x y : Piece) → IsSame x y → piece_line form recovers file r.names mode text x ≡ piece_line form recovers file r.names mode text y
  same_line mode (Token a) (Token b) same =
      let of : ℕ → ℕ → List ℕ → List ℕ = λ i n slice. line_at form file text n (Some (name_at r.names i)) mode slice in
      ap (λ (i : ℕ). of i a.start a.slice.now) same.0 ∙ ap (λ (n : ℕ). of b.index n a.slice.now) same.1 ∙ ap (of b.index b.start) same.2
  same_line mode (Skipped a) (Skipped b) same = refl
  same_line mode (Fault at slice) (Fault to piece) same =
      let of : ℕ → List ℕ → List ℕ = λ n bytes. fault_line recovers form file text n mode bytes in ap (λ (n : ℕ). of n slice.now) same.0 ∙ ap (of to) same.1
  same_line mode x y same = absurd same

  same_lines : (s : Stack) (xs ys : List Piece) → AreSame xs ys → piece_lines form recovers file modes r text s xs ≡ piece_lines form recovers file modes r text s ys
  same_lines s [] [] same = refl
  same_lines s (x ∷ xs) (y ∷ ys) same =
      let line = same_line (mode_named modes s.mode) x y same.0 in
      let behind = subst (λ (t : Stack). piece_lines form recovers file modes r text (after r.actions x s) xs ≡ piece_lines form recovers file modes r text t ys)
      (same_after r.actions x y s same.0) (same_lines (after r.actions x s) xs ys same.1) in
      cc (line, behind)
  same_lines s xs ys same = absurd same

module _ (form : LineForm) (file : Option (List ℕ)) (modes : List (List ℕ)) (r : ModeRules) (text more : List ℕ) where
  line_stays : (recovers : Bool) (mode : Option (List ℕ)) (x : Piece) → start_of x ≤ length text
      → piece_line form recovers file r.names mode (text ++ more) x ≡ piece_line form recovers file r.names mode text x
  line_stays recovers mode (Token token) le = ap (λ (p : Position). line_in form file p token.start (Some (name_at r.names token.index)) mode token.slice.now) (place_stays text more token.start le)
  line_stays recovers mode (Skipped token) le = refl
  line_stays true mode (Fault at slice) le = ap (λ (p : Position). line_in form file p at None mode slice.now) (place_stays text more at le)
  line_stays false mode (Fault at slice) le = refl

  -- what comes changes no line before a fault that begins in the text
  lines_stay : (recovers : Bool) (k : ℕ) (s : Stack) (xs ys : List Piece) (at : ℕ) (slice : Bor (List ℕ)) (end : Stack) → ArePiecesFrom r (text ++ more) k s (xs ++ Fault at slice ∷ ys) end
      → at ≤ length text → (k ≤ at) × (piece_lines form recovers file modes r (text ++ more) s xs ≡ piece_lines form recovers file modes r text s xs)
  lines_stay recovers k s [] ys at slice end pieces le =
      let here : at ≡ k = pieces.0.0 in (omega (arith, here), refl)
  lines_stay recovers k s (x ∷ xs) ys at slice end pieces le =
      let rest = lines_stay recovers (k + length (slice_of x)) (after r.actions x s) xs ys at slice end pieces.1 le in
      let begin = starts_at (trees_in r s.mode) r.precedences r.skips (text ++ more) k x pieces.0 in
      let line = line_stays recovers (mode_named modes s.mode) x (omega (arith, begin, rest.0, le)) in
      (omega (arith, rest.0), cc (line, rest.1))

-- ---- what is found at the front of some bytes

-- of two beginnings of one text, one begins the other
shorter : (p q r s : List ℕ) → p ++ r ≡ q ++ s → length p ≤ length q → (more : List ℕ) × (q ≡ p ++ more)
shorter p q r s same less = (drop (length p) q, sym (take-append-drop (length p) q) ∙ ap (λ (l : List ℕ). l ++ drop (length p) q) front)
  where
    front : take (length p) q ≡ p
    front = sym (take-append-le (length p) q s less) ∙ ap (take (length p)) (sym same) ∙ take_at p r (length p) refl

-- a text of one character that begins another of one has the same
same_character : (p q r s : List ℕ) (c d : ℕ) → p ++ r ≡ q ++ s → length p ≤ length q → IsUtf8 p → chars p ≡ c ∷ [] → chars q ≡ d ∷ [] → c ≡ d
same_character p q r s c d same less utf8 is of =
    let longer = shorter p q r s same less in
    let both : c ∷ chars longer.0 ≡ d ∷ [] = ap (λ (l : List ℕ). l ++ chars longer.0) (sym is) ∙ sym (chars-append p longer.0 utf8) ∙ ap chars (sym longer.1) ∙ of in
    cc (both)

-- there is a byte of a character
some_of_one : (p : List ℕ) (c : ℕ) → chars p ≡ c ∷ [] → p ≢ []
unfolding chars
some_of_one p c is none = let e : [] ≡ c ∷ [] = sym (ap chars none) ∙ is in cc (e)

some_length : (p : List ℕ) → p ≢ [] → 0 < length p
some_length [] some = absurd (some refl)
some_length (b ∷ p) some = omega arith

no_character_there : (bytes p : List ℕ) (c : ℕ) → NoCharacter bytes → IsPrefix p bytes → chars p ≡ c ∷ [] → ⊥
no_character_there bytes p c none (rest, (is, utf8)) one =
    none (length p) (some_length p (some_of_one p c one)) (omega (arith, ap length is, length-append p rest))
    (subst IsUtf8 (sym (ap (take (length p)) is ∙ take_at p rest (length p) refl)) utf8)

-- it is one
one_found : (bytes : List ℕ) (x y : Found) → IsFound bytes x → IsFound bytes y → x ≡ y
one_found bytes (Character c) (Character d) (p, ((r, (is, utf8)), one)) (q, ((s, (too, utf8_too)), other)) = elim (le_or (length p) (length q)) [
  | inl less ↦ ap Character (same_character p q r s c d (sym is ∙ too) less utf8 one other)
  | inr more ↦ ap Character (sym (same_character q p s r d c (sym too ∙ is) more utf8_too other one))
]
  where
    le_or : (n m : ℕ) → (n ≤ m) ⊎ (m ≤ n)
    le_or n m = elim (cases_order n m) [
      | inl same ↦ inl (omega (arith, same))
      | inr other ↦ elim other [ inl less ↦ inl (omega (arith, less)) | inr more ↦ inr (omega (arith, more)) ]
    ]
one_found bytes (Character c) (Byte b) (p, (prefix, one)) (none, is) = absurd (no_character_there bytes p c none prefix one)
one_found bytes (Byte b) (Character c) (none, is) (p, (prefix, one)) = absurd (no_character_there bytes p c none prefix one)
one_found bytes (Byte b) (Byte d) (none, (r, is)) (too, (s, so)) = let both : b ∷ r ≡ d ∷ s = sym is ∙ so in ap Byte (cc (both))

-- ---- a text after the bytes that were read

by_test : (b : Bool) {P : Type 0} → (b ≡ true → P) → (b ≡ false → P) → P
by_test true is_so not_so = is_so refl
by_test false is_so not_so = not_so refl

by_list : (l : List ℕ) {P : Type 0} → (l ≡ [] → P) → (l ≢ [] → P) → P
by_list [] none some = none refl
by_list (x ∷ l) none some = some (λ is. cc (is))

abbrev mark : List ℕ
mark = 239 ∷ 187 ∷ 191 ∷ []

marked : (bytes : List ℕ) → bytes_eq (take 3 bytes) mark ≡ true → bytes ≡ mark ++ drop 3 bytes
marked bytes is_so = sym (take-append-drop 3 bytes) ∙ ap (λ (l : List ℕ). l ++ drop 3 bytes) ((bytes_eq-Decides (take 3 bytes) mark).0 is_so)

mark_is : encode_utf8 65279 ≡ mark
unfolding encode_utf8
mark_is = refl

-- a text that begins a mark, and isn't empty, is all of it
whole_mark : (cs p rest : List ℕ) → encode_utf8_all cs ≡ p → p ≢ [] → p ++ rest ≡ mark → (behind : List ℕ) × (p ≡ mark ++ behind)
whole_mark [] p rest is some all = absurd (some (sym is))
whole_mark (c ∷ cs) p rest is some all =
    let begin : encode_utf8 c ++ (encode_utf8_all cs ++ rest) ≡ encode_utf8 65279 ++ [] =
    sym (append_assoc (encode_utf8 c) (encode_utf8_all cs) rest) ∙ ap (λ (l : List ℕ). l ++ rest) is ∙ all ∙ sym mark_is ∙ sym (append-nil (encode_utf8 65279)) in
    let same : c ≡ 65279 = (one_code c 65279 (encode_utf8_all cs ++ rest) [] begin).0 in
    (encode_utf8_all cs, sym is ∙ ap (λ (l : List ℕ). l ++ encode_utf8_all cs) (ap encode_utf8 same ∙ mark_is))

-- so none is shorter
no_short_mark : (p rest : List ℕ) → IsUtf8 p → p ≢ [] → p ++ rest ≡ mark → length p < 3 → ⊥
no_short_mark p rest utf8 some is short =
    let whole = whole_mark utf8.0 p rest utf8.1.1 some is in omega (arith, short, ap length whole.1, length-append mark whole.0)

utf8_of_mark : IsUtf8 mark
utf8_of_mark = subst IsUtf8 mark_is (IsUtf8-encode 65279 refl)

-- pieces of a text are text
joined_utf8 : (r : ModeRules) (text : List ℕ) (at : ℕ) (s : Stack) (xs : List Piece) (to : ℕ) (t : Stack) → IsUtf8 (drop at text) → ArePiecesTo r text at s xs to t
    → IsUtf8 (joined xs)
joined_utf8 r text at s [] to t utf8 are = IsUtf8-nil
joined_utf8 r text at s (x ∷ xs) to t utf8 are =
    let front = is_front (trees_in r s.mode) r.precedences r.skips text at x utf8 are.0 in
    IsUtf8-append (slice_of x) (joined xs) front.1.1
    (joined_utf8 r text (at + length (slice_of x)) (after r.actions x s) xs to t (utf8_behind text at (slice_of x) utf8 front) are.1)

-- what stops in the bytes that were read begins no byte order mark
module _ (r : ModeRules) (bytes : List ℕ) (xs : List Piece) (k : Chunked) (found : Found) (came : Came r bytes xs k) (goes : k.is_ended ≡ false) (some : k.rest ≢ [])
    (next : IsFoundNext k found) where
  may : (more : List ℕ) → k.is_ended ≡ true → more ≡ []
  may more over = absurd (let e : true ≡ false = sym over ∙ goes in cc (e))

  short_joined : length bytes < 3 → length (joined xs) < 3
  short_joined short = omega (arith, short, ap length (came_rest r bytes xs k came).0, length-append (joined xs) k.rest)

  by_found : (f : Found) → IsFound k.rest f → IsFound mark f → length k.rest < 3 → (more : List ℕ) → k.rest ++ more ≡ mark → ⊥
  by_found (Character c) (p, ((rest, (is, utf8)), one)) of_mark short more whole =
      no_short_mark p (rest ++ more) utf8 (some_of_one p c one) (sym (append_assoc p rest more) ∙ ap (λ (l : List ℕ). l ++ more) (sym is) ∙ whole)
      (omega (arith, short, ap length is, length-append p rest))
  by_found (Byte b) own (none, is) short more whole = none 3 (omega arith) (omega arith) utf8_of_mark

  begins_no_mark : (more : List ℕ) → bytes ++ more ≡ mark → length bytes < 3 → ⊥
  begins_no_mark more whole short =
      let so_far = (came_rest r bytes xs k came).0 in
      let all : joined xs ++ (k.rest ++ more) ≡ mark = sym (append_assoc (joined xs) k.rest more) ∙ ap (λ (l : List ℕ). l ++ more) (sym so_far) ∙ whole in
      let utf8 = joined_utf8 r (bytes ++ more) 0 start xs k.at k.stack (subst IsUtf8 (sym whole) utf8_of_mark) (came_to r bytes xs k came more (may more)) in
      by_list (joined xs)
      (λ none.
      let rest_is : k.rest ++ more ≡ mark = ap (λ (l : List ℕ). l ++ (k.rest ++ more)) (sym none) ∙ all in
      let own : IsFound k.rest found = subst (λ (l : List ℕ). IsFound l found) (append-nil k.rest) (next [] (may [])) in
      by_found found own (subst (λ (l : List ℕ). IsFound l found) rest_is (next more (may more)))
      (omega (arith, short, ap length so_far, length-append (joined xs) k.rest)) more rest_is)
      (λ full. no_short_mark (joined xs) (k.rest ++ more) utf8 full all (short_joined short))

-- so the text goes on as the bytes do
settled : (bytes more : List ℕ) → ((tail : List ℕ) → bytes ++ tail ≡ mark → length bytes < 3 → ⊥) → without_mark (bytes ++ more) ≡ without_mark bytes ++ more
settled bytes more no_mark = by_test (bytes_eq (take 3 bytes) mark)
    (λ is_so. subst (λ (s : List ℕ). without_mark (s ++ more) ≡ without_mark s ++ more) (sym (marked bytes is_so)) refl)
    (λ not_so. ap (λ (b : Bool). cond b (drop 3 (bytes ++ more)) (bytes ++ more)) (still not_so) ∙ ap (λ (l : List ℕ). l ++ more) (sym (ap (λ (b : Bool). cond b (drop 3 bytes) bytes) not_so)))
  where
    still : bytes_eq (take 3 bytes) mark ≡ false → bytes_eq (take 3 (bytes ++ more)) mark ≡ false
    still not_so = by_test (bytes_eq (take 3 (bytes ++ more)) mark) (λ is_so. absurd (by_size is_so (cases_order (length bytes) 3))) (λ same. same)
      where
        is_front : bytes_eq (take 3 (bytes ++ more)) mark ≡ true → 3 ≤ length bytes → bytes_eq (take 3 bytes) mark ≡ true
        is_front is_so long = ap (λ (l : List ℕ). bytes_eq l mark) (sym (take-append-le 3 bytes more long)) ∙ is_so

        true_not : bytes_eq (take 3 bytes) mark ≡ true → ⊥
        true_not is_so = let e : true ≡ false = sym is_so ∙ not_so in cc (e)

        by_size : bytes_eq (take 3 (bytes ++ more)) mark ≡ true → (length bytes ≡ 3) ⊎ ((length bytes < 3) ⊎ (3 < length bytes)) → ⊥
        by_size is_so (inr (inl short)) =
            let whole = marked (bytes ++ more) is_so in
            let longer = shorter bytes mark more (drop 3 (bytes ++ more)) whole (omega (arith, short)) in
            no_mark longer.0 (sym longer.1) short
        by_size is_so (inl same) = true_not (is_front is_so (omega (arith, same)))
        by_size is_so (inr (inr longer)) = true_not (is_front is_so (omega (arith, longer)))

-- ---- what memory gives

some_read : (all bytes : List ℕ) (left : Option (List ℕ)) → Consumes (Some all) left bytes → (rest : List ℕ) × ((all ≡ bytes ++ rest) × (IsAtEnd left → rest ≡ []))
some_read all bytes None read = absurd read
some_read all bytes (Some ys) read = (ys, (read, λ end. end))

no_fault_behind : (x : Piece) (xs : List Piece) → first_fault (x ∷ xs) ≡ None → first_fault xs ≡ None
no_fault_behind (Token token) xs none = none
no_fault_behind (Skipped token) xs none = none
no_fault_behind (Fault at slice) xs none = absurd (cc (none))

-- pieces without a fault, after which one stands, are those before the first fault
first_there : (xs ys zs : List Piece) (at to : ℕ) (slice piece : Bor (List ℕ)) → first_fault xs ≡ None → first_fault zs ≡ None → AreSame zs (take (length zs) (xs ++ Fault at slice ∷ ys))
    → slice_get (xs ++ Fault at slice ∷ ys) (length zs) ≡ Some (Fault to piece) → AreSame zs xs × (at ≡ to)
first_there [] ys [] at to slice piece none its same is = (tt, cc (is))
first_there (Token token ∷ xs) ys [] at to slice piece none its same is = absurd (cc (is))
first_there (Skipped token ∷ xs) ys [] at to slice piece none its same is = absurd (cc (is))
first_there (Fault n bytes ∷ xs) ys [] at to slice piece none its same is = absurd (cc (none))
first_there [] ys (Token token ∷ zs) at to slice piece none its same is = absurd same.0
first_there [] ys (Skipped token ∷ zs) at to slice piece none its same is = absurd same.0
first_there [] ys (Fault n bytes ∷ zs) at to slice piece none its same is = absurd (cc (its))
first_there (x ∷ xs) ys (z ∷ zs) at to slice piece none its same is =
    let rest = first_there xs ys zs at to slice piece (no_fault_behind x xs none) (no_fault_behind z zs its) same.1 is in ((same.0, rest.0), rest.1)

empty_back : (front back : List ℕ) → front ++ back ≡ [] → (front ≡ []) × (back ≡ [])
empty_back [] back none = (refl, none)
empty_back (x ∷ front) back none = absurd (cc (none))

fault_at : (ys : List Piece) (k at : ℕ) (slice : Bor (List ℕ)) → slice_get ys k ≡ Some (Fault at slice) → first_fault ys ≢ None
fault_at [] k at slice is none = absurd (cc (is))
fault_at (Fault to piece ∷ ys) k at slice is none = cc (none)
fault_at (Token token ∷ ys) zero at slice is none = absurd (cc (is))
fault_at (Token token ∷ ys) (suc k) at slice is none = fault_at ys k at slice is none
fault_at (Skipped token ∷ ys) zero at slice is none = absurd (cc (is))
fault_at (Skipped token ∷ ys) (suc k) at slice is none = fault_at ys k at slice is none

fault_among : (xs ys : List Piece) (at : ℕ) (slice : Bor (List ℕ)) → first_fault (xs ++ Fault at slice ∷ ys) ≢ None
fault_among [] ys at slice none = cc (none)
fault_among (x ∷ xs) ys at slice none = fault_among xs ys at slice (no_fault_behind x (xs ++ Fault at slice ∷ ys) none)

none_found : (o : Option ℕ) → is_some o ≡ false → o ≡ None
none_found None e = refl
none_found (Some n) e = absurd (cc (e))

-- ---- how it ends

-- what is answered for a text in memory
abbrev pub CutsMemory : List ℕ → Way → ModeRules → List (List ℕ) → Answer → Type 0
CutsMemory text way r modes answer =
    (left : Stream) × ((reading : Reading) × (Reads (opened (Some text) false) left reading × PiecesAnswer r modes way.form way.recovers way.several way.file reading answer))

clean_end : (r : ModeRules) (modes : List (List ℕ)) (way : Way) (text : List ℕ) (xs : List Piece) (end : Stack) → first_fault xs ≡ None → open_behind r.actions xs [] ≡ []
    → cut_answer r modes way (without_mark text) xs (whole_end r text xs end) ≡ cut_answer r modes way (without_mark text) xs (Whole false None)
clean_end r modes way text xs end no_fault closed =
    let of : Option ℕ → List ℕ → Answer = λ o l. cut_answer r modes way (without_mark text) xs (Whole (is_some o) (open_mode (without_mark text) end.mode l)) in
    ap (λ (o : Option ℕ). of o (open_behind r.actions xs [])) no_fault ∙ ap (of None) closed

module _ (r : ModeRules) (modes : List (List ℕ)) (way : Way) (text : List ℕ) (left : Stream) (reading : Reading) (xs : List Piece)
    (reads : Reads (opened (Some text) false) left reading) where
  abbrev front : List ℕ
  front = without_mark reading.bytes

  -- what isn't read
  unread : (rest : List ℕ) × ((text ≡ reading.bytes ++ rest) × (reading.end ≡ AtEnd → rest ≡ []))
  unread =
      let more = some_read text reading.bytes left.bytes reads.0 in
      (more.0, (more.1.0, λ ends. let at_end = subst (λ (e : ReadEnd). EndsReading (opened (Some text) false) left e) ends reads.1 in more.1.1 at_end.1.1))

  abbrev more : List ℕ
  more = unread.0

  whole_text : reading.end ≡ AtEnd → without_mark text ≡ front
  whole_text ends = ap without_mark (unread.1.0 ∙ ap (λ (l : List ℕ). reading.bytes ++ l) (unread.1.1 ends) ∙ append-nil reading.bytes)

  -- by all its pieces, where it is cut whole
  is_whole : (has : Bool) (inside : Option OpenMode) → IsCutTo r way.recovers reading front xs (Whole has inside) → (ys : List Piece) (end : Stack) → AreAllPieces r text ys end
      → (has ≡ is_some (first_fault ys)) × (cut_answer r modes way front xs (Whole has inside) ≡ cut_answer r modes way (without_mark text) ys (whole_end r text ys end))
  is_whole has inside (ends, (last, (pieces, (has_is, (past, inside_is))))) ys end all =
      let own = whole_text ends in
      let same = pieces-from-unique r (without_mark text) 0 start xs ys last end (subst (λ (t : List ℕ). ArePiecesFrom r t 0 start xs last) (sym own) pieces) all in
      let fault : has ≡ is_some (first_fault ys) = has_is ∙ ap (λ (o : Option ℕ). is_some o) (same_fault xs ys same.0) in
      let open_at : inside ≡ open_mode (without_mark text) end.mode (open_behind r.actions ys []) =
      inside_is ∙ ap (λ (t : List ℕ). open_mode t last.mode (open_behind r.actions xs [])) (sym own)
      ∙ ap (λ (s : Stack). open_mode (without_mark text) s.mode (open_behind r.actions xs [])) same.1
      ∙ ap (λ (l : List ℕ). open_mode (without_mark text) end.mode l) (same_open r.actions xs ys [] same.0) in
      let lines_are = ap (λ (t : List ℕ). lines_of r modes way.form way.recovers way.several way.file t xs) (sym own)
      ∙ same_lines way.form way.recovers (then_some way.several way.file) modes r (without_mark text) start xs ys same.0 in
      let of : Bool → Option OpenMode → List ℕ → Answer = λ b o l. record { status = cut_status (Whole b o); out = l; err = cut_text modes way.file (Whole b o) } in
      let written = lines_of r modes way.form way.recovers way.several way.file front xs in
      let found = is_some (first_fault ys) in (
        fault,
        ap (λ (b : Bool). of b inside written) fault ∙ ap (λ (o : Option OpenMode). of found o written) open_at
            ∙ ap (of found (open_mode (without_mark text) end.mode (open_behind r.actions ys []))) lines_are,
      )

  -- by a fault, where cutting stops
  module _ (k : Chunked) (found : Found) (given : AreGiven r way.recovers reading front xs k) (begin : BeginsFault k) (next : IsFoundNext k found) where
    may_come : k.is_ended ≡ true → more ≡ []
    may_come over = unread.1.1 (given.ended over)

    goes_on : without_mark text ≡ front ++ more
    goes_on = by_test k.is_ended
        (λ over. whole_text (given.ended over) ∙ sym (append-nil front) ∙ ap (λ (l : List ℕ). front ++ l) (sym (may_come over)))
        (λ goes. ap without_mark unread.1.0 ∙ settled reading.bytes more (no_mark goes))
      where
        no_mark : k.is_ended ≡ false → (tail : List ℕ) → reading.bytes ++ tail ≡ mark → length reading.bytes < 3 → ⊥
        no_mark goes tail whole short =
            let plain : front ≡ reading.bytes = by_test (bytes_eq (take 3 reading.bytes) mark)
            (λ is_so. absurd (let size = ap length (marked reading.bytes is_so) in omega (arith, short, size, length-append mark (drop 3 reading.bytes))))
            (λ not_so. ap (λ (b : Bool). cond b (drop 3 reading.bytes) reading.bytes) not_so) in
            begins_no_mark r reading.bytes xs k found (subst (λ (t : List ℕ). Came r t xs k) plain given.came) goes begin.0 next tail whole short

    fault_there : (ys : List Piece) (end : Stack) → AreAllPieces r text ys end → (slice : Bor (List ℕ)) × (slice_get ys (length xs) ≡ Some (Fault k.at slice))
    fault_there ys end all =
        fault_follows r front xs k given.came begin more may_come ys end (subst (λ (t : List ℕ). ArePiecesFrom r t 0 start ys end) goes_on all)

    -- which is the first one
    stops_at : (stops : way.recovers ≡ false) (ys zs : List Piece) (at : ℕ) (slice : Bor (List ℕ)) (other : Found) (end : Stack)
        → AreAllPieces r text (ys ++ Fault at slice ∷ zs) end → first_fault ys ≡ None → IsFound (drop at (without_mark text)) other
        → cut_answer r modes way front xs (Stopped (byte_place_of front k.at) found)
        ≡ cut_answer r modes way (without_mark text) ys (Stopped (byte_place_of (without_mark text) at) other)
    stops_at stops ys zs at slice other end all none is_other =
        let so_far = came_rest r front xs k given.came in
        let pieces = subst (λ (t : List ℕ). ArePiecesFrom r t 0 start (ys ++ Fault at slice ∷ zs) end) goes_on all in
        let fault = fault_follows r front xs k given.came begin more may_come (ys ++ Fault at slice ∷ zs) end pieces in
        let to = came_to r front xs k given.came more may_come in
        let there = first_there ys zs xs at k.at slice fault.0 none (given.no_fault stops)
        (begin_all r (front ++ more) 0 start xs k.at k.stack (ys ++ Fault at slice ∷ zs) end to pieces) fault.1 in
        let within : at ≤ length front = omega (arith, there.1, place_within r front xs k given.came) in
        let stay = lines_stay way.form (then_some way.several way.file) modes r front more way.recovers 0 start ys zs at slice end pieces within in
        let lines_are = same_lines way.form way.recovers (then_some way.several way.file) modes r front start xs ys there.0 ∙ sym stay.1
        ∙ ap (λ (t : List ℕ). lines_of r modes way.form way.recovers way.several way.file t ys) (sym goes_on) in
        let place_at : byte_place_of front k.at ≡ byte_place_of (without_mark text) at =
        ap (λ (n : ℕ). byte_place_of front n) (sym there.1) ∙ sym (place_stays front more at within) ∙ ap (λ (t : List ℕ). byte_place_of t at) (sym goes_on) in
        let behind : drop at (without_mark text) ≡ k.rest ++ more =
        ap (drop at) goes_on ∙ ap (λ (l : List ℕ). drop at (l ++ more)) so_far.0 ∙ ap (drop at) (append_assoc (joined xs) k.rest more)
        ∙ drop_at (joined xs) (k.rest ++ more) at (sym (there.1 ∙ so_far.1)) in
        let one : found ≡ other = one_found (k.rest ++ more) found other (next more may_come) (subst (λ (l : List ℕ). IsFound l other) behind is_other) in
        let of : Position → Found → List ℕ → Answer = λ p f l. record { status = 1; out = l; err = cut_text modes way.file (Stopped p f) } in
        let place_now : Position = byte_place_of (without_mark text) at in
        let written = lines_of r modes way.form way.recovers way.several way.file front xs in
        ap (λ (p : Position). of p found written) place_at ∙ ap (λ (f : Found). of place_now f written) one ∙ ap (of place_now other) lines_are

  ends_of : (own : Answer) (ended : CutEnd) → IsCutTo r way.recovers reading front xs ended → own ≡ cut_answer r modes way front xs ended → TextEnds r modes way text own
  ends_of own (Whole has inside) cut is = record {
    clean = λ ys end all no_fault closed. is ∙ (is_whole has inside cut ys end all).1 ∙ clean_end r modes way text ys end no_fault closed;
    whole = λ ys end all past. is ∙ (is_whole has inside cut ys end all).1;
    faulty = λ ys zs at slice other end all none is_other stops.
        let found = (is_whole has inside cut (ys ++ Fault at slice ∷ zs) end all).0 in
        absurd (fault_among ys zs at slice (none_found (first_fault (ys ++ Fault at slice ∷ zs)) (sym found ∙ cut.1.1.1.1.0 stops)));
  }
  ends_of own (Stopped place found) (stops, (k, (given, (begin, (place_is, next))))) is =
      let fails : (ys : List Piece) (end : Stack) → AreAllPieces r text ys end → first_fault ys ≢ None = λ ys end all.
      let fault = fault_there k found given begin next ys end all in fault_at ys (length xs) k.at fault.0 fault.1 in
      let own_is : own ≡ cut_answer r modes way front xs (Stopped (byte_place_of front k.at) found) =
      is ∙ ap (λ (p : Position). cut_answer r modes way front xs (Stopped p found)) place_is in record {
        clean = λ ys end all no_fault closed. absurd (fails ys end all no_fault);
        whole = λ ys end all past. absurd (fails ys end all (past stops));
        faulty = λ ys zs at slice other end all none is_other still. own_is ∙ stops_at k found given begin next stops ys zs at slice other end all none is_other;
      }
  ends_of own Unread (failed, rest) is =
      let ends = subst (λ (e : ReadEnd). EndsReading (opened (Some text) false) left e) failed reads.1 in absurd (cc (ends.0))

-- how a text in memory ends
pub ends_so : (r : ModeRules) (modes : List (List ℕ)) (way : Way) (text : List ℕ) (own : Answer) → CutsMemory text way r modes own → TextEnds r modes way text own
ends_so r modes way text own (left, (reading, (reads, (xs, (ended, (cut, is)))))) = ends_of r modes way text left reading xs reads own ended cut is
