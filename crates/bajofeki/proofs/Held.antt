-- The run of a piece that is held back.
use Rattle.std.proofs.Common.{◌≡◌, ◌≢◌, ℕ, ◌+◌, ◌<◌, ◌≤◌, false, List, [], ◌∷◌, ◌++◌, inl, inr, length, take, drop, refl, sym, ap, subst, ◌∙◌, arith, length-append}
use Rattle.std.specs.Prelude.{Option, Some, IfSome, slice_get}
use Rattle.std.specs.Str.{chars, IsUtf8, IsCharBoundary}
use Rattle.std.proofs.Math.Seq.{take-append_seam, take-length}
use Rattle.std.proofs.lemmas.Bool.{cases_lt}
use Rattle.std.proofs.lemmas.List.{take-append-le, take-append-drop, length-take-le, take_all}
use Rattle.std.proofs.lemmas.Option.{IfSome_then}
use Rattle.std.proofs.lemmas.Str.{IsCharBoundary-from_take, IsUtf8-drop, chars-append, chars-nil}
use Rattle.lalrpop_hir.specs.Tree.{Tree}
use Rattle.lalrpop_hir.specs.Longest.{IsMatch}
use Rattle.lalrpop_hir.specs.Winners.{Matched}
use Rattle.lalrpop_hir.proofs.Cuts.{IsCut, cut_within}
use Rattle.lalrpop_dfa.specs.Dfa.{Row, RecognizesAll, IsRightKind}
use Rattle.lalrpop_dfa.specs.Lookahead.{IsTrim}
use Rattle.lalrpop_dfa.specs.declared.Kind.{Kind}
use Rattle.lalrpop_dfa.specs.declared.Kind.TheVariants.{Accepts, Reject, Neither}
use Rattle.lalrpop_lexer.proofs.Cuttings.{some_char, cut_behind}
use Rattle.lalrpop_rules.specs.Found.{NoMatchBefore}
use Rattle.lalrpop_rules.specs.Modes.{ModeRules}
use Rattle.bajofeki.specs.Lexed.{BeginsLonger}
use Rattle.bajofeki.specs.declared.held_run.HeldRun.{HeldRun}
use Rattle.bajofeki.specs.declared.parts.Part.{Part}
use Rattle.bajofeki.specs.declared.walker.Walker.{Walker}
use Rattle.bajofeki.specs.Internal.Held.{IsHeld, IsUnmatched}
use Rattle.bajofeki.specs.Internal.Noted.{GoesOn}
use Rattle.bajofeki.specs.Internal.Parts.{IsParted, text_in}
use Rattle.bajofeki.specs.Internal.Walking.{IsMet, IsWalkerOf, behind, says}
use Rattle.bajofeki.proofs.BytesLaws.{none_at}
use Rattle.bajofeki.proofs.Noting.{leads_to_longer, says_right}
use Rattle.bajofeki.proofs.PartLaws.{grown_more}
use Rattle.bajofeki.proofs.Walking.{met_behind, text_scalars}

-- where a run stands a text is cut in two
pub held_cut : (r : ModeRules) (mode : ℕ) (text : List ℕ) (h : HeldRun) → IsUtf8 text → IsHeld r mode text h → IsCut text h.read (drop h.read text)
held_cut r mode text h u held = record {
  split = sym (take-append-drop h.read text);
  place = length-take-le h.read text held.within;
  seen_utf8 = held.seen;
  rest_utf8 = IsUtf8-drop text h.read u (IsCharBoundary-from_take text h.read u held.within held.seen);
}

-- some word leads to the place where a run stands
pub cut_met : (w : Walker) (text : List ℕ) (at place : ℕ) → IsCut text at (drop at text) → place ≡ behind w (chars (take at text)) → IsMet w place
cut_met w text at place cut reached =
    subst (IsMet w) (sym reached) (met_behind w (chars (take at text)) (text_scalars (take at text) cut.seen_utf8))

pub cut_boundary : (text : List ℕ) (at : ℕ) → IsUtf8 text → IsCut text at (drop at text) → IsCharBoundary text at
cut_boundary text at u cut = IsCharBoundary-from_take text at u (omega (arith, cut_within text (drop at text) at cut)) cut.seen_utf8

-- one character more
pub unmatched_more : (w : Walker) (word : List ℕ) (c : ℕ) → IsUnmatched w word → ((i : ℕ) → ¬ (says w (behind w (word ++ c ∷ [])) ≡ Accepts i)) → IsUnmatched w (word ++ c ∷ [])
unmatched_more w word c before last n i some within accepts = elim (cases_lt (length word) n) [
  | inl longer ↦ (
      let all : take n (word ++ c ∷ []) ≡ word ++ c ∷ [] = take_all n (word ++ c ∷ []) (omega (arith, length-append word (c ∷ []), longer, within)) in
      last i (subst (λ (u : List ℕ). says w (behind w u) ≡ Accepts i) all accepts)
      )
  | inr short ↦ before n i some short (subst (λ (u : List ℕ). says w (behind w u) ≡ Accepts i) (take-append-le n word (c ∷ []) short) accepts)
]

pub unmatched_none : (w : Walker) → IsUnmatched w (chars [])
unmatched_none w n i some within = absurd (omega (arith, some, within, ap length chars-nil))

-- no place that accepts was met: nothing matches at the front of the text
module _ (w : Walker) (d : List Row) (ts : List Tree) (ps : List ℕ) (walks : IsWalkerOf w d) (recognizes : RecognizesAll d ts ps) where
  accepted : (u : List ℕ) (k : Kind) → IsRightKind ts ps u k → Matched ts u → (i : ℕ) × (k ≡ Accepts i)
  accepted u (Accepts i) right m = (i, refl)
  accepted u Reject right m = absurd (right m)
  accepted u Neither right m = absurd (right m)

  pub unmatched_front : (text : List ℕ) → IsUtf8 text → IsUnmatched w (chars text) → NoMatchBefore ts text 1
  unmatched_front text u none = none_at ts text (λ m. here m.0 m.1)
    where
      here : (p : List ℕ) → ¬ IsMatch ts text p
      here p m =
          let rest : List ℕ = m.0.0 in
          let word : chars text ≡ chars p ++ chars rest = ap chars m.0.1.0 ∙ chars-append p rest m.0.1.1 in
          let some : 0 < length (chars p) = some_char p m.0.1.1 m.1 in
          let front : take (length (chars p)) (chars text) ≡ chars p = ap (take (length (chars p))) word ∙ take-append_seam (chars p) (chars rest) in
          let is = accepted (chars p) (says w (behind w (chars p))) (says_right w d ts ps walks recognizes (chars p) (text_scalars p m.0.1.1)) m.2 in
          none (length (chars p)) is.0 some (omega (arith, ap length word, length-append (chars p) (chars rest)))
          (subst (λ (v : List ℕ). says w (behind w v) ≡ Accepts is.0) (sym front) is.1)

-- where all was read and some character leads on, some longer word matches
pub held_longer : (r : ModeRules) (mode : ℕ) (text : List ℕ) (h : HeldRun) (d : List Row) (ts : List Tree) (ps : List ℕ) → IsUtf8 text → IsHeld r mode text h
    → slice_get r.automata mode ≡ Some d → RecognizesAll d ts ps → IsTrim d → h.read ≡ length text → GoesOn h.walker h.place → BeginsLonger ts text
held_longer r mode text h d ts ps u held there recognizes trim all on =
    let whole : take h.read text ≡ text = ap (λ (n : ℕ). take n text) all ∙ take-length text in
    let place : h.place ≡ behind h.walker (chars text) = held.reached ∙ ap (λ (t : List ℕ). behind h.walker (chars t)) whole in
    leads_to_longer h.walker d ts ps (held.same d there) recognizes (chars text) trim (text_scalars text u) (subst (GoesOn h.walker) place on)

-- and if nothing has matched, nothing matches at its front
pub held_none : (r : ModeRules) (mode : ℕ) (text : List ℕ) (h : HeldRun) (d : List Row) (ts : List Tree) (ps : List ℕ) → IsUtf8 text → IsHeld r mode text h
    → slice_get r.automata mode ≡ Some d → RecognizesAll d ts ps → h.read ≡ length text → h.has_match ≡ false → NoMatchBefore ts text 1
held_none r mode text h d ts ps u held there recognizes all none =
    let whole : take h.read text ≡ text = ap (λ (n : ℕ). take n text) all ∙ take-length text in
    unmatched_front h.walker d ts ps (held.same d there) recognizes text u (subst (λ (t : List ℕ). IsUnmatched h.walker (chars t)) whole (held.nothing none))

-- and it stands there too where more has come
pub held_more : (r : ModeRules) (mode : ℕ) (text more : List ℕ) (h : HeldRun) → IsHeld r mode text h → IsHeld r mode (text ++ more) h
held_more r mode text more h held =
    let same : take h.read (text ++ more) ≡ take h.read text = take-append-le h.read text more held.within in record {
      right = held.right;
      same = held.same;
      within = omega (arith, held.within, length-append text more);
      seen = subst IsUtf8 (sym same) held.seen;
      reached = held.reached ∙ ap (λ (t : List ℕ). behind h.walker (chars t)) (sym same);
      nothing = λ none. subst (λ (t : List ℕ). IsUnmatched h.walker (chars t)) (sym same) (held.nothing none);
    }

pub held_met : (r : ModeRules) (mode : ℕ) (text : List ℕ) (h : HeldRun) → IsHeld r mode text h → IsMet h.walker h.place
held_met r mode text h held =
    subst (IsMet h.walker) (sym held.reached) (met_behind h.walker (chars (take h.read text)) (text_scalars (take h.read text) held.seen))

-- also where the part goes on
pub held_grown : (r : ModeRules) (mode : ℕ) (bytes chunk : List ℕ) (p q : Part) (held : Option HeldRun) → IsParted bytes p → q.from ≡ p.from → p.ends ≤ q.ends
    → IfSome held (IsHeld r mode (text_in bytes p)) → IfSome held (IsHeld r mode (text_in (bytes ++ chunk) q))
held_grown r mode bytes chunk p q held parted same on is =
    IfSome_then held is (λ h here. subst (λ (t : List ℕ). IsHeld r mode t h) (sym (grown_more bytes chunk p q parted same on)) (held_more r mode _ _ h here))
