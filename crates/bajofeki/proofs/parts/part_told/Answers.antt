use Rattle.std.proofs.Common.{◌≡◌, ◌⊎◌, ◌≤◌, ◌+◌, ℕ, List, drop, true, false, refl, inl, inr, arith, sym, ap, subst, ◌∙◌}
use Rattle.std.specs.Prelude.{None, IfSome}
use Rattle.std.proofs.lemmas.Bool.{cases_lt, lt-ltb}
use Rattle.lalrpop_rules.specs.Found.{NoMatchBefore}
use Rattle.lalrpop_rules.specs.Modes.{trees_in}
use Rattle.bajofeki.specs.declared.parts.Told.TheVariants.{Whole, Nothing, Open}
use Rattle.bajofeki.specs.Lexed.{BeginsLonger}
use Rattle.bajofeki.specs.Internal.Held.{IsHeld}
use Rattle.bajofeki.specs.Internal.Noted.{IsCutter}
use Rattle.bajofeki.specs.Internal.Parts.{Tells, size_in_fault, text_in}
use Rattle.bajofeki.proofs.Chunking.{cutter_behind}
use Rattle.bajofeki.proofs.PartLaws.{fault_given, given_by, longer_held, match_given, open_held, part_size, token_given, void_part, void_text, void_told}
use Rattle.bajofeki.proofs.parts.part_told.Goals as goal
use Rattle.bajofeki.proofs.parts.part_told.Goals.{then-is_ended, else-is_ended, else-is_match-via-then-is_match+else-from-gt0, else-is_match-via-else-is_match}

pub returns-then-is_held-clause-told : goal.returns-then-is_held-clause-told
returns-then-is_held-clause-told c =
    let ts = trees_in c.args.lexer.now c.args.mode in
    let ps = c.args.lexer.now.precedences in
    let bytes = c.args.bytes.now in
    let p = c.args.part.now in
    let is_last = c.if-is_ended.is_last in
    let last : is_last ≡ true → (p.is_bad ≡ true) ⊎ (c.args.is_ended ≡ true) =
    elim c.if-is_ended.branch [ then-is_ended w ↦ (λ _. inr w.if-is_ended.true) | else-is_ended w ↦ (λ is. inl (sym w.is_last-is ∙ is)) ] in
    let over : c.args.is_ended ≡ false =
    elim c.if-is_ended.branch [ then-is_ended w ↦ (let e = sym w.is_last-is ∙ c.if-not-is_last.true in absurd (cc)) | else-is_ended w ↦ w.if-is_ended.false ] in
    let good : p.is_bad ≡ false =
    elim c.if-is_ended.branch [ then-is_ended w ↦ (let e = sym w.is_last-is ∙ c.if-not-is_last.true in absurd (cc)) | else-is_ended w ↦ sym w.is_last-is ∙ c.if-not-is_last.true ] in (
      over,
      longer_held ts ps bytes p c.args.is_ended is_last c.requires.part last (subst (λ (t : List ℕ). BeginsLonger ts t) c.text-text.ensures.text (c.if-is_held.ensures.«open» refl))
          (λ some. subst (λ (t : List ℕ). NoMatchBefore ts t 1) c.text-text.ensures.text (c.if-is_held.ensures.none refl (lt-ltb 0 p.from some))) good,
    )

pub returns-then-from-gt0-clause-told : goal.returns-then-from-gt0-clause-told
returns-then-from-gt0-clause-told c =
    let ts = trees_in c.args.lexer.now c.args.mode in
    let ps = c.args.lexer.now.precedences in
    let bytes = c.args.bytes.now in
    let p = c.args.part.now in
    let is_last = c.if-is_ended.is_last in
    let last : is_last ≡ true → (p.is_bad ≡ true) ⊎ (c.args.is_ended ≡ true) =
    elim c.if-is_ended.branch [ then-is_ended w ↦ (λ _. inr w.if-is_ended.true) | else-is_ended w ↦ (λ is. inl (sym w.is_last-is ∙ is)) ] in
    let told = subst (λ (t : List ℕ). Tells ts ps t is_last (Open true c.in-Open.void)) c.text-text.ensures.text
    (subst (λ b. Tells ts ps c.text-text.result.now is_last (Open b c.in-Open.void)) c.if-is_match.true c.in-Open.ensures.told) in
    match_given ts ps bytes p c.args.is_ended is_last c.requires.part last c.in-Open.void told c.if-from-gt0.true

pub after_void-requires : goal.after_void-requires
after_void-requires c =
    let told = subst (λ (t : List ℕ). Tells (trees_in c.args.lexer.now c.args.mode) c.args.lexer.now.precedences t c.if-is_ended.is_last (Whole c.in-Whole.piece)) c.text-text.ensures.text c.in-Whole.ensures.told in
    omega (arith, told.0.0, part_size c.args.bytes.now c.args.part.now c.requires.part.parted, c.requires.part.parted.within, c.requires.fits)

pub returns-in-Whole-clause-told : goal.returns-in-Whole-clause-told
returns-in-Whole-clause-told c =
    let ts = trees_in c.args.lexer.now c.args.mode in
    let ps = c.args.lexer.now.precedences in
    let bytes = c.args.bytes.now in
    let p = c.args.part.now in
    let is_last = c.if-is_ended.is_last in
    let last : is_last ≡ true → (p.is_bad ≡ true) ⊎ (c.args.is_ended ≡ true) =
    elim c.if-is_ended.branch [ then-is_ended w ↦ (λ _. inr w.if-is_ended.true) | else-is_ended w ↦ (λ is. inl (sym w.is_last-is ∙ is)) ] in
    let piece = c.in-Whole.piece in
    let told = subst (λ (t : List ℕ). Tells ts ps t is_last (Whole piece)) c.text-text.ensures.text c.in-Whole.ensures.told in
    elim (cases_lt 0 p.from) [
      | inl some ↦ (
          let is = c.after_void.ensures.fault some in
          given_by ts ps bytes c.args.is_ended p c.after_void.result None (p.from + size_in_fault piece.rule piece.size) is.0 is.1
          (fault_given ts ps bytes p c.args.is_ended is_last c.requires.part last piece.rule piece.size (p.from + size_in_fault piece.rule piece.size) told some refl)
          )
      | inr none ↦ (
          let first : p.from ≡ 0 = omega (arith, none) in
          let is = c.after_void.ensures.token first in
          given_by ts ps bytes c.args.is_ended p c.after_void.result piece.rule piece.size is.0 is.1
          (token_given ts ps bytes p c.args.is_ended is_last c.requires.part last piece.rule piece.size told first)
          )
    ]

pub returns-in-Nothing-clause-told : goal.returns-in-Nothing-clause-told
returns-in-Nothing-clause-told c =
    let ts = trees_in c.args.lexer.now c.args.mode in
    let ps = c.args.lexer.now.precedences in
    let bytes = c.args.bytes.now in
    let p = c.args.part.now in
    let is_last = c.if-is_ended.is_last in
    let last : is_last ≡ true → (p.is_bad ≡ true) ⊎ (c.args.is_ended ≡ true) =
    elim c.if-is_ended.branch [ then-is_ended w ↦ (λ _. inr w.if-is_ended.true) | else-is_ended w ↦ (λ is. inl (sym w.is_last-is ∙ is)) ] in
    void_told ts ps bytes p c.args.is_ended is_last c.requires.part last (subst (λ (t : List ℕ). Tells ts ps t is_last Nothing) c.text-text.ensures.text c.in-Nothing.ensures.told)

pub returns-else-is_match-clause-told : goal.returns-else-is_match-clause-told
returns-else-is_match-clause-told c =
    let ts = trees_in c.args.lexer.now c.args.mode in
    let ps = c.args.lexer.now.precedences in
    let bytes = c.args.bytes.now in
    let p = c.args.part.now in
    let is_last = c.if-is_ended.is_last in
    let last : is_last ≡ true → (p.is_bad ≡ true) ⊎ (c.args.is_ended ≡ true) =
    elim c.if-is_ended.branch [ then-is_ended w ↦ (λ _. inr w.if-is_ended.true) | else-is_ended w ↦ (λ is. inl (sym w.is_last-is ∙ is)) ] in
    let told = subst (λ (t : List ℕ). Tells ts ps t is_last (Open c.in-Open.is_match c.in-Open.void)) c.text-text.ensures.text c.in-Open.ensures.told in
    let over : c.args.is_ended ≡ false =
    elim c.if-is_ended.branch [ then-is_ended w ↦ (let e = sym w.is_last-is ∙ told.0 in absurd (cc)) | else-is_ended w ↦ w.if-is_ended.false ] in
    let good : p.is_bad ≡ false =
    elim c.if-is_ended.branch [ then-is_ended w ↦ (let e = sym w.is_last-is ∙ told.0 in absurd (cc)) | else-is_ended w ↦ sym w.is_last-is ∙ told.0 ] in
    let first : c.in-Open.is_match ≡ true → p.from ≡ 0 =
    elim c.else-is_match.branch [
      | else-is_match-via-then-is_match+else-from-gt0 w ↦ (λ _. omega (arith, w.if-from-gt0.false))
      | else-is_match-via-else-is_match w ↦ (λ is. let e = sym is ∙ w.if-is_match.false in absurd (cc))
    ] in (
      over,
      open_held ts ps bytes p c.args.is_ended is_last c.requires.part last c.in-Open.is_match c.in-Open.void told first good,
    )

pub returns-else-is_match-clause-part : goal.returns-else-is_match-clause-part
returns-else-is_match-clause-part c =
    let ts = trees_in c.args.lexer.now c.args.mode in
    let told = subst (λ (t : List ℕ). Tells ts c.args.lexer.now.precedences t c.if-is_ended.is_last (Open c.in-Open.is_match c.in-Open.void)) c.text-text.ensures.text c.in-Open.ensures.told in
    void_part ts c.args.bytes.now c.args.part.now c.in-Open.void c.requires.part told.4

pub returns-else-is_match-clause-cutter : goal.returns-else-is_match-clause-cutter
returns-else-is_match-clause-cutter c =
    let r = c.args.lexer.now in
    let bytes = c.args.bytes.now in
    let p = c.args.part.now in
    let void = c.in-Open.void in
    let cutter = c.mode_told.new.cutter in
    let text = text_in bytes p in
    let told = subst (λ (t : List ℕ). Tells (trees_in r c.args.mode) r.precedences t c.if-is_ended.is_last (Open c.in-Open.is_match void)) c.text-text.ensures.text c.in-Open.ensures.told in
    let here = subst (λ (t : List ℕ). IsCutter r cutter (c.args.at + p.from) t) c.text-text.ensures.text c.mode_told.ensures.cutter in
    let later : IsCutter r cutter ((c.args.at + p.from) + void) (drop void text) = cutter_behind r cutter (c.args.at + p.from) void text told.4.begins.0 here in
    let order : p.from + void ≤ p.ends = omega (arith, told.4.begins.0, part_size bytes p c.requires.part.parted) in
    subst (λ (n : ℕ). IsCutter r cutter n (text_in bytes (record p { from = p.from + void }))) (omega arith)
    (subst (λ (t : List ℕ). IsCutter r cutter ((c.args.at + p.from) + void) t) (sym (void_text bytes p void c.requires.part.parted order)) later)

pub returns-else-is_match-clause-run : goal.returns-else-is_match-clause-run
returns-else-is_match-clause-run c =
    let r = c.args.lexer.now in
    let bytes = c.args.bytes.now in
    let p = c.args.part.now in
    let void = c.in-Open.void in
    let told = subst (λ (t : List ℕ). Tells (trees_in r c.args.mode) r.precedences t c.if-is_ended.is_last (Open c.in-Open.is_match void)) c.text-text.ensures.text c.in-Open.ensures.told in
    let order : p.from + void ≤ p.ends = omega (arith, told.4.begins.0, part_size bytes p c.requires.part.parted) in
    subst (λ (t : List ℕ). IfSome c.hold.new.held (IsHeld r c.args.mode t))
    (c.range_from.ensures.value ∙ ap (drop void) c.text-text.ensures.text ∙ sym (void_text bytes p void c.requires.part.parted order)) c.hold.ensures.held
