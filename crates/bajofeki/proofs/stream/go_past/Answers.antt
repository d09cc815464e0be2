use Rattle.std.proofs.Common.{◌≡◌, ℕ, List, ◌+◌, ◌-◌, drop, arith, refl, sym, ap, subst, ◌∙◌}
use Rattle.bajofeki.specs.declared.parts.Part.{Part}
use Rattle.std.proofs.lemmas.Option.{IfSome_then}
use Rattle.bajofeki.specs.Internal.Noted.{IsCutter}
use Rattle.bajofeki.specs.Internal.Parts.{IsPart, text_in}
use Rattle.bajofeki.proofs.Chunking.{cutter_behind}
use Rattle.bajofeki.proofs.PartLaws.{front_part, left_parted, left_text, part_size}
use Rattle.bajofeki.proofs.stream.go_past.Goals as goal

pub returns-in-Some-clause-part : goal.returns-in-Some-clause-part
returns-in-Some-clause-part c = λ ts bytes left parted from begins.
    let is = c.in-Some.ensures.some in
    let p = c.args.part.now in
    let next : Part = record { from = 0; ends = p.ends - c.args.size; is_bad = p.is_bad } in
    subst (λ (t : List ℕ). IsPart ts t c.in-Some.same) (sym left)
    (subst (λ (q : Part). IsPart ts (drop c.args.size bytes) q) (sym is.1)
    (front_part ts (drop c.args.size bytes) next (left_parted bytes p c.args.size parted from is.0 (begins is.0)) refl))

pub returns-in-Some-clause-cutter : goal.returns-in-Some-clause-cutter
returns-in-Some-clause-cutter c = λ r at bytes left parted from cutter.
    let is = c.in-Some.ensures.some in
    let p = c.args.part.now in
    let size = c.args.size in
    let next : Part = record { from = 0; ends = p.ends - size; is_bad = p.is_bad } in
    let place : (at + p.from) + (size - p.from) ≡ at + size = omega (arith, from) in
    let text : drop (size - p.from) (text_in bytes p) ≡ text_in c.args.left.now c.in-Some.same =
    sym (left_text bytes p size parted from is.0) ∙ ap (λ (t : List ℕ). text_in t next) (sym left) ∙ ap (text_in c.args.left.now) (sym is.1) in
    IfSome_then c.args.cutter.now cutter
    (λ t here. subst (λ (n : ℕ). IsCutter r t n (text_in c.args.left.now c.in-Some.same)) place
    (subst (IsCutter r t ((at + p.from) + (size - p.from))) text
    (cutter_behind r t (at + p.from) (size - p.from) (text_in bytes p) (omega (arith, part_size bytes p parted, is.0, from)) here)))

pub returns-in-None-clause-cutter : goal.returns-in-None-clause-cutter
returns-in-None-clause-cutter c = λ r at bytes left parted from cutter.
    c.forget.ensures.right r (at + c.args.part.now.from) (at + c.args.size) (text_in bytes c.args.part.now) (text_in c.args.left.now c.of.result) cutter

pub returns-in-Some-clause-text : goal.returns-in-Some-clause-text
returns-in-Some-clause-text c = λ bytes left parted first within.
    let is = c.in-Some.ensures.some in
    let p = c.args.part.now in
    let size = c.args.size in
    let next : Part = record { from = 0; ends = p.ends - size; is_bad = p.is_bad } in
    let place : size - p.from ≡ size = omega (arith, first) in
    ap (λ (t : List ℕ). text_in t c.in-Some.same) left ∙ ap (text_in (drop size bytes)) is.1
    ∙ left_text bytes p size parted (omega (arith, first)) within ∙ ap (λ (n : ℕ). drop n (text_in bytes p)) place

pub returns-in-None-clause-text : goal.returns-in-None-clause-text
returns-in-None-clause-text c = λ bytes left parted first within. absurd (omega (arith, c.in-None.ensures.none, within))
