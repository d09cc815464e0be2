use Rattle.std.proofs.Common.{◌≡◌, ℕ, List, ◌+◌, ◌-◌, length, take, drop, arith, length-drop, nat_eq, refl, sym, ap, subst, ◌∙◌}
use Rattle.std.specs.Prelude.{Some, IfSome}
use Rattle.std.proofs.lemmas.Bool.{eqb-true}
use Rattle.std.proofs.lemmas.List.{drop-drop}
use Rattle.lalrpop_rules.specs.Modes.{trees_in}
use Rattle.bajofeki.specs.Chunked.{Chunked, GivesFinal, IsHeldBack}
use Rattle.bajofeki.specs.Given.{item_by}
use Rattle.bajofeki.specs.Internal.Ahead.{AreFound}
use Rattle.bajofeki.specs.Internal.Noted.{IsCutter}
use Rattle.bajofeki.specs.Internal.Parts.{IsPart, text_in}
use Rattle.bajofeki.proofs.AheadLaws.{found_behind}
use Rattle.bajofeki.proofs.Chunking.{held_back_here, gives_here}
use Rattle.bajofeki.proofs.PartLaws.{from_on}
use Rattle.bajofeki.proofs.stream.Stream.next_piece.Goals as goal

pub next_front-requires-clause-found : goal.next_front-requires-clause-found
next_front-requires-clause-found c =
    let i = c.self.inside in
    let r = i.lexer.now in
    let rest = take (length c.deref.result.now - i.given) (drop i.given c.deref.result.now) in
    let left : rest ≡ drop i.given i.text.items = from_on i.given c.deref.result.now ∙ ap (drop i.given) c.deref.ensures.value in
    subst (λ (b : List ℕ). AreFound r c.top-mode.result b i.part i.ahead) (sym left)
    (subst (λ (m : ℕ). AreFound r m (drop i.given i.text.items) i.part i.ahead) (sym c.top-mode.ensures.mode) c.self.invariant.5)

pub returns-in_default-clause-gives : goal.returns-in_default-clause-gives
returns-in_default-clause-gives c =
    let i = c.self.inside in
    let text = i.text.items in
    let rest = take (length c.deref.result.now - i.given) (drop i.given c.deref.result.now) in
    let left : rest ≡ drop i.given text = from_on i.given c.deref.result.now ∙ ap (drop i.given) c.deref.ensures.value in
    let held = held_back_here i.lexer.now (take (i.given - i.last) (drop i.last text)) (drop i.given text) rest i.at c.top-mode.result i.stack i.is_ended left c.top-mode.ensures.mode
    (rw c.in_default.is at c.in_ok-found.ensures.empty) (rw c.in_default.is at c.in_ok-found.ensures.held) in
    (c.self.view_is, subst (λ (s : Chunked). IsHeldBack s) c.self.view_is held)

pub invariant_of-self-2 : goal.invariant_of-self-2
invariant_of-self-2 c =
    let i = c.self.inside in
    let r = i.lexer.now in
    let size = c.in-Some.piece.size in
    let text = i.text.items in
    let q = c.next_front.new.part in
    let given = rw c.in-Some.is at c.in_ok-found.ensures.given in
    let parted = c.next_front.ensures.part.parted in
    let past = c.go_past in
    let now = c.deref-2.result.now in
    let rest = take (length c.deref.result.now - i.given) (drop i.given c.deref.result.now) in
    let after = take (length now - (i.given + size)) (drop (i.given + size) now) in
    let left : rest ≡ drop i.given text = from_on i.given c.deref.result.now ∙ ap (drop i.given) c.deref.ensures.value in
    let there : after ≡ drop (i.given + size) text = from_on (i.given + size) now ∙ ap (drop (i.given + size)) c.deref-2.ensures.value in
    let behind : after ≡ drop size rest = there ∙ sym (drop-drop size i.given text) ∙ ap (drop size) (sym left) in
    let part = past.ensures.part (trees_in r c.act_by.new.stack.mode) rest behind parted given.from given.boundary in
    let cutter = past.ensures.cutter r i.at rest behind parted given.from c.next_front.ensures.cutter in
    let place : i.at + size ≡ (i.at + size) + past.new.part.from = omega (arith, past.ensures.from) in (
      omega arith,
      omega (arith, given.within, ap length left, length-drop i.given text, c.self.invariant.1),
      c.act_by.ensures.there c.self.invariant.2,
      subst (λ t. IsPart (trees_in r c.act_by.new.stack.mode) t past.new.part) there part,
      subst (λ (n : ℕ). IfSome past.new.cutter (λ t. IsCutter r t n (text_in (drop (i.given + size) text) past.new.part))) place
          (subst (λ (b : List ℕ). IfSome past.new.cutter (λ t. IsCutter r t (i.at + size) (text_in b past.new.part))) there cutter),
      subst (λ (b : List ℕ). AreFound r c.act_by.new.stack.mode b past.new.part c.pass.new.self) there
          (found_behind r c.top-mode.result c.act_by.new.stack.mode size c.next_front.new.ahead c.pass.new.self (nat_eq c.top.result c.top-mode.result)
          (λ is. (sym c.top.ensures.mode ∙ eqb-true c.top.result c.top-mode.result is, c.pass.ensures.kept is)) c.pass.ensures.none rest after q past.new.part
          (rw c.in-Some.is at c.in_ok-found.ensures.found) parted past.ensures.from (λ first within. past.ensures.text rest behind parted first within)),
      tt,
    )

pub returns-clause-gives : goal.returns-clause-gives
returns-clause-gives c = λ slice told.
    let i = c.self.inside in
    let f = c.in-Some.piece in
    let text = i.text.items in
    let rest = take (length c.deref.result.now - i.given) (drop i.given c.deref.result.now) in
    let left : rest ≡ drop i.given text = from_on i.given c.deref.result.now ∙ ap (drop i.given) c.deref.ensures.value in
    let size : (i.given + f.size) - i.given ≡ f.size = omega arith in
    let last = take ((i.given + f.size) - i.given) (drop i.given text) in
    let cut : slice.now ≡ take f.size rest = told ∙ ap (λ n. take n (drop i.given text)) size ∙ ap (take f.size) (sym left) in
    let gives = gives_here i.lexer.now (take (i.given - i.last) (drop i.last text)) text rest i.given i.at f.size c.top-mode.result i.stack c.act_by.new.stack i.is_ended f.rule
    c.number_of.result c.is_skipped.result slice left c.top-mode.ensures.mode c.number_of.ensures.same (rw c.in-Some.is at c.in_ok-found.ensures.given).within cut (rw c.in-Some.is at c.in_ok-found.ensures.given).settled
    c.is_skipped.ensures.skipped (i.at + f.size) last refl told c.in-Ok.ensures.acted in
    subst (λ (s : Chunked). GivesFinal s (Some (item_by c.number_of.result c.is_skipped.result i.at slice))
    (record { rules = i.lexer.now; last = last; rest = drop (i.given + f.size) text; at = i.at + f.size; stack = c.act_by.new.stack; is_ended = i.is_ended })) c.self.view_is gives
