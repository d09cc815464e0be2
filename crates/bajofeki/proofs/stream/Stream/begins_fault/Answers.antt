use Rattle.std.proofs.Common.{◌≡◌, ◌-◌, ◌⊎◌, length, take, drop, true, false, inl, inr, refl, arith, sym, ap, subst, ◌∙◌}
use Rattle.lalrpop_rules.specs.Modes.{trees_in}
use Rattle.bajofeki.specs.Chunked.{Chunked}
use Rattle.bajofeki.specs.Internal.Parts.{IsPart}
use Rattle.bajofeki.proofs.Chunking.{fault_here, may_here}
use Rattle.bajofeki.proofs.PartLaws.{fault_may, from_on, front_split, match_may, not_empty}
use Rattle.bajofeki.proofs.stream.Stream.begins_fault.Goals as goal
use Rattle.bajofeki.proofs.stream.Stream.begins_fault.Goals.{then-self, else-self}

pub returns-then-self-gt0-clause-yes : goal.returns-then-self-gt0-clause-yes
returns-then-self-gt0-clause-yes c = λ _.
    let i = c.self.inside in
    let rest = take (length c.deref.result.now - i.given) (drop i.given c.deref.result.now) in
    let ts = trees_in i.lexer.now i.stack.mode in
    let left : rest ≡ drop i.given i.text.items = from_on i.given c.deref.result.now ∙ ap (drop i.given) c.deref.ensures.value in
    let part = subst (λ t. IsPart ts t i.part) (sym left) c.self.invariant.3 in
    let same = left ∙ ap (λ (s : Chunked). s.rest) c.self.view_is in
    let ended = ap (λ (s : Chunked). s.is_ended) c.self.view_is in
    fault_here c.args.self.now rest ts i.is_ended same (ap (λ (s : Chunked). trees_in s.rules s.stack.mode) c.self.view_is) ended
    (not_empty rest c.is_empty.result c.is_empty.ensures c.if-is_empty.false) (λ more may n less. part.nothing more n (omega (arith, less, c.if-self-gt0.true)))

pub returns-clause-yes : goal.returns-clause-yes
returns-clause-yes c = λ yes.
    let i = c.self.inside in
    let rest = take (length c.deref.result.now - i.given) (drop i.given c.deref.result.now) in
    let ts = trees_in i.lexer.now i.stack.mode in
    let left : rest ≡ drop i.given i.text.items = from_on i.given c.deref.result.now ∙ ap (drop i.given) c.deref.ensures.value in
    let part = subst (λ t. IsPart ts t i.part) (sym left) c.self.invariant.3 in
    let same = left ∙ ap (λ (s : Chunked). s.rest) c.self.view_is in
    let ended = ap (λ (s : Chunked). s.is_ended) c.self.view_is in
    let text = c.text-text.result.now in
    let trees = c.lexer-lexer.ensures.trees ∙ ap (trees_in i.lexer.now) c.top-mode.ensures.mode ∙ ap (λ (s : Chunked). trees_in s.rules s.stack.mode) c.self.view_is in
    let last : c.if-self.is_last ≡ true → (i.part.is_bad ≡ true) ⊎ (i.is_ended ≡ true) =
    elim c.if-self.branch [ then-self w ↦ (λ _. inr w.if-self.true) | else-self w ↦ (λ is. inl (sym w.is_last-is ∙ is)) ] in
    let parts = front_split rest text i.part part.parted (omega (arith, c.if-self-gt0.false)) c.text-text.ensures.text in
    fault_here c.args.self.now rest c.lexer-lexer.result.now.trees i.is_ended same trees ended
    (not_empty rest c.is_empty.result c.is_empty.ensures c.if-is_empty.false)
    (fault_may c.lexer-lexer.result.now.trees rest text (drop i.part.ends rest) i.part.is_bad i.is_ended c.if-self.is_last parts part.parted.left last
    (c.nothing_matches.ensures.yes yes))

pub returns-clause-no : goal.returns-clause-no
returns-clause-no c = λ no.
    let i = c.self.inside in
    let rest = take (length c.deref.result.now - i.given) (drop i.given c.deref.result.now) in
    let ts = trees_in i.lexer.now i.stack.mode in
    let left : rest ≡ drop i.given i.text.items = from_on i.given c.deref.result.now ∙ ap (drop i.given) c.deref.ensures.value in
    let part = subst (λ t. IsPart ts t i.part) (sym left) c.self.invariant.3 in
    let same = left ∙ ap (λ (s : Chunked). s.rest) c.self.view_is in
    let ended = ap (λ (s : Chunked). s.is_ended) c.self.view_is in
    let text = c.text-text.result.now in
    let trees = c.lexer-lexer.ensures.trees ∙ ap (trees_in i.lexer.now) c.top-mode.ensures.mode ∙ ap (λ (s : Chunked). trees_in s.rules s.stack.mode) c.self.view_is in
    let goes : c.if-self.is_last ≡ false → (i.part.is_bad ≡ false) × (i.is_ended ≡ false) =
    elim c.if-self.branch [ then-self w ↦ (λ is. let e = sym is ∙ w.is_last-is in absurd (cc)) | else-self w ↦ (λ is. (sym w.is_last-is ∙ is, w.if-self.false)) ] in
    let parts = front_split rest text i.part part.parted (omega (arith, c.if-self-gt0.false)) c.text-text.ensures.text in
    inr (may_here c.args.self.now rest c.lexer-lexer.result.now.trees i.is_ended same trees ended
    (match_may c.lexer-lexer.result.now.trees rest text (drop i.part.ends rest) i.part.is_bad i.is_ended c.if-self.is_last parts c.text-text.utf8
    part.parted.left goes (c.nothing_matches.ensures.no no)))

pub returns-then-is_open-clause-no : goal.returns-then-is_open-clause-no
returns-then-is_open-clause-no c = λ no.
    let i = c.self.inside in
    let rest = take (length c.deref.result.now - i.given) (drop i.given c.deref.result.now) in
    let ts = trees_in i.lexer.now i.stack.mode in
    let left : rest ≡ drop i.given i.text.items = from_on i.given c.deref.result.now ∙ ap (drop i.given) c.deref.ensures.value in
    let part = subst (λ t. IsPart ts t i.part) (sym left) c.self.invariant.3 in
    let same = left ∙ ap (λ (s : Chunked). s.rest) c.self.view_is in
    let ended = ap (λ (s : Chunked). s.is_ended) c.self.view_is in
    let text = c.text-text.result.now in
    let here = trees_in i.lexer.now c.top-mode.result in
    let trees = ap (trees_in i.lexer.now) c.top-mode.ensures.mode ∙ ap (λ (s : Chunked). trees_in s.rules s.stack.mode) c.self.view_is in
    let goes : c.if-self.is_last ≡ false → (i.part.is_bad ≡ false) × (i.is_ended ≡ false) =
    elim c.if-self.branch [ then-self w ↦ (λ is. let e = sym is ∙ w.is_last-is in absurd (cc)) | else-self w ↦ (λ is. (sym w.is_last-is ∙ is, w.if-self.false)) ] in
    let parts = front_split rest text i.part part.parted (omega (arith, c.if-self-gt0.false)) c.text-text.ensures.text in
    inr (may_here c.args.self.now rest here i.is_ended same trees ended
    (match_may here rest text (drop i.part.ends rest) i.part.is_bad i.is_ended c.if-self.is_last parts c.text-text.utf8
    part.parted.left goes (inr (c.if-not-is_last.true, c.if-is_open.ensures.«open» refl))))
