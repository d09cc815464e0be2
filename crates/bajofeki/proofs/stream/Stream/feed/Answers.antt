use Rattle.std.proofs.Common.{◌≡◌, ◌-◌, ◌++◌, take, drop, length, ◌+◌, arith, inl, sym, ap, subst, ◌∙◌}
use Rattle.std.specs.Prelude.{IfSome}
use Rattle.std.specs.Str.{IsUtf8}
use Rattle.std.proofs.lemmas.List.{drop-append-le}
use Rattle.bajofeki.specs.Begun.{IsBad}
use Rattle.lalrpop_rules.specs.Modes.{trees_in}
use Rattle.bajofeki.specs.Internal.Held.{IsHeld}
use Rattle.bajofeki.specs.Internal.Parts.{IsPart, IsParted, text_in}
use Rattle.bajofeki.proofs.Held.{held_grown}
use Rattle.bajofeki.proofs.PartLaws.{from_on, grown_part}
use Rattle.bajofeki.proofs.stream.Stream.feed.Goals as goal

pub invariant_of-self-2 : goal.invariant_of-self-2
invariant_of-self-2 c =
    let i = c.self.inside in
    let r = i.lexer.now in
    let rest = drop i.given i.text.items in
    let chunk = c.args.chunk.now in
    let q = c.read_on.new.self in
    let dropped = c.drop_given in
    let now = dropped.new.text.items in
    let left : drop dropped.new.given now ≡ rest ++ chunk =
    dropped.ensures.left ∙ ap (drop i.given) c.in_ok-extend_from_slice.ensures.items ∙ drop-append-le i.given i.text.items chunk c.self.invariant.1 in
    let read : take (length c.deref.result.now - i.given) (drop i.given c.deref.result.now) ≡ rest ++ chunk =
    from_on i.given c.deref.result.now ∙ ap (drop i.given) (c.deref.ensures.value ∙ c.in_ok-extend_from_slice.ensures.items) ∙ drop-append-le i.given i.text.items chunk c.self.invariant.1 in
    let part = grown_part (trees_in r i.stack.mode) rest chunk i.part q c.self.invariant.3 c.read_on.ensures.from
    (λ order u bad. subst (λ t. IsParted t q) read (c.read_on.ensures.parted order (subst (λ t. IsUtf8 (text_in t i.part)) (sym read) u) (λ is. subst (λ t. IsBad (drop i.part.ends t)) (sym read) (bad is)))) in (
      omega arith,
      dropped.ensures.within,
      c.self.invariant.2,
      subst (λ t. IsPart (trees_in r i.stack.mode) t q) (sym left) part,
      c.forget.ensures.right r (i.at + i.part.from) (i.at + q.from) (text_in rest i.part) (text_in (drop dropped.new.given now) q) c.self.invariant.4,
      inl c.forget-2.ensures.none,
      subst (λ t. IfSome i.held (IsHeld r i.stack.mode (text_in t q))) (sym left)
          (held_grown r i.stack.mode rest chunk i.part q i.held c.self.invariant.3.parted c.read_on.ensures.from c.read_on.ensures.order c.self.invariant.6),
    )
