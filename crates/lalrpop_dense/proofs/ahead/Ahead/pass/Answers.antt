use Rattle.std.proofs.Common.{◌≡◌, ◌+◌, ◌∙◌, ℕ, false, List, [], length, drop, sym, subst}
use Rattle.std.specs.Prelude.{Option, Some, None, IfNone}
use Rattle.std.specs.Option.{is_some}
use Rattle.std.specs.Str.{IsUtf8}
use Rattle.lalrpop_hir.specs.Prefix.{IsPrefix}
use Rattle.lalrpop_dense.specs.Leading.{AreAhead}
use Rattle.lalrpop_dense.specs.Internal.Blocks.{Rest, bytes_of}
use Rattle.lalrpop_dense.proofs.Standings.{boundary_behind}
use Rattle.lalrpop_dense.proofs.ahead.Ahead.pass.Goals as goal

-- where none is left, none is ahead
none_left : {A : Type 0} (o : Option A) (old new : List (ℕ × ℕ)) → false ≡ is_some o → IfNone o ((old ≡ []) × (new ≡ [])) → new ≡ []
none_left None old new here e = e.1
none_left (Some x) old new here e = absurd (cc)

pub invariant_of-self : goal.invariant_of-self
invariant_of-self c =
    let i = c.self.inside in
    let p = c.args.prefix.now in
    let b : IsPrefix p (drop i.at i.text.now) = subst (λ (r : Rest). IsPrefix p (bytes_of r)) (sym c.self.view_is) c.requires.prefix in
    record {
      boundary = boundary_behind i.text.now p i.at (subst IsUtf8 c.range_from-rest.ensures.value c.range_from-rest.utf8) b c.self.invariant.boundary;
      ahead = subst (λ es. AreAhead i.dense.now i.text.now (i.at + length p) es) (sym c.clear.ensures.none) tt;
    }

pub invariant_of-self-else-is_some : goal.invariant_of-self-else-is_some
invariant_of-self-else-is_some c =
    let i = c.self.inside in
    let p = c.args.prefix.now in
    let b : IsPrefix p (drop i.at i.text.now) = subst (λ (r : Rest). IsPrefix p (bytes_of r)) (sym c.self.view_is) c.requires.prefix in
    record {
      boundary = boundary_behind i.text.now p i.at (subst IsUtf8 c.range_from-rest.ensures.value c.range_from-rest.utf8) b c.self.invariant.boundary;
      ahead = subst (λ es. AreAhead i.dense.now i.text.now (i.at + length p) es) (sym (none_left c.next.result _ _ (sym c.if-is_some.false ∙ c.is_some.ensures) c.next.ensures.none)) tt;
    }
