use Rattle.std.proofs.Common.{◌≡◌, true, sym, subst, ◌∙◌}
use Rattle.std.proofs.lemmas.Result.{err_from_is_err_and}
use Rattle.std.specs.Str.{chars}
use Rattle.std.proofs.lemmas.Str.{IsCharBoundary-start}
use Rattle.lalrpop_re.specs.NamedPart.{is_part_name}
use Rattle.lalrpop_re.proofs.ParserLoops.{is_part, only_part, no_part_of}
use Rattle.lalrpop_re.proofs.part.Part.parse.Goals as goal

pub returns-then-not-is_name-clause-position : goal.returns-then-not-is_name-clause-position
returns-then-not-is_name-clause-position c = rw c.error_at.ensures (IsCharBoundary-start c.args.pattern.now c.utf8.pattern)

pub returns-in_err-tree-clause-none : goal.returns-in_err-tree-clause-none
returns-in_err-tree-clause-none c =
    let p = err_from_is_err_and c.from_residual-in_err-tree.result c.from_residual-in_err-tree.ensures.1 in
    rw (p.1, p.2) (no_part_of c.args.parts.now (chars c.args.name.now) (chars c.args.pattern.now) c.in_err-tree.field-0.0 c.in_err-tree.ensures.none)

pub returns-clause-part : goal.returns-clause-part
returns-clause-part c =
    let named : is_part_name (chars c.args.name.now) ≡ true =
    subst (λ w. is_part_name w ≡ true) (c.deref.ensures.value ∙ c.in_ok-name.ensures) (sym c.is_name.ensures ∙ c.if-not-is_name.false) in
    rw c.in_ok-name.ensures
    (is_part c.args.parts.now (chars c.args.name.now) (chars c.args.pattern.now) c.in_ok-tree.field-0.tree c.in_ok-tree.field-0.depth named c.in_ok-tree.ensures.tree)

pub returns-clause-only : goal.returns-clause-only
returns-clause-only c = λ other k.
    only_part c.args.parts.now (chars c.args.name.now) (chars c.args.pattern.now) _ other (returns-clause-part c) k
