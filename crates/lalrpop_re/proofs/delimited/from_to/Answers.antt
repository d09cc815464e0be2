use Rattle.std.proofs.Common.{◌≡◌, length, All, ap, sym, subst, ◌∙◌, arith}
use Rattle.std.specs.Str.{chars}
use Rattle.lalrpop_hir.specs.Runs.{IsScalar}
use Rattle.lalrpop_re.specs.Internal.Walks.{IsWithin}
use Rattle.lalrpop_re.specs.Internal.Edges.{between}
use Rattle.lalrpop_re.proofs.Searching.{Matches-IsFromTo, only-IsFromTo, some-character}
use Rattle.lalrpop_re.proofs.Rows.{automaton-within}
use Rattle.lalrpop_re.proofs.UpToLaws.{characters_of_text}
use Rattle.lalrpop_re.proofs.delimited.from_to.Goals as goal

pub automaton-requires-clause-scalars : goal.automaton-requires-clause-scalars
automaton-requires-clause-scalars c =
    subst (All IsScalar) (sym (c.deref.ensures.value ∙ c.in_ok-end.ensures.end)) (characters_of_text c.args.to.now c.utf8.to)

pub tree_of-requires-clause-small : goal.tree_of-requires-clause-small
tree_of-requires-clause-small c = omega (arith, c.len.ensures, c.in_ok-end.end.ok.0, ap length c.in_ok-end.ensures.end, c.in_ok-end.ensures.few)

pub tree_of-requires-clause-within : goal.tree_of-requires-clause-within
tree_of-requires-clause-within c =
    let to = c.args.to.now in
    let n : c.len.result ≡ length (chars to) = c.len.ensures ∙ (c.in_ok-end.end.ok.0 ∙ ap length c.in_ok-end.ensures.end) in
    subst (λ m. IsWithin m (between c.in_ok-edges.edges.items)) (sym n) (automaton-within (chars c.args.from.now) (chars to) (between c.in_ok-edges.edges.items) (some-character to c.utf8.to c.in_ok-end.ensures.some) (rw (c.deref.ensures.value ∙ c.in_ok-end.ensures.end) at c.in_ok-edges.ensures.words))

pub returns-clause-tree : goal.returns-clause-tree
returns-clause-tree c =
    let to = c.args.to.now in
    let n : c.len.result ≡ length (chars to) = c.len.ensures ∙ (c.in_ok-end.end.ok.0 ∙ ap length c.in_ok-end.ensures.end) in
    Matches-IsFromTo c.in_ok-tree.tree (chars c.args.from.now) (chars to) c.len.result (between c.in_ok-edges.edges.items) n (some-character to c.utf8.to c.in_ok-end.ensures.some) (rw (c.deref.ensures.value ∙ c.in_ok-end.ensures.end) at c.in_ok-edges.ensures.words) c.in_ok-tree.ensures.words

pub returns-clause-only : goal.returns-clause-only
returns-clause-only c =
    let to = c.args.to.now in
    let n : c.len.result ≡ length (chars to) = c.len.ensures ∙ (c.in_ok-end.end.ok.0 ∙ ap length c.in_ok-end.ensures.end) in
    only-IsFromTo c.in_ok-tree.tree (chars c.args.from.now) (chars to) c.len.result (between c.in_ok-edges.edges.items) n (some-character to c.utf8.to c.in_ok-end.ensures.some) (rw (c.deref.ensures.value ∙ c.in_ok-end.ensures.end) at c.in_ok-edges.ensures.words) c.in_ok-tree.ensures.words
