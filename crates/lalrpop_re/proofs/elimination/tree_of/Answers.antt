use Rattle.std.proofs.Common.{◌<◌, ◌∷◌, length, ap, sym, subst, ◌∙◌, arith}
use Rattle.std.specs.List.Sorted.{IsPermutation}
use Rattle.std.proofs.lemmas.Bool.Decides.{Decides-eqb}
use Rattle.std.proofs.lemmas.List.Sorted.{IsPermutation-swap_remove}
use Rattle.lalrpop_re.specs.Internal.Edges.{between, OptionWords}
use Rattle.lalrpop_re.proofs.Walks.{among-start, below-start, one-less, all-eliminated}
use Rattle.lalrpop_re.proofs.elimination.tree_of.Goals as goal

pub loop-left-init : goal.loop-left-init
loop-left-init c =
    record {
      words = λ w. (λ h. h, λ h. h);
      among = among-start c.args.count c.in_ok-left.left.items (between c.args.edges.items) c.in_ok-left.ensures c.requires.within;
      below = below-start c.args.count c.in_ok-left.left.items c.in_ok-left.ensures;
      sound = c.requires.sound;
    }

pub loop-left-preserved : goal.loop-left-preserved
loop-left-preserved c =
    let old = c.loop-left.left.items in
    let new = c.swap_remove-state.new.self.items in
    let k = c.swap_remove-state.result in
    let within : c.cheapest.result < length old = omega (arith, c.cheapest.ensures, ap length c.deref-in-loop-left.ensures.value) in
    let perm : IsPermutation old (k ∷ new) = subst (λ l. IsPermutation old (k ∷ l)) (sym c.swap_remove-state.ensures.items) (IsPermutation-swap_remove old c.cheapest.result k within c.swap_remove-state.ensures.value) in
    let r = one-less c.args.count k old new (between c.args.edges.items) (between c.loop-left.edges.items) (between c.in_ok-edges.edges.items) perm c.loop-left.invariant.below c.loop-left.invariant.among c.loop-left.invariant.words (rw c.deref-in-loop-left-2.ensures.value at c.in_ok-edges.ensures.words) in
    record {
      words = r.words;
      among = r.among;
      below = r.below;
      sound = c.in_ok-edges.ensures.sound (rw c.deref-in-loop-left-2.ensures.value c.loop-left.invariant.sound);
    }

pub returns-in-Some-clause-words : goal.returns-in-Some-clause-words
returns-in-Some-clause-words c = rw c.in-Some.is at (all-eliminated c.args.count c.loop-left.left.items (between c.args.edges.items) (between c.loop-left.edges.items) (OptionWords c.in_ok-whole.field-0) (sym c.loop-left.left.ok.0 ∙ (Decides-eqb c.loop-left.left.len 0).0 (sym c.loop-left-test.ensures)) c.loop-left.invariant.among c.loop-left.invariant.words (rw c.deref-2.ensures.value at c.in_ok-whole.ensures.words))

pub returns-clause-words : goal.returns-clause-words
returns-clause-words c =
    let all = all-eliminated c.args.count c.loop-left.left.items (between c.args.edges.items) (between c.loop-left.edges.items) (OptionWords c.in_ok-whole.field-0) (sym c.loop-left.left.ok.0 ∙ (Decides-eqb c.loop-left.left.len 0).0 (sym c.loop-left-test.ensures)) c.loop-left.invariant.among c.loop-left.invariant.words (rw c.deref-2.ensures.value at c.in_ok-whole.ensures.words) in
    let a = rw c.in-None.is at all in
    rw (c.alternation.ensures.tree, c.new.ensures.items) a
