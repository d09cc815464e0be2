use Rattle.std.proofs.Common.{◌≡◌, ℕ, ◌-◌, List, ◌∷◌, take, drop, subst, arith}
use Rattle.std.specs.Prelude.{Option, Some, None, IfSome}
use Rattle.std.specs.Str.{chars}
use Rattle.std.proofs.lemmas.Str.{IsCharBoundary-start}
use Rattle.lalrpop_hir.specs.Tree.{Tree}
use Rattle.lalrpop_hir.specs.Longest.{IsLongest}
use Rattle.lalrpop_dfa.specs.Dfa.{Row, Recognizes}
use Rattle.lalrpop_dense.specs.Leading.{AreAhead, IsStopped}
use Rattle.lalrpop_dense.specs.declared.ends.TokenEnd.{TokenEnd}
use Rattle.uses_lexer.proofs.run_by_table.first_ahead.Goals as goal

pub find_ends-vain-requires : goal.find_ends-vain-requires
find_ends-vain-requires c = record { boundary = IsCharBoundary-start c.args.text.now c.utf8.text }

first_longest : (d : List Row) (text : List ℕ) (o : Option TokenEnd) (old new : List (ℕ × ℕ)) → AreAhead d text 0 old → IfSome o (λ e. old ≡ (e.index, e.end) ∷ new)
    → (ts : List Tree) (ps : List ℕ) → Recognizes d ts ps → IfSome o (λ e. IsLongest ts ps text (Some (e.index, take e.end text)))
first_longest d text None old new ahead is ts ps s = tt
first_longest d text (Some e) old new ahead is ts ps s =
    let first : AreAhead d text 0 ((e.index, e.end) ∷ new) = subst (AreAhead d text 0) is ahead in
    let whole : e.end - 0 ≡ e.end = omega arith in
    subst (λ (n : ℕ). IsLongest ts ps text (Some (e.index, take n text))) whole (first.0.longest ts ps s)

pub returns-clause-longest : goal.returns-clause-longest
returns-clause-longest c =
    first_longest c.args.dense.now c.args.text.now c.next.result c.find_ends-vain.new.ends c.next.new.self c.find_ends-vain.ensures.ahead c.next.ensures.some

first_stopped : (d : List Row) (text : List ℕ) (o : Option TokenEnd) (old new : List (ℕ × ℕ)) → AreAhead d text 0 old → IfSome o (λ e. old ≡ (e.index, e.end) ∷ new)
    → IfSome o (λ e. IsStopped d (chars (take e.end text)) (drop e.end text))
first_stopped d text None old new ahead is = tt
first_stopped d text (Some e) old new ahead is =
    let first : AreAhead d text 0 ((e.index, e.end) ∷ new) = subst (AreAhead d text 0) is ahead in
    let whole : e.end - 0 ≡ e.end = omega arith in
    subst (λ (n : ℕ). IsStopped d (chars (take n text)) (drop e.end text)) whole first.0.stopped

pub returns-clause-stopped : goal.returns-clause-stopped
returns-clause-stopped c =
    first_stopped c.args.dense.now c.args.text.now c.next.result c.find_ends-vain.new.ends c.next.new.self c.find_ends-vain.ensures.ahead c.next.ensures.some
