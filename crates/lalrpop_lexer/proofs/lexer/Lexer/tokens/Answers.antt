use Rattle.std.proofs.Common.{◌≡◌, ℕ, ◌+◌, ◌*◌, ◌≤◌, ◌∙◌, length, ap, sym, refl, subst, List, true, false}
use Rattle.std.specs.Prelude.{Option, Some, None, Result, Ok, Err, OnErr, IsSomeAnd}
use Rattle.std.specs.Option.{is_some}
use Rattle.std.specs.Str.{chars}
use Rattle.lalrpop_hir.specs.Winners.{Matched}
use Rattle.lalrpop_dfa.specs.Dfa.{Row}
use Rattle.lalrpop_dfa.specs.Lookahead.{Accepted, IsLookahead, IsTrim}
use Rattle.lalrpop_dfa.proofs.Recognized.{recognized_words}
use Rattle.lalrpop_dfa.proofs.WitnessLaws.{same_most}
use Rattle.lalrpop_dense.specs.Matching.{open_states}
use Rattle.lalrpop_dense.specs.Cutting.{Cutting, start_of}
use Rattle.lalrpop_dense.specs.Rules.{Rules, IsBuiltFrom}
use Rattle.lalrpop_dense.proofs.Cuttings.{parts_from_start, count_from_start}
use Rattle.lalrpop_dense.proofs.LexerCuttings.{tokens_from_start}
use Rattle.lalrpop_dense.proofs.LexerCosts.{cost_with, cost_without}
use Rattle.lalrpop_lexer.proofs.lexer.Lexer.tokens.Goals as goal

bound_of : (L : List ℕ → Type 0) (o : Option ℕ) → is_some o ≡ true → IsLookahead L o → (n : ℕ) × IsLookahead L (Some n)
bound_of L (Some n) e is = (n, is)
bound_of L None e is = let no : false ≡ true = e in absurd (cc)

no_bound : (L : List ℕ → Type 0) (o : Option ℕ) → is_some o ≡ false → IsLookahead L o → IsLookahead L None
no_bound L None e is = is
no_bound L (Some n) e is = let no : true ≡ false = e in absurd (cc)

on_err : {A E P : Type 0} (r : Result A E) → P → OnErr r P
on_err (Ok x) p = tt
on_err (Err e) p = p

starts : (s : Cutting) (d : List Row) (text : List ℕ) (spare : Option ℕ) → s ≡ start_of d text spare → s ≡ start_of d text s.spare
starts s d text spare e = subst (λ (x : Cutting). x ≡ start_of d text x.spare) (sym e) refl

-- ---- where something bounds the lookahead
begins : (c : goal.After-table_tokens) → c.table_tokens.result ≡ start_of c.args.self.now.automaton c.args.text.now None
begins c = c.table_tokens.ensures.start ∙ ap (λ (r : Rules). start_of r.automaton c.args.text.now None) c.self.view_is

built : (c : goal.After-table_tokens) → IsBuiltFrom c.args.self.now.trees c.args.self.now.precedences c.args.self.now.automaton
built c = rw (← c.self.view_is) c.self.invariant.0

pub returns-then-is_some-clause-start : goal.returns-then-is_some-clause-start
returns-then-is_some-clause-start c = starts _ _ _ None (begins c)

pub returns-then-is_some-clause-built : goal.returns-then-is_some-clause-built
returns-then-is_some-clause-built c =
    subst (IsBuiltFrom c.args.self.now.trees c.args.self.now.precedences) (sym (ap (λ (s : Cutting). s.automaton) (begins c))) (built c)

pub returns-then-is_some-clause-tokens : goal.returns-then-is_some-clause-tokens
returns-then-is_some-clause-tokens c = tokens_from_start _ _ _ _ _ None (begins c) (built c)

pub returns-then-is_some-clause-parts : goal.returns-then-is_some-clause-parts
returns-then-is_some-clause-parts c = parts_from_start _ _ _ None (begins c)

pub returns-then-is_some-clause-count : goal.returns-then-is_some-clause-count
returns-then-is_some-clause-count c = count_from_start _ _ _ None (begins c) c.utf8.text

pub returns-then-is_some-clause-cost : goal.returns-then-is_some-clause-cost
returns-then-is_some-clause-cost c =
    let d = c.args.self.now.automaton in
    let L = Matched c.args.self.now.trees in
    let is : IsLookahead L c.self.inside.lookahead = rw (← c.self.view_is) c.self.invariant.2 in
    let trim : IsTrim d = rw (← c.self.view_is) c.self.invariant.1 in
    let words = recognized_words d c.args.self.now.trees c.args.self.now.precedences (built c).stands in
    let bound = bound_of L c.self.inside.lookahead (sym c.is_some.ensures ∙ c.if-is_some.true) is in (
      Some bound.0,
      (
        bound.1,
        λ xs t y. cost_without _ _ _ (begins c) xs t y bound.0
            (trim, same_most L (Accepted d) (λ w. ((words w).1, (words w).0)) bound.0 bound.1.0),
      ),
    )

pub returns-then-is_some-clause-no_clash : goal.returns-then-is_some-clause-no_clash
returns-then-is_some-clause-no_clash c = (built c).no_clash

-- ---- where nothing does
-- the memo has to spare what it may
abbrev IsLinear : Cutting → List Row → List ℕ → Type 0
IsLinear s d text = (k : ℕ) × ((s ≡ start_of d text (Some k)) × (k ≤ length (chars text) + length text + open_states d * (length text + 64)))

linear_from : (s : Cutting) (d : List Row) (text : List ℕ) (o : Option ℕ) → s ≡ start_of d text o
    → IsSomeAnd o (λ n. n ≤ length (chars text) + length text + open_states d * (length text + 64)) → IsLinear s d text
linear_from s d text (Some k) e few = (k, (e, few))
linear_from s d text None e few = absurd few

unbounded : (c : goal.In_ok-tokens) → IsLookahead (Matched c.args.self.now.trees) None
unbounded c =
    let is : IsLookahead (Matched c.args.self.now.trees) c.self.inside.lookahead = rw (← c.self.view_is) c.self.invariant.2 in
    no_bound (Matched c.args.self.now.trees) c.self.inside.lookahead (sym c.is_some.ensures ∙ c.if-is_some.false) is

begins_with : (c : goal.In_ok-tokens) → IsLinear c.in_ok-tokens.tokens c.args.self.now.automaton c.args.text.now
begins_with c =
    subst (λ (r : Rules). IsLinear c.in_ok-tokens.tokens r.automaton c.args.text.now) c.self.view_is
    (linear_from c.in_ok-tokens.tokens c.self.inside.dense c.args.text.now c.in_ok-tokens.tokens.spare c.in_ok-tokens.ensures.start c.in_ok-tokens.ensures.spare)

pub returns-clause-start : goal.returns-clause-start
returns-clause-start c = starts _ _ _ _ (begins_with c).1.0

pub returns-clause-built : goal.returns-clause-built
returns-clause-built c =
    let built : IsBuiltFrom c.args.self.now.trees c.args.self.now.precedences c.args.self.now.automaton = rw (← c.self.view_is) c.self.invariant.0 in
    subst (IsBuiltFrom c.args.self.now.trees c.args.self.now.precedences) (sym (ap (λ (s : Cutting). s.automaton) (begins_with c).1.0)) built

pub returns-in_err-tokens-clause-refused : goal.returns-in_err-tokens-clause-refused
returns-in_err-tokens-clause-refused c =
    let is : IsLookahead (Matched c.args.self.now.trees) c.self.inside.lookahead = rw (← c.self.view_is) c.self.invariant.2 in
    on_err c.from_residual.result (no_bound (Matched c.args.self.now.trees) c.self.inside.lookahead (sym c.is_some.ensures ∙ c.if-is_some.false) is)

pub returns-in_err-tokens-clause-no_clash : goal.returns-in_err-tokens-clause-no_clash
returns-in_err-tokens-clause-no_clash c =
    let built : IsBuiltFrom c.args.self.now.trees c.args.self.now.precedences c.args.self.now.automaton = rw (← c.self.view_is) c.self.invariant.0 in
    built.no_clash

pub returns-clause-no_clash : goal.returns-clause-no_clash
returns-clause-no_clash c =
    let built : IsBuiltFrom c.args.self.now.trees c.args.self.now.precedences c.args.self.now.automaton = rw (← c.self.view_is) c.self.invariant.0 in
    built.no_clash

pub returns-clause-memo : goal.returns-clause-memo
returns-clause-memo c = λ _. unbounded c

pub returns-clause-tokens : goal.returns-clause-tokens
returns-clause-tokens c =
    let built : IsBuiltFrom c.args.self.now.trees c.args.self.now.precedences c.args.self.now.automaton = rw (← c.self.view_is) c.self.invariant.0 in
    tokens_from_start _ _ _ _ _ _ (begins_with c).1.0 built

pub returns-clause-parts : goal.returns-clause-parts
returns-clause-parts c = parts_from_start _ _ _ _ (begins_with c).1.0

pub returns-clause-count : goal.returns-clause-count
returns-clause-count c = count_from_start _ _ _ _ (begins_with c).1.0 c.utf8.text

pub returns-clause-cost : goal.returns-clause-cost
returns-clause-cost c =
    let begun = begins_with c in
    (None, (unbounded c, cost_with c.in_ok-tokens.tokens c.args.self.now.automaton c.args.text.now begun.0 begun.1.0 begun.1.1))
