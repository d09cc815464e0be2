use Rattle.std.proofs.Common.{◌≡◌, ◌↔◌, ℕ, List, Result, Ok, Err, IfOk, IfErr, subst, refl}
use Rattle.std.specs.Str.{chars}
use Rattle.lalrpop_hir.specs.Tree.{Tree}
use Rattle.lalrpop_hir.specs.Language.{Matches}
use Rattle.lalrpop_re.specs.Pattern.{Pattern}
use Rattle.lalrpop_re.specs.declared.error.RegexError.{RegexError}
use Rattle.lalrpop_re.specs.declared.error.RegexError.TheVariants.{Syntax, OutOfMemory}
use Rattle.lalrpop_re.specs.Refusal.{HasNoTree}
use Rattle.uses_lexer.proofs.escape_texts.tree_of_quoted.Goals as goal

-- the one tree of the pattern matches what its tree matches
the_same_words : (r : Result Tree RegexError) (s cs : List ℕ) (t : Tree) → IfOk r (λ u. (o : Tree) → Pattern s o → o ≡ u) → Pattern s t → ((w : List ℕ) → Matches t w ↔ (w ≡ cs)) → IfOk r (λ u. (w : List ℕ) → Matches u w ↔ (w ≡ cs))
the_same_words (Ok u) s cs t only p m = λ w. subst (λ (o : Tree). Matches o w ↔ (w ≡ cs)) (only t p) (m w)
the_same_words (Err e) s cs t only p m = tt

-- what has a tree is refused for memory alone
for_memory : (r : Result Tree RegexError) (s : List ℕ) (t : Tree) → IfErr r (HasNoTree s) → Pattern s t → IfErr r (λ e. e ≡ OutOfMemory)
for_memory (Ok u) s t none p = tt
for_memory (Err (Syntax position kind)) s t none p = absurd (none t p)
for_memory (Err OutOfMemory) s t none p = refl

pub returns-clause-matches : goal.returns-clause-matches
returns-clause-matches c = let found = c.in_ok-pattern.ensures.tree in the_same_words c.parse_regex.result (chars c.as_str.result.now) (chars c.args.text.now) found.0 c.parse_regex.ensures.only (rw c.as_str.ensures.value found.1) found.2

pub returns-clause-memory : goal.returns-clause-memory
returns-clause-memory c = let found = c.in_ok-pattern.ensures.tree in for_memory c.parse_regex.result (chars c.as_str.result.now) found.0 c.parse_regex.ensures.none (rw c.as_str.ensures.value found.1)
