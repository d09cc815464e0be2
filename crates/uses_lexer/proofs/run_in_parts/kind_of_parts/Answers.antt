use Rattle.std.proofs.Common.{◌≡◌, ◌++◌, sym, ap, ◌∙◌, refl}
use Rattle.std.specs.Str.{chars}
use Rattle.std.proofs.lemmas.Str.{chars-append, IsUtf8-append}
use Rattle.lalrpop_dfa.specs.Dfa.{run, after}
use Rattle.lalrpop_dfa.proofs.AfterLaws.{run_append}
use Rattle.lalrpop_dfa.proofs.EdgeTargets.{the_some}
use Rattle.lalrpop_dfa.proofs.LongestLemmas.{says_of}
use Rattle.lalrpop_hir.proofs.TextWords.{text_word}
use Rattle.uses_lexer.proofs.run_in_parts.kind_of_parts.Goals as goal

pub returns : goal.returns
returns c = λ ts ps h.
    let d = c.args.dfa.now in
    let first = c.args.first.now in
    let second = c.args.second.now in
    let row = the_some _ _ c.state.ensures.at in
    let reached : c.state_behind-state.result ≡ after d (chars (first ++ second)) =
    c.state_behind-state.ensures.leads ∙ ap (λ p. run d p (chars second)) c.state_behind-between.ensures.leads
    ∙ sym (run_append d 0 (chars first) (chars second)) ∙ ap (after d) (sym (chars-append first second c.utf8.first)) in
    says_of d ts ps (chars (first ++ second)) c.state_behind-state.result row.0 _ _ (text_word (first ++ second) (IsUtf8-append first second c.utf8.first c.utf8.second)) h reached row.1.0 (c.kind.ensures.kind ∙ row.1.1.kind) refl
