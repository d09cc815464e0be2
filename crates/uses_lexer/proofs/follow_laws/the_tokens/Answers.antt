use Rattle.std.proofs.Common.{◌≡◌, ◌+◌, ◌++◌, ℕ, List, [], length, map, subst, sym, arith}
use Rattle.std.proofs.lemmas.List.{append-nil}
use Rattle.std.proofs.lemmas.Result.{IfOk-weaker}
use Rattle.std.proofs.lemmas.Str.{IsUtf8-nil}
use Rattle.lalrpop_hir.specs.Tokens.{AreTokens}
use Rattle.lalrpop_lexer.specs.Cutting.{with_places}
use Rattle.lalrpop_lexer.specs.LeadingTokens.{LeadTo}
use Rattle.lalrpop_lexer.specs.SameTokens.{moved}
use Rattle.lalrpop_lexer.proofs.Locality.{tokens_lead, tokens_moved, tokens_stay}
use Rattle.lalrpop_lexer.proofs.UniqueTokens.{tokens-exist, tokens-unique}
use Rattle.uses_lexer.proofs.follow_laws.the_tokens.Goals as goal

pub returns : goal.returns
returns c =
    let ts = c.args.lexer.now.trees in
    let ps = c.args.lexer.now.precedences in
    let text = c.args.text.now in
    let all = tokens-exist ts ps text 0 c.tokens.ensures.no_clash in
    record {
      one = IfOk-weaker c.tokens.result _ _ (λ s tokens. (all.0, (all.1, λ xs drains. tokens-unique _ _ text 0 (with_places 0 xs) all.0 (tokens xs drains) all.1))) c.tokens.ensures.tokens;
      stay = IfOk-weaker c.tokens.result _ _ (λ s tokens n xs ys all most drains is.
          let lead = tokens_lead ts ps text 0 xs ys (subst (AreTokens ts ps text 0) is (tokens all drains)) in
          let here : LeadTo ts ps (text ++ []) 0 lead.0 xs = subst (λ (w : List ℕ). LeadTo ts ps w 0 lead.0 xs) (sym (append-nil text)) lead.1.0 in
          (lead.0, λ far later. tokens_stay ts ps n most text [] later lead.0 xs c.utf8.text IsUtf8-nil far here)) c.tokens.ensures.tokens;
      moved = IfOk-weaker c.tokens.result _ _ (λ s tokens front xs drains.
          let here : length front + 0 ≡ length front = omega arith in
          subst (λ (n : ℕ). AreTokens ts ps (front ++ text) n (map (moved (length front)) (with_places 0 xs))) here (tokens_moved ts ps front text 0 (with_places 0 xs) (tokens xs drains))) c.tokens.ensures.tokens;
    }
