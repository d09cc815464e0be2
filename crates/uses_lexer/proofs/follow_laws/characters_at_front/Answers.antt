use Rattle.std.proofs.Common.{◌≡◌, ◌≢◌, ◌++◌, ℕ, List, [], sym, ap, subst, ◌∙◌}
use Rattle.std.specs.Prelude.{Option, Some, None, IfNone, IfSome}
use Rattle.std.specs.Str.{IsUtf8, chars, encode_utf8_all}
use Rattle.std.proofs.lemmas.Str.{chars-nil}
use Rattle.lalrpop_hir.specs.Longest.{IsLongest}
use Rattle.lalrpop_hir.specs.Tree.{Tree}
use Rattle.lalrpop_hir.specs.Tokens.{IsToken}
use Rattle.lalrpop_hir.specs.Winners.{Matched}
use Rattle.lalrpop_hir.specs.declared.token.Token.{Token}
use Rattle.lalrpop_lexer.proofs.TextPrefixes.{characters_of_prefix, prefix_of_characters}
use Rattle.uses_lexer.proofs.follow_laws.characters_at_front.Goals as goal

of_found : (ts : List Tree) (ps text : List ℕ) (found : Option Token) → IfSome found (λ token. IsToken ts ps text 0 token)
    → IfSome found (λ token. (w : List ℕ) × (chars text ≡ chars token.slice.now ++ w))
of_found ts ps text None is = tt
of_found ts ps text (Some token) is = (chars is.1.0.0.0, characters_of_prefix token.slice.now text is.1.0.0)

of_none : (ts : List Tree) (ps text : List ℕ) (found : Option Token) → IsUtf8 text → IfNone found (IsLongest ts ps text None)
    → IfNone found ((v w : List ℕ) → chars text ≡ v ++ w → v ≢ [] → ¬ Matched ts v)
of_none ts ps text None u none = λ v w e some matched.
    let begins = prefix_of_characters text v w u e in
    let nonempty : encode_utf8_all v ≢ [] = λ empty. some (sym begins.1 ∙ ap chars empty ∙ chars-nil) in
    none (encode_utf8_all v) (begins.0, nonempty, subst (Matched ts) (sym begins.1) matched)
of_none ts ps text (Some token) u none = tt

pub returns : goal.returns
returns c =
    let lexer = c.args.lexer.now in
    let text = c.args.text.now in
    record {
      characters = of_found lexer.trees lexer.precedences text c.token.result c.token.ensures.token;
      none = of_none lexer.trees lexer.precedences text c.token.result c.utf8.text c.token.ensures.none;
    }
