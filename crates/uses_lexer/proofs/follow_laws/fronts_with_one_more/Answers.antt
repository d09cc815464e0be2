use Rattle.std.proofs.Common.{◌≡◌, ◌<◌, ◌≤◌, ℕ, List, [], ◌∷◌, ◌++◌, length, subst}
use Rattle.std.specs.Prelude.{Option, Some, None, IfSome, IfNone, IsSomeAnd, slice_index}
use Rattle.lalrpop_hir.specs.Tree.{Tree}
use Rattle.lalrpop_hir.specs.Longest.{IsLongest}
use Rattle.lalrpop_hir.specs.Tokens.{IsToken}
use Rattle.lalrpop_hir.specs.declared.token.Token.{Token}
use Rattle.lalrpop_lexer.proofs.MoreRules.{not_shorter, winner_stays}
use Rattle.uses_lexer.proofs.follow_laws.fronts_with_one_more.Goals as goal

module _ (ts us : List Tree) (ps qs text : List ℕ) where
  longer : (a b : Option Token) → IfSome a (λ token. IsToken ts ps text 0 token) → IfSome b (λ token. IsToken us qs text 0 token) → IfNone b (IsLongest us qs text None)
      → IfSome a (λ x. (t : Tree) → us ≡ ts ++ t ∷ [] → IsSomeAnd b (λ y. length x.slice.now ≤ length y.slice.now))
  longer None b is too none = tt
  longer (Some x) None is too none = λ t e.
      not_shorter ts t ps qs text (x.index, x.slice.now) None is.1 (subst (λ (vs : List Tree). IsLongest vs qs text None) e none)
  longer (Some x) (Some y) is too none = λ t e.
      not_shorter ts t ps qs text (x.index, x.slice.now) (Some (y.index, y.slice.now)) is.1
      (subst (λ (vs : List Tree). IsLongest vs qs text (Some (y.index, y.slice.now))) e too.1)

  winner : (a b : Option Token) → IfSome a (λ token. IsToken ts ps text 0 token) → IfSome b (λ token. IsToken us qs text 0 token)
      → IfSome a (λ x. IfSome b (λ y. (t : Tree) (p : ℕ) → us ≡ ts ++ t ∷ [] → qs ≡ ps ++ p ∷ [] → length ps ≡ length ts
      → ((i : ℕ) → i < length ts → p < slice_index ps i) → length x.slice.now ≡ length y.slice.now → x.index ≡ y.index))
  winner None b is too = tt
  winner (Some x) None is too = tt
  winner (Some x) (Some y) is too = λ t p e f one_each weaker size.
      (winner_stays ts ps t p one_each weaker text (x.index, x.slice.now) (y.index, y.slice.now) is.1
      (subst (λ (rs : List ℕ). IsLongest (ts ++ t ∷ []) rs text (Some (y.index, y.slice.now))) f
      (subst (λ (vs : List Tree). IsLongest vs qs text (Some (y.index, y.slice.now))) e too.1)) size).0

pub returns : goal.returns
returns c =
    let lexer = c.args.lexer.now in
    let larger = c.args.larger.now in
    record {
      longer = longer lexer.trees larger.trees lexer.precedences larger.precedences c.args.text.now c.token.result c.token-2.result c.token.ensures.token c.token-2.ensures.token c.token-2.ensures.none;
      winner = winner lexer.trees larger.trees lexer.precedences larger.precedences c.args.text.now c.token.result c.token-2.result c.token.ensures.token c.token-2.ensures.token;
    }
