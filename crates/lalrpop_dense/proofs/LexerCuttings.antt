-- The items of a text, each token with the place where it begins.
use Rattle.std.proofs.Common.{◌≡◌, ℕ, ◌+◌, List, [], ◌∷◌, length, refl, sym, subst}
use Rattle.std.specs.Prelude.{Option, Ok, Err}
use Rattle.std.specs.Iterator.{Drains}
use Rattle.std.specs.Str.{chars}
use Rattle.lalrpop_hir.specs.Tree.{Tree}
use Rattle.lalrpop_hir.specs.Clash.{NoClash}
use Rattle.lalrpop_hir.specs.Tokens.{Item, AreItems, AreTokens}
use Rattle.lalrpop_hir.proofs.LastFaults.{items_to_fault, tokens_to_fault, no_items_behind, no_tokens_behind}
use Rattle.lalrpop_hir.proofs.Strongest.{IsOnlyStrongest-from_greatest}
use Rattle.lalrpop_dfa.specs.Dfa.{Row}
use Rattle.lalrpop_dfa.proofs.Recognized.{on_words}
use Rattle.lalrpop_dense.specs.Cutting.{Cutting, start_of, GivesItem, with_places}
use Rattle.lalrpop_dense.specs.Rules.{IsBuiltFrom}
use Rattle.lalrpop_dense.proofs.Cuttings.{items_from_start}

-- where no word is ambiguous, each token's tree is its only strongest one
tokens_of : (ts : List Tree) (ps text : List ℕ) (at : ℕ) (xs : List Item) → NoClash ts ps → AreItems ts ps text at xs → AreTokens ts ps text at (with_places at xs)
tokens_of ts ps text at [] none are = are
tokens_of ts ps text at (Ok m ∷ xs) none are =
    ((refl, are.0, IsOnlyStrongest-from_greatest ts ps (chars m.1.now) m.0 none are.0.2), tokens_of ts ps text (at + length m.1.now) xs none are.1)
tokens_of ts ps text at (Err fault ∷ xs) none are =
    let over : xs ≡ [] = no_items_behind ts ps text at fault xs are in
    subst (λ (ys : List Item). AreTokens ts ps text at (Err fault ∷ with_places at ys)) (sym over) (tokens_to_fault ts ps text at fault are.0)

-- and without the places the tokens are the items
pub items_without_places : (ts : List Tree) (ps text : List ℕ) (at : ℕ) (xs : List Item) → AreTokens ts ps text at (with_places at xs) → AreItems ts ps text at xs
items_without_places ts ps text at [] are = are
items_without_places ts ps text at (Ok m ∷ xs) are = (are.0.1, items_without_places ts ps text (at + length m.1.now) xs are.1)
items_without_places ts ps text at (Err fault ∷ xs) are =
    let over : xs ≡ [] = none_placed at xs (no_tokens_behind ts ps text at fault (with_places at xs) are) in
    subst (λ (ys : List Item). AreItems ts ps text at (Err fault ∷ ys)) (sym over) (items_to_fault ts ps text at fault are.0)
  where
    none_placed : (at : ℕ) (xs : List Item) → with_places at xs ≡ [] → xs ≡ []
    none_placed at [] e = refl
    none_placed at (Ok m ∷ xs) e = absurd (cc)
    none_placed at (Err fault ∷ xs) e = absurd (cc)

-- from the start
pub tokens_from_start : (s : Cutting) (ts : List Tree) (ps : List ℕ) (d : List Row) (text : List ℕ) (spare : Option ℕ) → s ≡ start_of d text spare → IsBuiltFrom ts ps d
    → (xs : List Item) → Drains GivesItem s xs → AreTokens ts ps text 0 (with_places 0 xs)
tokens_from_start s ts ps d text spare e built xs all =
    tokens_of ts ps text 0 xs built.no_clash (items_from_start s d text spare e xs all ts ps (on_words d ts ps built.stands))
