-- Cases of specs/TextTrees.antt.
use Rattle.std.proofs.Common.{◌≡◌, ℕ, List, [], codes, refl, sym, ap}
use Rattle.std.specs.Borrow.{Bor}
use Rattle.std.specs.Str.{chars}
use lib.Utf8.{encode}
use Rattle.lalrpop_hir.specs.Language.{Matches}
use Rattle.lalrpop_hir.specs.Tree.{Tree, empty, literal}
use Rattle.lalrpop_re.specs.Unescaped.{at_end, itself}
use Rattle.lalrpop_hir.specs.Parts.{of_text}
use Rattle.lalrpop_re.specs.declared.from_to_error.FromToError.TheVariants.{EmptyEnd, OutOfMemory}
use Rattle.lalrpop_rules.specs.TextTrees.{HasTree, IsAnyCaseTree, IsBadEnd, IsEscapedTree}
use Rattle.bajofeki_rules.specs.declared.rule_text.RuleText.TheVariants.{Literal, FromTo}

-- the empty literal has the tree of the empty word, and no other
empty_literal : (text : Bor (List ℕ)) → text.now ≡ [] → HasTree (Literal text) empty
empty_literal text e = sym (ap of_text e)

nothing_has_an_empty_end : (from to : Bor (List ℕ)) (t : Tree) → to.now ≡ [] → ¬ HasTree (FromTo from to) t
nothing_has_an_empty_end from to t e has = has.some e

empty_end_is_bad : IsBadEnd [] EmptyEnd
empty_end_is_bad = refl

end_of_one_letter_is_not_empty : ¬ IsBadEnd (codes "a") EmptyEnd
end_of_one_letter_is_not_empty e = absurd (cc)

refused_memory_is_no_bad_end : (end : List ℕ) → ¬ IsBadEnd end OutOfMemory
refused_memory_is_no_bad_end end h = h

-- without characters a text says the empty word
nothing_says_nothing : IsEscapedTree [] empty
unfolding chars encode
nothing_says_nothing = record { literal = []; utf8 = ([], (refl, refl)); says = at_end; spells = refl }

-- `a` says itself
letter_says_itself : IsEscapedTree (codes "a") (literal (codes "a"))
unfolding chars encode
letter_says_itself = record { literal = codes "a"; utf8 = (codes "a", (refl, refl)); says = itself refl at_end; spells = refl }

-- a tree that matches a longer word is none in any case
longer_word : (t : Tree) → Matches t (codes "aa") → ¬ IsAnyCaseTree (codes "a") t
unfolding chars
longer_word t matches is = ((is.words (codes "aa")).0 matches).1
