-- What the calls of `next` return for a text, as tokens and as lines.
use Rattle.std.proofs.Common.{◌≡◌, ℕ, ◌+◌, ◌≤◌, true, inl, List, [], ◌∷◌, ◌++◌, length, map, refl, sym, ap, subst, ◌∙◌, append-nil, arith, length-append}
use Rattle.std.specs.Prelude.{Option, Some, None, Ok, Err, flat_map}
use Rattle.std.specs.Iterator.{Yields, Drains}
use Rattle.std.specs.Str.{chars, IsUtf8}
use Rattle.std.proofs.lemmas.Grind.{flat_map-append}
use Rattle.std.proofs.lemmas.List.{length-map, map-append}
use Rattle.std.proofs.lemmas.Str.{encodes-chars, length-le-encodes}
use Rattle.std.proofs.iter.Next.{Yields-more}
use Rattle.lalrpop_hir.specs.Tree.{Tree}
use Rattle.lalrpop_hir.specs.Tokens.{Item, AreTokens}
use Rattle.lalrpop_hir.specs.declared.token.TokenFault.{TokenFault}
use Rattle.lalrpop_lexer.specs.Cutting.{Cutting, GivesItem, with_places}
use Rattle.lalrpop_lexer.proofs.LexerCuttings.{items_without_places}
use Rattle.lexdfa_lib.specs.Answer.{IsReported}
use Rattle.lexdfa_lib.specs.Printed.{line_of}
use Rattle.lexdfa_lib.specs.Whole.{Token, Cuts, token_line, AreAnswers}
use Rattle.lexdfa_lib.specs.declared.outcome.Outcome.{Outcome}
use Rattle.lexdfa_lib.specs.declared.outcome.Outcome.TheVariants.{All, Stopped}

-- one more token or fault
pub items_more : (s r t u : Cutting) (xs : List Item) (o : Option Item) (x : Item) → r ≡ s → Yields GivesItem r xs t → o ≡ Some x → GivesItem t o u
    → Yields GivesItem s (xs ++ x ∷ []) u
items_more s r t u xs o x same y is g =
    Yields-more GivesItem s xs t x u (subst (λ (r : Cutting). Yields GivesItem r xs t) same y) (subst (λ (o : Option Item). GivesItem t o u) is g)

-- a fault is the last
pub fault_is_last : (s r t u : Cutting) (xs : List Item) (o : Option Item) (x : Item) (fault : TokenFault) → r ≡ s → Yields GivesItem r xs t → o ≡ Some x
    → x ≡ Err fault → GivesItem t o u → Drains GivesItem s (xs ++ x ∷ [])
fault_is_last s r t u xs o x fault same y is failed g =
    let gives : GivesItem t (Some (Err fault)) u = subst (λ (o : Option Item). GivesItem t o u) (is ∙ ap Some failed) g in
    let over : u.is_over ≡ true = ap (λ (x : Cutting). x.is_over) gives.4 in
    (u, (u, items_more s r t u xs o x same y is g, (refl, inl over)))

-- and where nothing more is given, these are all
pub these_are_all : (s r t u : Cutting) (xs : List Item) (o : Option Item) → r ≡ s → Yields GivesItem r xs t → o ≡ None → GivesItem t o u → Drains GivesItem s xs
these_are_all s r t u xs o same y is g =
    (u, (t, subst (λ (r : Cutting). Yields GivesItem r xs t) same y, subst (λ (o : Option Item). GivesItem t o u) is g))

-- there are fewer of them than bytes if one more comes
pub one_more : (text : List ℕ) (tokens : List Token) (x : Item) (n : ℕ) → IsUtf8 text → length (map Ok tokens ++ x ∷ []) ≤ length (chars text) → n ≡ length tokens
    → n + 1 ≤ length text
one_more text tokens x n u few count =
    let xs : List Item = map Ok tokens in
    let same : length xs ≡ length tokens = length-map tokens Ok in
    omega (arith, few, same, length-append xs (x ∷ []), length-le-encodes (chars text), ap length (encodes-chars text u))

-- one more token
pub tokens_more : (s t : Cutting) (tokens : List Token) (x : Item) (token : Token) → x ≡ Ok token → Yields GivesItem s (map Ok tokens ++ x ∷ []) t
    → Yields GivesItem s (map Ok (tokens ++ token ∷ [])) t
tokens_more s t tokens x token is y =
    let same : map Ok tokens ++ x ∷ [] ≡ map Ok (tokens ++ token ∷ []) = rw (is, map-append) refl in
    subst (λ (xs : List Item). Yields GivesItem s xs t) same y

pub count_more : (n : ℕ) (tokens : List Token) (token : Token) → n ≡ length tokens → n + 1 ≡ length (tokens ++ token ∷ [])
count_more n tokens token is = omega (arith, length-append tokens (token ∷ []))

pub lines_more : (v w : List ℕ) (tokens : List Token) (token : Token) → v ≡ w ++ token_line token → w ≡ flat_map token_line tokens
    → v ≡ flat_map token_line (tokens ++ token ∷ [])
lines_more v w tokens token is before =
    is ∙ ap (λ (l : List ℕ). l ++ token_line token) before
    ∙ ap (λ (l : List ℕ). flat_map token_line tokens ++ l) (sym (append-nil (token_line token)))
    ∙ sym (flat_map-append token_line tokens (token ∷ []))

-- the lines of tokens, and then the line of the outcome
pub told : (ts : List Tree) (ps text : List ℕ) (tokens : List Token) (a o : Outcome) (v w : List ℕ) → a ≡ o → v ≡ w ++ line_of o → w ≡ flat_map token_line tokens
    → Cuts ts ps text tokens o → Cuts ts ps text tokens a × (v ≡ flat_map token_line tokens ++ line_of a)
told ts ps text tokens a o v w same lines before cuts =
    (subst (λ (x : Outcome). Cuts ts ps text tokens x) (sym same) cuts, lines ∙ ap (λ (l : List ℕ). l ++ line_of o) before ∙ ap (λ x. flat_map token_line tokens ++ line_of x) (sym same))

-- a fault ends the tokens
pub fault_ends : (ts : List Tree) (ps text : List ℕ) (tokens : List Token) (x : Item) (fault : TokenFault) (n : ℕ)
    → AreTokens ts ps text 0 (with_places 0 (map Ok tokens ++ x ∷ [])) → x ≡ Err fault → n ≡ length tokens → Cuts ts ps text tokens (Stopped n fault.at)
fault_ends ts ps text tokens x fault n are is count =
    let last : AreTokens ts ps text 0 (with_places 0 (map Ok tokens ++ Err fault ∷ [])) =
    subst (λ (x : Item). AreTokens ts ps text 0 (with_places 0 (map Ok tokens ++ x ∷ []))) is are in
    (items_without_places ts ps text 0 (map Ok tokens ++ Err fault ∷ []) last, count)

-- and so does the end of the text
pub end_ends : (ts : List Tree) (ps text : List ℕ) (tokens : List Token) (n : ℕ) → AreTokens ts ps text 0 (with_places 0 (map Ok tokens)) → n ≡ length tokens
    → Cuts ts ps text tokens (All n)
end_ends ts ps text tokens n are count = (items_without_places ts ps text 0 (map Ok tokens) are, count)

-- if something is reported, nothing else is written
pub told_alone : (bytes text : List ℕ) (a o : Outcome) (v w : List ℕ) → a ≡ o → v ≡ w ++ line_of o → w ≡ [] → IsReported bytes o → AreAnswers bytes text a v
told_alone bytes text a o v w same lines none reported =
    ([], (inl (subst (λ (x : Outcome). IsReported bytes x) (sym same) reported, refl), lines ∙ ap (λ (l : List ℕ). l ++ line_of o) none ∙ ap (λ (x : Outcome). line_of x) (sym same)))
