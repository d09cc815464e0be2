-- The trees of texts, one after another.
use Rattle.std.proofs.Common.{◌≡◌, ℕ, zero, suc, ◌<◌, ◌+◌, List, [], ◌∷◌, ◌++◌, length, take, get_or, refl, ap, sym, subst, ◌∙◌, arith, length-take}
use Rattle.std.specs.Prelude.{Some, slice_get}
use Rattle.std.specs.Borrow.{Bor}
use Rattle.std.specs.Str.{chars, IsCharBoundary}
use Rattle.std.specs.Option.{option_map}
use Rattle.std.proofs.lemmas.List.{take_more, take-map, get_or-take, map-append}
use Rattle.std.proofs.lemmas.Option.{slice_get-get_or, slice_get-map, slice_get_within, slice_get_read, get_or_from_slice_get}
use Rattle.lalrpop_hir.specs.Tree.{Tree}
use Rattle.lalrpop_hir.specs.Report.{IsReport}
use Rattle.lalrpop_hir.specs.declared.error.DfaConstructionError.{DfaConstructionError}
use Rattle.lalrpop_hir.specs.declared.error.DfaConstructionError.TheVariants as built
use Rattle.lalrpop_hir.specs.declared.precedence.Precedence.{Precedence}
use Rattle.lalrpop_re.specs.Pattern.{Pattern}
use Rattle.lalrpop_lexer.specs.LexerErrors.{of_construction}
use Rattle.lalrpop_lexer.specs.Spelled.{Spells, AreSpelled, IsNotSpelled, IsLexerError, texts_of}
use Rattle.lalrpop_lexer.specs.declared.form.Form.{Form}
use Rattle.lalrpop_lexer.specs.declared.form.Form.TheVariants as forms

-- one text more
pub AreSpelled-push : (xs : List (Form × List ℕ)) (ts : List Tree) (x : Form × List ℕ) (t : Tree) → AreSpelled xs ts → Spells x.0 x.1 t → AreSpelled (xs ++ x ∷ []) (ts ++ t ∷ [])
AreSpelled-push [] [] x t are says = (says, tt)
AreSpelled-push [] (u ∷ ts) x t are says = absurd are
AreSpelled-push (y ∷ xs) [] x t are says = absurd are
AreSpelled-push (y ∷ xs) (u ∷ ts) x t are says = (are.0, AreSpelled-push xs ts x t are.1 says)

-- as many trees as texts
pub length-AreSpelled : (xs : List (Form × List ℕ)) (ts : List Tree) → AreSpelled xs ts → length ts ≡ length xs
length-AreSpelled [] [] are = refl
length-AreSpelled [] (u ∷ ts) are = absurd are
length-AreSpelled (y ∷ xs) [] are = absurd are
length-AreSpelled (y ∷ xs) (u ∷ ts) are = ap suc (length-AreSpelled xs ts are.1)

-- each has one
pub AreSpelled-at : (xs : List (Form × List ℕ)) (ts : List Tree) (j : ℕ) (x : Form × List ℕ) → AreSpelled xs ts → slice_get xs j ≡ Some x → (t : Tree) × Spells x.0 x.1 t
AreSpelled-at [] ts j x are at = absurd (cc)
AreSpelled-at (y ∷ xs) [] j x are at = absurd are
AreSpelled-at (y ∷ xs) (u ∷ ts) zero x are at = let same : y ≡ x = cc in (u, subst (λ (z : Form × List ℕ). Spells z.0 z.1 u) same are.0)
AreSpelled-at (y ∷ xs) (u ∷ ts) (suc j) x are at = AreSpelled-at xs ts j x are.1 at

-- the first text that spells none, behind texts that spell trees
pub not_spelled : (xs : List (Form × List ℕ)) (ts : List Tree) (i n position : ℕ) (x : Form × List ℕ) → slice_get xs i ≡ Some x → n ≡ length ts
    → AreSpelled (take i xs) ts → x.0 ≡ forms.Pattern → ((t : Tree) → ¬ Pattern (chars x.1) t) → IsCharBoundary x.1 position → IsNotSpelled xs n position
not_spelled xs ts i n position x at count are is none points =
    let within : i < length xs = slice_get_within xs i x at in
    let place : n ≡ i = omega (arith, count, length-AreSpelled (take i xs) ts are, length-take i xs, within) in
    record {
      form = x.0;
      text = x.1;
      at = ap (slice_get xs) place ∙ at;
      none = subst (λ (f : Form). (t : Tree) → ¬ Spells f x.1 t) (sym is) none;
      points = points;
      before = λ j y below seen.
          AreSpelled-at (take i xs) ts j y are
          (slice_get_read (take i xs) i j y (omega (arith, length-take i xs, within)) (omega (arith, below, place))
          (sym (get_or-take i xs j y (omega (arith, below, place)) ∙ get_or_from_slice_get xs j y y seen)));
    }

-- ---- patterns that come with their precedences

abbrev shown : Precedence × Form × Bor (List ℕ) → Form × List ℕ
shown p = (p.1, p.2.now)

-- one more, as a loop goes over them
pub trees_more : (ps : List (Precedence × Form × Bor (List ℕ))) (ts us : List Tree) (i : ℕ) (d : Precedence × Form × Bor (List ℕ)) (t : Tree) → i < length ps
    → AreSpelled (texts_of (take i ps)) ts → Spells (get_or ps i d).1 (get_or ps i d).2.now t → us ≡ ts ++ t ∷ [] → AreSpelled (texts_of (take (i + 1) ps)) us
trees_more ps ts us i d t within are says e =
    let p = get_or ps i d in
    rw (e, take_more ps i d within, map-append) (AreSpelled-push (texts_of (take i ps)) ts (shown p) t are says)

-- the first whose text does not parse
pub not_parsed : (ps : List (Precedence × Form × Bor (List ℕ))) (ts : List Tree) (i n position : ℕ) (d : Precedence × Form × Bor (List ℕ)) → i < length ps
    → n ≡ length ts → AreSpelled (texts_of (take i ps)) ts → (get_or ps i d).1 ≡ forms.Pattern → ((t : Tree) → ¬ Pattern (chars (get_or ps i d).2.now) t)
    → IsCharBoundary (get_or ps i d).2.now position → IsNotSpelled (texts_of ps) n position
not_parsed ps ts i n position d within count are is none points =
    let p = get_or ps i d in
    let at : slice_get (texts_of ps) i ≡ Some (shown p) = slice_get-map shown ps i ∙ ap (option_map shown) (slice_get-get_or ps i d within) in
    let taken : AreSpelled (take i (texts_of ps)) ts = subst (λ (xs : List (Form × List ℕ)). AreSpelled xs ts) (sym (take-map shown i ps)) are in
    not_spelled (texts_of ps) ts i n position (shown p) at count taken is none points

-- what the construction reports of the trees is right of their texts
pub error_of_report : (xs : List (Form × List ℕ)) (ps qs : List ℕ) (ts : List Tree) (e : DfaConstructionError) → AreSpelled xs ts → qs ≡ ps → IsReport ts qs e
    → IsLexerError xs ps (of_construction e)
error_of_report xs ps qs ts (built.NfaConstructionError i e) are same report = (ts, (are, report))
error_of_report xs ps qs ts (built.Ambiguity i j w) are same report = let clash = rw same at report.1 in (ts, (are, report.0, clash))
error_of_report xs ps qs ts built.OutOfMemory are same report = tt
