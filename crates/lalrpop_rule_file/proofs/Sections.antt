-- The names of the modes of a section, one after another.
use Rattle.std.proofs.Common.{◌≡◌, ◌≢◌, ℕ, ◌<◌, ◌+◌, true, false, List, [], ◌∷◌, ◌++◌, length, map, refl, sym, ap, subst, ◌∙◌, arith, length-append, Bor}
use Rattle.std.proofs.lemmas.Bool.{false≢true}
use Rattle.lalrpop_rule_file.proofs.Bytes.{begins_of_name}
use Rattle.lalrpop_rule_file.specs.Words.{IsSpan, begins, begins_name, is_blank, is_of_name}
use Rattle.lalrpop_rule_file.specs.RuleLine.{Listing, Reads, nothing}
use Rattle.lalrpop_rule_file.specs.RuleFault.{StopsBefore}
use Rattle.lalrpop_rule_file.specs.declared.error.LineFault.TheVariants.{NoMode}
use Rattle.lalrpop_rule_file.proofs.Actions.{map_more}
use Rattle.lalrpop_rule_file.proofs.Lexemes.{joined}
use Rattle.lalrpop_rule_file.proofs.Stopping.{no_list, one_mode}

-- after the `[` of a section these names were read, up to the rest
pub record HasListed (text rest : List ℕ) (modes : List (Bor (List ℕ))) : Type 0 where
  pub reads : Reads (Listing []) text (Listing (map (λ m. m.now) modes)) rest
  pub no_blank : begins is_blank rest ≡ false
  pub same : modes ≡ [] → rest ≡ text

pub listed_none : (text : List ℕ) → begins is_blank text ≡ false → HasListed text text []
listed_none text blank = record { reads = nothing; no_blank = blank; same = λ e. refl }

pub listed_more : (text rest behind gap after : List ℕ) (modes more : List (Bor (List ℕ))) (mode : Bor (List ℕ)) → HasListed text rest modes → begins begins_name rest ≡ true
    → IsSpan is_of_name rest mode.now behind → IsSpan is_blank behind gap after → more ≡ modes ++ mode ∷ [] → HasListed text after more
listed_more text rest behind gap after modes more mode h begin word blanks is =
    let names : List (List ℕ) = map (λ m. m.now) modes in
    let own : Reads (Listing names) rest (Listing (map (λ m. m.now) (modes ++ mode ∷ []))) after =
    subst (λ (x : List (List ℕ)). Reads (Listing names) rest (Listing x) after) (sym (map_more (λ m. m.now) modes mode)) (one_mode names rest mode.now behind gap after begin word blanks) in
    rw is (record { reads = joined h.reads own; no_blank = blanks.stops; same = λ e. absurd (some modes e) })
  where
    some : (xs : List (Bor (List ℕ))) → xs ++ mode ∷ [] ≡ [] → ⊥
    some [] e = absurd (cc)
    some (x ∷ xs) e = absurd (cc)

some_name : (rest name behind : List ℕ) → begins begins_name rest ≡ true → IsSpan is_of_name rest name behind → 0 < length name
some_name rest (b ∷ bs) behind begin word = omega arith
some_name [] [] behind begin word = absurd (false≢true begin)
some_name (b ∷ rest) [] behind begin word =
    absurd (false≢true (sym word.stops ∙ ap (begins is_of_name) (sym word.parts) ∙ begins_of_name b begin))

-- the rest gets shorter
pub shorter : (rest name behind gap after : List ℕ) → begins begins_name rest ≡ true → IsSpan is_of_name rest name behind → IsSpan is_blank behind gap after → length after < length rest
shorter rest name behind gap after begin word blanks =
    let m : length rest ≡ length name + length behind = ap length word.parts ∙ length-append name behind in
    let n : length behind ≡ length gap + length after = ap length blanks.parts ∙ length-append gap after in
    omega (arith, m, n, some_name rest name behind begin word)

-- no mode stands there
pub no_modes : (text rest : List ℕ) (modes : List (Bor (List ℕ))) → length modes ≡ 0 → (modes ≡ [] → rest ≡ text) → begins is_blank rest ≡ false → begins begins_name rest ≡ false → ((right : List ℕ) → text ≢ 42 ∷ right)
    → StopsBefore (Listing []) text rest NoMode
no_modes text rest [] none same blank no_name no_star =
    let is : text ≡ rest = sym (same refl) in
    subst (λ (x : List ℕ). StopsBefore (Listing []) x rest NoMode) (sym is) (no_list rest blank no_name (λ right e. no_star right (is ∙ e)))
no_modes text rest (m ∷ ms) none same blank no_name no_star = absurd (omega (arith, none))
