-- The lexers of modes, one after another.
use Rattle.std.proofs.Common.{◌≡◌, ℕ, zero, suc, ◌+◌, ◌<◌, ◌≤◌, ◌⊎◌, ◌==◌, inl, inr, List, [], ◌∷◌, ◌++◌, length, map, refl, ap, sym, subst, ◌∙◌, arith, eq-or-lt_of_le}
use Rattle.std.specs.Prelude.{Some, slice_get}
use Rattle.std.specs.List.{list_any}
use Rattle.std.proofs.lemmas.List.{length-map}
use Rattle.std.proofs.lemmas.Simd.{map-map}
use Rattle.lalrpop_hir.specs.Tree.{Tree}
use Rattle.lalrpop_hir.specs.Clash.{NoClash}
use Rattle.lalrpop_hir.specs.Report.{NoFault, IsReport}
use Rattle.lalrpop_hir.specs.declared.error.DfaConstructionError.{DfaConstructionError}
use Rattle.lalrpop_hir.specs.declared.error.DfaConstructionError.TheVariants as report
use Rattle.lalrpop_lexer.specs.Rules.{Rules}
use Rattle.lalrpop_rules.specs.RuleSet.{AreTrees, IsTextError}
use Rattle.lalrpop_rules.proofs.RuleTrees.{length-AreTrees}
use Rattle.lalrpop_rules.proofs.KindLaws.{no_fault_merged, no_first_fault}
use Rattle.lalrpop_rules.specs.declared.text_error.TextError.{TextError}
use Rattle.lalrpop_rules.specs.declared.text_error.TextError.TheVariants as texts
use Rattle.lalrpop_rules.specs.Modes.{ModeRules, kinds_of, mode_rules, trees_of, trees_in}
use Rattle.lalrpop_rules.specs.ModeSet.{AllThere, AreModeRules, IsRulesError, rules_of}
use Rattle.lalrpop_rules.specs.RulesErrors.{of_texts}
use Rattle.bajofeki_rules.specs.declared.mode_rule.ModeRule.{ModeRule}
use Rattle.lalrpop_rules.specs.declared.error.RulesError.{RulesError}
use Rattle.lalrpop_rules.specs.declared.error.RulesError.TheVariants.{NoSuchMode, NotParsed, BadEnd, NotCompiled, Clash, OutOfMemory}
use Rattle.lalrpop_rules.specs.Internal.Lexers.{AreLexers, IsModeFault, in_mode, seen}

-- the trees of a mode, whether the modes of each rule are listed first or not
pub same_trees : {K : Type 0} (f : K → List ℕ) (ks : List K) (ns : List ℕ) (ts : List Tree) (m : ℕ)
    → trees_of (map (λ k. list_any (λ n. n == m) (f k)) ks) ns ts ≡ trees_of (map (λ ms. list_any (λ n. n == m) ms) (map f ks)) ns ts
same_trees f ks ns ts m = ap (λ bs. trees_of bs ns ts) (sym (map-map (λ ms. list_any (λ n. n == m) ms) f ks))

pub slice_end : {X : Type 0} (xs : List X) (x y : X) (k : ℕ) → slice_get (xs ++ x ∷ []) k ≡ Some y → (slice_get xs k ≡ Some y) ⊎ ((k ≡ length xs) × (x ≡ y))
slice_end [] x y zero at = inr (refl, cc)
slice_end [] x y (suc k) at = absurd (cc)
slice_end (z ∷ xs) x y zero at = inl at
slice_end (z ∷ xs) x y (suc k) at = elim (slice_end xs x y k at) [ inl h ↦ inl h | inr p ↦ inr (ap suc p.0, p.1) ]

-- one lexer more
pub lexers_more : (r : ModeRules) (ls new : List Rules) (l : Rules) (m : ℕ) → AreLexers r ls → length ls ≡ m → new ≡ ls ++ l ∷ []
    → l.trees ≡ trees_in r m → l.precedences ≡ r.precedences → AreLexers r new
lexers_more r ls new l m are count more trees precedences k q at =
    elim (slice_end ls l q k (ap (λ (xs : List Rules). slice_get xs k) (sym more) ∙ at)) [
      | inl h ↦ are k q h
      | inr p ↦ (
        ap (λ (x : Rules). x.trees) (sym p.1) ∙ trees ∙ ap (trees_in r) (sym (p.0 ∙ count)),
        ap (λ (x : Rules). x.precedences) (sym p.1) ∙ precedences,
      )
    ]

-- no mode before this one clashes
abbrev pub NoClashBefore : ModeRules → ℕ → Type 0
NoClashBefore r m = (k : ℕ) → k < m → NoClash (trees_in r k) r.precedences

-- one mode more
pub clear_more : (r : ModeRules) (m : ℕ) → NoClashBefore r m → NoClash (trees_in r m) r.precedences → NoClashBefore r (m + 1)
clear_more r m clear no_clash k below =
    let least : k ≤ m = omega (arith, below) in
    elim (eq-or-lt_of_le least) [
      | inl e ↦ subst (λ (n : ℕ). NoClash (trees_in r n) r.precedences) (sym e) no_clash
      | inr h ↦ clear k h
    ]

-- the report of a mode is an error
pub fault_of_report : (r : ModeRules) (m : ℕ) (e : DfaConstructionError) → m < r.modes → NoFault r.trees → IsReport (trees_in r m) r.precedences e → NoClashBefore r m
    → IsModeFault r (in_mode m e)
fault_of_report r m (report.NfaConstructionError i e) there fine is clear =
    no_first_fault (trees_in r m) i e (no_fault_merged (kinds_of (mode_rules r m) r.kinds) r.trees fine) is
fault_of_report r m (report.Ambiguity i j w) there fine is clear = record { there = there; clash = is.1; first = clear }
fault_of_report r m report.OutOfMemory there fine is clear = tt

-- and one of the rules
pub error_of_fault : (rs : List ModeRule) (modes : ℕ) (r : ModeRules) (e : RulesError) → AllThere rs modes → AreModeRules rs modes r
    → IsModeFault (seen r.trees r.precedences r.members r.kinds modes) e → IsRulesError rs modes e
error_of_fault rs modes r (NoSuchMode i m) there are fault = absurd fault
error_of_fault rs modes r (NotParsed i position kind) there are fault = absurd fault
error_of_fault rs modes r (BadEnd i e) there are fault = absurd fault
error_of_fault rs modes r (NotCompiled i e) there are fault = absurd fault
error_of_fault rs modes r (Clash m i j w) there are fault =
    (there, (r, (are, record { there = subst (λ (n : ℕ). m < n) (sym are.count) fault.there; clash = fault.clash; first = fault.first })))
error_of_fault rs modes r OutOfMemory there are fault = tt

-- as is the error of their texts
pub error_of_texts : (rs : List ModeRule) (modes : ℕ) (e : TextError) → AllThere rs modes → IsTextError (rules_of rs) e → IsRulesError rs modes (of_texts e)
error_of_texts rs modes (texts.NotParsed i position kind) there is = (there, is)
error_of_texts rs modes (texts.BadEnd i e) there is = (there, is)
error_of_texts rs modes (texts.NotCompiled i e) there is = (there, is)
error_of_texts rs modes texts.OutOfMemory there is = tt

-- as many trees as rules
pub count_of_trees : (rs : List ModeRule) (ts : List Tree) → AreTrees (rules_of rs) ts → length ts ≡ length rs
count_of_trees rs ts are = length-AreTrees _ _ are ∙ length-map _ _

-- and as many that are known
pub count_of_known : {K : Type 0} (f : K → List ℕ) (ks : List K) (rs : List ModeRule) → map f ks ≡ map (λ r. r.modes.now) rs → length ks ≡ length rs
count_of_known f ks rs e = sym (length-map _ _) ∙ ap length e ∙ length-map _ _
