-- Rules as pairs of lists, which proofs use to tell rules apart.
use Rattle.std.specs.Prelude.{◌≡◌, ℕ, List, Option, Some, None, refl}
use Rattle.std.specs.Coded.{Coded, code_by, coded×, coded_list, coded_option, coded_ℕ}
use Rattle.lalrpop_hir.specs.Internal.Code.{range_code, tree_code}
use Rattle.lalrpop_hir.specs.Range.{Range}
use Rattle.lalrpop_hir.specs.Tree.{Tree}
use Rattle.lalrpop_dfa.specs.Dfa.{Row}
use Rattle.lalrpop_dfa.specs.declared.Kind.{Kind}
use Rattle.lalrpop_dfa.specs.declared.Kind.TheVariants.{Accepts, Reject, Neither}
use Rattle.lalrpop_dense.specs.Rules.{Rules}

abbrev option_of_kind : Kind → Option (Option ℕ)
option_of_kind (Accepts i) = Some (Some i)
option_of_kind Reject = Some None
option_of_kind Neither = None

abbrev kind_of_option : Option (Option ℕ) → Kind
kind_of_option (Some (Some i)) = Accepts i
kind_of_option (Some None) = Reject
kind_of_option None = Neither

pub kind_of_option_of_kind : (k : Kind) → kind_of_option (option_of_kind k) ≡ k
kind_of_option_of_kind (Accepts i) = refl
kind_of_option_of_kind Reject = refl
kind_of_option_of_kind Neither = refl

abbrev kind_code : Coded Kind
kind_code = code_by (Option (Option ℕ)) (coded_option (coded_option coded_ℕ)) option_of_kind kind_of_option kind_of_option_of_kind

abbrev pub row_code : Coded Row
row_code =
    code_by (Kind × (List (Range × ℕ) × (ℕ × List (ℕ × ℕ))))
    (coded× kind_code (coded× (coded_list (coded× range_code coded_ℕ)) (coded× coded_ℕ (coded_list (coded× coded_ℕ coded_ℕ)))))
    (λ r. (r.kind, (r.tests, (r.other, r.items))))
    (λ p. record { kind = p.0; tests = p.1.0; other = p.1.1.0; items = p.1.1.1 })
    (λ _. refl)

abbrev pub rules_code : Coded Rules
rules_code =
    code_by (List Tree × (List ℕ × List Row)) (coded× (coded_list tree_code) (coded× (coded_list coded_ℕ) (coded_list row_code)))
    (λ r. (r.trees, (r.precedences, r.automaton)))
    (λ p. record { trees = p.0; precedences = p.1.0; automaton = p.1.1 })
    (λ _. refl)
