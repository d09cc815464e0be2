-- A part as a tuple, which proofs use to tell one from another.
use Rattle.std.specs.Prelude.{ℕ, List, refl}
use Rattle.std.specs.Coded.{Coded, code_by, coded×, coded_list, coded_ℕ}
use Rattle.lalrpop_hir.specs.Tree.{Tree}
use Rattle.lalrpop_hir.specs.Internal.Code.{tree_code}
use Rattle.lalrpop_re.specs.NamedPart.{NamedPart}

abbrev pub part_code : Coded NamedPart
part_code =
    code_by (List ℕ × (Tree × ℕ)) (coded× (coded_list coded_ℕ) (coded× tree_code coded_ℕ)) (λ p. (p.name, (p.tree, p.levels)))
    (λ p. record { name = p.0; tree = p.1.0; levels = p.1.1 }) (λ _. refl)
