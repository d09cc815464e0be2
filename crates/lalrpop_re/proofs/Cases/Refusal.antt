-- Cases of specs/Refusal.antt.
use Rattle.std.proofs.Common.{◌≡◌, ◌≤◌, true, false, [], ◌∷◌, codes, refl, lit≤, arith}
use Rattle.std.specs.Prelude.{Some, None}
use Rattle.lalrpop_hir.specs.Tree.{literal, empty}
use Rattle.lalrpop_re.specs.GroupName.{names}
use Rattle.lalrpop_re.specs.Flag.{no_flags}
use Rattle.lalrpop_re.specs.Internal.Reading as reading
use Rattle.lalrpop_re.specs.Pattern.{a_literal, a_part, an_atom, no_piece, piece_then, last_branch, of_branches}
use Rattle.lalrpop_re.specs.Refusal.{HasNoTree, HasNoTreeWith, MakesNoPart, SaysNoText, PointsInto}
use Rattle.lalrpop_re.specs.declared.error.RegexError.TheVariants.{Syntax, OutOfMemory}
use Rattle.lalrpop_re.specs.declared.error.SyntaxKind.TheVariants.{RepetitionMissing, PartUnknown, PartName, EscapeUnexpectedEof}
use Rattle.lalrpop_re.specs.Unescaped.{at_end, itself}
use Rattle.lalrpop_re.specs.Escape.{character}
use Rattle.lalrpop_re.proofs.UnescapedLaws.{says_first}
use Rattle.lalrpop_re.proofs.PatternLaws.{missing_with}
use Rattle.lalrpop_re.proofs.Cases.Pattern.{operator_alone}

-- `*a` is refused
refusal_of_no_pattern : HasNoTree (codes "*a") (Syntax 0 RepetitionMissing)
refusal_of_no_pattern = operator_alone

-- `a` is not, unless memory runs out
refusal_of_a_pattern : ¬ HasNoTree (codes "a") (Syntax 0 RepetitionMissing)
unfolding names
refusal_of_a_pattern h =
    h (literal (codes "a")) (record {
      flags = _;
      levels = _;
      reads = of_branches (last_branch (piece_then (an_atom (a_literal refl)) (no_piece refl)) refl);
      flat = lit≤ tt;
      distinct = refl;
    })

want_of_memory_says_nothing : HasNoTree (codes "a") OutOfMemory
want_of_memory_says_nothing = tt

-- `{d}` is refused where no part is known, and not where `d` is one
part_of_none : HasNoTreeWith [] (codes "{d}") (Syntax 0 RepetitionMissing)
unfolding reading.inside reading.expression_with reading.branches reading.row reading.row_step reading.directive_at reading.piece reading.atom reading.part_after
part_of_none = missing_with [] (codes "{d}") refl

part_of_one : ¬ HasNoTreeWith (record { name = codes "d"; tree = empty; levels = 0 } ∷ []) (codes "{d}") (Syntax 0 PartUnknown)
unfolding names
part_of_one h =
    h empty (record {
      flags = _;
      levels = _;
      reads = of_branches (last_branch (piece_then (an_atom (a_part (codes "d") refl refl refl)) (no_piece refl)) refl);
      flat = lit≤ tt;
      distinct = refl;
    })

-- `9` is the name of no part, and `d` is of one
no_name_of_a_part : MakesNoPart [] (codes "9") (codes "a") (Syntax 0 PartName)
no_name_of_a_part p h = let e : false ≡ true = h.is_name in absurd cc

name_of_a_part : ¬ MakesNoPart [] (codes "d") (codes "a") (Syntax 0 PartName)
unfolding names
name_of_a_part h =
    h (record { name = codes "d"; tree = literal (codes "a"); levels = 0 }) (record {
      is_name = refl;
      name = refl;
      spells = record {
        flags = no_flags;
        levels = 0;
        reads = of_branches (last_branch (piece_then (an_atom (a_literal refl)) (no_piece refl)) refl);
        flat = lit≤ tt;
        distinct = refl;
      };
      depth = refl;
    })

-- a backslash alone says no text
refusal_of_a_backslash : SaysNoText (codes "\\") (Syntax 1 EscapeUnexpectedEof)
unfolding reading.primary reading.escape
refusal_of_a_backslash cs h =
    let s = says_first 92 [] cs h in
    let none : reading.primary (codes "\\") ≡ None = refl in
    let some : reading.primary (codes "\\") ≡ Some (character s.first, s.rest) = s.read in
    absurd (cc)

-- `a` says a text, whatever a refusal claims, unless memory runs out
refusal_of_a_text : (¬ SaysNoText (codes "a") (Syntax 0 EscapeUnexpectedEof)) × SaysNoText (codes "a") OutOfMemory
refusal_of_a_text = (λ h. h (codes "a") (itself refl at_end), tt)

-- before and after `é`, which has two bytes, a position is on a boundary
positions_beside_a_character : PointsInto (0xC3 ∷ 0xA9 ∷ []) (Syntax 0 RepetitionMissing) × PointsInto (0xC3 ∷ 0xA9 ∷ []) (Syntax 2 RepetitionMissing)
positions_beside_a_character = ((omega arith, λ l h. omega arith), (omega arith, λ l h. absurd (omega (arith, l))))

-- inside it, and past the end, it isn't
position_inside_a_character : ¬ PointsInto (0xC3 ∷ 0xA9 ∷ []) (Syntax 1 RepetitionMissing)
position_inside_a_character h = let k : 192 ≤ 0xA9 = h.1 (omega arith) (omega arith) in omega (arith, k)

position_past_the_text : ¬ PointsInto (0xC3 ∷ 0xA9 ∷ []) (Syntax 3 RepetitionMissing)
position_past_the_text h = omega (arith, h.0)
