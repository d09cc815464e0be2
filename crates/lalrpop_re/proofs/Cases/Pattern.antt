-- Patterns that are easy to get wrong: each spells the tree given here and no other (`one_tree`), or none.
use Rattle.std.proofs.Common.{◌≡◌, ℕ, zero, suc, max, sym, ap, ◌∙◌, arith, add-one, Bool, true, false, not, cond, Option, List, [], ◌∷◌, Some, None, refl, codes, lit<, lit≤, ◌++◌}
use lib.Utf8.{encode}
use Rattle.lalrpop_hir.specs.Range.{Range}
use Rattle.lalrpop_hir.specs.Tree.{Tree, literal, class, unicode, repetition, look, empty, alternation, concat, capture}
use Rattle.lalrpop_hir.specs.Parts.{trees}
use Rattle.lalrpop_hir.specs.declared.look.Look.TheVariants.{WordUnicode}
use Rattle.lalrpop_re.specs.Text.{Text, begins}
use Rattle.lalrpop_re.specs.CharacterSet.{fold, just, canon}
use Rattle.lalrpop_re.specs.declared.flags.Flags.{Flags}
use Rattle.lalrpop_re.specs.Flag.{no_flags, on, on_and_off}
use Rattle.lalrpop_re.specs.GroupName.{names, are_distinct}
use Rattle.lalrpop_re.specs.Escape.{escape_of, edge_alone, sign}
use Rattle.lalrpop_re.specs.Operator.{optional, any_number, exactly, Count, count, alone, turned, decimal}
use Rattle.lalrpop_re.specs.NamedPart.{NamedPart}
use Rattle.lalrpop_re.specs.Pattern.{a_literal, an_escape, a_capture, a_named_too, a_part, an_atom, Piece, Expression, repeated, no_piece, a_directive, piece_then, last_branch, branch_then, of_branches, PatternWith, Pattern, IsPart, literal_tree, is_one_member}
use Rattle.lalrpop_re.specs.Internal.Reading as reading
use Rattle.lalrpop_re.proofs.PatternLaws.{Expression-complete, missing, missing_with}

-- the second `?` belongs to the first, the third is an operator of its own
a_lazy_one_under_a_greedy_one : Pattern (codes "a???") (repetition 0 (Some 1) true (repetition 0 (Some 1) false (literal (codes "a"))))
unfolding names
a_lazy_one_under_a_greedy_one = record {
  flags = _;
  levels = _;
  reads = of_branches (last_branch (piece_then (repeated (repeated (an_atom (a_literal refl)) (turned optional)) (alone optional refl)) (no_piece refl)) refl);
  flat = lit≤ tt;
  distinct = refl;
}

-- a directive is not a part
directive_alone : Pattern (codes "(?i-s)") empty
unfolding names
directive_alone = record {
  flags = _;
  levels = _;
  reads = of_branches (last_branch (a_directive (codes "i-s") (lit< tt) (on_and_off (codes "i") (codes "s") refl refl (lit< tt) refl) (no_piece refl)) refl);
  flat = lit≤ tt;
  distinct = refl;
}

-- the tree of a character has no names, folded or not
literal-names : (f : Flags) (c : ℕ) → names (literal_tree f c) ≡ []
unfolding names
literal-names f c = either (not f.case_insensitive) (is_one_member (canon (fold (just c)))) (canon (fold (just c)))
  where
    either : (a b : Bool) (rs : List Range) → names (cond a (literal (c ∷ [])) (cond b (literal (c ∷ [])) (class (unicode rs)))) ≡ []
    either true b rs = refl
    either false true rs = refl
    either false false rs = refl

-- a directive holds for the branches after it too
directive_over_a_bar : Pattern (codes "a(?i)b|c") (alternation (trees (
    concat (trees (literal (codes "a") ∷ literal_tree (record no_flags { case_insensitive = true }) 98 ∷ []))
    ∷ literal_tree (record no_flags { case_insensitive = true }) 99 ∷ [])))
unfolding names
directive_over_a_bar = record {
  flags = _;
  levels = _;
  reads =
      of_branches (branch_then (piece_then (an_atom (a_literal refl)) (a_directive (codes "i") (lit< tt) (on (codes "i") refl refl) (piece_then (an_atom (a_literal refl)) (no_piece refl))))
      (last_branch (piece_then (an_atom (a_literal refl)) (no_piece refl)) refl));
  flat = lit≤ tt;
  distinct = rw (literal-names (record no_flags { case_insensitive = true }) 98, literal-names (record no_flags { case_insensitive = true }) 99) refl;
}

-- a flag ends with its group
directive_in_a_group : Pattern (codes "((?U)a*)a*") (concat (trees (
    capture None (repetition 0 None false (literal (codes "a"))) ∷ repetition 0 None true (literal (codes "a")) ∷ [])))
unfolding names
directive_in_a_group = record {
  flags = _;
  levels = _;
  reads =
      of_branches (last_branch (piece_then (an_atom (a_capture (of_branches (last_branch (a_directive (codes "U") (lit< tt) (on (codes "U") refl refl)
      (piece_then (repeated (an_atom (a_literal refl)) (alone any_number refl)) (no_piece refl))) refl))))
      (piece_then (repeated (an_atom (a_literal refl)) (alone any_number refl)) (no_piece refl))) refl);
  flat = lit≤ tt;
  distinct = refl;
}

two : {r : Text} → Count (codes "2" ++ codes "}" ++ r) (codes "}" ++ r) 2
unfolding decimal
two = count [] (codes "2") [] refl refl (lit< tt) refl refl (lit< tt)

-- these braces are an operator, since they aren't one of the four forms that `\b` has
repeated_edge : Pattern (codes "\\b{2}") (repetition 2 (Some 2) true (look WordUnicode))
unfolding names sign
repeated_edge = record {
  flags = _;
  levels = _;
  reads = of_branches (last_branch (piece_then (repeated (an_atom (an_escape (escape_of (edge_alone refl)))) (alone (exactly two) refl)) (no_piece refl)) refl);
  flat = lit≤ tt;
  distinct = refl;
}

repeated_twice : Pattern (codes "a{2}{2}") (repetition 2 (Some 2) true (repetition 2 (Some 2) true (literal (codes "a"))))
unfolding names
repeated_twice = record {
  flags = _;
  levels = _;
  reads = of_branches (last_branch (piece_then (repeated (repeated (an_atom (a_literal refl)) (alone (exactly two) refl)) (alone (exactly two) refl)) (no_piece refl)) refl);
  flat = lit≤ tt;
  distinct = refl;
}

-- ---- how deep a place may be, and names

-- a text with n times `*` before it
stars : ℕ → Text → Text
stars zero r = r
stars (suc n) r = stars n (codes "*" ++ r)

-- `a` under n operators
starred : ℕ → Tree
starred zero = literal (codes "a")
starred (suc n) = repetition 0 None true (starred n)

under_stars : (n : ℕ) (r : Text) → begins "?" r ≡ false → Piece [] no_flags (97 ∷ stars n r) r (starred n) n
unfolding stars starred
under_stars zero r h = an_atom (a_literal refl)
under_stars (suc n) r h = rw (add-one n) at (repeated (under_stars n (codes "*" ++ r) refl) (alone any_number h))

reads_stars : (n : ℕ) → Expression [] no_flags (97 ∷ stars n []) [] (starred n) no_flags (max n 0)
reads_stars n = of_branches (last_branch (piece_then (under_stars n [] refl) (no_piece refl)) refl)

no_names_under_stars : (n : ℕ) → names (starred n) ≡ []
unfolding names starred
no_names_under_stars zero = refl
no_names_under_stars (suc n) = no_names_under_stars n

-- a place may be inside 250 repetitions
most_levels_are_a_pattern : Pattern (97 ∷ stars 250 []) (starred 250)
most_levels_are_a_pattern = record {
  flags = _;
  levels = _;
  reads = reads_stars 250;
  flat = lit≤ tt;
  distinct = ap are_distinct (no_names_under_stars 250);
}

-- and inside no more
one_level_more_is_no_pattern : (t : Tree) → Pattern (97 ∷ stars 251 []) t → ⊥
one_level_more_is_no_pattern t p =
    let reading = sym (Expression-complete [] (reads_stars 251) 251 (lit≤ tt)) ∙ Expression-complete [] p.reads 251 (omega (arith, p.flat)) in
    let deep : 251 ≡ p.levels = ap depth_of reading in
    omega (arith, deep, p.flat)
  where
    depth_of : Option reading.Whole → ℕ
    depth_of None = 0
    depth_of (Some w) = w.depth

-- groups may have names that differ
two_names : Pattern (codes "(?<_>)(?<__>)") (concat (trees (capture (Some (codes "_")) empty ∷ capture (Some (codes "__")) empty ∷ [])))
unfolding names encode
two_names = record {
  flags = _;
  levels = _;
  reads =
      of_branches (last_branch (piece_then (an_atom (a_named_too (codes "_") refl (of_branches (last_branch (no_piece refl) refl))))
      (piece_then (an_atom (a_named_too (codes "__") refl (of_branches (last_branch (no_piece refl) refl)))) (no_piece refl))) refl);
  flat = lit≤ tt;
  distinct = refl;
}

-- but no two may have the same name
name_stands_twice : (t : Tree) → Pattern (codes "(?<_>)(?<_>)") t → ⊥
unfolding reading.read reading.inside reading.expression_with reading.branches reading.row reading.row_step reading.directive_at reading.opening reading.piece reading.atom reading.group reading.enclosed reading.operators reading.name_at names encode
name_stands_twice = missing (codes "(?<_>)(?<_>)") refl

-- an operator must have something before it
pub operator_alone : (t : Tree) → Pattern (codes "*a") t → ⊥
unfolding reading.read reading.inside reading.expression_with reading.branches reading.row reading.row_step reading.directive_at reading.piece reading.atom
operator_alone = missing (codes "*a") refl

-- a group must end
open_group : (t : Tree) → Pattern (codes "(") t → ⊥
unfolding reading.read reading.inside reading.expression_with reading.branches reading.row reading.row_step reading.directive_at reading.opening reading.piece reading.atom reading.group reading.enclosed
open_group = missing (codes "(") refl

-- ---- parts

abbrev digit : NamedPart
digit = record { name = codes "d"; tree = literal (codes "0"); levels = 0 }

-- `{d}` is the tree of `d`, and operators stand behind it as behind a group
a_part_and_an_operator : PatternWith (digit ∷ []) (codes "{d}*") (repetition 0 None true (literal (codes "0")))
unfolding names
a_part_and_an_operator = record {
  flags = _;
  levels = _;
  reads = of_branches (last_branch (piece_then (repeated (an_atom (a_part (codes "d") refl refl refl)) (alone any_number refl)) (no_piece refl)) refl);
  flat = lit≤ tt;
  distinct = refl;
}

-- a `{` behind a piece begins a part or a count, by what follows
a_part_behind_a_count : PatternWith (digit ∷ []) (codes "a{2}{d}") (concat (trees (repetition 2 (Some 2) true (literal (codes "a")) ∷ literal (codes "0") ∷ [])))
unfolding names
a_part_behind_a_count = record {
  flags = _;
  levels = _;
  reads =
      of_branches (last_branch (piece_then (repeated (an_atom (a_literal refl)) (alone (exactly two) refl)) (piece_then (an_atom (a_part (codes "d") refl refl refl)) (no_piece refl))) refl);
  flat = lit≤ tt;
  distinct = refl;
}

-- a part of the part `d`: its text is one level deeper than that of `d`
a_part_of_a_part : IsPart (digit ∷ []) (codes "n") (codes "{d}") (record { name = codes "n"; tree = literal (codes "0"); levels = 1 })
unfolding names
a_part_of_a_part = record {
  is_name = refl;
  name = refl;
  spells = record {
    flags = no_flags;
    levels = 1;
    reads = of_branches (last_branch (piece_then (an_atom (a_part (codes "d") refl refl refl)) (no_piece refl)) refl);
    flat = lit≤ tt;
    distinct = refl;
  };
  depth = refl;
}

-- no part stands where there is none of its name
no_such_part : (t : Tree) → PatternWith (digit ∷ []) (codes "{e}") t → ⊥
unfolding reading.inside reading.expression_with reading.branches reading.row reading.row_step reading.directive_at reading.piece reading.atom reading.part_after
no_such_part = missing_with (digit ∷ []) (codes "{e}") refl

-- nor under a flag
part_under_a_flag : (t : Tree) → PatternWith (digit ∷ []) (codes "(?s){d}") t → ⊥
unfolding reading.inside reading.expression_with reading.branches reading.row reading.row_step reading.directive_at reading.opening reading.letters_at reading.flags_of reading.piece reading.atom reading.part_after
part_under_a_flag = missing_with (digit ∷ []) (codes "(?s){d}") refl

-- nor with the levels of its text all used up
part_at_the_last_level : (t : Tree) → PatternWith (record digit { levels = 250 } ∷ []) (codes "{d}") t → ⊥
unfolding reading.inside reading.expression_with reading.branches reading.row reading.row_step reading.directive_at reading.piece reading.atom reading.part_after
part_at_the_last_level = missing_with (record digit { levels = 250 } ∷ []) (codes "{d}") refl
