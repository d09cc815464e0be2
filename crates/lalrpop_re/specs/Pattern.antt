-- cases: proofs/Cases/Pattern.antt
-- Patterns: a text and the tree that it spells.
use Rattle.std.specs.Prelude.{◌≡◌, ℕ, ◌<◌, ◌≤◌, ◌+◌, max, Bool, true, false, not, ◌==◌, IsTrue, IsFalse, List, [], ◌∷◌, length, Option, Some, None, if◌then◌else◌, codes, encode_utf8_all}
use Rattle.lalrpop_hir.specs.Range.{Range}
use Rattle.lalrpop_hir.specs.Tree.{Tree, empty, literal, look, repetition, capture, concat, alternation}
use Rattle.lalrpop_hir.specs.Parts.{trees}
use Rattle.lalrpop_hir.specs.declared.look.Look.TheVariants.{Start, End, StartLF, EndLF}
use Rattle.lalrpop_re.specs.Text.{Text, ◌▸◌}
use Rattle.lalrpop_re.specs.CharacterSet.{Set, just, complement, nothing, fold, canon, set_tree, is_one_of}
use Rattle.lalrpop_re.specs.declared.flags.Flags.{Flags}
use Rattle.lalrpop_re.specs.Flag.{no_flags, has_flag, FlagLetters}
use Rattle.lalrpop_re.specs.NamedPart.{NamedPart, is_part_name, part_named}
use Rattle.lalrpop_re.specs.GroupName.{is_name, names, are_distinct}
use Rattle.lalrpop_re.specs.Escape.{Escape, Escaped, character, set, assertion}
use Rattle.lalrpop_re.specs.Bracket.{Bracket, leaf_or_complement}
use Rattle.lalrpop_re.specs.Operator.{Operator}

-- ---- trees of atoms, branches and expressions

abbrev pub is_one_member : List Range → Bool
is_one_member [] = false
is_one_member (r ∷ []) = r.start == r.end
is_one_member (r ∷ q ∷ rs) = false

-- A literal character outside brackets. Under the flag `i` it is the set of its foldings, unless that is the character alone.
abbrev pub literal_tree : Flags → ℕ → Tree
literal_tree f c =
    if not f.case_insensitive then literal (c ∷ [])
    else if is_one_member (canon (fold (just c))) then literal (c ∷ [])
    else set_tree (fold (just c))

abbrev pub escaped_tree : Flags → Escaped → Tree
escaped_tree f (character c) = literal_tree f c
escaped_tree f (set s negated) = set_tree (leaf_or_complement f s negated)
escaped_tree f (assertion l) = look l

-- `.` is every scalar value but U+000A, and under the flag `s` every scalar value
abbrev pub dot_tree : Flags → Tree
dot_tree f = set_tree (if f.dot_matches_new_line then complement nothing else complement (just 10))

-- a branch's tree, of its pieces
abbrev pub branch : List Tree → Tree
branch [] = empty
branch (t ∷ []) = t
branch (t ∷ u ∷ ts) = concat (trees (t ∷ u ∷ ts))

-- an expression's tree, of its branches
abbrev pub choice : List Tree → Tree
choice [] = empty
choice (t ∷ []) = t
choice (t ∷ u ∷ ts) = alternation (trees (t ∷ u ∷ ts))

-- ---- how the parts of a pattern end

-- outside brackets these don't stand for themselves; every other character does, `]` and `}` among them
abbrev pub is_special : ℕ → Bool
is_special c = is_one_of "\\.+*?()|[{^$" c

abbrev pub ends_expression : Text → Bool
ends_expression [] = true
ends_expression (c ∷ t) = is_one_of ")" c

abbrev pub ends_branch : Text → Bool
ends_branch [] = true
ends_branch (c ∷ t) = is_one_of "|)" c

-- ---- the grammar

-- `X f t r .. d`: under the flags f the text from t up to r spells an X, and d is the nesting depth of X: the greatest number
-- of its groups, brackets and repetitions that a place of it is inside. g are the flags after it. A part is inside as many as
-- its text in a group would be.
mutual
  pub data Atom (parts : List NamedPart) : Flags → Text → Text → Tree → ℕ → Type 0 where
    a_literal : {f : Flags} {c : ℕ} {r : Text} → IsFalse (is_special c) → Atom parts f (c ∷ r) r (literal_tree f c) 0
    a_dot : {f : Flags} {r : Text} → Atom parts f (codes "." ▸ r) r (dot_tree f) 0
    a_start : {f : Flags} {r : Text} → Atom parts f (codes "^" ▸ r) r (look (if f.multi_line then StartLF else Start)) 0
    an_end : {f : Flags} {r : Text} → Atom parts f (codes "$" ▸ r) r (look (if f.multi_line then EndLF else End)) 0
    an_escape : {f : Flags} {t r : Text} {e : Escaped} → Escape t r e → Atom parts f (codes "\\" ▸ t) r (escaped_tree f e) 0
    a_bracket : {f : Flags} {t r : Text} {s : Set} {d : ℕ} → Bracket f t r s d → Atom parts f t r (set_tree s) d
    -- `(e)`
    a_capture : {f g : Flags} {t r : Text} {e : Tree} {d : ℕ} → Expression parts f t (codes ")" ▸ r) e g d → Atom parts f (codes "(" ▸ t) r (capture None e) (d + 1)
    -- `(?P<name>e)` and `(?<name>e)`
    a_named : {f g : Flags} {t r : Text} {e : Tree} {d : ℕ} (name : List ℕ) → IsTrue (is_name name) → Expression parts f t (codes ")" ▸ r) e g d →
        Atom parts f (codes "(?P<" ▸ name ▸ codes ">" ▸ t) r (capture (Some (encode_utf8_all name)) e) (d + 1)
    a_named_too : {f g : Flags} {t r : Text} {e : Tree} {d : ℕ} (name : List ℕ) → IsTrue (is_name name) → Expression parts f t (codes ")" ▸ r) e g d →
        Atom parts f (codes "(?<" ▸ name ▸ codes ">" ▸ t) r (capture (Some (encode_utf8_all name)) e) (d + 1)
    -- `(?:e)`, which has no letters, and `(?flags:e)`
    a_group : {f g h : Flags} {t r : Text} {e : Tree} {d : ℕ} (letters : List ℕ) → FlagLetters f letters g → Expression parts g t (codes ")" ▸ r) e h d →
        Atom parts f (codes "(?" ▸ letters ▸ codes ":" ▸ t) r e (d + 1)
    -- `{name}`, where no flag is on: so a part means the same here as where it is made
    a_part : {f : Flags} {r : Text} {p : NamedPart} (name : List ℕ) → IsFalse (has_flag f) → IsTrue (is_part_name name) → part_named parts name ≡ Some p →
        Atom parts f (codes "{" ▸ name ▸ codes "}" ▸ r) r p.tree (p.levels + 1)

  -- an atom, or a piece and an operator
  pub data Piece (parts : List NamedPart) : Flags → Text → Text → Tree → ℕ → Type 0 where
    an_atom : {f : Flags} {t r : Text} {e : Tree} {d : ℕ} → Atom parts f t r e d → Piece parts f t r e d
    repeated : {f : Flags} {t u r : Text} {e : Tree} {d n : ℕ} {m : Option ℕ} {greedy : Bool} → Piece parts f t u e d → Operator f u r n m greedy → Piece parts f t r (repetition n m greedy e) (d + 1)

  -- the pieces of one branch
  pub data Row (parts : List NamedPart) : Flags → Text → Text → List Tree → Flags → ℕ → Type 0 where
    no_piece : {f : Flags} {r : Text} → IsTrue (ends_branch r) → Row parts f r r [] f 0
    a_directive : {f g h : Flags} {t r : Text} {es : List Tree} {d : ℕ} (letters : List ℕ) → 0 < length letters → FlagLetters f letters g → Row parts g t r es h d →
        Row parts f (codes "(?" ▸ letters ▸ codes ")" ▸ t) r es h d
    piece_then : {f g : Flags} {t u r : Text} {e : Tree} {es : List Tree} {d k : ℕ} → Piece parts f t u e d → Row parts f u r es g k → Row parts f t r (e ∷ es) g (max d k)

  -- the trees of the branches
  pub data Branches (parts : List NamedPart) : Flags → Text → Text → List Tree → Flags → ℕ → Type 0 where
    last_branch : {f g : Flags} {t r : Text} {es : List Tree} {d : ℕ} → Row parts f t r es g d → IsTrue (ends_expression r) → Branches parts f t r (branch es ∷ []) g d
    branch_then : {f g h : Flags} {t u r : Text} {es bs : List Tree} {d k : ℕ} → Row parts f t (codes "|" ▸ u) es g d → Branches parts g u r bs h k → Branches parts f t r (branch es ∷ bs) h (max d k)

  pub data Expression (parts : List NamedPart) : Flags → Text → Text → Tree → Flags → ℕ → Type 0 where
    of_branches : {f g : Flags} {t r : Text} {bs : List Tree} {d : ℕ} → Branches parts f t r bs g d → Expression parts f t r (choice bs) g d

-- the greatest number of groups, brackets and repetitions that a place of a pattern may be inside
abbrev pub most_levels : ℕ
most_levels = 250

-- The whole text spells the tree: reading begins with no flag set, no place is inside too many levels, and no two groups
-- have the same name.
pub record PatternWith (parts : List NamedPart) (s : Text) (e : Tree) : Type 0 where
  pub flags : Flags
  pub levels : ℕ
  pub reads : Expression parts no_flags s [] e flags levels
  pub flat : levels ≤ most_levels
  pub distinct : IsTrue (are_distinct (names e))

-- without parts
abbrev pub Pattern : Text → Tree → Type 0
Pattern s e = PatternWith [] s e

-- a part of this name, whose text spells its tree by the parts before it
pub record IsPart (before : List NamedPart) (called : List ℕ) (s : Text) (p : NamedPart) : Type 0 where
  pub is_name : IsTrue (is_part_name called)
  pub name : p.name ≡ called
  pub spells : PatternWith before s p.tree
  pub depth : p.levels ≡ spells.levels
