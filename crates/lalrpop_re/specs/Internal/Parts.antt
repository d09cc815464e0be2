-- One step of a row, and how the parser's parts relate to the reader's.
use Rattle.std.specs.Prelude.{ℕ, suc, ◌&&◌, max, List, [], ◌∷◌, ◌++◌, Option, Some, None, drop, option_map, if◌then◌else◌}
use Rattle.lalrpop_hir.specs.Tree.{Tree, capture}
use Rattle.lalrpop_re.specs.declared.cursor.Cursor.{Cursor}
use Rattle.lalrpop_re.specs.declared.flags.Flags.{Flags}
use Rattle.lalrpop_re.specs.declared.parser.Nested.{Nested}
use Rattle.lalrpop_re.specs.declared.parser.Row.{Row}
use Rattle.lalrpop_re.specs.Text.{Text, begins}
use Rattle.lalrpop_re.specs.CharacterSet.{set_tree}
use Rattle.lalrpop_re.specs.Flag.{no_flags}
use Rattle.lalrpop_re.specs.GroupName.{names, are_distinct}
use Rattle.lalrpop_re.specs.NamedPart.{NamedPart}
use Rattle.lalrpop_re.specs.Pattern.{escaped_tree, most_levels}
use Rattle.lalrpop_re.specs.Internal.Reading.{◌>>=◌, Opened, a_plain_group, a_named_group, a_flagged_group, a_directive_to, opened, escape, bracket, is_nothing, inside, part_after, part_with, Part, Line, Whole, Reader, all_operators, enclosed, piece}
use Rattle.lalrpop_re.specs.Internal.Views.{text}

-- ---- one step of a row

-- a piece with its depth, or none for a directive; the flags after it; and what follows
pub record Step : Type 0 where
  pub piece : Option (Tree × ℕ)
  pub flags : Flags
  pub rest : Text

abbrev pub to_piece : Flags → Part → Option Step
to_piece f p = Some (record { piece = Some (p.tree, p.depth); flags = f; rest = p.rest })

abbrev pub joined_by : Option (Tree × ℕ) → Line → Line
joined_by (Some p) l = record { parts = l.parts ++ p.0 ∷ []; flags = l.flags; depth = max l.depth p.1; rest = l.rest }
joined_by None l = l

-- the row so far with the step
abbrev pub joined : Line → Step → Line
joined l s = joined_by s.piece (record { parts = l.parts; flags = s.flags; depth = l.depth; rest = s.rest })

module _ (parts : List NamedPart) (levels_left : ℕ) where
  abbrev pub operated_by : Option (Tree × ℕ) → Flags → Text → Option Step
  operated_by (Some p) f t = all_operators parts levels_left f (record { tree = p.0; depth = p.1; rest = t }) >>= to_piece f
  operated_by None f t = Some (record { piece = None; flags = f; rest = t })

  -- the step with the operators after its piece
  abbrev pub operated : Step → Option Step
  operated s = operated_by s.piece s.flags s.rest

  module _ (inside : Reader) where
    abbrev pub captured : Option (List ℕ) → Flags → Text → Option Step
    captured name f t = enclosed parts levels_left inside (λ e. e) f t >>= λ p. to_piece f (record { tree = capture name p.tree; depth = p.depth; rest = p.rest })

    unfoldable pub group_or_directive_of : Flags → Opened → Text → Option Step
    group_or_directive_of f a_plain_group t = captured None f t
    group_or_directive_of f (a_named_group name) t = captured (Some name) f t
    group_or_directive_of f (a_flagged_group g) t = enclosed parts levels_left inside (λ e. e) g t >>= to_piece f
    group_or_directive_of f (a_directive_to g) t = Some (record { piece = None; flags = g; rest = t })

    -- what begins after a `(`
    unfoldable pub group_or_directive : Flags → Text → Option Step
    group_or_directive f t = opened f t >>= λ x. group_or_directive_of f x.0 x.1

    unfoldable pub step : Flags → Text → Option Step
    step f t = if begins "(" t then (group_or_directive f (drop 1 t) >>= operated) else (piece parts levels_left inside f t >>= to_piece f)

-- ---- atoms

-- what follows a `\`
unfoldable pub escaped_part : Flags → Text → Option Part
escaped_part f t = escape t >>= λ x. Some (record { tree = escaped_tree f x.0; depth = 0; rest = x.1 })

unfoldable pub bracket_part : ℕ → Flags → Text → Option Part
bracket_part levels_left f t = bracket f levels_left t >>= λ p. Some (record { tree = set_tree p.set; depth = p.depth; rest = p.rest })

-- the name of a part and a `}`
unfoldable pub part_in_braces : List NamedPart → ℕ → Flags → Text → Option Part
part_in_braces parts levels_left f t = part_after parts t >>= part_with levels_left f

-- ---- whole texts

-- the tree of a whole text, and how deep its syntax is nested
unfoldable pub read_levels : List NamedPart → Text → Option (Tree × ℕ)
read_levels parts s = do
  whole ← inside parts (suc most_levels) no_flags s
  if is_nothing whole.rest && are_distinct (names whole.tree) then Some (whole.tree, whole.depth) else None

-- ---- the parser's parts

abbrev pub part : Nested → Text → Part
part p rest = record { tree = p.tree; depth = p.depth; rest = rest }

abbrev pub line : Row → Cursor → Line
line r c = record { parts = r.trees.items; flags = c.flags; depth = r.depth; rest = text c }

abbrev pub whole : Nested → Cursor → Whole
whole p c = record { tree = p.tree; flags = c.flags; depth = p.depth; rest = text c }

abbrev pub step_of : Option Nested → Cursor → Step
step_of p c = record { piece = option_map (λ n. (n.tree, n.depth)) p; flags = c.flags; rest = text c }
