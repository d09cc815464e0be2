-- A reader from left to right. Proofs show that it finds exactly what the grammar has; contracts of private functions name it.
use Rattle.std.specs.Prelude.{ℕ, zero, suc, ◌+◌, ◌^◌, max, Bool, true, false, not, ◌&&◌, ◌||◌, ◌==◌, is_none, nat_lt, nat_le, List, [], ◌∷◌, ◌++◌, length, take, drop, Option, Some, None, option_and_then, if◌then◌else◌, codes, encode_utf8_all}
use Rattle.std.specs.List.{list_all}
use Rattle.std.specs.Char.{is_ascii_hexdigit, is_ascii_lowercase, is_ascii_digit}
use Rattle.unicode.specs.Binary.{is_white_space}
use Rattle.lalrpop_hir.specs.Tree.{Tree, look, repetition, capture}
use Rattle.lalrpop_hir.specs.declared.look.Look.TheVariants.{WordUnicode, WordStartUnicode, WordEndUnicode, WordStartHalfUnicode, WordEndHalfUnicode, Start, End, StartLF, EndLF}
use Rattle.lalrpop_re.specs.Text.{Text, begins}
use Rattle.lalrpop_re.specs.CharacterSet.{Set, is_scalar, just, range, union_all, complement, set_tree, is_one_of}
use Rattle.lalrpop_re.specs.declared.flags.Flags.{Flags}
use Rattle.lalrpop_re.specs.Flag.{no_flags, has_flag, is_distinct, with_flags}
use Rattle.lalrpop_re.specs.GroupName.{is_name, names, are_distinct}
use Rattle.lalrpop_re.specs.Escape.{Escaped, character, set, assertion, Sign, this, code, property, edge, unknown, sign, hex_value, is_set_name_char}
use Rattle.lalrpop_re.specs.NamedSet.{named}
use Rattle.lalrpop_re.specs.Bracket.{leaf, leaves, leaf_or_complement, SetOperator, Intersection, Difference, SymmetricDifference, apply, ends_operand, begins_range}
use Rattle.lalrpop_re.specs.PosixSet.{posix_set}
use Rattle.lalrpop_re.specs.Operator.{decimal}
use Rattle.lalrpop_re.specs.NamedPart.{NamedPart, is_part_name, part_named}
use Rattle.lalrpop_re.specs.Pattern.{is_special, ends_branch, literal_tree, escaped_tree, dot_tree, branch, choice}

infixl 10 ◌>>=◌
abbrev pub ◌>>=◌ : {A B : Type 0} → Option A → (A → Option B) → Option B
o >>= f = option_and_then f o

-- the characters at the front that pass the test, and what follows them
abbrev pub span : (ℕ → Bool) → Text → List ℕ × Text
span test [] = ([], [])
span test (c ∷ t) = if test c then (c ∷ (span test t).0, (span test t).1) else ([], c ∷ t)

abbrev pub is_nothing : Text → Bool
is_nothing [] = true
is_nothing (c ∷ t) = false

-- ---- escapes

unfoldable pub hex : List ℕ → Option ℕ
hex digits = if list_all is_ascii_hexdigit digits && is_scalar (hex_value digits 0) then Some (hex_value digits 0) else None

unfoldable pub digits_of : ℕ → Text → Option (List ℕ × Text)
digits_of n t =
    if begins "{" t then (let found = span is_ascii_hexdigit (drop 1 t) in if nat_lt 0 (length found.0) && begins "}" found.1 then Some (found.0, drop 1 found.1) else None)
    else if nat_lt 0 n && length (take n t) == n then Some (take n t, drop n t)
    else None

unfoldable pub name_of : Text → Option (List ℕ × Text)
name_of t =
    if begins "{" t then (let found = span is_set_name_char (drop 1 t) in if begins "}" found.1 then Some (found.0, drop 1 found.1) else None)
    else if length (take 1 t) == 1 then Some (take 1 t, drop 1 t)
    else None

unfoldable pub set_named : List ℕ → Option Set
set_named name = if nat_lt 0 (length name) && list_all is_set_name_char name then named name else None

unfoldable pub signed : Sign → Text → Option (Escaped × Text)
signed (this e) t = Some (e, t)
signed (code n) t = do
  (digits, after) ← digits_of n t
  v ← hex digits
  Some (character v, after)
signed (property negated) t = do
  (name, after) ← name_of t
  s ← set_named name
  Some (set s negated, after)
signed edge t =
    if begins "{start}" t then Some (assertion WordStartUnicode, drop 7 t)
    else if begins "{end}" t then Some (assertion WordEndUnicode, drop 5 t)
    else if begins "{start-half}" t then Some (assertion WordStartHalfUnicode, drop 12 t)
    else if begins "{end-half}" t then Some (assertion WordEndHalfUnicode, drop 10 t)
    else Some (assertion WordUnicode, t)
signed unknown t = None

unfoldable pub escape : Text → Option (Escaped × Text)
escape [] = None
escape (c ∷ t) = signed (sign c) t

-- ---- brackets

-- the set, whether it is complemented, and what follows
unfoldable pub posix_named : Bool → Text → Option (Set × Bool × Text)
posix_named negated t =
    let found = span is_ascii_lowercase t in
    if begins ":]" found.1 then (posix_set found.0 >>= λ s. Some (s, negated, drop 2 found.1)) else None

unfoldable pub posix : Text → Option (Set × Bool × Text)
posix t = if begins "[:^" t then posix_named true (drop 3 t) else if begins "[:" t then posix_named false (drop 2 t) else None

unfoldable pub primary : Text → Option (Escaped × Text)
primary [] = None
primary (c ∷ t) = if is_one_of "\\" c then escape t else Some (character c, t)

abbrev pub range_of : Escaped → Escaped → Option Set
range_of (character low) (character high) = if nat_le low high then Some (range low high) else None
range_of _ _ = None

unfoldable pub operator_of : Text → Option SetOperator
operator_of t =
    if begins "&&" t then Some Intersection else if begins "--" t then Some Difference else if begins "~~" t then Some SymmetricDifference else None

abbrev pub past_hyphens : Text → Text
past_hyphens [] = []
past_hyphens (c ∷ t) = if is_one_of "-" c then past_hyphens t else c ∷ t

unfoldable pub lead : Text → List ℕ × Text
lead t = if begins "-" t then (codes "-", past_hyphens t) else if begins "]" t then (codes "]", drop 1 t) else ([], t)

-- a set, how deep its syntax is nested, and what follows
pub record SetPart : Type 0 where
  pub set : Set
  pub depth : ℕ
  pub rest : Text

-- the sets of the items so far
pub record Union : Type 0 where
  pub sets : List Set
  pub depth : ℕ
  pub rest : Text

module _ (f : Flags) where
  abbrev pub stands : Escaped → Option Set
  stands (character c) = Some (leaf f (just c))
  stands (set s negated) = Some (leaf_or_complement f s negated)
  stands (assertion l) = None

  -- a primary or a range
  unfoldable pub simple_item : Text → Option SetPart
  simple_item t = do
    (low, after) ← primary t
    if begins_range after then (do
      (high, rest) ← primary (drop 1 after)
      s ← range_of low high
      Some (record { set = leaf f s; depth = 0; rest = rest }))
        else (do
          s ← stands low
          Some (record { set = s; depth = 0; rest = after }))

  -- `inner` reads a bracket
  module _ (inner : Text → Option SetPart) where
    unfoldable pub item_or : Option (Set × Bool × Text) → Text → Option SetPart
    item_or (Some p) t = Some (record { set = leaf_or_complement f p.0 p.1; depth = 0; rest = p.2 })
    item_or None t = if begins "[" t then inner t else simple_item t

    unfoldable pub item : Text → Option SetPart
    item t = item_or (posix t) t

    unfoldable pub operand : ℕ → Union → Option Union
    operand zero u = None
    operand (suc n) u = if ends_operand u.rest then Some u else (do
      i ← item u.rest
      operand n (record { sets = u.sets ++ i.set ∷ []; depth = max u.depth i.depth; rest = i.rest }))

    abbrev pub whole_operand : Union → Option Union
    whole_operand u = operand (suc (length u.rest)) u

    unfoldable pub operations : ℕ → SetPart → Option SetPart
    operations zero p = None
    operations (suc n) p = if begins "]" p.rest then Some p else (do
      o ← operator_of p.rest
      right ← whole_operand (record { sets = []; depth = 0; rest = drop 2 p.rest })
      operations n (record { set = apply o p.set (union_all right.sets); depth = max p.depth right.depth; rest = right.rest }))

    abbrev pub all_operations : SetPart → Option SetPart
    all_operations p = operations (suc (length p.rest)) p

    unfoldable pub operands : Text → Option SetPart
    operands t = do
      left ← whole_operand (record { sets = leaves f (lead t).0; depth = 0; rest = (lead t).1 })
      all_operations (record { set = union_all left.sets; depth = left.depth; rest = left.rest })

    abbrev pub close : Bool → SetPart → SetPart
    close negated p = record { set = if negated then complement p.set else p.set; depth = p.depth + 1; rest = drop 1 p.rest }

    unfoldable pub bracket_with : Text → Option SetPart
    bracket_with t =
        if begins "[^" t then (operands (drop 2 t) >>= λ p. Some (close true p))
        else if begins "[" t then (operands (drop 1 t) >>= λ p. Some (close false p))
        else None

  -- a bracket with this many levels left
  unfoldable pub bracket : ℕ → Text → Option SetPart
  bracket zero t = None
  bracket (suc room) t = bracket_with (bracket room) t

-- ---- operators

unfoldable pub count : Text → Option (ℕ × Text)
count t =
    let digits = span is_ascii_digit (span is_white_space t).1 in
    if nat_lt 0 (length digits.0) && nat_lt (decimal digits.0 0) (2 ^ 32) then Some (decimal digits.0 0, (span is_white_space digits.1).1) else None

-- the min, the max and what follows
unfoldable pub braces : Text → Option (ℕ × Option ℕ × Text)
braces t = do
  (n, after) ← count t
  if begins "}" after then Some (n, Some n, drop 1 after)
      else if begins ",}" after then Some (n, None, drop 2 after)
      else if begins "," after then (do
        (m, rest) ← count (drop 1 after)
        if begins "}" rest && nat_le n m then Some (n, Some m, drop 1 rest) else None)
      else None

unfoldable pub bounds : Text → Option (ℕ × Option ℕ × Text)
bounds [] = None
bounds (c ∷ t) =
    if is_one_of "?" c then Some (0, Some 1, t) else if is_one_of "*" c then Some (0, None, t) else if is_one_of "+" c then Some (1, None, t)
    else if is_one_of "{" c then braces t else None

unfoldable pub operator : Flags → Text → Option (ℕ × Option ℕ × Bool × Text)
operator f t = do
  (least, most, after) ← bounds t
  if begins "?" after then Some (least, most, f.swap_greed, drop 1 after) else Some (least, most, not f.swap_greed, after)

-- ---- flags, names and what follows a `(`

unfoldable pub flags_of : Flags → List ℕ → Option Flags
flags_of f letters =
    let found = span (is_one_of "ismUu") letters in
    if is_nothing found.1 then (if is_distinct found.0 then Some (with_flags true f found.0) else None)
    else if begins "-" found.1 && (nat_lt 0 (length (drop 1 found.1)) && (list_all (is_one_of "ismU") (drop 1 found.1) && is_distinct (found.0 ++ drop 1 found.1)))
    then Some (with_flags false (with_flags true f found.0) (drop 1 found.1))
    else None

pub data Opening : Type 0 where
  plain_group : Opening
  named_group : List ℕ → Text → Opening
  flagged_group : List ℕ → Text → Opening
  directive : List ℕ → Text → Opening
  no_opening : Opening

abbrev pub ends_name : ℕ → Bool
ends_name c = not (is_one_of ">" c)

abbrev pub ends_letters : ℕ → Bool
ends_letters c = not (is_one_of ":)" c)

unfoldable pub name_at : Text → Opening
name_at t =
    let found = span ends_name t in
    if begins ">" found.1 && is_name found.0 then named_group found.0 (drop 1 found.1) else no_opening

unfoldable pub letters_at : Text → Opening
letters_at t =
    let found = span ends_letters t in
    if begins ":" found.1 then flagged_group found.0 (drop 1 found.1)
    else if begins ")" found.1 && nat_lt 0 (length found.0) then directive found.0 (drop 1 found.1)
    else no_opening

unfoldable pub opening : Text → Opening
opening t =
    if begins "?P<" t then name_at (drop 3 t) else if begins "?<" t then name_at (drop 2 t) else if begins "?" t then letters_at (drop 1 t)
    else plain_group

abbrev pub as_directive : Opening → Option (List ℕ × Text)
as_directive (directive letters t) = Some (letters, t)
as_directive plain_group = None
as_directive (named_group name t) = None
as_directive (flagged_group letters t) = None
as_directive no_opening = None

unfoldable pub directive_at : Text → Option (List ℕ × Text)
directive_at t = if begins "(" t then as_directive (opening (drop 1 t)) else None

-- what follows a `(`, with the flags that its letters give and the bytes of its name
pub data Opened : Type 0 where
  a_plain_group : Opened
  a_named_group : List ℕ → Opened
  a_flagged_group : Flags → Opened
  a_directive_to : Flags → Opened

abbrev pub opened_of : Flags → Opening → Text → Option (Opened × Text)
opened_of f plain_group t = Some (a_plain_group, t)
opened_of f (named_group name u) t = Some (a_named_group (encode_utf8_all name), u)
opened_of f (flagged_group letters u) t = flags_of f letters >>= λ g. Some (a_flagged_group g, u)
opened_of f (directive letters u) t = flags_of f letters >>= λ g. Some (a_directive_to g, u)
opened_of f no_opening t = None

unfoldable pub opened : Flags → Text → Option (Opened × Text)
opened f t = opened_of f (opening t) t

-- ---- patterns

abbrev pub ends_part : ℕ → Bool
ends_part c = not (is_one_of "}" c)

-- what follows a `{`: the name of a part and a `}`; the part, and what follows
unfoldable pub part_after : List NamedPart → Text → Option (NamedPart × Text)
part_after parts t =
    let found = span ends_part t in
    if begins "}" found.1 && is_part_name found.0 then (part_named parts found.0 >>= λ p. Some (p, drop 1 found.1)) else None

-- a `{` begins an operator where no part stands
abbrev pub is_at_operator : List NamedPart → Text → Bool
is_at_operator parts [] = false
is_at_operator parts (c ∷ t) = is_one_of "?*+" c || is_one_of "{" c && is_none (part_after parts t)

-- a part of a branch, and what follows it
pub record Part : Type 0 where
  pub tree : Tree
  pub depth : ℕ
  pub rest : Text

-- pieces in a row, or branches, and the flags that they leave
pub record Line : Type 0 where
  pub parts : List Tree
  pub flags : Flags
  pub depth : ℕ
  pub rest : Text

pub record Whole : Type 0 where
  pub tree : Tree
  pub flags : Flags
  pub depth : ℕ
  pub rest : Text

abbrev pub Reader : Type 0
Reader = Flags → Text → Option Whole

abbrev pub begin : Flags → Text → Line
begin f t = record { parts = []; flags = f; depth = 0; rest = t }

-- a part counts as a group
abbrev pub part_with : ℕ → Flags → NamedPart × Text → Option Part
part_with room f x = if not (has_flag f) && nat_lt x.0.levels room then Some (record { tree = x.0.tree; depth = x.0.levels + 1; rest = x.1 }) else None

module _ (parts : List NamedPart) (room : ℕ) where
  unfoldable pub operators : ℕ → Flags → Part → Option Part
  operators zero f p = None
  operators (suc n) f p = if not (is_at_operator parts p.rest) then Some p else (do
    (least, most, greedy, after) ← operator f p.rest
    if nat_lt p.depth room then operators n f (record { tree = repetition least most greedy p.tree; depth = p.depth + 1; rest = after }) else None)

  abbrev pub all_operators : Flags → Part → Option Part
  all_operators f p = operators (suc (length p.rest)) f p

  module _ (inside : Reader) where
    -- the expression of a group, and the `)`
    unfoldable pub enclosed : (Tree → Tree) → Flags → Text → Option Part
    enclosed make f t = do
      whole ← inside f t
      if begins ")" whole.rest then Some (record { tree = make whole.tree; depth = whole.depth + 1; rest = drop 1 whole.rest }) else None

    unfoldable pub group : Flags → Opening → Text → Option Part
    group f plain_group t = enclosed (capture None) f t
    group f (named_group name u) t = enclosed (capture (Some (encode_utf8_all name))) f u
    group f (flagged_group letters u) t = flags_of f letters >>= λ g. enclosed (λ e. e) g u
    group f (directive letters u) t = None
    group f no_opening t = None

    unfoldable pub atom : Flags → Text → Option Part
    atom f [] = None
    atom f (c ∷ t) =
        if not (is_special c) then Some (record { tree = literal_tree f c; depth = 0; rest = t })
        else if is_one_of "." c then Some (record { tree = dot_tree f; depth = 0; rest = t })
        else if is_one_of "^" c then Some (record { tree = look (if f.multi_line then StartLF else Start); depth = 0; rest = t })
        else if is_one_of "$" c then Some (record { tree = look (if f.multi_line then EndLF else End); depth = 0; rest = t })
        else if is_one_of "\\" c then (escape t >>= λ (e, r). Some (record { tree = escaped_tree f e; depth = 0; rest = r }))
        else if is_one_of "[" c then (bracket f room (c ∷ t) >>= λ p. Some (record { tree = set_tree p.set; depth = p.depth; rest = p.rest }))
        else if is_one_of "(" c then group f (opening t) t
        else if is_one_of "{" c then (part_after parts t >>= part_with room f)
        else None

    unfoldable pub piece : Flags → Text → Option Part
    piece f t = atom f t >>= all_operators f

    -- where there is no directive, a piece is read
    unfoldable pub row_step : (Line → Option Line) → Option (List ℕ × Text) → Line → Option Line
    row_step others (Some found) l = flags_of l.flags found.0 >>= λ g. others (record l { flags = g; rest = found.1 })
    row_step others None l = do
      p ← piece l.flags l.rest
      others (record { parts = l.parts ++ p.tree ∷ []; flags = l.flags; depth = max l.depth p.depth; rest = p.rest })

    unfoldable pub row : ℕ → Line → Option Line
    row zero l = None
    row (suc n) l = if ends_branch l.rest then Some l else row_step (row n) (directive_at l.rest) l

    abbrev pub whole_row : Line → Option Line
    whole_row l = row (suc (length l.rest)) l

    unfoldable pub branches : ℕ → Line → Option Line
    branches zero l = None
    branches (suc n) l = do
      one ← whole_row (begin l.flags l.rest)
      let with_it : Line = record { parts = l.parts ++ branch one.parts ∷ []; flags = one.flags; depth = max l.depth one.depth; rest = one.rest }
      if begins "|" one.rest then branches n (record with_it { rest = drop 1 one.rest }) else Some with_it

    abbrev pub all_branches : Line → Option Line
    all_branches l = branches (suc (length l.rest)) l

    unfoldable pub expression_with : Reader
    expression_with f t = all_branches (begin f t) >>= λ l. Some (record { tree = choice l.parts; flags = l.flags; depth = l.depth; rest = l.rest })

-- the reader inside a group with this many levels left; with none left it reads nothing
unfoldable pub inside : List NamedPart → ℕ → Reader
inside parts zero f t = None
inside parts (suc room) f t = expression_with parts room (inside parts room) f t

-- what a whole text is read as, inside at most this many levels
abbrev pub read_whole : List NamedPart → ℕ → Text → Option Whole
read_whole parts room s = do
  whole ← inside parts (suc room) no_flags s
  if is_nothing whole.rest && are_distinct (names whole.tree) then Some whole else None

-- its tree, where there are no parts
unfoldable pub read : ℕ → Text → Option Tree
read room s = read_whole [] room s >>= λ whole. Some whole.tree
