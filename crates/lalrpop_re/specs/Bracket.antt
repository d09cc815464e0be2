-- cases: proofs/Cases/Bracket.antt
-- Brackets: a text and the set that it spells.
use Rattle.std.specs.Prelude.{◌≡◌, ℕ, ◌≤◌, ◌+◌, max, Bool, true, false, not, ◌&&◌, ◌||◌, IsTrue, IsFalse, List, [], ◌∷◌, ◌++◌, map, Some, if◌then◌else◌, codes}
use Rattle.std.specs.Bool.{xor}
use Rattle.std.specs.List.{list_all}
use Rattle.std.specs.Char.{is_ascii_lowercase}
use Rattle.lalrpop_re.specs.Text.{Text, ◌▸◌, begins}
use Rattle.lalrpop_re.specs.CharacterSet.{Set, just, range, union_all, complement, fold, is_one_of}
use Rattle.lalrpop_re.specs.PosixSet.{posix_set}
use Rattle.lalrpop_re.specs.declared.flags.Flags.{Flags}
use Rattle.lalrpop_re.specs.Escape.{Escape, Escaped, character, set}

-- ---- leaves and operators

-- A leaf is a character, a range, or a set that an escape or a POSIX class names. Under the flag `i` it is folded,
abbrev pub leaf : Flags → Set → Set
leaf f s = if f.case_insensitive then fold s else s

abbrev pub leaves : Flags → List ℕ → List Set
leaves f cs = map (λ c. leaf f (just c)) cs

-- and its own complement is taken after that.
abbrev pub leaf_or_complement : Flags → Set → Bool → Set
leaf_or_complement f s negated = if negated then complement (leaf f s) else leaf f s

pub data SetOperator : Type 0 where
  Intersection : SetOperator
  Difference : SetOperator
  SymmetricDifference : SetOperator

abbrev pub spelling : SetOperator → List ℕ
spelling Intersection = codes "&&"
spelling Difference = codes "--"
spelling SymmetricDifference = codes "~~"

abbrev pub apply : SetOperator → Set → Set → Set
apply Intersection s t c = s c && t c
apply Difference s t c = s c && not (t c)
apply SymmetricDifference s t c = xor (s c) (t c)

abbrev pub begins_operator : Text → Bool
begins_operator t = begins "&&" t || begins "--" t || begins "~~" t

-- an operand ends here; where an item may begin, this is tried first
abbrev pub ends_operand : Text → Bool
ends_operand t = begins "]" t || begins_operator t

-- a `-`, and after it a character that is neither `]` nor `-`
abbrev pub begins_range : Text → Bool
begins_range [] = false
begins_range (c ∷ []) = false
begins_range (c ∷ d ∷ t) = is_one_of "-" c && not (is_one_of "]-" d)

-- ---- POSIX classes

-- `[:name:]`, or `[:^name:]` for the complement. A name is lower-case letters.
pub data Posix : Text → Text → Set → Bool → Type 0 where
  a_class : {s : Set} {r : Text} (name : List ℕ) → IsTrue (list_all is_ascii_lowercase name) → posix_set name ≡ Some s → Posix (codes "[:" ▸ name ▸ codes ":]" ▸ r) r s false
  a_complement : {s : Set} {r : Text} (name : List ℕ) → IsTrue (list_all is_ascii_lowercase name) → posix_set name ≡ Some s → Posix (codes "[:^" ▸ name ▸ codes ":]" ▸ r) r s true

-- no POSIX class begins here
abbrev pub NoPosix : Text → Type 0
NoPosix t = (r : Text) (s : Set) (negated : Bool) → Posix t r s negated → ⊥

-- ---- primaries

-- an escape, or a character that stands for itself
pub data Primary : Text → Text → Escaped → Type 0 where
  escaped : {t r : Text} {e : Escaped} → Escape t r e → Primary (codes "\\" ▸ t) r e
  plain : {c : ℕ} {r : Text} → IsFalse (is_one_of "\\" c) → Primary (c ∷ r) r (character c)

-- the set of a primary that is not an end of a range; a look has none
pub data Stands (f : Flags) : Escaped → Set → Type 0 where
  a_character : {c : ℕ} → Stands f (character c) (leaf f (just c))
  a_set : {s : Set} {negated : Bool} → Stands f (set s negated) (leaf_or_complement f s negated)

-- where an item may begin, a primary begins: the operand does not end here, and no `[` stands here
abbrev pub begins_primary : Text → Bool
begins_primary t = not (ends_operand t) && not (begins "[" t)

-- ---- the lead, which belongs to the first operand and does not begin a range

-- one or more `-`, and no `-` after them
pub data Hyphens : Text → Text → Type 0 where
  last : {r : Text} → IsFalse (begins "-" r) → Hyphens (codes "-" ▸ r) r
  more : {t r : Text} → Hyphens t r → Hyphens (codes "-" ▸ t) r

-- what is read, and the characters that it stands for
pub data Lead : Text → Text → List ℕ → Type 0 where
  hyphens : {t r : Text} → Hyphens t r → Lead t r (codes "-")
  closing : {r : Text} → Lead (codes "]" ▸ r) r (codes "]")
  none : {r : Text} → IsFalse (begins "-" r) → IsFalse (begins "]" r) → Lead r r []

-- ---- brackets

-- `X f t r s d`: under the flags f the text from t up to r spells an X with the set s, and d is the nesting depth of its
-- own brackets: the greatest number of them that a place of it is inside.
mutual
  -- An item is the first of these that fits: a POSIX class, a nested bracket, or else a primary. If `begins_range` holds
  -- after a primary, it is the low end of a range, and the primary after the `-` is the high end.
  pub data Item (f : Flags) : Text → Text → Set → ℕ → Type 0 where
    a_posix : {t r : Text} {s : Set} {negated : Bool} → Posix t r s negated → Item f t r (leaf_or_complement f s negated) 0
    a_bracket : {t r : Text} {s : Set} {d : ℕ} → NoPosix t → Bracket f t r s d → Item f t r s d
    a_primary : {t r : Text} {e : Escaped} {s : Set} → IsTrue (begins_primary t) → Primary t r e → IsFalse (begins_range r) → Stands f e s → Item f t r s 0
    a_range : {t u r : Text} {low high : ℕ} → IsTrue (begins_primary t) → Primary t (codes "-" ▸ u) (character low) → IsTrue (begins_range (codes "-" ▸ u)) →
        Primary u r (character high) → low ≤ high → Item f t r (leaf f (range low high)) 0

  -- the sets of any number of items, up to the end of the operand
  pub data Operand (f : Flags) : Text → Text → List Set → ℕ → Type 0 where
    no_item : {r : Text} → IsTrue (ends_operand r) → Operand f r r [] 0
    item_then : {t u r : Text} {s : Set} {ss : List Set} {d e : ℕ} → Item f t u s d → Operand f u r ss e → Operand f t r (s ∷ ss) (max d e)

  -- operands with operators between them, which have equal precedence and associate to the left
  pub data Operands (f : Flags) : Text → Text → Set → ℕ → Type 0 where
    first : {t u r : Text} {cs : List ℕ} {ss : List Set} {d : ℕ} → Lead t u cs → Operand f u r ss d → Operands f t r (union_all (leaves f cs ++ ss)) d
    operated : {t u r : Text} {s : Set} {ss : List Set} {d e : ℕ} (o : SetOperator) → Operands f t (spelling o ▸ u) s d → Operand f u r ss e →
        Operands f t r (apply o s (union_all ss)) (max d e)

  -- the complement of `^` is taken last
  pub data Bracket (f : Flags) : Text → Text → Set → ℕ → Type 0 where
    a_bracket_of : {t r : Text} {s : Set} {d : ℕ} → IsFalse (begins "^" t) → Operands f t (codes "]" ▸ r) s d → Bracket f (codes "[" ▸ t) r s (d + 1)
    a_negated_of : {t r : Text} {s : Set} {d : ℕ} → Operands f t (codes "]" ▸ r) s d → Bracket f (codes "[^" ▸ t) r (complement s) (d + 1)
