-- cases: proofs/Cases/Costs.antt
-- What an edit costs: how many characters are read, each as often as it is read.
use Rattle.std.specs.Prelude.{◌≡◌, ℕ, ◌+◌, ◌-◌, ◌*◌, ◌≤◌, ◌⊎◌, List}
use Rattle.std.specs.Str.{IsCharBoundary}
use Rattle.lalrpop_rules.specs.Modes.{ModeRules, trees_in}
use Rattle.lalrpop_rules.specs.ModeCut.{open_in_all}
use Rattle.bajofeki.specs.Lexed.{Lexed, ReadsTo}
use Rattle.bajofeki.specs.declared.change.Change.{Change}

-- to cut the text from the one place to the other, it is read up to the third: which is the second, or to where, from a place between them on,
-- all begins a word that some tree of a mode matches
pub record IsReadTo (r : ModeRules) (text : List ℕ) (from to far : ℕ) : Type 0 where
  pub boundary : IsCharBoundary text far
  pub past : to ≤ far
  pub reads : (far ≡ to) ⊎ ((mode k : ℕ) × ((from ≤ k) × (k ≤ to) × IsCharBoundary text k × ReadsTo (trees_in r mode) text k far))

-- the most steps: 269 for each byte that is cut, one for each byte that is read, and for each open state of each mode two for each byte that is read and 256 in all
abbrev pub most_steps : ModeRules → ℕ → ℕ → ℕ
most_steps r cut read = 269 * cut + read + open_in_all r * (2 * read + 256)

-- the steps from `before` to `after` are at most those of what was cut anew of the text, from where the change starts up to where it ends
abbrev pub IsPaidFor : Lexed → Change → ℕ → ℕ → Type 0
IsPaidFor l c before after =
    (far : ℕ) × (IsReadTo l.rules l.text c.start c.new_end far × (after ≤ before + most_steps l.rules (c.new_end - c.start) (far - c.start)))
