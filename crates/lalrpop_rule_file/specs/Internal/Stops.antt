-- Why a text isn't read.
use Rattle.std.specs.Prelude.{◌≡◌, ◌⊎◌, ℕ, ◌<◌, Option, Some, None, List, [], ◌∷◌, ◌++◌, length, codes, false}
use Rattle.std.specs.Char.{is_ascii_digit}
use Rattle.lalrpop_rule_file.specs.Words.{AreBlanks, IsSpan, Lacks, begins, begins_name, is_blank, is_of_name}
use Rattle.lalrpop_rule_file.specs.LineText.{Text}
use Rattle.lalrpop_rule_file.specs.RuleLine.{Entry, Head, Section, These, Every, Part, Listing, Starred, Equals, Closed, Reads, rule_of, word_of}
use Rattle.lalrpop_rule_file.specs.RuleFault.{StopsBefore}
use Rattle.lalrpop_rule_file.specs.declared.error.LineFault.{LineFault}
use Rattle.lalrpop_rule_file.specs.declared.stop.Unread.{Unread}
use Rattle.lalrpop_rule_file.specs.declared.stop.Unread.TheVariants.{Stopped, OutOfMemory}

-- from this part on the text stops where it is said; or memory was refused
abbrev pub IsUnread : Part → List ℕ → Unread → Type 0
IsUnread from text (Stopped stop) = StopsBefore from text stop.rest.now stop.fault
IsUnread from text OutOfMemory = Unit {0}

abbrev pub IsStopped : Unread → Type 0
IsStopped (Stopped stop) = Unit {0}
IsStopped OutOfMemory = ⊥

-- none of the words of actions stands at the front
abbrev pub NoActionAt : List ℕ → Type 0
NoActionAt text = (behind : List ℕ) → (¬ IsSpan is_of_name text (codes "pop") behind) × ((entry : Entry) → ¬ IsSpan is_of_name text (word_of entry) behind)

-- ---- a section

-- up to its `]`
abbrev pub before_end : Section → Part
before_end (These modes) = Listing modes
before_end Every = Starred

-- it has a mode, and no more can follow
abbrev pub IsListed : Section → List ℕ → Type 0
IsListed (These modes) rest = (0 < length modes) × (begins begins_name rest ≡ false)
IsListed Every rest = Unit {0}

-- ---- what is right of the `=`, after any head

-- after the precedence that is written, if any, neither blanks nor a precedence follow
abbrev pub IsBeforeText : Option ℕ → List ℕ → Type 0
IsBeforeText None rest = (begins is_blank rest ≡ false) × (begins is_ascii_digit rest ≡ false)
IsBeforeText (Some n) rest = begins is_blank rest ≡ false

-- the text is read to its end, and it is this one
abbrev pub ReadsText : Option ℕ → List ℕ → Text → Type 0
ReadsText written text t = (head : Head) → Reads (Equals head written) text (Closed (rule_of head written t)) []

abbrev pub StopsText : Option ℕ → List ℕ → List ℕ → LineFault → Type 0
StopsText written text rest fault = (head : Head) → StopsBefore (Equals head written) text rest fault

-- ---- the last delimiter

-- the text, the delimiter and blanks
abbrev pub IsClosed : ℕ → List ℕ → List ℕ → Type 0
IsClosed mark inner text = (trail : List ℕ) × ((inner ≡ text ++ (mark ∷ trail)) × Lacks mark trail × AreBlanks trail)

-- there is no delimiter, or what follows the last one and blanks is the rest
abbrev pub IsNotClosed : ℕ → List ℕ → List ℕ → Type 0
IsNotClosed mark inner rest =
    (Lacks mark inner × (rest ≡ []))
    ⊎ ((text : List ℕ) × ((trail : List ℕ) × ((gap : List ℕ) × ((inner ≡ text ++ (mark ∷ trail)) × Lacks mark trail × IsSpan is_blank trail gap rest × (0 < length rest)))))
