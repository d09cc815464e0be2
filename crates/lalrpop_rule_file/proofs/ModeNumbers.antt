-- Numbers for names of modes, one after another.
use Rattle.std.proofs.Common.{◌≡◌, ◌≢◌, ℕ, zero, suc, ◌<◌, ◌≤◌, ◌+◌, ◌-◌, ◌⊎◌, inl, inr, Bool, true, List, [], ◌∷◌, ◌++◌, length, get_or, take, map, Contains, refl, sym, ap, subst, ◌∙◌, append_assoc, arith, Bor, add-one}
use Rattle.std.specs.Prelude.{Some, slice_get}
use Rattle.std.specs.List.{range_with_len}
use Rattle.std.proofs.lemmas.List.{take_more, take_at}
use Rattle.lalrpop_rule_file.specs.Words.{IsSpan, begins, begins_name, is_of_name}
use Rattle.bajofeki_rules.specs.Position.{position_of}
use Rattle.bajofeki_rules.specs.declared.action.Action.{Action}
use Rattle.lalrpop_rule_file.specs.RuleLine.{Entry, Head, Written, Start, Entering, Reads}
use Rattle.lalrpop_rule_file.specs.FileModes.{AllLeadWithin, AreActions, AreNumbers, IsAction, IsNumber, LeadsWithin}
use Rattle.lalrpop_rule_file.specs.RuleFile.{IsNoMode}
use Rattle.lalrpop_rule_file.specs.Internal.Values.{ArePlaced, entry_of, head_with, written_of}
use Rattle.lalrpop_rule_file.specs.Internal.Lines.{AllIn, IsFirstMissing, names_in}
use Rattle.lalrpop_rule_file.specs.declared.written.WrittenAction.{WrittenAction}
use Rattle.lalrpop_rule_file.specs.declared.written.WrittenAction.TheVariants.{Enter, Pop}
use Rattle.lalrpop_rule_file.proofs.Actions.{map_more}
use Rattle.lalrpop_rule_file.proofs.Stopping.{behind_front, ends_reads}
use Rattle.lalrpop_rule_file.proofs.Names.{in_append_left, in_append_right}

-- ---- names

pub names_more : (names : List (Bor (List ℕ))) (i : ℕ) (d : Bor (List ℕ)) → i < length names → names_in (take (i + 1) names) ≡ names_in (take i names) ++ (get_or names i d).now ∷ []
names_more names i d within = ap names_in (take_more names i d within) ∙ map_more (λ m. m.now) (take i names) (get_or names i d)

pub numbers_more : (modes names : List (List ℕ)) (ns : List ℕ) (name : List ℕ) (n : ℕ) → AreNumbers modes names ns → IsNumber modes name n → AreNumbers modes (names ++ name ∷ []) (ns ++ n ∷ [])
numbers_more modes [] [] name n are is = (is, tt)
numbers_more modes [] (m ∷ ns) name n are is = absurd are
numbers_more modes (x ∷ names) [] name n are is = absurd are
numbers_more modes (x ∷ names) (m ∷ ns) name n are is = (are.0, numbers_more modes names ns name n are.1 is)

-- those of one name more
pub more_numbers : (modes names : List (List ℕ)) (ns ms : List ℕ) (name : List ℕ) (n : ℕ) (all : List (List ℕ)) → (AllIn modes names → AreNumbers modes names ns) → IsNumber modes name n → ms ≡ ns ++ n ∷ [] → all ≡ names ++ name ∷ []
    → AllIn modes all → AreNumbers modes all ms
more_numbers modes names ns ms name n all are number more is there =
    let own : AllIn modes (names ++ name ∷ []) = rw is at there in
    rw (is, more) (numbers_more modes names ns name n (are (in_append_left modes names (name ∷ []) own)) number)

pub no_number_for : (modes names all : List (List ℕ)) (name : List ℕ) (ns : List ℕ) → ¬ Contains modes name → all ≡ names ++ name ∷ [] → AllIn modes all → AreNumbers modes all ns
no_number_for modes names all name ns none is there = absurd (none (in_append_right modes names (name ∷ []) (rw is at there)).0)

pub range_more : (a n : ℕ) → range_with_len a (n + 1) ≡ range_with_len a n ++ (a + n) ∷ []
range_more a n = by a n
  where
    by : (b m : ℕ) → range_with_len b (m + 1) ≡ range_with_len b m ++ (b + m) ∷ []
    by b zero = let e : b + 0 ≡ b = omega arith in rw e refl
    by b (suc m) =
        let e : b + 1 + m ≡ b + suc m = omega arith in
        rw add-one (ap (λ (xs : List ℕ). b ∷ xs) (subst (λ (k : ℕ). range_with_len (b + 1) k ≡ range_with_len (b + 1) m ++ (b + suc m) ∷ []) (add-one m) (rw (← e) (by (b + 1) m))))

pub range_from_0 : (n : ℕ) → range_with_len 0 (n + 1) ≡ range_with_len 0 n ++ n ∷ []
range_from_0 n = range_more 0 n ∙ ap (λ (k : ℕ). range_with_len 0 n ++ k ∷ []) (omega arith)

-- ---- one mode

number_there : (names : List (List ℕ)) (name : List ℕ) (n : ℕ) → slice_get names n ≡ Some name → Contains names name
number_there [] name zero e = absurd (cc)
number_there [] name (suc n) e = absurd (cc)
number_there (x ∷ xs) name zero e = (0, omega arith, cc)
number_there (x ∷ xs) name (suc n) e = let h = number_there xs name n e in (suc h.0, omega (arith, h.1), h.2)

pub is_there : (modes : List (List ℕ)) (name : List ℕ) (n : ℕ) → IsNumber modes name n → Contains modes name
is_there = number_there

pub number_below : (names : List (List ℕ)) (name : List ℕ) (n : ℕ) → slice_get names n ≡ Some name → n < length names
number_below [] name zero e = absurd (cc)
number_below [] name (suc n) e = absurd (cc)
number_below (x ∷ xs) name zero e = omega arith
number_below (x ∷ xs) name (suc n) e = omega (arith, number_below xs name n e)

pub name_at : (names : List (Bor (List ℕ))) (i : ℕ) (d : Bor (List ℕ)) → i < length names → slice_get (names_in names) i ≡ Some (get_or names i d).now
name_at [] i d within = absurd (omega (arith, within))
name_at (x ∷ xs) zero d within = refl
name_at (x ∷ xs) (suc i) d within = name_at xs i d (omega (arith, within))

contains_at : (names : List (List ℕ)) (name : List ℕ) (k : ℕ) (d : List ℕ) → k < length names → get_or names k d ≡ name → slice_get names k ≡ Some name
contains_at [] name k d less e = absurd (omega (arith, less))
contains_at (x ∷ xs) name zero d less e = ap Some e
contains_at (x ∷ xs) name (suc k) d less e = contains_at xs name k d (omega (arith, less)) e

pub names_length : (names : List (Bor (List ℕ))) → length (names_in names) ≡ length names
names_length [] = refl
names_length (x ∷ xs) = ap suc (names_length xs)

pub none_there : (names : List (Bor (List ℕ))) (name : List ℕ) (n : ℕ) → length names ≤ n → ((k : ℕ) → k < n → slice_get (names_in names) k ≢ Some name) → ¬ Contains (names_in names) name
none_there names name n all none (k, less, e) = none k (omega (arith, less, all, names_length names)) (contains_at (names_in names) name k name less e)

pub none_further : (names : List (List ℕ)) (name : List ℕ) (n : ℕ) → ((k : ℕ) → k < n → slice_get names k ≢ Some name) → slice_get names n ≢ Some name → (k : ℕ) → k < n + 1 → slice_get names k ≢ Some name
none_further names name n none here k less = by (order k)
  where
    order : (m : ℕ) → (m < n) ⊎ ((m ≡ n) ⊎ (n + 1 ≤ m))
    order m = grind arith

    by : (k < n) ⊎ ((k ≡ n) ⊎ (n + 1 ≤ k)) → slice_get names k ≢ Some name
    by (inl before) = none k before
    by (inr (inl same)) = subst (λ (m : ℕ). slice_get names m ≢ Some name) (sym same) here
    by (inr (inr more)) = absurd (omega (arith, less, more))

-- ---- actions

pub actions_more : (modes : List (List ℕ)) (actions : List WrittenAction) (all more : List Action) (i : ℕ) (d : WrittenAction) (a : Action) → i < length actions → AreActions modes (map written_of (take i actions)) all
    → IsAction modes (written_of (get_or actions i d)) a → more ≡ all ++ a ∷ [] → AreActions modes (map written_of (take (i + 1) actions)) more
actions_more modes actions all more i d a within are is same =
    let names = ap (map written_of) (take_more actions i d within) ∙ map_more written_of (take i actions) (get_or actions i d) in
    rw (names, same) (step (map written_of (take i actions)) all (written_of (get_or actions i d)) a are is)
  where
    step : (ws : List Written) (acts : List Action) (w : Written) (b : Action) → AreActions modes ws acts → IsAction modes w b → AreActions modes (ws ++ w ∷ []) (acts ++ b ∷ [])
    step [] [] w b are is = (is, tt)
    step [] (x ∷ acts) w b are is = absurd are
    step (x ∷ ws) [] w b are is = absurd are
    step (x ∷ ws) (y ∷ acts) w b are is = (are.0, step ws acts w b are.1 is)

pub leads_at : (modes : List (List ℕ)) (actions : List WrittenAction) (i : ℕ) (d : WrittenAction) → i < length actions → AllLeadWithin modes (map written_of actions) → LeadsWithin modes (written_of (get_or actions i d))
leads_at modes [] i d within all = absurd (omega (arith, within))
leads_at modes (a ∷ actions) zero d within all = all.0
leads_at modes (a ∷ actions) (suc i) d within all = leads_at modes actions i d (omega (arith, within)) all.1

pub leads_more : (modes : List (List ℕ)) (actions : List WrittenAction) (i : ℕ) (d : WrittenAction) → i < length actions → AllLeadWithin modes (map written_of (take i actions)) → LeadsWithin modes (written_of (get_or actions i d))
    → AllLeadWithin modes (map written_of (take (i + 1) actions))
leads_more modes [] i d within all here = absurd (omega (arith, within))
leads_more modes (a ∷ actions) zero d within all here = (here, tt)
leads_more modes (a ∷ actions) (suc i) d within all here = rw add-one (all.0, subst (λ (k : ℕ). AllLeadWithin modes (map written_of (take k actions))) (add-one i) (leads_more modes actions i d (omega (arith, within)) all.1 here))

pub first_missing : (modes : List (List ℕ)) (actions : List WrittenAction) (i : ℕ) (d : WrittenAction) (rest : List ℕ) → i < length actions → AllLeadWithin modes (map written_of (take i actions))
    → IsFirstMissing modes (get_or actions i d ∷ []) rest → IsFirstMissing modes actions rest
first_missing modes [] i d rest within all here = absurd (omega (arith, within))
first_missing modes (Enter entry mode own ∷ actions) zero d rest within all (inl h) = inl h
first_missing modes (Enter entry mode own ∷ actions) zero d rest within all (inr h) = absurd h.1
first_missing modes (Pop ∷ actions) zero d rest within all here = absurd here
first_missing modes (Enter entry mode own ∷ actions) (suc i) d rest within all here = inr (all.0, first_missing modes actions i d rest (omega (arith, within)) all.1 here)
first_missing modes (Pop ∷ actions) (suc i) d rest within all here = first_missing modes actions i d rest (omega (arith, within)) all.1 here

-- ---- where the first mode stands that isn't there

leads_end : (modes : List (List ℕ)) (done : List WrittenAction) (a : WrittenAction) → AllLeadWithin modes (map written_of done) → LeadsWithin modes (written_of a) → AllLeadWithin modes (map written_of (done ++ a ∷ []))
leads_end modes [] a all here = (here, tt)
leads_end modes (x ∷ done) a all here = (all.0, leads_end modes done a all.1 here)

seam : (done actions : List WrittenAction) (a : WrittenAction) → slice_get (done ++ a ∷ actions) (length done) ≡ Some a
seam [] actions a = refl
seam (x ∷ done) actions a = seam done actions a

-- it stands before the rest
record IsMissingAt (modes : List (List ℕ)) (line rest : List ℕ) : Type 0 where
  mode : List ℕ
  behind : List ℕ
  head : Head
  entry : Entry
  reads : Reads Start line (Entering head entry) rest
  named : (begins begins_name rest ≡ true) × IsSpan is_of_name rest mode behind
  within : AllLeadWithin modes head.actions
  missing : ¬ Contains modes mode

missing_behind : (modes : List (List ℕ)) (line name : List ℕ) (skipped : Bool) (done actions : List WrittenAction) (rest : List ℕ) → ArePlaced Start line name skipped (done ++ actions) → AllLeadWithin modes (map written_of done)
    → IsFirstMissing modes actions rest → IsMissingAt modes line rest
missing_behind modes line name skipped done [] rest placed within missing = absurd missing
missing_behind modes line name skipped done (Enter entry mode here ∷ actions) rest placed within (inl h) =
    let a : WrittenAction = Enter entry mode here in
    let is = placed (length done) a (seam done actions a) in
    let own : take (length done) (done ++ a ∷ actions) ≡ done = take_at done (a ∷ actions) (length done) refl in
    let reads : Reads Start line (Entering (head_with name skipped done) (entry_of entry)) here.now = subst (λ (x : List WrittenAction). Reads Start line (Entering (head_with name skipped x) (entry_of entry)) here.now) own is.0 in
    let found : IsMissingAt modes line here.now = record {
      mode = mode.now;
      behind = is.2.0;
      head = head_with name skipped done;
      entry = entry_of entry;
      reads = reads;
      named = (is.1, is.2.1);
      within = within;
      missing = h.0;
    } in
    subst (IsMissingAt modes line) h.1 found
missing_behind modes line name skipped done (Enter entry mode here ∷ actions) rest placed within (inr h) =
    let a : WrittenAction = Enter entry mode here in
    missing_behind modes line name skipped (done ++ a ∷ []) actions rest (subst (λ (x : List WrittenAction). ArePlaced Start line name skipped x) (sym (append_assoc done (a ∷ []) actions)) placed)
    (leads_end modes done a within h.0) h.1
missing_behind modes line name skipped done (Pop ∷ actions) rest placed within missing =
    missing_behind modes line name skipped (done ++ Pop ∷ []) actions rest (subst (λ (x : List WrittenAction). ArePlaced Start line name skipped x) (sym (append_assoc done (Pop ∷ []) actions)) placed)
    (leads_end modes done Pop within tt) missing

pub missing_ends : (modes : List (List ℕ)) (line name : List ℕ) (skipped : Bool) (actions : List WrittenAction) (rest : List ℕ) → ArePlaced Start line name skipped actions → IsFirstMissing modes actions rest → (front : List ℕ) × (line ≡ front ++ rest)
missing_ends modes line name skipped actions rest placed missing = ends_reads (missing_behind modes line name skipped [] actions rest placed tt missing).reads

pub is_no_mode : (modes : List (List ℕ)) (line name : List ℕ) (skipped : Bool) (actions : List WrittenAction) (rest : List ℕ) (column : ℕ) → ArePlaced Start line name skipped actions → IsFirstMissing modes actions rest
    → column ≡ (position_of line (length line - length rest)).column → IsNoMode modes line column
is_no_mode modes line name skipped actions rest column placed missing is =
    let h = missing_behind modes line name skipped [] actions rest placed tt missing in
    let end = ends_reads h.reads in
    record {
      front = end.0;
      here = rest;
      mode = h.mode;
      rest = h.behind;
      head = h.head;
      entry = h.entry;
      parts = end.1;
      reads = h.reads;
      named = h.named;
      within = h.within;
      missing = h.missing;
      counted = is ∙ ap (λ (n : ℕ). (position_of line n).column) (behind_front end.0 rest line end.1);
    }

pub one_name : (x y : List ℕ) → Some x ≡ Some y → x ≡ y
one_name x y e = cc
