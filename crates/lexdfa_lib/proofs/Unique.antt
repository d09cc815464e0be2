-- The answer for bytes and a text is unique.
use Rattle.std.proofs.Common.{◌≡◌, ℕ, ◌<◌, ◌⊎◌, inl, inr, List, length, Some, None, refl, sym, ap, subst}
use Rattle.std.specs.Prelude.{slice_get}
use Rattle.std.proofs.lemmas.Bool.{cases_order}
use Rattle.lalrpop_hir.specs.Tree.{Tree}
use Rattle.lalrpop_lexer.specs.Clash.{NoClash}
use Rattle.lalrpop_lexer.specs.Fault.{fault}
use Rattle.lalrpop_lexer.specs.Report.{NoFault, FirstFault}
use Rattle.lalrpop_hir.specs.declared.error.NfaConstructionError.{NfaConstructionError}
use Rattle.lalrpop_lexer.proofs.ClashLaws.{clash-unique, clash_or_none}
use Rattle.lalrpop_lexer.proofs.Longests.{longest-unique}
use Rattle.lalrpop_lexer.proofs.TerminalLaws.{terminals-unique, NoTerminal, stop_or_terminals, stop-unique}
use Rattle.bajofeki_rules.specs.Lines.{lines}
use Rattle.lalrpop_lexer.specs.Terminals.{AreTerminals, FirstSays}
use Rattle.lexdfa_lib.specs.Answer.{HaveAutomaton, Reports, IsReported, Finds, IsOutcome}
use Rattle.lalrpop_lexer.specs.declared.terminal_line.TerminalLine.{TerminalLine}
use Rattle.lalrpop_lexer.specs.declared.terminal_line.TerminalLine.TheVariants.{Bad, NoTree, Terminal}
use Rattle.lexdfa_lib.specs.declared.outcome.Outcome.{Outcome}
use Rattle.lexdfa_lib.specs.declared.outcome.Outcome.TheVariants.{Match, NoMatch, All, Stopped, Refused, Ambiguous, Syntax, Line}

fault_or_none : (ts : List Tree) (i : ℕ) (e : NfaConstructionError) → FirstFault ts i e → NoFault ts → ⊥
fault_or_none ts i e h none = let has : fault h.tree ≡ Some e = h.has in let lacks : fault h.tree ≡ None = none i h.tree h.at in cc

earlier : (ts : List Tree) (i j : ℕ) (d e : NfaConstructionError) → FirstFault ts i d → FirstFault ts j e → i < j → ⊥
earlier ts i j d e h g l = let has : fault h.tree ≡ Some d = h.has in let lacks : fault h.tree ≡ None = g.none_before i h.tree l h.at in cc

fault-unique : (ts : List Tree) (i j : ℕ) (d e : NfaConstructionError) → FirstFault ts i d → FirstFault ts j e → Refused i d ≡ Refused j e
fault-unique ts i j d e h g = by_order (cases_order i j)
  where
    by_order : (i ≡ j) ⊎ ((i < j) ⊎ (j < i)) → Refused i d ≡ Refused j e
    by_order (inl same) =
        let here : slice_get ts i ≡ Some h.tree = h.at in
        let there : slice_get ts i ≡ Some g.tree = subst (λ k. slice_get ts k ≡ Some g.tree) (sym same) g.at in
        let has : fault h.tree ≡ Some d = h.has in
        let also : fault g.tree ≡ Some e = g.has in
        cc
    by_order (inr (inl l)) = absurd (earlier ts i j d e h g l)
    by_order (inr (inr l)) = absurd (earlier ts j i e d g h l)

abbrev pub pair : ℕ → List ℕ → ℕ × List ℕ
pair i p = (i, p)

pub parts-unique : (i j : ℕ) (p q : List ℕ) → Some (pair i p) ≡ Some (pair j q) → (i ≡ j) × (length p ≡ length q)
parts-unique i j p q e = let same : pair i p ≡ pair j q = cc in (ap (λ m. m.0) same, ap (λ m. length m.1) same)

reports-unique : (ts : List Tree) (ps : List ℕ) (a b : Outcome) → Reports ts ps a → Reports ts ps b → a ≡ b
reports-unique ts ps (Refused i d) (Refused j e) h g = fault-unique ts i j d e h g
reports-unique ts ps (Refused i d) (Ambiguous k l v) h g = absurd (fault_or_none ts i d h g.0)
reports-unique ts ps (Ambiguous i j w) (Refused k e) h g = absurd (fault_or_none ts k e g h.0)
reports-unique ts ps (Ambiguous i j w) (Ambiguous k l v) h g =
    let same = clash-unique ts ps w v i j k l h.1 g.1 in
    let word : w ≡ v = same.0 in
    let first : i ≡ k = same.1.0 in
    let second : j ≡ l = same.1.1 in
    cc
reports-unique ts ps (Match i n) b h g = absurd h
reports-unique ts ps NoMatch b h g = absurd h
reports-unique ts ps (All n) b h g = absurd h
reports-unique ts ps (Stopped n at) b h g = absurd h
reports-unique ts ps (Syntax i) b h g = absurd h
reports-unique ts ps (Line i) b h g = absurd h
reports-unique ts ps a (Match i n) h g = absurd g
reports-unique ts ps a NoMatch h g = absurd g
reports-unique ts ps a (All n) h g = absurd g
reports-unique ts ps a (Stopped n at) h g = absurd g
reports-unique ts ps a (Syntax i) h g = absurd g
reports-unique ts ps a (Line i) h g = absurd g

-- trees that report something have no automaton
reports_nothing : (ts : List Tree) (ps : List ℕ) (o : Outcome) → Reports ts ps o → NoFault ts → NoClash ts ps → ⊥
reports_nothing ts ps (Refused i e) r no_fault no_clash = fault_or_none ts i e r no_fault
reports_nothing ts ps (Ambiguous i j w) r no_fault no_clash = clash_or_none ts ps w i j r.1 no_clash
reports_nothing ts ps (Match i n) r no_fault no_clash = r
reports_nothing ts ps NoMatch r no_fault no_clash = r
reports_nothing ts ps (All n) r no_fault no_clash = r
reports_nothing ts ps (Stopped n at) r no_fault no_clash = r
reports_nothing ts ps (Syntax i) r no_fault no_clash = r
reports_nothing ts ps (Line i) r no_fault no_clash = r

-- the terminals of the lines report this
abbrev Told : List ℕ → Outcome → Type 0
Told bytes o = (ts : List Tree) × ((ps : List ℕ) × (AreTerminals (lines bytes) ts ps × Reports ts ps o))

told-unique : (bytes : List ℕ) (a b : Outcome) → Told bytes a → Told bytes b → a ≡ b
told-unique bytes a b h g =
    let same = terminals-unique (lines bytes) h.0 g.0 h.1.0 g.1.0 h.1.1.0 g.1.1.0 in
    let there = subst (λ ts. Reports ts g.1.0 b) (sym same.0) g.1.1.1 in
    let here = subst (λ ps. Reports h.0 ps b) (sym same.1) there in
    reports-unique h.0 h.1.0 a b h.1.1.1 here

-- the outcome that says that a line is not a terminal
abbrev stop : TerminalLine → ℕ → Outcome
stop Bad i = Line i
stop NoTree i = Syntax i
stop (Terminal p t) i = Line i

record Stops (bytes : List ℕ) (o : Outcome) : Type 0 where
  line : ℕ
  said : TerminalLine
  none : NoTerminal said
  told : o ≡ stop said line
  first : FirstSays (lines bytes) line said

stops_or_told : (bytes : List ℕ) (o : Outcome) → IsReported bytes o → Stops bytes o ⊎ Told bytes o
stops_or_told bytes (Line i) h = inl (record { line = i; said = Bad; none = λ p t e. cc; told = refl; first = h })
stops_or_told bytes (Syntax i) h = inl (record { line = i; said = NoTree; none = λ p t e. cc; told = refl; first = h })
stops_or_told bytes (Match i n) h = inr h
stops_or_told bytes NoMatch h = inr h
stops_or_told bytes (All n) h = inr h
stops_or_told bytes (Stopped n at) h = inr h
stops_or_told bytes (Refused i e) h = inr h
stops_or_told bytes (Ambiguous i j w) h = inr h

not_both : (bytes : List ℕ) (o q : Outcome) → Stops bytes o → Told bytes q → ⊥
not_both bytes o q h g = stop_or_terminals (lines bytes) h.line h.said g.0 g.1.0 h.none h.first g.1.1.0

stops-unique : (bytes : List ℕ) (a b : Outcome) → Stops bytes a → Stops bytes b → a ≡ b
stops-unique bytes a b h g =
    let same = stop-unique (lines bytes) h.line g.line h.said g.said h.none g.none h.first g.first in
    let numbers : h.line ≡ g.line = same.0 in
    let meanings : h.said ≡ g.said = same.1 in
    let told : a ≡ stop h.said h.line = h.told in
    let also : b ≡ stop g.said g.line = g.told in
    cc

-- the bytes report only one thing
pub reported-unique : (bytes : List ℕ) (a b : Outcome) → IsReported bytes a → IsReported bytes b → a ≡ b
reported-unique bytes a b h g = by_kind (stops_or_told bytes a h) (stops_or_told bytes b g)
  where
    by_kind : Stops bytes a ⊎ Told bytes a → Stops bytes b ⊎ Told bytes b → a ≡ b
    by_kind (inl x) (inl y) = stops-unique bytes a b x y
    by_kind (inl x) (inr y) = absurd (not_both bytes a b x y)
    by_kind (inr x) (inl y) = absurd (not_both bytes b a y x)
    by_kind (inr x) (inr y) = told-unique bytes a b x y

-- the trees and precedences of an automaton are fixed
pub automaton-unique : (bytes : List ℕ) (ts us : List Tree) (ps qs : List ℕ) → HaveAutomaton bytes ts ps → HaveAutomaton bytes us qs → (us ≡ ts) × (qs ≡ ps)
automaton-unique bytes ts us ps qs h g =
    let same = terminals-unique (lines bytes) ts us ps qs h.terminals g.terminals in
    (sym same.0, sym same.1)

-- bytes that report something have no automaton
pub reported_or_automaton : (bytes : List ℕ) (o : Outcome) (ts : List Tree) (ps : List ℕ) → IsReported bytes o → HaveAutomaton bytes ts ps → ⊥
reported_or_automaton bytes o ts ps h a = by_kind (stops_or_told bytes o h)
  where
    by_kind : Stops bytes o ⊎ Told bytes o → ⊥
    by_kind (inl x) = stop_or_terminals (lines bytes) x.line x.said ts ps x.none x.first a.terminals
    by_kind (inr x) =
        let same = terminals-unique (lines bytes) x.0 ts x.1.0 ps x.1.1.0 a.terminals in
        let there = subst (λ (ts : List Tree). Reports ts x.1.0 o) same.0 x.1.1.1 in
        let here = subst (λ (ps : List ℕ). Reports ts ps o) same.1 there in
        reports_nothing ts ps o here a.no_fault a.no_clash

-- ---- the longest match

finds-unique : (ts : List Tree) (ps text : List ℕ) (a b : Outcome) → Finds ts ps text a → Finds ts ps text b → a ≡ b
finds-unique ts ps text (Match i n) (Match j m) h g =
    let same = parts-unique i j h.0 g.0 (longest-unique ts ps text _ _ h.1.0 g.1.0) in
    let terminals : i ≡ j = same.0 in
    let bytes : length h.0 ≡ length g.0 = same.1 in
    let lengths : n ≡ length h.0 = h.1.1 in
    let also : m ≡ length g.0 = g.1.1 in
    cc
finds-unique ts ps text (Match i n) NoMatch h g = absurd (g h.0 h.1.0.0)
finds-unique ts ps text NoMatch (Match j m) h g = absurd (h g.0 g.1.0.0)
finds-unique ts ps text NoMatch NoMatch h g = refl
finds-unique ts ps text (All n) b h g = absurd h
finds-unique ts ps text (Stopped n at) b h g = absurd h
finds-unique ts ps text (Refused i e) b h g = absurd h
finds-unique ts ps text (Ambiguous i j w) b h g = absurd h
finds-unique ts ps text (Syntax i) b h g = absurd h
finds-unique ts ps text (Line i) b h g = absurd h
finds-unique ts ps text a (All n) h g = absurd g
finds-unique ts ps text a (Stopped n at) h g = absurd g
finds-unique ts ps text a (Refused i e) h g = absurd g
finds-unique ts ps text a (Ambiguous i j w) h g = absurd g
finds-unique ts ps text a (Syntax i) h g = absurd g
finds-unique ts ps text a (Line i) h g = absurd g

pub outcome-unique : (bytes text : List ℕ) (a b : Outcome) → IsOutcome bytes text a → IsOutcome bytes text b → a ≡ b
outcome-unique bytes text a b (inl h) (inl g) = reported-unique bytes a b h g
outcome-unique bytes text a b (inl h) (inr (ts, (ps, (have, finds)))) = absurd (reported_or_automaton bytes a ts ps h have)
outcome-unique bytes text a b (inr (ts, (ps, (have, finds)))) (inl g) = absurd (reported_or_automaton bytes b ts ps g have)
outcome-unique bytes text a b (inr (ts, (ps, (have, finds)))) (inr (us, (qs, (too, also)))) =
    let same = automaton-unique bytes ts us ps qs have too in
    let there = subst (λ (us : List Tree). Finds us qs text b) same.0 also in
    let here = subst (λ (qs : List ℕ). Finds ts qs text b) same.1 there in
    finds-unique ts ps text a b finds here
