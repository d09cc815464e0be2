-- What was found at a place of a text, and the run of the mode on top then.
use Rattle.std.proofs.Common.{◌≡◌, ℕ, ◌-◌, ◌<◌, ◌≤◌, Bool, true, List, length, take, drop, sym, subst, ◌∙◌}
use Rattle.std.specs.Prelude.{slice_get, IfSome, Option, Some, None}
use Rattle.std.specs.Option.{is_some}
use Rattle.lalrpop_hir.specs.Tree.{Tree}
use Rattle.lalrpop_hir.specs.Longest.{IsLongest}
use Rattle.lalrpop_dfa.specs.Dfa.{Row, Recognizes}
use Rattle.lalrpop_dfa.proofs.Recognized.{on_words}
use Rattle.lalrpop_dense.specs.DenseTable.{IsTableFor, TableNumbers}
use Rattle.lalrpop_rules.specs.Modes.{ModeRules, trees_in}
use Rattle.lalrpop_emit.specs.NumberedRules.{NumberedRules, AreNumbersOf}
use Rattle.lalrpop_emit.specs.Internal.Running.{IsRunOf, IsTokenAt}
use Rattle.lalrpop_emit.specs.Internal.Walking.{IsDrivable, AreRulesBelow}
use Rattle.lalrpop_emit.specs.declared.driver.Match.{Match}
use Rattle.lalrpop_emit.specs.declared.run.Run.{Run}
use Rattle.lalrpop_emit.proofs.ByteFaults.{match_of}
use Rattle.lalrpop_emit.proofs.Driving.{rule_within, some_table}

-- the longest match at the place, if there is one
pub record IsFoundAt (t : TableNumbers) (text : List ℕ) (at : ℕ) (o : Option Match) : Type 0 where
  pub longest : (d : List Row) → IsTableFor t d → (ts : List Tree) (ps : List ℕ) → Recognizes d ts ps → IsLongest ts ps (drop at text) (match_of text at o)
  pub place : IfSome o (λ m. (at < m.end) × (m.end ≤ length text))
  pub rules : (count : ℕ) → AreRulesBelow t count → IfSome o (λ m. m.rule < count)

pub found_known : (t : TableNumbers) (text : List ℕ) (at : ℕ) (o : Option Match) (b : Bool) → b ≡ is_some o → b ≡ true → IfSome o (λ m. IsTokenAt t text at m.rule m.end) → IsFoundAt t text at o
found_known t text at None b is which known = cc
found_known t text at (Some m) b is which known = record { longest = known.longest; place = (known.some, known.within); rules = known.rules }

-- by the table of the mode, whichever that is
pub found_in : (n : NumberedRules) (mode : ℕ) (t : TableNumbers) (text : List ℕ) (at : ℕ) (o : Option Match) → slice_get n.tables mode ≡ Some t → IsFoundAt t text at o
    → (u : TableNumbers) → slice_get n.tables mode ≡ Some u → IsFoundAt u text at o
found_in n mode t text at o there h u at_u =
    let same : t ≡ u = (let e : Some t ≡ Some u = sym there ∙ at_u in cc) in
    subst (λ (v : TableNumbers). IsFoundAt v text at o) same h

-- what is known of each table is known of the match
pub all_tables : (n : NumberedRules) (mode : ℕ) (text : List ℕ) (at : ℕ) (o : Option Match)
    → ((t : TableNumbers) → slice_get n.tables mode ≡ Some t → IfSome o (λ m. IsTokenAt t text at m.rule m.end))
    → IfSome o (λ m. (t : TableNumbers) → slice_get n.tables mode ≡ Some t → IsTokenAt t text at m.rule m.end)
all_tables n mode text at None h = tt
all_tables n mode text at (Some m) h = h

pub tokens_as : (n : NumberedRules) (mode : ℕ) (text : List ℕ) (at : ℕ) (o o2 : Option Match) → o2 ≡ o
    → IfSome o (λ m. (t : TableNumbers) → slice_get n.tables mode ≡ Some t → IsTokenAt t text at m.rule m.end)
    → IfSome o2 (λ m. (t : TableNumbers) → slice_get n.tables mode ≡ Some t → IsTokenAt t text at m.rule m.end)
tokens_as n mode text at o o2 same h = subst (λ (p : Option Match). IfSome p (λ m. (t : TableNumbers) → slice_get n.tables mode ≡ Some t → IsTokenAt t text at m.rule m.end)) (sym same) h

module _ (n : NumberedRules) (mode at : ℕ) (text : List ℕ) where
  pub record IsFound (run : Run) (o : Option Match) : Type 0 where
    pub found : (t : TableNumbers) → slice_get n.tables mode ≡ Some t → IsFoundAt t text at o
    pub of_mode : IsRunOf n mode at text run

  pub found_as : (run run2 : Run) (o o2 : Option Match) → run2 ≡ run → o2 ≡ o → IsFound run o → IsFound run2 o2
  found_as run run2 o o2 same_run same h = subst (λ (r : Run). IsFound r o2) (sym same_run) (subst (λ (p : Option Match). IsFound run p) (sym same) h)

  -- it was known before
  pub found_before : (run : Run) (known : Option Match) (m : Match) → known ≡ Some m → IfSome known (λ x. (t : TableNumbers) → slice_get n.tables mode ≡ Some t → IsTokenAt t text at x.rule x.end)
      → IsRunOf n mode at text run → IsFound run (Some m)
  found_before run known m is h kept =
      let tokens : IfSome (Some m) (λ x. (t : TableNumbers) → slice_get n.tables mode ≡ Some t → IsTokenAt t text at x.rule x.end) =
      subst (λ (o : Option Match). IfSome o (λ x. (t : TableNumbers) → slice_get n.tables mode ≡ Some t → IsTokenAt t text at x.rule x.end)) is h in
      record {
        found = λ t there. record { longest = (tokens t there).longest; place = ((tokens t there).some, (tokens t there).within); rules = (tokens t there).rules };
        of_mode = kept;
      }

  pub tokens_of : (run : Run) (m : Match) → IsFound run (Some m) → (t : TableNumbers) → slice_get n.tables mode ≡ Some t → IsTokenAt t text at m.rule m.end
  tokens_of run m h t there =
      let found = h.found t there in record { longest = found.longest; some = found.place.0; within = found.place.1; rules = found.rules }

  -- the token at the place, as the rules have it
  pub record IsTokenThere (rule end : ℕ) : Type 0 where
    pub below : rule < length n.kinds
    pub place : (at < end) × (end ≤ length text)
    pub longest : (r : ModeRules) → AreNumbersOf r n → IsLongest (trees_in r mode) r.precedences (drop at text) (Some (rule, take (end - at) (drop at text)))

  pub token_there : (rule end : ℕ) → IsDrivable n → mode < length n.tables → ((t : TableNumbers) → slice_get n.tables mode ≡ Some t → IsTokenAt t text at rule end) → IsTokenThere rule end
  token_there rule end drivable within tokens =
      let table = some_table n mode within in
      let token = tokens table.0 table.1 in
      record {
        below = rule_within n mode rule drivable within (λ t there. (tokens t there).rules);
        place = (token.some, token.within);
        longest = λ r are.
            let right = are.tables mode table.0 table.1 in
            let ts = trees_in r mode in
            token.longest right.automaton right.right ts r.precedences (on_words right.automaton ts r.precedences right.recognizes.stands);
      }
