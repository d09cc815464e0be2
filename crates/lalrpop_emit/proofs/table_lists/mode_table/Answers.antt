use Rattle.std.proofs.Common.{ℕ, List, length, sym, subst, ◌≡◌, ◌∙◌, ap, arith}
use Rattle.std.specs.Prelude.{Some, slice_get, string_bytes}
use Rattle.std.proofs.lemmas.List.{length-map}
use Rattle.std.proofs.lemmas.Result.{on_ok_weaker}
use Rattle.lalrpop_dfa.specs.Dfa.{Row}
use Rattle.lalrpop_emit.specs.Internal.Lists.{AreBelow, list_numbers}
use Rattle.lalrpop_emit.proofs.ExactErrors.{fits_table}
use Rattle.lalrpop_emit.proofs.ModeTables.{both_ok, rules_below}
use Rattle.lalrpop_emit.proofs.table_lists.mode_table.Goals as goal

pub tables_of-requires : goal.tables_of-requires
tables_of-requires c =
    let names : length c.names.result.now ≡ length c.args.rules.now.names = sym (length-map c.names.result.now (λ s. string_bytes s)) ∙ ap length c.names.ensures.names in
    let below : AreBelow c.dense-dense.result.now (length c.args.rules.now.names) =
    subst (λ (d : List Row). AreBelow d (length c.args.rules.now.names)) c.dfa.ensures.same
    (subst (λ (n : ℕ). AreBelow c.dfa.result.now n) names c.in_default.ensures) in
    record { below = λ state pattern row at kind. omega (arith, below state pattern row at kind, c.requires.few) }

pub returns-clause-table : goal.returns-clause-table
returns-clause-table c =
    let names : length c.names.result.now ≡ length c.args.rules.now.names = sym (length-map c.names.result.now (λ s. string_bytes s)) ∙ ap length c.names.ensures.names in
    let below : AreBelow c.dense-dense.result.now (length c.args.rules.now.names) =
    subst (λ (d : List Row). AreBelow d (length c.args.rules.now.names)) c.dfa.ensures.same
    (subst (λ (n : ℕ). AreBelow c.dfa.result.now n) names c.in_default.ensures) in
    both_ok c.tables_of.result (λ made right storable. record {
      of_mode = record {
        automaton = c.dense-dense.result.now;
        recognizes = rw (c.lexer.ensures.trees, c.lexer.ensures.precedences) at c.dense-dense.ensures.built;
        right = right;
      };
      storable = storable;
      rules = rules_below (list_numbers made.table) c.dense-dense.result.now (length c.args.rules.now.names) right below;
    }) c.tables_of.ensures.right c.tables_of.ensures.storable

pub returns-clause-fits : goal.returns-clause-fits
returns-clause-fits c =
    let r = c.args.rules.now in
    let names : length c.names.result.now ≡ length r.names = sym (length-map c.names.result.now (λ s. string_bytes s)) ∙ ap length c.names.ensures.names in
    let d = c.dense-dense.result.now in
    let below : AreBelow d (length r.names) =
    subst (λ (a : List Row). AreBelow a (length r.names)) c.dfa.ensures.same
    (subst (λ (n : ℕ). AreBelow c.dfa.result.now n) names c.in_default.ensures) in
    let at : slice_get r.automata c.args.mode ≡ Some d = c.lexer.ensures.automaton ∙ ap Some (sym c.dense-dense.ensures.same) in
    on_ok_weaker c.tables_of.result (fits_table r c.args.mode d at below) c.tables_of.ensures.small
