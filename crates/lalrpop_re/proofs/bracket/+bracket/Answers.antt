use Rattle.std.proofs.Common.{◌≡◌, ◌∙◌, ◌+◌, [], ◌∷◌, ◌++◌, length, drop, option_to_list, option_map, max, sym, ap, refl, subst, arith, rules}
use Rattle.std.proofs.lemmas.Result.{err_from_is_err_and}
use Rattle.lalrpop_re.specs.CharacterSet.{complement, union_all}
use Rattle.lalrpop_re.specs.Bracket.{apply, leaves, leaf_or_complement}
use Rattle.lalrpop_re.specs.Internal.Reading.{whole_operand, item, bracket}
use Rattle.lalrpop_re.specs.Internal.Views.{text, operator_view, HasMembers}
use Rattle.lalrpop_re.specs.Internal.Items.{Gains}
use Rattle.lalrpop_re.specs.declared.flags.Flags.{Flags}
use Rattle.lalrpop_re.proofs.ItemLaws.{HasMembers-gains, HasRuns-from_members}
use Rattle.lalrpop_re.proofs.BracketLoops.{refuses_on, operator_long, is_empty, operand_stop, operand_turned, operand_refused, operand_open, operations_stop, operations_turned, operations_lost, operations_failed, enclosed_negated, enclosed_plain, item_posix, item_bracket, bracket_full, bracket_turn}
use Rattle.lalrpop_re.proofs.bracket.+bracket.Goals as goal

pub parse_bracket-returns-then-levels_left-eq0-clause-value : goal.parse_bracket-returns-then-levels_left-eq0-clause-value
parse_bracket-returns-then-levels_left-eq0-clause-value t c = rw c.error.ensures (bracket_full c.args.cursor.now.flags c.args.levels_left (text c.args.cursor.now) c.if-levels_left-eq0.true)

pub parse_bracket-returns-clause-value : goal.parse_bracket-returns-clause-value
parse_bracket-returns-clause-value t c = rw (bracket_turn c.args.cursor.now.flags c.args.levels_left (text c.args.cursor.now) c.if-levels_left-eq0.false) c.parse_enclosed.ensures.value

pub parse_enclosed-returns-then-begins-clause-value : goal.parse_enclosed-returns-then-begins-clause-value
parse_enclosed-returns-then-begins-clause-value t c =
    let w = c.in_ok-class.ensures.value in (
      record { set = complement w.0.set; depth = w.0.depth + 1; rest = drop 1 w.0.rest },
      enclosed_negated c.args.cursor.now.flags c.args.levels_left c.advance.new.self.flags (text c.args.cursor.now) (text c.advance.new.self) w.0 (sym c.begins.ensures ∙ c.if-begins.true) c.advance.ensures.flags c.advance.ensures.text w.1,
      (c.in_ok-class-2.ensures w.0.set w.2.0, ap (λ n. n + 1) w.2.1, c.advance-then-begins.ensures.text ∙ ap (drop 1) w.2.2),
    )

pub parse_enclosed-returns-clause-value : goal.parse_enclosed-returns-clause-value
parse_enclosed-returns-clause-value t c =
    let w = c.in_ok-class-3.ensures.value in (
      record { set = w.0.set; depth = w.0.depth + 1; rest = drop 1 w.0.rest },
      enclosed_plain c.args.cursor.now.flags c.args.levels_left c.advance-2.new.self.flags (text c.args.cursor.now) (text c.advance-2.new.self) w.0 (sym c.begins.ensures ∙ c.if-begins.false) (sym c.begins-2.ensures ∙ c.if-not-begins.false) c.advance-2.ensures.flags c.advance-2.ensures.text w.1,
      (w.2.0, ap (λ n. n + 1) w.2.1, c.advance-3.ensures.text ∙ ap (drop 1) w.2.2),
    )

pub parse_item-returns-in-Some-clause-value : goal.parse_item-returns-in-Some-clause-value
parse_item-returns-in-Some-clause-value t c =
    let m = rw c.in-Some.is at c.in_ok-class.ensures.value in
    let same = c.flags.ensures ∙ c.in_ok-class.ensures.flags in (
      record { set = leaf_or_complement c.args.cursor.now.flags m.0 c.in-Some.field-0.negated; depth = 0; rest = text c.parse_posix.new.cursor },
      item_posix c.args.cursor.now.flags c.args.levels_left (text c.args.cursor.now) (m.0, c.in-Some.field-0.negated, text c.parse_posix.new.cursor) m.1,
      (subst (λ (f : Flags). Gains c.args.ranges.now.items c.push_set.new.ranges.items (leaf_or_complement f m.0 c.in-Some.field-0.negated)) same (c.in_ok-push_set.ensures m.0 m.2), refl, refl),
    )

pub parse_item-returns-clause-value : goal.parse_item-returns-clause-value
parse_item-returns-clause-value t c =
    let m = rw c.in_default.is at c.in_ok-class.ensures.value in
    let w = c.in_ok-class-2.ensures.value in (
      w.0,
      item_bracket c.args.cursor.now.flags c.args.levels_left c.parse_posix.new.cursor.flags (text c.args.cursor.now) (text c.parse_posix.new.cursor) w.0 m.0 (sym c.begins.ensures ∙ c.if-not-begins.false) c.in_ok-class.ensures.flags m.1 w.1,
      (c.in_ok-push_class.ensures w.0.set w.2.0, w.2.1, w.2.2),
    )

pub parse_operand-loop-cursor-init : goal.parse_operand-loop-cursor-init
parse_operand-loop-cursor-init t c = record {
  value = (leaves c.args.cursor.now.flags (option_to_list c.args.lead), subst (λ (f : Flags). HasMembers c.in_ok-ranges.ranges.items (union_all (leaves f (option_to_list c.args.lead)))) c.flags.ensures c.in_ok-ranges.ensures, refl);
  flags = refl;
  moves = omega arith;
  deep = omega arith;
}

pub parse_operand-returns-then-is_empty-clause-value : goal.parse_operand-returns-then-is_empty-clause-value
parse_operand-returns-then-is_empty-clause-value t c =
    let w = c.loop-cursor.invariant.value in
    rw c.error_at.ensures (sym w.2 ∙ operand_open c.loop-cursor.cursor.flags c.args.levels_left (record { sets = w.0; depth = c.loop-cursor.depth; rest = text c.loop-cursor.cursor })
    (sym c.ends_operand.ensures ∙ c.loop-cursor-test.true) (sym c.rest.ensures ∙ is_empty c.rest.result.now (sym c.is_empty.ensures ∙ c.if-is_empty.true)))

pub parse_operand-returns-in_err-item_depth-clause-value : goal.parse_operand-returns-in_err-item_depth-clause-value
parse_operand-returns-in_err-item_depth-clause-value t c =
    let p = err_from_is_err_and c.from_residual-in_err-item_depth.result c.from_residual-in_err-item_depth.ensures.1 in
    let w = c.loop-cursor.invariant.value in
    rw (p.1, p.2) (refuses_on c.in_err-item_depth.field-0.0 (item c.loop-cursor.cursor.flags (bracket c.loop-cursor.cursor.flags c.args.levels_left) (text c.loop-cursor.cursor)) _ c.in_err-item_depth.ensures.value
    (λ none. sym w.2 ∙ operand_refused c.loop-cursor.cursor.flags c.args.levels_left (record { sets = w.0; depth = c.loop-cursor.depth; rest = text c.loop-cursor.cursor }) (sym c.ends_operand.ensures ∙ c.loop-cursor-test.true) none))

pub parse_operand-loop-cursor-preserved : goal.parse_operand-loop-cursor-preserved
parse_operand-loop-cursor-preserved t c =
    let w = c.loop-cursor.invariant.value in
    let i = c.in_ok-item_depth.ensures.value in
    let deep : c.max-depth.result ≡ max c.loop-cursor.depth c.in_ok-item_depth.item_depth = search rules in
    record {
      value = (
        w.0 ++ i.0.set ∷ [],
        c.in_ok-joined.ensures (union_all (w.0 ++ i.0.set ∷ [])) (HasMembers-gains c.loop-cursor.ranges.items c.parse_item.new.ranges.items w.0 i.0.set w.1 i.2.0),
        operand_turned c.loop-cursor.cursor.flags c.args.levels_left c.parse_item.new.cursor.flags (record { sets = w.0; depth = c.loop-cursor.depth; rest = text c.loop-cursor.cursor }) i.0 c.max-depth.result c.in_ok-item_depth.item_depth (text c.parse_item.new.cursor)
            (sym c.ends_operand.ensures ∙ c.loop-cursor-test.true) i.1 c.in_ok-item_depth.ensures.flags i.2.1 deep i.2.2 ∙ w.2,
      );
      flags = c.in_ok-item_depth.ensures.flags ∙ c.loop-cursor.invariant.flags;
      moves = omega (arith, c.in_ok-item_depth.ensures.moves);
      deep = omega (arith, deep, c.in_ok-item_depth.ensures.deep);
    }

pub parse_operand-returns-clause-value : goal.parse_operand-returns-clause-value
parse_operand-returns-clause-value t c =
    let w = c.loop-cursor.invariant.value in
    (record { sets = w.0; depth = c.loop-cursor.depth; rest = text c.loop-cursor.cursor }, sym w.2 ∙ operand_stop c.loop-cursor.cursor.flags c.args.levels_left _ (sym c.ends_operand.ensures ∙ c.loop-cursor-test.false), (HasRuns-from_members c.loop-cursor.ranges.items c.in_ok-class.class (union_all w.0) c.in_ok-class.ensures.runs w.1, refl, refl))

pub parse_operations-returns-in_default-clause-value : goal.parse_operations-returns-in_default-clause-value
parse_operations-returns-in_default-clause-value t c = λ s h.
    let w = c.loop-cursor.invariant.value s h in
    rw c.error_at.ensures (sym w.2 ∙ operations_lost c.loop-cursor.cursor.flags c.args.levels_left (record { set = w.0; depth = c.loop-cursor.depth; rest = text c.loop-cursor.cursor }) (sym c.begins.ensures ∙ c.loop-cursor-test.true) (sym c.set_operator_at.ensures ∙ ap (option_map operator_view) c.in_default.is))

pub parse_operations-advance-requires : goal.parse_operations-advance-requires
parse_operations-advance-requires t c = omega (arith, operator_long (text c.loop-cursor.cursor) (operator_view c.in-Some.operator) (sym c.set_operator_at.ensures ∙ ap (option_map operator_view) c.in-Some.is))

pub parse_operations-returns-in_err-right-clause-value : goal.parse_operations-returns-in_err-right-clause-value
parse_operations-returns-in_err-right-clause-value t c = λ s h.
    let p = err_from_is_err_and c.from_residual.result c.from_residual.ensures.1 in
    let w = c.loop-cursor.invariant.value s h in
    rw (p.1, p.2) (refuses_on c.in_err-right.field-0.0 (whole_operand c.advance.new.self.flags (bracket c.advance.new.self.flags c.args.levels_left) (record { sets = []; depth = 0; rest = text c.advance.new.self })) _ c.in_err-right.ensures.value
    (λ none. sym w.2 ∙ operations_failed c.loop-cursor.cursor.flags c.args.levels_left c.advance.new.self.flags (record { set = w.0; depth = c.loop-cursor.depth; rest = text c.loop-cursor.cursor }) (operator_view c.in-Some.operator) (text c.advance.new.self)
    (sym c.begins.ensures ∙ c.loop-cursor-test.true) (sym c.set_operator_at.ensures ∙ ap (option_map operator_view) c.in-Some.is) c.advance.ensures.flags c.advance.ensures.text none))

pub parse_operations-loop-cursor-smaller : goal.parse_operations-loop-cursor-smaller
parse_operations-loop-cursor-smaller t c =
    omega (arith, c.in_ok-right.ensures.moves, ap length c.advance.ensures.text, operator_long (text c.loop-cursor.cursor) (operator_view c.in-Some.operator) (sym c.set_operator_at.ensures ∙ ap (option_map operator_view) c.in-Some.is))

pub parse_operations-loop-cursor-preserved : goal.parse_operations-loop-cursor-preserved
parse_operations-loop-cursor-preserved t c =
    let r = c.in_ok-right.ensures.value in
    let deep : c.max-depth.result ≡ max c.loop-cursor.depth c.in_ok-right.right.depth = search rules in
    record {
      value = λ s h.
          let w = c.loop-cursor.invariant.value s h in (
            apply (operator_view c.in-Some.operator) w.0 (union_all r.0.sets),
            c.in_ok-class.ensures w.0 (union_all r.0.sets) w.1 r.2.0,
            operations_turned c.loop-cursor.cursor.flags c.args.levels_left c.advance.new.self.flags c.parse_operand.new.cursor.flags (record { set = w.0; depth = c.loop-cursor.depth; rest = text c.loop-cursor.cursor }) (operator_view c.in-Some.operator) r.0
                c.max-depth.result c.in_ok-right.right.depth (text c.advance.new.self) (text c.parse_operand.new.cursor) (sym c.begins.ensures ∙ c.loop-cursor-test.true) (sym c.set_operator_at.ensures ∙ ap (option_map operator_view) c.in-Some.is)
                c.advance.ensures.flags c.advance.ensures.text r.1 (c.in_ok-right.ensures.flags ∙ c.advance.ensures.flags) r.2.1 deep r.2.2 ∙ w.2,
          );
      flags = c.in_ok-right.ensures.flags ∙ c.advance.ensures.flags ∙ c.loop-cursor.invariant.flags;
      moves = omega (arith, c.in_ok-right.ensures.moves, ap length c.advance.ensures.text, operator_long (text c.loop-cursor.cursor) (operator_view c.in-Some.operator) (sym c.set_operator_at.ensures ∙ ap (option_map operator_view) c.in-Some.is));
      deep = omega (arith, deep, c.in_ok-right.ensures.deep);
    }

pub parse_operations-returns-clause-value : goal.parse_operations-returns-clause-value
parse_operations-returns-clause-value t c = λ s h.
    let w = c.loop-cursor.invariant.value s h in
    (record { set = w.0; depth = c.loop-cursor.depth; rest = text c.loop-cursor.cursor }, sym w.2 ∙ operations_stop c.loop-cursor.cursor.flags c.args.levels_left _ (sym c.begins.ensures ∙ c.loop-cursor-test.false), (w.1, refl, refl))
