use Rattle.std.proofs.Common.{sym, ◌∙◌}
use Rattle.lalrpop_re.proofs.OpeningSteps.{cut_of, no_hyphen, flags_refused, flags_found, differ}
use Rattle.lalrpop_re.proofs.opening.flags_of.Goals.{then-is_hyphen_alone-via-then-is_hyphen_alone, then-is_hyphen_alone-via-else-is_hyphen_alone+then-not-are_among, then-is_hyphen_alone-via-else-is_hyphen_alone+else-not-are_among+then-not-are_among-2}
use Rattle.lalrpop_re.proofs.opening.flags_of.Goals as goal

pub returns-then-is_hyphen_alone : goal.returns-then-is_hyphen_alone
returns-then-is_hyphen_alone c =
    let k = cut_of no_hyphen c.args.letters.now c.split_before.result.0.now c.split_before.result.1.now c.split_before.ensures in
    elim c.then-is_hyphen_alone.branch [
      | then-is_hyphen_alone-via-then-is_hyphen_alone w ↦ sym (flags_refused c.args.flags k (λ h. h.not_alone w.if-is_hyphen_alone.true))
      | then-is_hyphen_alone-via-else-is_hyphen_alone+then-not-are_among w ↦ sym (flags_refused c.args.flags k (λ h. differ h.switched_on (sym w.are_among.ensures ∙ w.if-not-are_among.true)))
      | then-is_hyphen_alone-via-else-is_hyphen_alone+else-not-are_among+then-not-are_among-2 w ↦
          let off = rw c.after_first-off.ensures at (sym w.are_among-else-not-are_among.ensures ∙ w.if-not-are_among-2.true) in
          sym (flags_refused c.args.flags k (λ h. differ h.switched_off off))
    ]

pub returns-then-not-is_distinct : goal.returns-then-not-is_distinct
returns-then-not-is_distinct c =
    let k = cut_of no_hyphen c.args.letters.now c.split_before.result.0.now c.split_before.result.1.now c.split_before.ensures in
    sym (flags_refused c.args.flags k (λ h. differ h.distinct (sym c.is_distinct.ensures ∙ c.if-not-is_distinct.true)))

pub returns : goal.returns
returns c =
    let k = cut_of no_hyphen c.args.letters.now c.split_before.result.0.now c.split_before.result.1.now c.split_before.ensures in
    let off = rw c.after_first-off.ensures at (sym c.are_among-else-not-are_among.ensures ∙ c.if-not-are_among-2.false) in
    rw (c.with_flags-2.ensures, c.with_flags.ensures, c.after_first-off.ensures)
    (sym (flags_found c.args.flags k (record {
      switched_on = sym c.are_among.ensures ∙ c.if-not-are_among.false;
      switched_off = off;
      distinct = sym c.is_distinct.ensures ∙ c.if-not-is_distinct.false;
      not_alone = c.if-is_hyphen_alone.false;
    })))
