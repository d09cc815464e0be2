use Rattle.std.proofs.Common.{rules, ◌≡◌, ◌∷◌, [], sym, ◌∙◌}
use Rattle.std.proofs.lemmas.Result.{IfOk-weaker}
use Rattle.lalrpop_hir.specs.Tree.{literal}
use Rattle.lalrpop_hir.specs.Parts.{of_text}
use Rattle.lalrpop_re.specs.CharacterSet.{just, fold, HasRuns}
use Rattle.lalrpop_re.specs.Pattern.{literal_tree}
use Rattle.lalrpop_re.proofs.SetLaws.{HasRuns-just, text-one, literal-plain, literal-alone, literal-folded}
use Rattle.lalrpop_re.proofs.sets.tree_of_character.Goals as goal
use Rattle.lalrpop_re.proofs.sets.tree_of_character.Goals.{then-flags+in_ok-range_class+in_ok-folded+else-not-is_one_member, else-flags}

pub returns-then-not-is_one_member : goal.returns-then-not-is_one_member
returns-then-not-is_one_member c =
    let f = c.args.flags in
    let x = c.args.c in
    let rs = c.in_ok-folded.folded in
    let runs : HasRuns rs (fold (just x)) = c.in_ok-folded.ensures.runs (just x) (HasRuns-just c.in_ok-range_class.field-0 x c.in_ok-range_class.ensures.runs) in
    record { tree = c.tree_of_class.ensures.tree (fold (just x)) runs ∙ sym (literal-folded f x rs c.if-flags.true runs (sym c.is_one_member.ensures ∙ c.if-not-is_one_member.true)) }

pub returns : goal.returns
returns c =
    let f = c.args.flags in
    let x = c.args.c in
    let bs = c.encode_utf8.result.now in
    let one : literal_tree f x ≡ literal (x ∷ []) = elim c.if-flags.branch [
      | then-flags+in_ok-range_class+in_ok-folded+else-not-is_one_member w ↦
          literal-alone f x w.in_ok-folded.folded w.if-flags.true (w.in_ok-folded.ensures.runs (just x) (HasRuns-just w.in_ok-range_class.field-0 x w.in_ok-range_class.ensures.runs))
          (sym w.is_one_member.ensures ∙ w.if-not-is_one_member.false)
      | else-flags w ↦ literal-plain f x w.if-flags.false
    ] in
    record {
      tree = IfOk-weaker c.literal.result (λ t. t ≡ of_text bs) (λ t. t ≡ literal_tree f x)
          (λ t k. k ∙ (text-one x bs (search rules) c.encode_utf8.ensures.value c.encode_utf8.ensures.lower_bound ∙ sym one)) c.literal.ensures.tree;
    }
