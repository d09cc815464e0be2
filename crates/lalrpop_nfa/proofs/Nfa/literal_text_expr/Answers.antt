use Rattle.std.proofs.Common.{◌≤◌, ◌∷◌, [], ◌++◌, ◌∙◌, sym, ap, rules, append_assoc, subst}
use Rattle.std.specs.Char.{IsScalar}
use Rattle.std.specs.Str.{chars}
use Rattle.lalrpop_nfa.specs.Internal.Fragment.{character_expr, literal_expr}
use Rattle.lalrpop_nfa.specs.Internal.Valid.{AreCodeValues}
use Rattle.lalrpop_nfa.specs.Internal.Extends.{Extends}
use Rattle.lalrpop_hir.proofs.TextWords.{chars-none}
use Rattle.lalrpop_nfa.proofs.CharLemmas.{IsUtf8-front, chars-last}
use Rattle.lalrpop_nfa.proofs.BuildLemmas.{Extends-before}
use Rattle.lalrpop_nfa.proofs.Nfa.literal_text_expr.Goals as goal

pub loop-c-init : goal.loop-c-init
loop-c-init c = search rules

pub loop-c-preserved : goal.loop-c-preserved
loop-c-preserved c =
    let i = c.loop-c.invariant in
    let x = c.in-Some.c in
    let scalar : IsScalar x = search rules in
    let code : x ≤ 1114111 = search rules in
    let left = c.next.new.self.iter.rest.now in
    record {
      can_next = tt;
      is_finite = tt;
      utf8 = IsUtf8-front _ left x c.in-Some.ensures.steps scalar i.utf8;
      built = (
        x ∷ i.built.0,
        i.built.1 ∙ (ap (λ cs. cs ++ i.built.0) (chars-last _ left x c.in-Some.ensures.steps scalar i.utf8) ∙ append_assoc (chars left) (x ∷ []) i.built.0),
        (code, i.built.2),
        Extends-before (character_expr x) (literal_expr i.built.0) c.args.target c.loop-c.entry c.in_ok-entry.entry c.args.self.now c.loop-c.self c.character_expr.new.self i.built.3 c.in_ok-entry.ensures,
      );
    }

pub returns-clause-extended : goal.returns-clause-extended
returns-clause-extended c =
    let i = c.loop-c.invariant in
    let all = i.built.1 ∙ ap (λ cs. cs ++ i.built.0) (chars-none _ c.in-None.ensures.steps.0) in
    subst (λ cs. Extends (literal_expr cs) c.args.target c.args.self.now c.loop-c.self c.loop-c.entry) (sym all) i.built.3

pub returns-clause-valid : goal.returns-clause-valid
returns-clause-valid c =
    let i = c.loop-c.invariant in
    let all = i.built.1 ∙ ap (λ cs. cs ++ i.built.0) (chars-none _ c.in-None.ensures.steps.0) in
    subst AreCodeValues (sym all) i.built.2
