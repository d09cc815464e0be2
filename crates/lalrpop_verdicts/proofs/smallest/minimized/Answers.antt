use Rattle.std.proofs.Common.{List, sym, subst}
use Rattle.std.proofs.lemmas.Result.{IfOk-weaker}
use Rattle.lalrpop_dfa.specs.Dfa.{Row}
use Rattle.lalrpop_verdicts.specs.Smallest.{AnswerAlike, IsCanonical, IsSmallest}
use Rattle.lalrpop_verdicts.proofs.ClassAutomata.{alike_recognizes, alike_recognizes_all, walk_alike, walk_canonical, walk_rejects, walk_smallest, walk_well}
use Rattle.lalrpop_verdicts.proofs.smallest.minimized.Goals as goal

pub new-requires : goal.new-requires
new-requires c =
    let w = c.in_ok-rows.ensures.rows in
    walk_well c.args.dfa.now c.in_ok-found.found.items w.0 c.in_ok-rows.rows c.in_ok-rows.ensures.well_formed c.in_ok-found.ensures.classes w.1.0 w.1.1

pub returns-clause-alike : goal.returns-clause-alike
returns-clause-alike c =
    let d = c.args.dfa.now in
    let w = c.in_ok-rows.ensures.rows in
    let alike = walk_alike d c.in_ok-found.found.items w.0 c.in_ok-rows.rows c.in_ok-rows.ensures.well_formed c.in_ok-found.ensures.classes w.1.0 w.1.1 in
    IfOk-weaker c.new.result _ _ (λ least same. subst (λ (e : List Row). AnswerAlike d e) (sym same) alike) c.new.ensures

pub returns-clause-smallest : goal.returns-clause-smallest
returns-clause-smallest c =
    let w = c.in_ok-rows.ensures.rows in
    let smallest = walk_smallest c.args.dfa.now c.in_ok-found.found.items w.0 c.in_ok-rows.rows c.in_ok-rows.ensures.well_formed c.in_ok-found.ensures.classes w.1.0 w.1.1 in
    IfOk-weaker c.new.result _ _ (λ least same. subst (λ (e : List Row). IsSmallest e) (sym same) smallest) c.new.ensures

pub returns-clause-canonical : goal.returns-clause-canonical
returns-clause-canonical c =
    let w = c.in_ok-rows.ensures.rows in
    let canonical = walk_canonical c.args.dfa.now c.in_ok-found.found.items w.0 c.in_ok-rows.rows c.in_ok-rows.ensures.well_formed c.in_ok-found.ensures.classes w.1.0 w.1.1 in
    IfOk-weaker c.new.result _ _ (λ least same. subst (λ (e : List Row). IsCanonical e) (sym same) canonical) c.new.ensures

pub returns-clause-recognizes : goal.returns-clause-recognizes
returns-clause-recognizes c =
    let d = c.args.dfa.now in
    let e = c.in_ok-rows.rows in
    let w = c.in_ok-rows.ensures.rows in
    let well = walk_well d c.in_ok-found.found.items w.0 e c.in_ok-rows.ensures.well_formed c.in_ok-found.ensures.classes w.1.0 w.1.1 in
    let alike = walk_alike d c.in_ok-found.found.items w.0 e c.in_ok-rows.ensures.well_formed c.in_ok-found.ensures.classes w.1.0 w.1.1 in
    let rejects = walk_rejects d c.in_ok-found.found.items w.0 e c.in_ok-rows.ensures.well_formed c.in_ok-found.ensures.classes w.1.0 w.1.1 in
    IfOk-weaker c.new.result _ _ (λ least same ts ps h. rw same (alike_recognizes d e well alike rejects ts ps h)) c.new.ensures

pub returns-clause-recognizes_all : goal.returns-clause-recognizes_all
returns-clause-recognizes_all c =
    let d = c.args.dfa.now in
    let e = c.in_ok-rows.rows in
    let w = c.in_ok-rows.ensures.rows in
    let well = walk_well d c.in_ok-found.found.items w.0 e c.in_ok-rows.ensures.well_formed c.in_ok-found.ensures.classes w.1.0 w.1.1 in
    let alike = walk_alike d c.in_ok-found.found.items w.0 e c.in_ok-rows.ensures.well_formed c.in_ok-found.ensures.classes w.1.0 w.1.1 in
    let rejects = walk_rejects d c.in_ok-found.found.items w.0 e c.in_ok-rows.ensures.well_formed c.in_ok-found.ensures.classes w.1.0 w.1.1 in
    IfOk-weaker c.new.result _ _ (λ least same ts ps h. rw same (alike_recognizes_all d e well alike rejects ts ps h)) c.new.ensures
