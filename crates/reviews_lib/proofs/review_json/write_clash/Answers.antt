use Rattle.std.proofs.Common.{◌≡◌, ◌++◌, subst}
use Rattle.std.specs.Prelude.{OnOk, option_map}
use Rattle.lalrpop_hir.specs.Clashes.{Entry}
use Rattle.reviews_lib.specs.ReviewJson.{clash_members}
use Rattle.reviews_lib.proofs.ReviewMembers.{six_steps}
use Rattle.reviews_lib.proofs.review_json.write_clash.Goals as goal

pub returns-clause-tokens : goal.returns-clause-tokens
returns-clause-tokens c =
    subst
    (λ (v : Entry).
    OnOk c.write_word.result
    (c.write_word.new.writer.tokens ≡ c.args.writer.now.tokens ++ clash_members c.args.reported.now (option_map (λ m. m.now) c.args.mode) v))
    c.clash.view_is
    (six_steps c.write_word.result _ _ _ _ _ _ _ _ _ _ _ _ _ c.in_ok-write_place.ensures.tokens c.in_ok-write_string.ensures.tokens c.in_ok-write_rule.ensures.tokens
    c.in_ok-write_mode.ensures.tokens (rw c.name.ensures at c.in_ok-write_string-2.ensures.tokens) (rw c.deref.ensures.value at c.write_word.ensures.tokens))
