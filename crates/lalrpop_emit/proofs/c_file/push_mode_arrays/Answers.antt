use Rattle.std.proofs.Common.{◌++◌, ◌∙◌, List, ℕ, string_bytes, ap}
use Rattle.std.specs.Prelude.{codes}
use Rattle.lalrpop_emit.specs.CSource.{mode_arrays, mode_array}
use Rattle.lalrpop_emit.proofs.Appended.{grown}
use Rattle.lalrpop_emit.proofs.c_file.push_mode_arrays.Goals as goal

pub returns : goal.returns
unfolding mode_arrays
returns c =
    let p = c.args.prefix.now in
    let k = c.args.mode in
    let blocks = c.in_ok-push_mode_array.ensures ∙ ap (λ (ns : List ℕ). string_bytes c.args.source.now ++ mode_array p (codes "uint8_t $_blocks_") k ns) c.deref.ensures.value in
    let pages = c.in_ok-push_mode_array-2.ensures ∙ ap (λ (ns : List ℕ). string_bytes c.push_mode_array.new.source ++ mode_array p (codes "uint16_t $_pages_") k ns) c.deref-2.ensures.value in
    grown (string_bytes c.args.source.now) _ _ _ _ blocks pages
