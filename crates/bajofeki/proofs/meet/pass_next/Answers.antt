use Rattle.std.proofs.Common.{◌≡◌, ℕ, ◌+◌, ◌^◌, ◌<◌, get_or, length, take, arith, sym, ap, ◌∙◌}
use Rattle.bajofeki.specs.declared.kept.Kept.{Kept}
use Rattle.std.proofs.lemmas.Option.{slice_get_within}
use Rattle.bajofeki.specs.Internal.Kept.{after_kept}
use Rattle.bajofeki_rules.specs.Stack.{start}
use Rattle.bajofeki.specs.Internal.Blocks.{pieces_in, sizes, after_pieces}
use Rattle.bajofeki.proofs.BlockLaws.{sizes_more, after_more, sizes_front}
use Rattle.bajofeki.proofs.Starting.{got}
use Rattle.bajofeki.proofs.meet.pass_next.Goals as goal

pub returns-in_ok-pass-in-Some-clause-old : goal.returns-in_ok-pass-in-Some-clause-old
returns-in_ok-pass-in-Some-clause-old c =
    let ks = pieces_in c.args.blocks.now in
    let i = c.args.old.now.spot.count in
    let k = c.in-Some.piece in
    let some = c.in-Some.ensures.some in
    let lt : i < length ks = slice_get_within ks i k some.1 in
    let is : get_or ks i k ≡ k = got ks i k k some.1 in
    let more = sizes_more ks i k lt in
    let fits : c.args.old.now.place.at + k.size < 2 ^ 64 =
    omega (arith, c.requires.old.at, more, ap (λ (x : Kept). x.size) is, sizes_front (i + 1) ks, c.requires.size) in
    let to : c.next_piece.new.spot.count ≡ i + 1 = some.0 in
    record {
      spot = c.in-Some.ensures.spot;
      at = omega (arith, c.in_ok-pass-in-Some.ensures.at fits, c.requires.old.at, more, ap (λ (x : Kept). x.size) is, ap (λ (n : ℕ). sizes (take n ks)) to);
      stack =
          c.in_ok-pass-in-Some.ensures.stack ∙ ap (λ (x : Kept). after_kept c.args.lexer.now x c.args.old.now.place.stack) (sym is)
          ∙ ap (after_kept c.args.lexer.now (get_or ks i k)) c.requires.old.stack ∙ sym (after_more c.args.lexer.now ks i k start lt)
          ∙ ap (λ (n : ℕ). after_pieces c.args.lexer.now (take n ks) start) (sym to);
    }

pub returns-in_ok-pass-in-Some-clause-some : goal.returns-in_ok-pass-in-Some-clause-some
returns-in_ok-pass-in-Some-clause-some c = λ _.
    (c.in-Some.ensures.some.0, slice_get_within (pieces_in c.args.blocks.now) c.args.old.now.spot.count c.in-Some.piece c.in-Some.ensures.some.1)
