use Rattle.std.proofs.Common.{◌≡◌, ◌≢◌, ◌<◌, ℕ, List, Some, length, refl, sym, ap, ◌∙◌, arith, get_or}
use Rattle.std.specs.Prelude.{Vec, slice_get}
use Rattle.std.specs.Global.{Global}
use Rattle.std.proofs.lemmas.Option.{slice_get-get_or}
use Rattle.lalrpop_hir.specs.Tree.{Tree}
use Rattle.lalrpop_verdicts.specs.Verdicts.{IsVerdict, IsWonBy, words_of}
use Rattle.lalrpop_verdicts.specs.declared.verdict.Verdict.{Verdict}
use Rattle.lalrpop_verdicts.specs.declared.verdict.Verdict.TheVariants.{Wins, Shadowed, Unmatched}
use Rattle.uses_lexer.proofs.ask_verdicts.can_go.Goals as goal

at : {X : Type 0} (xs : List X) (k : ℕ) (x : X) → k < length xs → x ≡ get_or xs k x → slice_get xs k ≡ Some x
at xs k x l e = slice_get-get_or xs k x l ∙ ap (λ y. Some y) (sym e)

-- a verdict of no win says that there is none
loses : (ts : List Tree) (ps : List ℕ) (i : ℕ) (v : Verdict) → IsVerdict ts ps i v → ((w : Vec ℕ Global) → v ≢ Wins w) → (w : List ℕ) → ¬ IsWonBy (words_of ts i) ts ps i w
loses ts ps i (Wins w) h others = absurd (others w refl)
loses ts ps i (Shadowed by) h others = h.0
loses ts ps i Unmatched h others = λ w won. h w won.0 won.1 won.2

pub returns-in-Shadowed : goal.returns-in-Shadowed
returns-in-Shadowed c =
    let l : c.args.index < length c.in_ok-found.found.items = omega (arith, c.requires.within, c.in_ok-found.ensures.same_length) in
    let there = at c.in_ok-found.found.items c.args.index c.index.result.now l c.index.ensures in
    record {
      goes = λ e ps recognizes. loses c.args.regexs.now ps c.args.index c.index.result.now
          (c.in_ok-found.ensures.each ps recognizes c.args.index c.index.result.now there) (λ w same. cc);
      err = tt;
    }

pub returns : goal.returns
returns c =
    let l : c.args.index < length c.in_ok-found.found.items = omega (arith, c.requires.within, c.in_ok-found.ensures.same_length) in
    let there = at c.in_ok-found.found.items c.args.index c.index.result.now l c.index.ensures in
    record {
      goes = λ e ps recognizes. loses c.args.regexs.now ps c.args.index c.index.result.now
          (c.in_ok-found.ensures.each ps recognizes c.args.index c.index.result.now there) (λ w same. cc);
      err = tt;
    }
