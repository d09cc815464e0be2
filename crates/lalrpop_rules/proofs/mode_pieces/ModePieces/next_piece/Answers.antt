use Rattle.std.proofs.Common.{◌+◌, List, length, refl, sym, subst}
use Rattle.std.specs.Prelude.{Some, None}
use Rattle.lalrpop_lexer.specs.Dfa.{Row}
use Rattle.lalrpop_lexer.specs.Rules.{IsBuiltFrom}
use Rattle.lalrpop_rules.specs.Internal.CutToEnd.{CutToEnd, GivesPiece, IsSoughtFromRest}
use Rattle.lalrpop_rules.specs.Internal.Finding.{memo_of, IsWaiting}
use Rattle.lalrpop_rules.specs.declared.piece.Piece.TheVariants.{Fault}
use Rattle.lalrpop_rules.specs.declared.mode_pieces.ModePieces.TheInside.{Inside}
use Rattle.lalrpop_rules.proofs.Finding.{paid_on}
use Rattle.lalrpop_rules.proofs.Waiting.{token_met, sought_rest, sought_behind_piece}
use Rattle.lalrpop_rules.proofs.mode_pieces.ModePieces.next_piece.Goals as goal

abbrev view : Inside → CutToEnd
view i = record { rules = i.lexer.now; skips = i.skips.now; text = i.text.now; at = i.at; memo = memo_of i.matches; steps = i.steps }

pub returns-in-Some : goal.returns-in-Some
returns-in-Some c =
    let i = c.self.inside in
    let found = c.in-Some.found in
    let taken = c.take_or_find.new in
    let front = c.in-Some.ensures.front i.text.now i.at c.self.invariant.1 in
    let token = token_met i.lexer.now.trees i.lexer.now.precedences i.text.now i.at found i.matches.automaton taken.matches c.self.invariant.0 c.in-Some.ensures.same front.0 in
    let piece = c.piece_of.ensures.piece i.lexer.now.trees i.lexer.now.precedences i.text.now i.at token in
    let later : CutToEnd = record (view i) { at = i.at + length found.1.now; memo = memo_of taken.matches; steps = taken.steps } in
    let gives : GivesPiece (view i) (Some c.piece_of.result) later = rw c.piece_of.ensures.slice (piece, refl, c.in-Some.ensures.paid) in
    let waiting : IsWaiting i.text.now (i.at + length found.1.now) None taken.matches = rw c.in-Some.ensures.taken at front.1 in
    let sought : IsSoughtFromRest later = sought_rest taken.matches i.text.now (i.at + length found.1.now) waiting in
    rw (← c.self.view_is) record { gives = gives; sought = sought_behind_piece c.piece_of.result later sought }

pub returns-in-None : goal.returns-in-None
returns-in-None c =
    let i = c.self.inside in
    let taken = c.take_or_find.new in
    let passed = c.pass_fault-kept in
    let paid = paid_on i.steps taken.steps passed.new.steps (memo_of i.matches) (memo_of taken.matches) (memo_of passed.new.matches) c.in-None.ensures.paid passed.ensures.paid in
    let built = subst (λ (d : List Row). IsBuiltFrom i.lexer.now.trees i.lexer.now.precedences d) (sym c.in-None.ensures.same) c.self.invariant.0 in
    let fault = passed.ensures.fault i.lexer.now.trees i.lexer.now.precedences built in
    let later : CutToEnd = record (view i) { at = i.at + length passed.result.0.now; memo = memo_of passed.new.matches; steps = passed.new.steps } in
    let gives : GivesPiece (view i) (Some (Fault i.at passed.result.0)) later = ((refl, fault), refl, paid) in
    rw (← c.self.view_is) record { gives = gives; sought = tt }
