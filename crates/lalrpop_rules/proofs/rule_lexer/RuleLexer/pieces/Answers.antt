use Rattle.std.proofs.Common.{◌≡◌, ◌+◌, ◌*◌, ◌∙◌, List, [], length, ap}
use Rattle.std.specs.Iterator.{Yields}
use Rattle.std.specs.Str.{chars}
use Rattle.lalrpop_rules.specs.Internal.CutToEnd.{steps_for}
use Rattle.lalrpop_rules.specs.declared.piece.Piece.{Piece}
use Rattle.lalrpop_rules.specs.Modes.{ArePiecesFrom}
use Rattle.bajofeki_rules.specs.Stack.{start}
use Rattle.lalrpop_rules.specs.ModeCut.{ModeCut, uncut, left_text, open_in_all, GivesModePiece}
use Rattle.lalrpop_rules.specs.Internal.Lexers.{IsWhole}
use Rattle.lalrpop_rules.specs.Internal.Cutting.{Cutting}
use Rattle.lalrpop_rules.proofs.ModeRuns.{parts-from-first, pieces-from-first}
use Rattle.lalrpop_rules.proofs.ModePieces.{joined-from}
use Rattle.lalrpop_rules.proofs.ModeLaws.{apart-from}
use Rattle.lalrpop_rules.proofs.ModesExist.{pieces-from-exist}
use Rattle.lalrpop_rules.proofs.LinearModes.{mode_cost}
use Rattle.lalrpop_rules.proofs.NextRuns.{count-from-first, next-from-first}
use Rattle.lalrpop_rules.proofs.rule_lexer.RuleLexer.pieces.Goals as goal

first : (c : goal.After-new-in-Ok-2) → c.new-in-Ok-2.result ≡ uncut c.args.self.now c.args.text.now (steps_for c.in-Ok.cutter.memo)
first c = c.new-in-Ok-2.ensures.start ∙ ap (λ (w : Cutting). uncut w.rules w.text (steps_for w.memo)) c.in-Ok.ensures.start

pieces : (c : goal.After-new-in-Ok-2) (xs : List Piece) (s : ModeCut) → Yields GivesModePiece c.new-in-Ok-2.result xs s → left_text s ≡ []
    → ArePiecesFrom c.args.self.now c.args.text.now 0 start xs s.stack
pieces c = pieces-from-first c.new-in-Ok-2.result c.args.self.now c.args.text.now (steps_for c.in-Ok.cutter.memo) (first c)

pub returns-in-Ok-clause-pieces : goal.returns-in-Ok-clause-pieces
returns-in-Ok-clause-pieces c = pieces c

pub returns-in-Ok-clause-whole : goal.returns-in-Ok-clause-whole
returns-in-Ok-clause-whole c xs s y end = joined-from c.args.self.now c.args.text.now 0 start xs s.stack (pieces c xs s y end)

pub returns-in-Ok-clause-apart : goal.returns-in-Ok-clause-apart
returns-in-Ok-clause-apart c xs s y end = apart-from c.args.self.now c.args.text.now 0 start xs s.stack (pieces c xs s y end)

pub returns-in-Ok-clause-next : goal.returns-in-Ok-clause-next
returns-in-Ok-clause-next c = next-from-first c.new-in-Ok-2.result c.args.self.now c.args.text.now (steps_for c.in-Ok.cutter.memo) (first c)

pub returns-in-Ok-clause-count : goal.returns-in-Ok-clause-count
returns-in-Ok-clause-count c =
    count-from-first c.new-in-Ok-2.result c.args.self.now c.args.text.now (steps_for c.in-Ok.cutter.memo) (first c) c.utf8.text

pub returns-in-Ok-clause-cost : goal.returns-in-Ok-clause-cost
returns-in-Ok-clause-cost c =
    let text = c.args.text.now in
    let most = c.args.self.now.modes * (length (chars text) + length text) + open_in_all c.args.self.now * (length text + 64) in
    mode_cost c.new-in-Ok-2.result c.args.self.now text c.in-Ok.cutter.memo (length (chars text)) most (first c) c.in-Ok.ensures.unsought c.in-Ok.ensures.spare

pub returns-in-Ok-clause-parts : goal.returns-in-Ok-clause-parts
returns-in-Ok-clause-parts c = parts-from-first c.new-in-Ok-2.result c.args.self.now c.args.text.now (steps_for c.in-Ok.cutter.memo) (first c)

pub returns-in-Ok-clause-no_clash : goal.returns-in-Ok-clause-no_clash
returns-in-Ok-clause-no_clash c = let whole : IsWhole c.args.self.now c.self.inside.lexers.items = rw (← c.self.view_is) c.self.invariant in whole.clear

pub returns-in-Err-clause-no_clash : goal.returns-in-Err-clause-no_clash
returns-in-Err-clause-no_clash c = let whole : IsWhole c.args.self.now c.self.inside.lexers.items = rw (← c.self.view_is) c.self.invariant in whole.clear

pub returns-in-Ok-clause-exist : goal.returns-in-Ok-clause-exist
returns-in-Ok-clause-exist c =
    let whole : IsWhole c.args.self.now c.self.inside.lexers.items = rw (← c.self.view_is) c.self.invariant in
    pieces-from-exist c.args.self.now c.args.text.now whole.clear whole.within whole.some

pub returns-in-Err-clause-exist : goal.returns-in-Err-clause-exist
returns-in-Err-clause-exist c =
    let whole : IsWhole c.args.self.now c.self.inside.lexers.items = rw (← c.self.view_is) c.self.invariant in
    pieces-from-exist c.args.self.now c.args.text.now whole.clear whole.within whole.some
