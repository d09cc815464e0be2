use Rattle.std.proofs.Common.{◌≡◌, ℕ, ◌++◌, List, [], length, refl, sym, ap, subst, ◌∙◌, arith}
use Rattle.std.specs.Prelude.{string_bytes}
use Rattle.bajofeki_rules.specs.Stack.{Stack, start}
use Rattle.lalrpop_rules.specs.Modes.{ModeRules}
use Rattle.bajofeki.specs.Lexed.{IsChange, IsEarliest}
use Rattle.bajofeki.specs.declared.block.Block.{Block}
use Rattle.bajofeki.specs.declared.change.Change.{Change}
use Rattle.bajofeki.specs.Internal.Blocks.{AreBlocks, pieces_in}
use Rattle.bajofeki.specs.Internal.Kept.{KeptUpTo}
use Rattle.bajofeki.proofs.BlockLaws.{blocks_kept}
use Rattle.bajofeki.proofs.Changes.{is_change}
use Rattle.bajofeki.proofs.Earliest.{is_earliest}
use Rattle.bajofeki.proofs.Filling.{filled_change, filled_least, nothing}
use Rattle.bajofeki.proofs.document.first_text.Goals as goal

-- blocks without one are of no text
of_none : (r : ModeRules) (before : List ℕ) (bs : List Block) (t : Stack) → bs ≡ [] → AreBlocks r before 0 start bs (length before) t → KeptUpTo r before 0 start [] (length before) t
of_none r before bs t none are = subst (λ (xs : List Block). AreBlocks r before 0 start xs (length before) t) none are

pub returns-clause-change : goal.returns-clause-change
returns-clause-change c =
    let r = c.args.lexer.now in
    let before : List ℕ = string_bytes c.args.text.now in
    let text = c.args.new.now in
    let whole = c.in_ok-whole in
    let ls = pieces_in whole.whole.blocks.items in
    let are = of_none r before c.args.blocks.now.items c.requires.blocks.0 c.requires.none c.requires.blocks.1 in
    let none : length before ≡ 0 = omega (arith, are.0) in
    let too = blocks_kept r text 0 start whole.whole.blocks.items (length text) whole.ensures.blocks.0 whole.ensures.blocks.1 in
    let now : string_bytes c.push_str.new.self ≡ text = c.in_ok-push_str.ensures.bytes ∙ ap (λ (b : List ℕ). b ++ text) (nothing before none) in
    let change : Change = record { first = 0; removed = 0; inserted = whole.whole.count; start = 0; old_end = 0; new_end = length text } in
    subst (λ (p : List ℕ). IsChange (record { rules = r; text = before }) (record { rules = r; text = p }) change) (sym now)
    (is_change r before text [] ls change c.requires.blocks.0 whole.ensures.blocks.0 are too
    (filled_change r before text ls whole.ensures.blocks.0 none too whole.whole.count (length text) whole.ensures.count refl))

pub returns-clause-earliest : goal.returns-clause-earliest
returns-clause-earliest c =
    let r = c.args.lexer.now in
    let before : List ℕ = string_bytes c.args.text.now in
    let text = c.args.new.now in
    let from = c.args.range.now.start in
    let to = c.args.range.now.end in
    let whole = c.in_ok-whole in
    let ls = pieces_in whole.whole.blocks.items in
    let are = of_none r before c.args.blocks.now.items c.requires.blocks.0 c.requires.none c.requires.blocks.1 in
    let none : length before ≡ 0 = omega (arith, are.0) in
    let too = blocks_kept r text 0 start whole.whole.blocks.items (length text) whole.ensures.blocks.0 whole.ensures.blocks.1 in
    let now : string_bytes c.push_str.new.self ≡ text = c.in_ok-push_str.ensures.bytes ∙ ap (λ (b : List ℕ). b ++ text) (nothing before none) in
    let change : Change = record { first = 0; removed = 0; inserted = whole.whole.count; start = 0; old_end = 0; new_end = length text } in
    subst (λ (p : List ℕ). IsEarliest (record { rules = r; text = before }) (record { rules = r; text = p }) from to (length text) change) (sym now)
    (is_earliest r before text (record { from = from; to = to; size = length text }) [] ls change c.requires.blocks.0 whole.ensures.blocks.0 are too
    (filled_least r before text ls whole.ensures.blocks.0 none too whole.whole.count (length text) from to (length text) whole.ensures.count refl refl
    (omega (arith, c.requires.range.begins.0, none)) (omega (arith, c.requires.range.ends.0, none))))
