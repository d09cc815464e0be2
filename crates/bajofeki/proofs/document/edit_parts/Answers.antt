use Rattle.std.proofs.Common.{◌≡◌, ℕ, ◌<◌, ◌^◌, List, length, ap, subst, ◌∙◌, arith}
use Rattle.std.specs.Prelude.{string_bytes}
use Rattle.std.specs.List.{slice_range, replace_range}
use Rattle.std.proofs.lemmas.Str.{IsUtf8-string_bytes}
use Rattle.bajofeki_rules.specs.Stack.{Stack, start}
use Rattle.lalrpop_rules.specs.Modes.{ModeRules}
use Rattle.bajofeki.specs.Lexed.{IsRange, IsChange, IsEarliest}
use Rattle.bajofeki.specs.Costs.{IsPaidFor}
use Rattle.bajofeki.specs.declared.block.Block.{Block}
use Rattle.bajofeki.specs.Internal.Blocks.{AreBlocks, pieces_in}
use Rattle.bajofeki.specs.Internal.BlockPlaces.{AreCounted}
use Rattle.bajofeki.specs.Internal.Changing.{IsOld, IsKeptChange}
use Rattle.bajofeki.proofs.BlockLaws.{blocks_kept}
use Rattle.bajofeki.proofs.Changes.{is_change}
use Rattle.bajofeki.proofs.Earliest.{is_earliest}
use Rattle.bajofeki.proofs.Reaching.{first_reaches}
use Rattle.bajofeki.proofs.Undoing.{is_edited, boundary_before, back_again}
use Rattle.bajofeki.proofs.document.edit_parts.Goals as goal

old_of : (r : ModeRules) (bs : List Block) (before text new : List ℕ) (from to : ℕ) (t : Stack) → IsRange before from to → text ≡ replace_range before from to new
    → length before < 2 ^ 63 → length text < 2 ^ 63 → AreBlocks r before 0 start bs (length before) t → AreCounted before bs → IsOld r bs text from to (length new) before t
old_of r bs before text new from to t range e fits fits_now are counted =
    record { edited = is_edited before text new from to range e; fits = fits; fits_now = fits_now; blocks = are; counted = counted }

pub cut_anew-requires : goal.cut_anew-requires
cut_anew-requires c =
    let before : List ℕ = string_bytes c.args.text.now in
    let from = c.args.range.now.start in
    let to = c.args.range.now.end in
    let e : c.deref-2.result.now ≡ replace_range before from to c.args.new.now =
    c.deref-2.ensures ∙ c.in_ok-replace_range.ensures.bytes ∙ ap (λ (p : List ℕ). replace_range p from to c.args.new.now) c.reserve.ensures.bytes in
    let fits : length before < 2 ^ 63 = omega (arith, ap length c.deref.ensures, c.deref.type_inv.1) in
    record { old = (before, (c.requires.blocks.0, old_of c.args.lexer.now c.args.blocks.now.items before c.deref-2.result.now c.args.new.now from to c.requires.blocks.0 c.requires.range e fits (omega (arith, c.deref-2.type_inv.1)) c.requires.blocks.1 c.requires.counted)) }

pub returns-in-Ok-clause-change : goal.returns-in-Ok-clause-change
returns-in-Ok-clause-change c =
    let before : List ℕ = string_bytes c.args.text.now in
    let text : List ℕ = c.deref-2.result.now in
    let r = c.args.lexer.now in
    let from = c.args.range.now.start in
    let to = c.args.range.now.end in
    let old_blocks = c.args.blocks.now.items in
    let new_blocks = c.cut_anew.new.blocks.items in
    let e : text ≡ replace_range before from to c.args.new.now =
    c.deref-2.ensures ∙ c.in_ok-replace_range.ensures.bytes ∙ ap (λ (p : List ℕ). replace_range p from to c.args.new.now) c.reserve.ensures.bytes in
    let fits : length before < 2 ^ 63 = omega (arith, ap length c.deref.ensures, c.deref.type_inv.1) in
    let old : IsOld r old_blocks text from to (length c.args.new.now) before c.requires.blocks.0 =
    old_of r old_blocks before text c.args.new.now from to c.requires.blocks.0 c.requires.range e fits (omega (arith, c.deref-2.type_inv.1)) c.requires.blocks.1 c.requires.counted in
    let change : IsKeptChange r before text (pieces_in old_blocks) (pieces_in new_blocks) c.in-Ok.change =
    c.in-Ok.ensures.change before c.requires.blocks.0 old in
    let are = blocks_kept r before 0 start old_blocks (length before) c.requires.blocks.0 c.requires.blocks.1 in
    let too = blocks_kept r text 0 start new_blocks (length text) c.in-Ok.ensures.blocks.0 c.in-Ok.ensures.blocks.1 in
    subst (λ (p : List ℕ). IsChange (record { rules = r; text = before }) (record { rules = r; text = p }) c.in-Ok.change) c.deref-2.ensures
    (is_change r before text (pieces_in old_blocks) (pieces_in new_blocks) c.in-Ok.change c.requires.blocks.0 c.in-Ok.ensures.blocks.0 are too change)

pub returns-in-Ok-clause-earliest : goal.returns-in-Ok-clause-earliest
returns-in-Ok-clause-earliest c =
    let before : List ℕ = string_bytes c.args.text.now in
    let text : List ℕ = c.deref-2.result.now in
    let r = c.args.lexer.now in
    let from = c.args.range.now.start in
    let to = c.args.range.now.end in
    let size = length c.args.new.now in
    let old_blocks = c.args.blocks.now.items in
    let new_blocks = c.cut_anew.new.blocks.items in
    let are = blocks_kept r before 0 start old_blocks (length before) c.requires.blocks.0 c.requires.blocks.1 in
    let too = blocks_kept r text 0 start new_blocks (length text) c.in-Ok.ensures.blocks.0 c.in-Ok.ensures.blocks.1 in
    subst (λ (p : List ℕ). IsEarliest (record { rules = r; text = before }) (record { rules = r; text = p }) from to size c.in-Ok.change) c.deref-2.ensures
    (is_earliest r before text (record { from = from; to = to; size = size }) (pieces_in old_blocks) (pieces_in new_blocks) c.in-Ok.change c.requires.blocks.0 c.in-Ok.ensures.blocks.0
    are too c.in-Ok.ensures.least)

pub returns-in-Ok-clause-first : goal.returns-in-Ok-clause-first
returns-in-Ok-clause-first c =
    let before : List ℕ = string_bytes c.args.text.now in
    let text : List ℕ = c.deref-2.result.now in
    let r = c.args.lexer.now in
    let from = c.args.range.now.start in
    let to = c.args.range.now.end in
    let size = length c.args.new.now in
    let old_blocks = c.args.blocks.now.items in
    let new_blocks = c.cut_anew.new.blocks.items in
    let e : text ≡ replace_range before from to c.args.new.now =
    c.deref-2.ensures ∙ c.in_ok-replace_range.ensures.bytes ∙ ap (λ (p : List ℕ). replace_range p from to c.args.new.now) c.reserve.ensures.bytes in
    let fits : length before < 2 ^ 63 = omega (arith, ap length c.deref.ensures, c.deref.type_inv.1) in
    let old : IsOld r old_blocks text from to (length c.args.new.now) before c.requires.blocks.0 =
    old_of r old_blocks before text c.args.new.now from to c.requires.blocks.0 c.requires.range e fits (omega (arith, c.deref-2.type_inv.1)) c.requires.blocks.1 c.requires.counted in
    let change : IsKeptChange r before text (pieces_in old_blocks) (pieces_in new_blocks) c.in-Ok.change =
    c.in-Ok.ensures.change before c.requires.blocks.0 old in
    let are = blocks_kept r before 0 start old_blocks (length before) c.requires.blocks.0 c.requires.blocks.1 in
    first_reaches r before text (record { from = from; to = to; size = size }) (pieces_in old_blocks) (pieces_in new_blocks) c.in-Ok.change c.requires.blocks.0
    (IsUtf8-string_bytes c.args.text.now) c.requires.range.begins are change c.in-Ok.ensures.least

pub returns-in-Ok-clause-cost : goal.returns-in-Ok-clause-cost
returns-in-Ok-clause-cost c =
    subst (λ (p : List ℕ). IsPaidFor (record { rules = c.args.lexer.now; text = p }) c.in-Ok.change c.args.steps.now c.cut_anew.new.steps) c.deref-2.ensures
    c.in-Ok.ensures.cost

pub put_back-requires-clause-begins : goal.put_back-requires-clause-begins
put_back-requires-clause-begins c =
    let before : List ℕ = string_bytes c.args.text.now in
    let from = c.args.range.now.start in
    let to = c.args.range.now.end in
    let e : string_bytes c.replace_range.new.self ≡ replace_range before from to c.args.new.now =
    c.in_ok-replace_range.ensures.bytes ∙ ap (λ (p : List ℕ). replace_range p from to c.args.new.now) c.reserve.ensures.bytes in
    boundary_before before (string_bytes c.replace_range.new.self) c.args.new.now from to c.requires.range (IsUtf8-string_bytes c.args.text.now) c.utf8.new e

pub returns-clause-same_text : goal.returns-clause-same_text
returns-clause-same_text c =
    let before : List ℕ = string_bytes c.args.text.now in
    let from = c.args.range.now.start in
    let to = c.args.range.now.end in
    let e : string_bytes c.replace_range.new.self ≡ replace_range before from to c.args.new.now =
    c.in_ok-replace_range.ensures.bytes ∙ ap (λ (p : List ℕ). replace_range p from to c.args.new.now) c.reserve.ensures.bytes in
    let gone : c.deref-in-Err.result.now ≡ slice_range before from to =
    c.deref-in-Err.ensures ∙ c.in_ok-gone.ensures.ok ∙ c.range.ensures.value ∙ ap (λ (p : List ℕ). slice_range p from to) c.deref.ensures in
    c.put_back.ensures.bytes ∙ back_again before (string_bytes c.replace_range.new.self) c.args.new.now c.deref-in-Err.result.now from to c.requires.range e gone
