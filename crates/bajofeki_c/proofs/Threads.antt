-- What a document and a stream are made of may go to another thread. The search for a proof of the whole at once passes its limit.
use denote.Ref.{NamedLft}
use denote.Param.Send.{IsSend, IsSync, sendable}
use Rattle.std.proofs.Crossing.{crosses}
use Rattle.std.proofs.MapsCrossing as maps
use Rattle.lalrpop_hir.specs.contracts.hir.Hir as Hir
use Rattle.lalrpop_hir.proofs.hir.Capture.TheLaws.TheKnot as knot
use Rattle.lalrpop_hir.proofs.hir.Literal.TheSendSync as literal
use Rattle.lalrpop_hir.proofs.class.Class.TheSendSync as class
use Rattle.lalrpop_hir.proofs.look.Look.TheSendSync as look
use Rattle.lalrpop_dfa.proofs.Dfa.TheSendSync as dfa
use Rattle.lalrpop_dense.specs.contracts.dense.DenseDfa as DenseDfa
use Rattle.lalrpop_dense.proofs.dense.DenseDfa.TheSendSync as dense
use Rattle.lalrpop_dense.specs.contracts.ends.TokenEnds as TokenEnds
use Rattle.lalrpop_lexer.specs.contracts.lexer.Lexer as Lexer
use Rattle.lalrpop_rules.specs.contracts.known_rule.KnownRule as KnownRule
use Rattle.lalrpop_rules.specs.contracts.rule_lexer.RuleLexer as RuleLexer
use Rattle.bajofeki.specs.contracts.block.Block as Block
use Rattle.bajofeki.specs.contracts.stream.Stream as CutStream
use Rattle.bajofeki.specs.contracts.cutter.Cutter as Cutter
use Rattle.bajofeki.specs.contracts.document.Document as EditedText
use Rattle.bajofeki.specs.contracts.found_ahead.FoundAhead as FoundAhead
use Rattle.bajofeki.specs.contracts.held_run.HeldRun as HeldRun
use Rattle.bajofeki.specs.contracts.memo.Memo as Memo
use Rattle.bajofeki.specs.contracts.walker.Walker as Walker
use Rattle.bajofeki_c.specs.contracts.document.Document as Document
use Rattle.bajofeki_c.specs.contracts.stream.Stream as Stream

-- ---- the lexer that they see

hir_sync : IsSync Hir.the_row
hir_sync = search (knot.crosses, class.the_sync, literal.the_sync, look.the_sync, crosses, sendable) depth 20

hir_field_sync : IsSync Hir.the_field.row
hir_field_sync = search (hir_sync, sendable)

dense_field_sync : IsSync DenseDfa.the_field.row
dense_field_sync = search (dense.the_sync, sendable)

lexer_sync : IsSync Lexer.the_field.row
lexer_sync = search (dense_field_sync, hir_field_sync, crosses, sendable) depth 20

known_sync : IsSync KnownRule.the_field.row
known_sync = search (crosses, sendable) depth 20

rules_sync : IsSync RuleLexer.the_field.row
rules_sync = search (lexer_sync, hir_field_sync, known_sync, crosses, sendable) depth 20

-- ---- a document

block_send : IsSend Block.the_field.row
block_send = search (crosses, sendable) depth 20

text_send : (κ : NamedLft) → IsSend (EditedText.the_field κ).row
text_send κ = search (rules_sync, block_send, crosses, sendable) depth 20

pub document_send : (κ : NamedLft) → IsSend (Document.the_row κ)
document_send κ = search (text_send, crosses, sendable) depth 20

-- ---- a stream

memo_send : IsSend Memo.the_field.row
memo_send = search (maps.crosses, crosses, sendable) depth 20

walker_send : (κ : NamedLft) → IsSend (Walker.the_field κ).row
walker_send κ = search (dfa.the_sync, crosses, sendable) depth 20

cutter_send : (κ : NamedLft) → IsSend (Cutter.the_field κ).row
cutter_send κ = search (walker_send, memo_send, crosses, sendable) depth 20

held_send : (κ : NamedLft) → IsSend (HeldRun.the_field κ).row
held_send κ = search (walker_send, crosses, sendable) depth 20

ends_send : IsSend TokenEnds.the_field.row
ends_send = search (crosses, sendable) depth 20

ahead_send : IsSend FoundAhead.the_field.row
ahead_send = search (ends_send, crosses, sendable) depth 20

chunks_send : (κ : NamedLft) → IsSend (CutStream.the_field κ).row
chunks_send κ = search (rules_sync, cutter_send, held_send, ahead_send, crosses, sendable) depth 20

pub stream_send : (κ : NamedLft) → IsSend (Stream.the_row κ)
stream_send κ = search (chunks_send, crosses, sendable) depth 20
