use denote.Param.Send.{sendable}
use Rattle.bajofeki_c.proofs.Threads.{document_send}
use Rattle.bajofeki_c.proofs.documents_may_go_to_a_thread.Goals as goal

pub may_go_to_a_thread-requires-send-T : goal.may_go_to_a_thread-requires-send-T
may_go_to_a_thread-requires-send-T c κs = search (document_send, sendable)
